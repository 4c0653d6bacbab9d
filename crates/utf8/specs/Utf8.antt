-- UTF-8 by RFC 3629: the table of its section 4, what the table allows, and the test that goes through the bytes one by one.
use Rattle.std.specs.Prelude.{ℕ, Bool, true, false, ◌&&◌, cond, T, leb, get_or, take, drop}
use mathlib.Core.List.{List, [], ◌∷◌, ◌++◌, Memᴰ}
use Rattle.utf8.specs.declared.Range.{Range}
use Rattle.utf8.specs.declared.Row.{Row}

-- A range of bytes: the lowest and the highest.
abbrev pub range : ℕ → ℕ → Range
range low high = record { 0 = low; 1 = high }

-- A row: how many bytes a character has, and the range of each, the lead byte's first.
abbrev pub row : ℕ → Range → Range → Range → Range → Row
row n lead second third fourth = record { 0 = n; 1 = lead; 2 = second; 3 = third; 4 = fourth }

-- UTF8-tail = %x80-BF
abbrev pub tail : Range
tail = range 0x80 0xBF

-- The range that no byte is in.
abbrev pub empty : Range
empty = range 0x01 0x00

unfoldable pub rows : List Row
rows =
    -- UTF8-1 = %x00-7F
    row 1 (range 0x00 0x7F) empty empty empty
    -- UTF8-2 = %xC2-DF UTF8-tail
    ∷ row 2 (range 0xC2 0xDF) tail empty empty
    -- UTF8-3 = %xE0 %xA0-BF UTF8-tail /
    ∷ row 3 (range 0xE0 0xE0) (range 0xA0 0xBF) tail empty
    --          %xE1-EC 2( UTF8-tail ) /
    ∷ row 3 (range 0xE1 0xEC) tail tail empty
    --          %xED %x80-9F UTF8-tail /
    ∷ row 3 (range 0xED 0xED) (range 0x80 0x9F) tail empty
    --          %xEE-EF 2( UTF8-tail )
    ∷ row 3 (range 0xEE 0xEF) tail tail empty
    -- UTF8-4 = %xF0 %x90-BF 2( UTF8-tail ) /
    ∷ row 4 (range 0xF0 0xF0) (range 0x90 0xBF) tail tail
    --          %xF1-F3 3( UTF8-tail ) /
    ∷ row 4 (range 0xF1 0xF3) tail tail tail
    --          %xF4 %x80-8F 2( UTF8-tail )
    ∷ row 4 (range 0xF4 0xF4) (range 0x80 0x8F) tail tail
    ∷ []

-- ---- the definition: the bytes split into characters, each of a row of the table

abbrev pub In : Range → ℕ → Bool
In g b = leb g.0 b && leb b g.1

-- The ranges of a row's bytes.
abbrev pub ranges : Row → List Range
ranges r = take r.0 (r.1 ∷ r.2 ∷ r.3 ∷ r.4 ∷ [])

-- There are as many bytes as ranges, each in its own.
unfoldable pub matches : List Range → List ℕ → Bool
matches [] [] = true
matches [] (b ∷ c) = false
matches (g ∷ gs) [] = false
matches (g ∷ gs) (b ∷ c) = In g b && matches gs c

-- The bytes c are a character of the row r: a UTF8-char.
abbrev pub is_char : Row → List ℕ → Bool
is_char r c = matches (ranges r) c

-- The bytes s are the characters cs, one after the other: UTF8-octets = *( UTF8-char ).
pub data Split : List (List ℕ) → List ℕ → Type 0 where
  none : Split [] []
  char : (r : Row) (c : List ℕ) (cs : List (List ℕ)) (s : List ℕ) → Memᴰ r rows → T (is_char r c) → Split cs s → Split (c ∷ cs) (c ++ s)

abbrev pub Utf8 : List ℕ → Type 0
Utf8 s = (cs : List (List ℕ)) × Split cs s

-- ---- the test

-- The ranges of the bytes due after the lead byte b, by the first row that has it; where none has it, no byte will do.
unfoldable pub lead_of : ℕ → List Row → List Range
lead_of b [] = empty ∷ []
lead_of b (r ∷ rs) = cond (In r.1 b) (drop 1 (ranges r)) (lead_of b rs)

unfoldable pub next : ℕ → List Range
next b = lead_of b rows

-- Whether s is bytes in the ranges due, and then characters.
unfoldable pub run : List Range → List ℕ → Bool
run [] [] = true
run [] (b ∷ s) = run (next b) s
run (g ∷ gs) [] = false
run (g ∷ gs) (b ∷ s) = In g b && run gs s

-- Whether s is UTF-8.
abbrev pub utf8 : List ℕ → Bool
utf8 s = run [] s

-- The row at a place of the table; past its end, one of no bytes.
abbrev pub row_at : ℕ → Row
row_at k = let no = range 0 0 in get_or rows k (row 0 no no no no)

-- Whether s has only characters of the row UTF8-1.
unfoldable pub ascii : List ℕ → Bool
ascii [] = true
ascii (b ∷ s) = is_char (row_at 0) (b ∷ []) && ascii s

-- Whether s has only characters of the row UTF8-2.
unfoldable pub two_byte_chars : List ℕ → Bool
two_byte_chars [] = true
two_byte_chars (b ∷ []) = false
two_byte_chars (b ∷ c ∷ s) = is_char (row_at 1) (b ∷ c ∷ []) && two_byte_chars s
