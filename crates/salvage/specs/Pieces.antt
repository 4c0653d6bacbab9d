-- The pieces of a torn record, in order: entries that are kept, and between them the spans (docs/FORMAT.md, "Salvage") that are left out. From the first place where no entry
-- starts it goes forward to the next place where one does.
use Rattle.std.specs.Prelude.{ℕ, zero, suc, ◌+◌, Bool, true, false, cond, ◌&&◌, ◌||◌, List, [], ◌∷◌, ◌++◌, eqb, length, get_or, take, drop}
use Rattle.record.specs.Entry.{entry_length}

-- An entry that is kept, or a span that is left out, with its bytes.
pub data Piece : Type 0 where
  keep : (entry : List ℕ) → Piece
  skip : (span : List ℕ) → Piece

abbrev pub bytes_in : Piece → List ℕ
bytes_in (keep e) = e
bytes_in (skip g) = g

abbrev pub is_kept : Piece → Bool
is_kept (keep e) = true
is_kept (skip g) = false

-- How far it is forward to the next place where an entry starts, or to the end.
unfoldable pub span_length : List ℕ → ℕ
span_length [] = 0
span_length (b ∷ s) = cond (eqb (entry_length (b ∷ s)) 0) (suc (span_length s)) 0

-- The entry that starts here, or the span up to the next one.
unfoldable pub first_piece : List ℕ → Piece
first_piece s = cond (eqb (entry_length s) 0) (skip (take (span_length s) s)) (keep (take (entry_length s) s))

-- One piece after the other. A piece takes a byte at least, so that a record has at most as many pieces as bytes.
unfoldable pub pieces : (most : ℕ) → List ℕ → List Piece
pieces zero s = []
pieces (suc k) [] = []
pieces (suc k) (b ∷ s) = let p = first_piece (b ∷ s) in p ∷ pieces k (drop (length (bytes_in p)) (b ∷ s))

unfoldable pub pieces_of : List ℕ → List Piece
pieces_of s = pieces (length s) s

-- The bytes of the pieces, one after the other.
unfoldable pub bytes_of : List Piece → List ℕ
bytes_of [] = []
bytes_of (p ∷ ps) = bytes_in p ++ bytes_of ps

-- ---- what is made of them

-- The kept entries.
unfoldable pub entries_in : List Piece → List (List ℕ)
entries_in [] = []
entries_in (keep e ∷ ps) = e ∷ entries_in ps
entries_in (skip g ∷ ps) = entries_in ps

-- The copy: the kept entries one after the other.
unfoldable pub copy_of : List Piece → List ℕ
copy_of [] = []
copy_of (keep e ∷ ps) = e ++ copy_of ps
copy_of (skip g ∷ ps) = copy_of ps

-- The number of spans left out.
unfoldable pub span_count : List Piece → ℕ
span_count [] = 0
span_count (keep e ∷ ps) = span_count ps
span_count (skip g ∷ ps) = suc (span_count ps)

-- The list of the spans, place and length of each; the pieces start at the place `at` of the record.
unfoldable pub spans_of : (at : ℕ) → List Piece → List ℕ
spans_of at [] = []
spans_of at (keep e ∷ ps) = spans_of (at + length e) ps
spans_of at (skip g ∷ ps) = at ∷ length g ∷ spans_of (at + length g) ps

-- ---- for the code: where no entry can start

-- A frame's magic stands one byte after a place.
abbrev pub magic_after : (s : List ℕ) (at : ℕ) → Bool
magic_after s at = eqb (get_or s (at + 1) 0) 0xAF && eqb (get_or s (at + 2) 0) 0x01

-- A frame's magic stands so after one of the n places from a place on.
unfoldable pub magic_among : (s : List ℕ) (at n : ℕ) → Bool
magic_among s at zero = false
magic_among s at (suc n) = magic_among s at n || magic_after s (at + n)
