-- Worked examples: rows put in order; over bytes, an index of two rows, bytes that are an index and bytes that are none, and look-ups.
use mathlib.Core.Path.{◌≡◌, refl}
use mathlib.Core.Bool.{true, false}
use mathlib.Core.List.{List, [], ◌∷◌, ◌++◌, map}
use Prim.Native.Nat.{ℕ}
use lib.ListN.{take, drop, replicate}
use Rattle.wire.specs.Little as little
use Rattle.text.specs.Decimal as decimal
use Rattle.text.specs.Text as texts
use Rattle.index.specs.Finding.{Printed, Refused}
use Rattle.index.specs.Row.{Row, insert, ordered, is_rising, of_call}
use Rattle.index.specs.Index.{rows_bytes, index_bytes}
use Rattle.index.specs.IsIndex.{rows_in, is_shaped, is_index}
use Rattle.index.specs.Text.{line_text, lines_text, stopped_text, text_of}
use Rattle.index.specs.LookUp as look

abbrev row : (correlation place answer : ℕ) → Row
row c p a = record { correlation = c; place = p; answer = a }

-- rows in the record's order, of four calls, one with correlation 2^63, and the same in the index's
pub in_order : ordered [] (row 9 0 0 ∷ row 7 29 0 ∷ row 9223372036854775808 58 0 ∷ row 9 87 11 ∷ row 300 116 0 ∷ row 7 145 26 ∷ [])
    ≡ row 7 29 0 ∷ row 7 145 26 ∷ row 9 0 0 ∷ row 9 87 11 ∷ row 300 116 0 ∷ row 9223372036854775808 58 0 ∷ []
unfolding insert ordered
in_order = refl

-- two rows and the trailer: first row 0, two rows, a record of 31 bytes, layout number 1
abbrev two : List ℕ
two =
    9 ∷ 0 ∷ 0 ∷ 0 ∷ 0 ∷ 0 ∷ 0 ∷ 0 ∷ 0 ∷ 0 ∷ 0 ∷ 0 ∷ 0 ∷ 0 ∷ 0 ∷ 0 ∷
    9 ∷ 0 ∷ 0 ∷ 0 ∷ 0 ∷ 0 ∷ 0 ∷ 0 ∷ 0x2C ∷ 0x01 ∷ 0 ∷ 0 ∷ 11 ∷ 0 ∷ 0 ∷ 0 ∷
    0 ∷ 0 ∷ 0 ∷ 0 ∷ 2 ∷ 0 ∷ 0 ∷ 0 ∷ 31 ∷ 0 ∷ 0 ∷ 0 ∷ 1 ∷ 0 ∷ 0 ∷ 0 ∷ []

pub two-rows : index_bytes (row 9 0 0 ∷ row 9 300 11 ∷ []) 31 ≡ two
unfolding little.bytes rows_bytes index_bytes
two-rows = refl

-- the trailer with another place, count or layout number
abbrev with : (place count layout : ℕ) → List ℕ
with place count layout = take 32 two ++ (place ∷ 0 ∷ 0 ∷ 0 ∷ count ∷ 0 ∷ 0 ∷ 0 ∷ 31 ∷ 0 ∷ 0 ∷ 0 ∷ layout ∷ 0 ∷ 0 ∷ 0 ∷ [])

-- the same rows the other way round, and one row twice
abbrev turned : List ℕ
turned = take 16 (drop 16 two) ++ (take 16 two ++ drop 32 two)

abbrev twice : List ℕ
twice = take 16 two ++ (take 16 two ++ drop 32 two)

-- a row of small numbers, and a trailer of so many rows
abbrev line : (correlation place answer : ℕ) → List ℕ
line c p a = c ∷ 0 ∷ 0 ∷ 0 ∷ 0 ∷ 0 ∷ 0 ∷ 0 ∷ p ∷ 0 ∷ 0 ∷ 0 ∷ a ∷ 0 ∷ 0 ∷ 0 ∷ []

abbrev end : (count : ℕ) → List ℕ
end count = 0 ∷ 0 ∷ 0 ∷ 0 ∷ count ∷ 0 ∷ 0 ∷ 0 ∷ 31 ∷ 0 ∷ 0 ∷ 0 ∷ 1 ∷ 0 ∷ 0 ∷ 0 ∷ []

-- two calls whose entries came by turns: in order, and in the record's order
abbrev calls : List ℕ
calls = line 7 29 0 ++ (line 7 87 26 ++ (line 9 0 0 ++ (line 9 58 11 ++ end 4)))

abbrev mixed : List ℕ
mixed = line 9 0 0 ++ (line 7 29 0 ++ (line 9 58 11 ++ (line 7 87 26 ++ end 4)))

-- a row with correlation 2^63; with it after a lower one, in order, and before
abbrev top : List ℕ
top = 0 ∷ 0 ∷ 0 ∷ 0 ∷ 0 ∷ 0 ∷ 0 ∷ 0x80 ∷ 0 ∷ 0 ∷ 0 ∷ 0 ∷ 0 ∷ 0 ∷ 0 ∷ 0 ∷ []

abbrev high : List ℕ
high = line 7 29 0 ++ (top ++ end 2)

abbrev sunk : List ℕ
sunk = top ++ (line 7 29 0 ++ end 2)

-- an index; an index without rows; of one row; of two calls; of a call with correlation 2^63 last, and first; two calls by turns; nothing; a byte too few;
-- a byte too many; no trailer; another place, count, layout number; rows out of order, and alike
pub indices : map is_index
    (two
    ∷ end 0
    ∷ (line 7 29 0 ++ end 1)
    ∷ calls
    ∷ high
    ∷ sunk
    ∷ mixed
    ∷ []
    ∷ take 47 two
    ∷ (0 ∷ two)
    ∷ take 32 two
    ∷ with 16 2 1
    ∷ with 0 1 1
    ∷ with 0 3 1
    ∷ with 0 2 2
    ∷ turned
    ∷ twice
    ∷ [])
    ≡ true ∷ true ∷ true ∷ true ∷ true ∷ false ∷ false ∷ false ∷ false ∷ false ∷ false ∷ false ∷ false ∷ false ∷ false ∷ false ∷ false ∷ []
unfolding little.little rows_in is_shaped is_rising is_index
indices = refl

-- place answer; 0 0; 300 11; stopped 0
abbrev found : List ℕ
found =
    112 ∷ 108 ∷ 97 ∷ 99 ∷ 101 ∷ 32 ∷ 97 ∷ 110 ∷ 115 ∷ 119 ∷ 101 ∷ 114 ∷ 10 ∷
    48 ∷ 32 ∷ 48 ∷ 10 ∷
    51 ∷ 48 ∷ 48 ∷ 32 ∷ 49 ∷ 49 ∷ 10 ∷
    115 ∷ 116 ∷ 111 ∷ 112 ∷ 112 ∷ 101 ∷ 100 ∷ 32 ∷ 48 ∷ 10 ∷ []

-- place answer; 29 0; 87 26; stopped 0
abbrev seven : List ℕ
seven =
    112 ∷ 108 ∷ 97 ∷ 99 ∷ 101 ∷ 32 ∷ 97 ∷ 110 ∷ 115 ∷ 119 ∷ 101 ∷ 114 ∷ 10 ∷
    50 ∷ 57 ∷ 32 ∷ 48 ∷ 10 ∷
    56 ∷ 55 ∷ 32 ∷ 50 ∷ 54 ∷ 10 ∷
    115 ∷ 116 ∷ 111 ∷ 112 ∷ 112 ∷ 101 ∷ 100 ∷ 32 ∷ 48 ∷ 10 ∷ []

-- place answer; 0 0; stopped 0
abbrev first : List ℕ
first = take 17 found ++ drop 24 found

-- place answer; stopped N, in two digits
abbrev refused : (tens ones : ℕ) → List ℕ
refused tens ones =
    112 ∷ 108 ∷ 97 ∷ 99 ∷ 101 ∷ 32 ∷ 97 ∷ 110 ∷ 115 ∷ 119 ∷ 101 ∷ 114 ∷ 10 ∷ 115 ∷ 116 ∷ 111 ∷ 112 ∷ 112 ∷ 101 ∷ 100 ∷ 32 ∷ tens ∷ ones ∷ 10 ∷ []

-- place answer; stopped 0
abbrev nothing : List ℕ
nothing = 112 ∷ 108 ∷ 97 ∷ 99 ∷ 101 ∷ 32 ∷ 97 ∷ 110 ∷ 115 ∷ 119 ∷ 101 ∷ 114 ∷ 10 ∷ 115 ∷ 116 ∷ 111 ∷ 112 ∷ 112 ∷ 101 ∷ 100 ∷ 32 ∷ 48 ∷ 10 ∷ []

abbrev fill : ℕ → List ℕ
fill n = replicate n 165

-- call 9, with a byte to spare and with one too few; call 8, which has no rows; one of two calls; call 2^63; an index without rows; a record of another
-- length; bytes that are no index, for a record of another length too; the refusal where it does not fit
pub look-ups : look.look_up two (fill 31) 9 (fill 35)
    ∷ look.look_up two (fill 31) 9 (fill 33)
    ∷ look.look_up two (fill 31) 8 (fill 23)
    ∷ look.look_up calls (fill 31) 7 (fill 34)
    ∷ look.look_up high (fill 31) 9223372036854775808 (fill 27)
    ∷ look.look_up (end 0) (fill 31) 7 (fill 23)
    ∷ look.look_up two (fill 30) 9 (fill 24)
    ∷ look.look_up turned (fill 30) 9 (fill 24)
    ∷ look.look_up turned (fill 31) 9 (fill 23)
    ∷ []
    ≡ look.outcome (Printed 0 34) (found ++ (165 ∷ []))
    ∷ look.outcome (Refused 52) (fill 33)
    ∷ look.outcome (Printed 0 23) nothing
    ∷ look.outcome (Printed 0 34) seven
    ∷ look.outcome (Printed 0 27) first
    ∷ look.outcome (Printed 0 23) nothing
    ∷ look.outcome (Printed 66 24) (refused 54 54)
    ∷ look.outcome (Printed 65 24) (refused 54 53)
    ∷ look.outcome (Refused 52) (fill 23)
    ∷ []
unfolding little.little decimal.digits decimal.decimal texts.field rows_in is_shaped is_rising is_index of_call line_text lines_text stopped_text text_of look.stopped_number look.looked look.look_text look.printed_text look.look_up
look-ups = refl
