-- Which bytes are an index: the test by which a look-up judges them, and apart from it a relation.
use Rattle.std.specs.Prelude.{◌≡◌, Bool, true, ◌&&◌, List, [], ◌∷◌, ℕ, zero, suc, ◌-◌, ◌/◌, ◌%◌, ◌^◌, ◌<◌, eqb, leb, length, take, drop}
use Rattle.wire.specs.Little.{little}
use Rattle.index.specs.Row.{Row, is_rising, Rising}
use Rattle.index.specs.Index.{index_bytes}

-- ---- the test

-- The row at the front of the bytes.
abbrev pub row_at : List ℕ → Row
row_at s = record { correlation = little (take 8 s); place = little (take 4 (drop 8 s)); answer = little (take 4 (drop 12 s)) }

-- The first n rows of the bytes.
unfoldable pub rows_in : (n : ℕ) → List ℕ → List Row
rows_in zero s = []
rows_in (suc n) s = row_at s ∷ rows_in n (drop 16 s)

-- How many rows stand before the trailer.
abbrev pub count_in : List ℕ → ℕ
count_in s = (length s - 16) / 16

-- The number at byte i of the trailer, which is the last 16 bytes.
abbrev pub trailer_cell : (i : ℕ) → List ℕ → ℕ
trailer_cell i s = little (take 4 (drop i (drop (length s - 16) s)))

-- Whole rows and a trailer, which points to place 0 and has the number of the rows and layout number 1.
unfoldable pub is_shaped : List ℕ → Bool
is_shaped s =
    leb 16 (length s) && (eqb (length s % 16) 0 && (eqb (trailer_cell 0 s) 0 && (eqb (trailer_cell 4 s) (count_in s) && eqb (trailer_cell 12 s) 1)))

-- The rows before the trailer rise strictly.
abbrev pub is_ordered : List ℕ → Bool
is_ordered s = is_rising (rows_in (count_in s) s)

unfoldable pub is_index : List ℕ → Bool
is_index s = is_shaped s && is_ordered s

-- The length of the record that it was made of.
abbrev pub size_in : List ℕ → ℕ
size_in s = trailer_cell 8 s

-- The bytes pass, and are read as these rows, for a record of so many bytes.
pub record Reads (s : List ℕ) (rows : List Row) (size : ℕ) : Type 0 where
  pub passes : is_index s ≡ true
  pub rows_are : rows_in (count_in s) s ≡ rows
  pub size_is : size_in s ≡ size

-- ---- the relation

-- Each number fits its bytes.
pub record RowFits (r : Row) : Type 0 where
  pub correlation : r.correlation < 2 ^ 64
  pub place : r.place < 2 ^ 32
  pub answer : r.answer < 2 ^ 32

pub data RowsFit : List Row → Type 0 where
  none_left : RowsFit []
  one-fits : {r : Row} {rows : List Row} → RowFits r → RowsFit rows → RowsFit (r ∷ rows)

-- The bytes are the index, for a record of so many bytes, of these rows, which rise strictly.
pub record IsIndex (s : List ℕ) (rows : List Row) (size : ℕ) : Type 0 where
  pub is : s ≡ index_bytes rows size
  pub rising : Rising rows
  pub fit : RowsFit rows
  pub count : length rows < 2 ^ 32
  pub small : size < 2 ^ 32
