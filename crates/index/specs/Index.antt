-- An index (docs/FORMAT.md) as bytes: 16-byte rows, and a trailer of 16 bytes that points back to the first row, with row count, the record's length and
-- layout number 1, all little-endian; and what making one answers and leaves in the output.
use Rattle.std.specs.Prelude.{cond, List, [], ◌∷◌, ◌++◌, ℕ, ltb, length, drop}
use Rattle.wire.specs.Little.{bytes}
use Rattle.schema.specs.Checked.{Checked}
use Rattle.schema.specs.Checked.{Good, Refused as Faulty}
use Rattle.schema.specs.Check.{checked}
use Rattle.replay.specs.Run.{run_of}
use Rattle.index.specs.Indexing.{Indexing}
use Rattle.index.specs.Indexing.{Made, Refused}
use Rattle.index.specs.Row.{Row, rows_of, ordered}

-- The correlation in 8 bytes, place and answer in 4 each.
abbrev pub row_bytes : Row → List ℕ
row_bytes r = bytes 8 r.correlation ++ (bytes 4 r.place ++ bytes 4 r.answer)

unfoldable pub rows_bytes : List Row → List ℕ
rows_bytes [] = []
rows_bytes (r ∷ rows) = row_bytes r ++ rows_bytes rows

-- The place of the first row, the row count, the record's length, the layout number.
abbrev pub trailer : (count size : ℕ) → List ℕ
trailer count size = (bytes 4 0 ++ bytes 4 count) ++ (bytes 4 size ++ bytes 4 1)

-- The index of a record of so many bytes.
unfoldable pub index_bytes : List Row → (size : ℕ) → List ℕ
index_bytes rows size = rows_bytes rows ++ trailer (length rows) size

-- ---- making it

-- The rows of a record's index: those of the entries of its run, in order.
unfoldable pub rows_for : (schema entries : List ℕ) → List Row
rows_for schema entries = ordered [] (rows_of (run_of schema entries).entries)

-- An answer, with the output as it is left.
pub record Outcome : Type 0 where
  pub answer : Indexing
  pub out : List ℕ

abbrev pub outcome : Indexing → List ℕ → Outcome
outcome r out = record { answer = r; out = out }

-- The bytes of an index at the start of the output, or 52 where they do not fit.
unfoldable pub index_into : (text out : List ℕ) → Outcome
index_into text out = cond (ltb (length out) (length text)) (outcome (Refused 52 0) out) (outcome (Made (length text)) (text ++ drop (length text) out))

-- The schema's faults, then 45, then 52.
abbrev pub by_table : Checked → (schema entries out : List ℕ) → Outcome
by_table Good schema entries out = cond (ltb 65536 (length entries)) (outcome (Refused 45 0) out) (index_into (index_bytes (rows_for schema entries) (length entries)) out)
by_table (Faulty number place) schema entries out = outcome (Refused number place) out

unfoldable pub make_index : (schema entries out : List ℕ) → Outcome
make_index schema entries out = by_table (checked schema) schema entries out

-- ---- what the answers stand for

-- Number, place and length of an answer; the length is 0 beside a refusal, the place 0 beside an index.
abbrev pub index_number : Indexing → ℕ
index_number (Made size) = 0
index_number (Refused number place) = number

abbrev pub index_place : Indexing → ℕ
index_place (Made size) = 0
index_place (Refused number place) = place

abbrev pub index_length : Indexing → ℕ
index_length (Made size) = size
index_length (Refused number place) = 0
