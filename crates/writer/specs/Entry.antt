-- What the entries answer.
use Rattle.std.specs.Prelude.{◌≡◌, List, ◌++◌, cond, ℕ, ◌≤◌, leb, length, drop}
use Rattle.schema.specs.Checked.{Checked}
use Rattle.schema.specs.Checked.{Good, Refused as TableRefused}
use Rattle.schema.specs.File.{table_of}
use Rattle.schema.specs.Check.{checked}
use Rattle.value.specs.Sheet.{rows_of}
use Rattle.value.specs.Write as value
use Rattle.writer.specs.Writing.{Writing}
use Rattle.writer.specs.Writing.{Written, Refused}

-- An answer with the output as it is left.
pub data Outcome : Type 0 where
  outcome : Writing → (out : List ℕ) → Outcome

-- A refusal leaves the output as it was; what is written stands at its front, and past it nothing changes.
abbrev pub outcome_of : List ℕ → value.Writing → Outcome
outcome_of out (value.refusal n q) = outcome (Refused n q) out
outcome_of out (value.written bs) = outcome (Written (length bs)) (bs ++ drop (length bs) out)

-- The payload that a sheet's cells over the bytes B make by a good table, or the refusal. 16,384 bytes hold every payload, so that 52 is left out.
unfoldable pub payload_by : (schema : List ℕ) (ty : ℕ) (cells B : List ℕ) → value.Writing
payload_by schema ty cells B = value.write (table_of schema) ty (rows_of cells) B 16384

-- The length of a payload that was made, or the refusal.
abbrev pub length_of : value.Writing → Writing
length_of (value.refusal n q) = Refused n q
length_of (value.written bs) = Written (length bs)

-- The payload stands at the front of memory, where it fits there, and past it nothing changes.
abbrev pub Fronts : value.Writing → (memory after : List ℕ) → Type 0
Fronts w memory after = (bs : List ℕ) → w ≡ value.written bs → length bs ≤ length memory → after ≡ bs ++ drop (length bs) memory

-- The payload, where it fits into the room for the output; else 52.
abbrev pub within_room : (room : ℕ) → value.Writing → value.Writing
within_room room (value.refusal n q) = value.refusal n q
within_room room (value.written bs) = cond (leb (length bs) room) (value.written bs) (value.refusal 52 0)

-- A sheet's cells over the bytes B, written by a good table.
unfoldable pub sheet_outcome : (schema : List ℕ) (ty : ℕ) (cells B out : List ℕ) → Outcome
sheet_outcome schema ty cells B out = outcome_of out (value.write (table_of schema) ty (rows_of cells) B (length out))

-- The table's refusals come first.
abbrev pub by_verdict : Checked → (other : Outcome) → List ℕ → Outcome
by_verdict (TableRefused n q) other out = outcome (Refused n q) out
by_verdict Good other out = other

unfoldable pub file_outcome : (schema : List ℕ) (ty : ℕ) (cells B out : List ℕ) → Outcome
file_outcome schema ty cells B out = by_verdict (checked schema) (sheet_outcome schema ty cells B out) out
