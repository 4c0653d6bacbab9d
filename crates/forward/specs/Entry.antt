-- What the entries answer: a length or a refusal, as the plain writer does, and the output as it is left.
use Rattle.std.specs.Prelude.{List, ℕ, length}
use Rattle.schema.specs.File.{table_of}
use Rattle.schema.specs.Check.{checked}
use Rattle.value.specs.Sheet.{rows_of}
use Rattle.writer.specs.Entry.{Outcome, outcome_of, by_verdict}
use Rattle.forward.specs.Forward.{forward}

-- A sheet's cells over the bytes B, with a tail of n bytes at a place of B, by a good table.
unfoldable pub sheet_forwarded : (schema : List ℕ) (ty : ℕ) (cells B : List ℕ) (place n : ℕ) (out : List ℕ) → Outcome
sheet_forwarded schema ty cells B place n out = outcome_of out (forward (table_of schema) ty (rows_of cells) B place n (length out))

-- By any table: its refusals come first.
unfoldable pub forward_outcome : (schema : List ℕ) (ty : ℕ) (cells B : List ℕ) (place n : ℕ) (out : List ℕ) → Outcome
forward_outcome schema ty cells B place n out = by_verdict (checked schema) (sheet_forwarded schema ty cells B place n out) out
