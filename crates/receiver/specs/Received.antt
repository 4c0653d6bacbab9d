-- The answer to a frame, by its number, with the next call table.
use Rattle.std.specs.Prelude.{ℕ}
use Rattle.connection.specs.declared.CallTable.{CallTable}

-- The number: 0 for an accepted frame, 1 where more bytes are needed, or a refusal's; its place in the payload or among the rows of the schema table; the bytes
-- used; the rows written to the sheet; the tail's place and length; the calls open afterwards; the key comparisons due; the next table.
pub record Received : Type 0 where
  pub number : ℕ
  pub place : ℕ
  pub used : ℕ
  pub rows : ℕ
  pub tail_place : ℕ
  pub tail_length : ℕ
  pub «open» : ℕ
  pub comparisons : ℕ
  pub table : CallTable
