-- The answer to a release, by its number, with the next call table.
use Rattle.std.specs.Prelude.{ℕ}
use Rattle.connection.specs.declared.CallTable.{CallTable}

-- The number: 0 for a call that was released, or a refusal's; at which row of the schema table the refusal is; the calls open afterwards; the next table.
pub record Released : Type 0 where
  pub number : ℕ
  pub place : ℕ
  pub «open» : ℕ
  pub table : CallTable
