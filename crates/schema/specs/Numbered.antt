-- 01's numbers for a schema file that is not good, with their places.
use Rattle.std.specs.Prelude.{ℕ, ◌<◌, length}
use Rattle.schema.specs.Table.{Table}

-- 40 and 41 have place 0; 42, 43 and 44 name a type row, a field and a method of the table.
pub data TableNumber (T : Table) : (number place : ℕ) → Type 0 where
  misshapen : TableNumber T 40 0
  too_many : TableNumber T 41 0
  type_row : {q : ℕ} → q < length T.types → TableNumber T 42 q
  field : {q : ℕ} → q < length T.fields → TableNumber T 43 q
  method : {q : ℕ} → q < length T.methods → TableNumber T 44 q
