-- The refusals of a schema file are those that 01 lists.
use mathlib.Core.Path.{◌≡◌}
use mathlib.Core.List.{List}
use Prim.Native.Nat.{ℕ, ◌≤◌, ◌<◌}
use native.Mathlib.Omega.{arith}
use Rattle.schema.specs.Checked.{Refused}
use Rattle.schema.specs.Table.{Table}
use Rattle.schema.specs.File.{table_of}
use Rattle.schema.specs.Check.{checked}
use Rattle.schema.specs.Faults as why
use Rattle.schema.specs.Numbered.{TableNumber, misshapen, too_many, type_row, field, method}
use Rattle.schema.proofs.Faults.{refused-iff}

number-row : (s : List ℕ) (n q : ℕ) → why.TableFault s n q → TableNumber (table_of s) n q
number-row s n q (why.misshapen m) = misshapen
number-row s n q (why.too_many h m) = too_many
number-row s n q (why.type_row h few f) = type_row f.there
number-row s n q (why.field h few rows f) = field f.there
number-row s n q (why.method h few rows fields f) = method f.there

-- A refusal is 40 or 41 at 0, or 42, 43 or 44 at a row that its section has.
pub listed : (s : List ℕ) (n q : ℕ) → checked s ≡ Refused n q → TableNumber (table_of s) n q
listed s n q e = number-row s n q ((refused-iff s n q).0 e)

-- So it is 40 to 44, and at 0 below 42.
pub listed-bounds : (T : Table) {n q : ℕ} → TableNumber T n q → (40 ≤ n) × (n ≤ 44) × (n < 42 → q ≡ 0)
listed-bounds T misshapen = omega arith
listed-bounds T too_many = omega arith
listed-bounds T (type_row h) = omega arith
listed-bounds T (field h) = omega arith
listed-bounds T (method h) = omega arith
