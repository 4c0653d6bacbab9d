-- Why a row that is handed out is refused, with the places.
use Rattle.std.specs.Prelude.{List, cond, ℕ, leb}
use Rattle.schema.specs.Table.{Shape, unknown, scalar, text, array, map, struct, shape}
use Rattle.schema.specs.File.{table_of}
use Rattle.schema.specs.Check.{IsGood}
use Rattle.schema.specs.Faults.{TableFault}
use Rattle.value.specs.declared.Row.{Row}
use Rattle.value.specs.SheetReasons.{RowFault}

-- A scalar, a string or bytes; no composite, and no unknown type.
abbrev pub Leaf : Shape → Type 0
Leaf (scalar _) = Unit {0}
Leaf (text _) = Unit {0}
Leaf unknown = ⊥
Leaf (array _) = ⊥
Leaf (map _ _) = ⊥
Leaf (struct _) = ⊥

-- 50 and 51 are at 0, 22 and 23 at the row's place.
abbrev pub fault_place : (number place : ℕ) → ℕ
fault_place n p = cond (leb 50 n) 0 p

-- The row over the bytes: the schema file's fault; 50 for a type that is no leaf; or what is wrong with a leaf's row, as for the writer.
pub data Reason (schema bytes : List ℕ) (r : Row) : (number place : ℕ) → Type 0 where
  file : {n q : ℕ} → TableFault schema n q → Reason schema bytes r n q
  no-leaf : IsGood schema → (Leaf (shape (table_of schema) r.ty) → ⊥) → Reason schema bytes r 50 0
  faulty : {n : ℕ} → IsGood schema → Leaf (shape (table_of schema) r.ty) → RowFault bytes (shape (table_of schema) r.ty) r.place r.length r.count n
      → Reason schema bytes r n (fault_place n r.place)
