-- Shapes as a walk meets them, by the numbers of a type row: the fields of a struct, and the shape of a leaf.
use Rattle.std.specs.Prelude.{ℕ, cond, List, take, drop, nat_lt}
use Rattle.schema.specs.declared.Field.{Field}
use Rattle.schema.specs.Table.{Table, Shape, scalar, text, shape}
use Rattle.schema.specs.File.{table_of}

-- The shape of each type number, by the table in the file s.
abbrev pub shape_in : List ℕ → ℕ → Shape
shape_in s = shape (table_of s)

-- A struct's fields: n from the first on.
unfoldable pub fields_from : Table → ℕ → ℕ → List Field
fields_from T first n = take n (drop first T.fields)

-- The shape of a kind from 1 to 13.
unfoldable pub leaf_shape : ℕ → Shape
leaf_shape kind = cond (nat_lt kind 12) (scalar kind) (text kind)
