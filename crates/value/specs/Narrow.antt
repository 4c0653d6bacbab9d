-- Shapes with the first fields of a struct alone, as many as a table knows.
use Rattle.std.specs.Prelude.{ℕ, length, take}
use Rattle.schema.specs.Table.{Shape, unknown, scalar, text, array, map, struct}

-- A struct's first k fields; any other shape as it is.
abbrev pub first_of : ℕ → Shape → Shape
first_of k (struct fs) = struct (take k fs)
first_of k (array e) = array e
first_of k (map a b) = map a b
first_of k (scalar x) = scalar x
first_of k (text x) = text x
first_of k unknown = unknown

-- The number of fields that a shape has; other shapes have 0.
abbrev pub fields_in : Shape → ℕ
fields_in (struct fs) = length fs
fields_in (array _) = 0
fields_in (map _ _) = 0
fields_in (scalar _) = 0
fields_in (text _) = 0
fields_in unknown = 0
