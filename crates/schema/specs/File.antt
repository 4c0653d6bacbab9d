-- A schema file as bytes: types from 0 on, fields, methods, and a trailer of four numbers that points back. All numbers are little-endian and have 32 bits.
use Rattle.std.specs.Prelude.{◌≡◌, Bool, true, cond, ◌&&◌, List, [], ◌∷◌, ℕ, zero, suc, ◌+◌, ◌-◌, ◌*◌, ◌/◌, ◌%◌, length, take, drop, leb, eqb}
use Rattle.wire.specs.Little.{little}
use Rattle.schema.specs.declared.TypeRow.{TypeRow}
use Rattle.schema.specs.declared.Field.{Field}
use Rattle.schema.specs.declared.Method.{Method}
use Rattle.schema.specs.declared.Layout.{Layout}
use Rattle.schema.specs.Table.{Table}

-- The 32-bit number at a place.
unfoldable pub cell : List ℕ → ℕ → ℕ
cell s at = little (take 4 (drop at s))

abbrev pub type_at : List ℕ → ℕ → TypeRow
type_at s at = record { kind = cell s at; a = cell s (at + 4); b = cell s (at + 8) }

abbrev pub field_at : List ℕ → ℕ → Field
field_at s at = record { ty = cell s at; optional = cell s (at + 4) }

abbrev pub method_at : List ℕ → ℕ → Method
method_at s at =
    record {
      «package» = cell s at;
      service = cell s (at + 4);
      method = cell s (at + 8);
      form = cell s (at + 12);
      input = cell s (at + 16);
      output = cell s (at + 20);
      input_stream = cell s (at + 24);
      output_stream = cell s (at + 28);
    }

-- The trailer is the last 16 bytes: the places of the fields, the methods and the trailer, and the layout number.
abbrev pub trailer_at : List ℕ → ℕ
trailer_at s = length s - 16

abbrev pub fields_at_of : List ℕ → ℕ
fields_at_of s = cell s (trailer_at s)

abbrev pub methods_at_of : List ℕ → ℕ
methods_at_of s = cell s (trailer_at s + 4)

-- The file's shape, without which it is refused with 40: the trailer is there; the sections lie in order; the layout number is 1;
-- the trailer has its own place; and each section has a whole number of entries.
unfoldable pub shaped : List ℕ → Bool
shaped s =
    leb 16 (length s) &&
    (leb (fields_at_of s) (methods_at_of s) &&
    (leb (methods_at_of s) (trailer_at s) &&
    (eqb (cell s (trailer_at s + 12)) 1 &&
    (eqb (cell s (trailer_at s + 8)) (trailer_at s) &&
    (eqb (fields_at_of s % 12) 0 &&
    (eqb ((methods_at_of s - fields_at_of s) % 8) 0 && eqb ((trailer_at s - methods_at_of s) % 32) 0))))))

-- Where the sections of such a file lie: how many entries each has, and where fields and methods start.
unfoldable pub layout_of : List ℕ → Layout
layout_of s =
    record {
      types = fields_at_of s / 12;
      fields = (methods_at_of s - fields_at_of s) / 8;
      methods = (trailer_at s - methods_at_of s) / 32;
      fields_at = fields_at_of s;
      methods_at = methods_at_of s;
    }

-- The list of f 0, f 1 and so on, n in all.
unfoldable pub tabulate : {A : Type 0} → (ℕ → A) → ℕ → List A
tabulate f zero = []
tabulate f (suc n) = f 0 ∷ tabulate (λ i. f (suc i)) n

abbrev pub empty_table : Table
empty_table = record { types = []; fields = []; methods = [] }

abbrev pub sections : List ℕ → Table
sections s =
    record {
      types = tabulate (λ i. type_at s (12 * i)) (layout_of s).types;
      fields = tabulate (λ i. field_at s ((layout_of s).fields_at + 8 * i)) (layout_of s).fields;
      methods = tabulate (λ i. method_at s ((layout_of s).methods_at + 32 * i)) (layout_of s).methods;
    }

-- The table in a file; one that has not the shape of a schema file holds no rows.
unfoldable pub table_of : List ℕ → Table
table_of s = cond (shaped s) (sections s) empty_table

-- A file of the right shape, and its layout.
pub record Laid (s : List ℕ) (l : Layout) : Type 0 where
  pub shape : shaped s ≡ true
  pub is : l ≡ layout_of s
