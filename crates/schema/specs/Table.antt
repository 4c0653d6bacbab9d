-- The schema table as lists of rows, and what a type number stands for.
use Rattle.std.specs.Prelude.{List, [], ◌∷◌, ℕ, ◌+◌, ◌/◌, take, drop, get_or}
use Rattle.schema.specs.declared.TypeRow.{TypeRow}
use Rattle.schema.specs.declared.Field.{Field}
use Rattle.schema.specs.declared.Method.{Method}

pub record Table : Type 0 where
  pub types : List TypeRow
  pub fields : List Field
  pub methods : List Method

-- What a type row says. `scalar` and `text` keep the kind: 1 to 11, and 12 (string) or 13 (bytes).
pub data Shape : Type 0 where
  unknown : Shape
  scalar : (kind : ℕ) → Shape
  text : (kind : ℕ) → Shape
  array : (element : ℕ) → Shape
  map : (key value : ℕ) → Shape
  struct : List Field → Shape

-- The row of a type number; past the last there is a row of kind 0, which is no kind.
abbrev pub row_at : Table → ℕ → TypeRow
row_at T t = get_or T.types t (record { kind = 0; a = 0; b = 0 })

-- A struct's fields: b entries from entry a on.
abbrev pub fields_of : Table → TypeRow → List Field
fields_of T r = take r.b (drop r.a T.fields)

-- The shape of each kind, from 0 on.
abbrev pub kind_shapes : Table → TypeRow → List Shape
kind_shapes T r =
    unknown
    ∷ scalar 1
    ∷ scalar 2
    ∷ scalar 3
    ∷ scalar 4
    ∷ scalar 5
    ∷ scalar 6
    ∷ scalar 7
    ∷ scalar 8
    ∷ scalar 9
    ∷ scalar 10
    ∷ scalar 11
    ∷ text 12
    ∷ text 13
    ∷ array r.a
    ∷ map r.a r.b
    ∷ struct (fields_of T r)
    ∷ []

unfoldable pub shape : Table → ℕ → Shape
shape T t = get_or (kind_shapes T (row_at T t)) (row_at T t).kind unknown

-- The width in bytes of each scalar kind, from 0 on.
abbrev pub widths : List ℕ
widths = 0 ∷ 1 ∷ 1 ∷ 2 ∷ 4 ∷ 8 ∷ 1 ∷ 2 ∷ 4 ∷ 8 ∷ 4 ∷ 8 ∷ []

abbrev pub width : ℕ → ℕ
width kind = get_or widths kind 0

-- The whole bytes of a bitmap with a bit for each of n fields.
abbrev pub bitmap_bytes : ℕ → ℕ
bitmap_bytes n = (n + 7) / 8
