-- A schema file as it is made from a table: the numbers of each entry in order, four bytes each with the lowest first, and the trailer. Nothing is read back.
use Rattle.std.specs.Prelude.{List, [], ◌∷◌, ◌++◌, ℕ, ◌+◌, length}
use Rattle.wire.specs.Little.{bytes}
use Rattle.schema.specs.declared.TypeRow.{TypeRow}
use Rattle.schema.specs.declared.Field.{Field}
use Rattle.schema.specs.declared.Method.{Method}
use Rattle.schema.specs.Table.{Table}

-- A type row is three numbers, a field two, a method eight.
abbrev pub type_numbers : TypeRow → List ℕ
type_numbers r = r.kind ∷ r.a ∷ r.b ∷ []

abbrev pub field_numbers : Field → List ℕ
field_numbers f = f.ty ∷ f.optional ∷ []

abbrev pub method_numbers : Method → List ℕ
method_numbers m =
    m.«package» ∷ m.service ∷ m.method ∷ m.form ∷ m.input ∷ m.output ∷ m.input_stream ∷ m.output_stream ∷ []

-- The numbers of all entries of a section, and their bytes.
unfoldable pub joined : {A : Type 0} → (A → List ℕ) → List A → List ℕ
joined f [] = []
joined f (x ∷ xs) = f x ++ joined f xs

unfoldable pub in_bytes : List ℕ → List ℕ
in_bytes [] = []
in_bytes (n ∷ ns) = bytes 4 n ++ in_bytes ns

abbrev pub type_bytes : Table → List ℕ
type_bytes T = in_bytes (joined type_numbers T.types)

abbrev pub field_bytes : Table → List ℕ
field_bytes T = in_bytes (joined field_numbers T.fields)

abbrev pub method_bytes : Table → List ℕ
method_bytes T = in_bytes (joined method_numbers T.methods)

-- The places of fields, methods and trailer, where so many bytes stand before them; and the layout number.
abbrev pub trailer_bytes : (types fields methods : ℕ) → List ℕ
trailer_bytes t f m = in_bytes (t ∷ (t + f) ∷ (t + f + m) ∷ 1 ∷ [])

-- The whole file.
abbrev pub file_of : Table → List ℕ
file_of T =
    type_bytes T ++ (field_bytes T ++ (method_bytes T ++ trailer_bytes (length (type_bytes T)) (length (field_bytes T)) (length (method_bytes T))))
