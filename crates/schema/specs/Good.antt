-- What a good schema file is, a field for each sentence, with no order of tests.
use Rattle.std.specs.Prelude.{◌≡◌, ◌⊎◌, List, ℕ, ◌+◌, ◌*◌, ◌/◌, ◌%◌, ◌≤◌, ◌<◌, length}
use Rattle.schema.specs.declared.TypeRow.{TypeRow}
use Rattle.schema.specs.declared.Field.{Field}
use Rattle.schema.specs.declared.Method.{Method}
use Rattle.schema.specs.Table.{Table, row_at}
use Rattle.schema.specs.File.{cell, trailer_at, table_of}
use Rattle.schema.specs.Check.{field_row_of, method_row}

-- The sections touch: so many types from 0 on, fields and methods; then the trailer, which has the places of fields, methods and itself, and layout number 1.
pub record HasShape (s : List ℕ) : Type 0 where
  pub types : ℕ
  pub fields : ℕ
  pub methods : ℕ
  pub whole : length s ≡ 12 * types + 8 * fields + 32 * methods + 16
  pub fields_place : cell s (trailer_at s) ≡ 12 * types
  pub methods_place : cell s (trailer_at s + 4) ≡ 12 * types + 8 * fields
  pub trailer_place : cell s (trailer_at s + 8) ≡ 12 * types + 8 * fields + 32 * methods
  pub number : cell s (trailer_at s + 12) ≡ 1

-- Key kinds are 1 to 9, 12, 13.
abbrev pub KeyKind : ℕ → Type 0
KeyKind k = ((1 ≤ k) × (k ≤ 9)) ⊎ ((k ≡ 12) ⊎ (k ≡ 13))

-- A type row: kinds 1 to 13 use neither a nor b; 14 is an array of a; 15 a map from a to b; 16 a struct of b fields from field a on, 1 to 64.
pub record GoodRow (T : Table) (r : TypeRow) : Type 0 where
  pub kind : (1 ≤ r.kind) × (r.kind ≤ 16)
  pub plain : r.kind ≤ 13 → (r.a ≡ 0) × (r.b ≡ 0)
  pub array : r.kind ≡ 14 → (r.a < length T.types) × (r.b ≡ 0)
  pub map : r.kind ≡ 15 → (r.a < length T.types) × KeyKind (row_at T r.a).kind × (r.b < length T.types)
  pub struct : r.kind ≡ 16 → (1 ≤ r.b) × (r.b ≤ 64) × (r.a + r.b ≤ length T.fields)

-- A field: its type is there, and it is optional (1) or not (0).
pub record GoodField (T : Table) (f : Field) : Type 0 where
  pub type : f.ty < length T.types
  pub optional : f.optional ≤ 1

-- A letter of a form (01's terms): Y (1) has a struct type, N (0) has 4294967295.
pub record Letter (T : Table) (bit t : ℕ) : Type 0 where
  pub yes : bit ≡ 1 → (row_at T t).kind ≡ 16
  pub no : bit ≡ 0 → t ≡ 4294967295

-- A method: its form is 0 to 15, and its letters, which count 8, 4, 2, 1, have their types.
pub record GoodMethod (T : Table) (m : Method) : Type 0 where
  pub form : m.form ≤ 15
  pub input : Letter T (m.form / 8 % 2) m.input
  pub output : Letter T (m.form / 4 % 2) m.output
  pub input_stream_of : Letter T (m.form / 2 % 2) m.input_stream
  pub output_stream_of : Letter T (m.form % 2) m.output_stream

-- Two methods share all three identifiers.
pub record SameNames (m n : Method) : Type 0 where
  pub «package» : m.«package» ≡ n.«package»
  pub service : m.service ≡ n.service
  pub method : m.method ≡ n.method

pub record GoodSchema (T : Table) : Type 0 where
  pub few_types : length T.types ≤ 256
  pub few_fields : length T.fields ≤ 2048
  pub few_methods : length T.methods ≤ 256
  pub rows : (t : ℕ) → t < length T.types → GoodRow T (row_at T t)
  pub fields : (i : ℕ) → i < length T.fields → GoodField T (field_row_of T i)
  pub methods : (i : ℕ) → i < length T.methods → GoodMethod T (method_row T i)
  pub distinct : (i j : ℕ) → i < j → j < length T.methods → SameNames (method_row T i) (method_row T j) → ⊥

pub record GoodFile (s : List ℕ) : Type 0 where
  pub shape : HasShape s
  pub table : GoodSchema (table_of s)
