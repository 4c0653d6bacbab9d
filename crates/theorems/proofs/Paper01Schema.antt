-- Paper 01, the schema table: its sentences, and below each the theorems that state it, cited from the crate that proves them. What a definition or a
-- contract alone states is in docs/PROMISES.md.
use Rattle.std.specs.Prelude.{Some}
use mathlib.Core.List.{List}
use Prim.Native.Nat.{ℕ, ◌≤◌, ◌*◌, ◌<◌, ◌/◌, ◌^◌, ◌%◌}
use mathlib.Core.Logic.{◌↔◌, ◌⊎◌}
use mathlib.Core.Path.{◌≡◌}
use lib.ListN.{length}
use mathlib.Core.Bool.{true}
use Rattle.wire.specs.Little.{Bytes}
use Rattle.schema.specs.Check.{IsGood, method_row, find_method}
use Rattle.schema.specs.Good.{GoodFile, HasShape, GoodSchema, SameNames}
use Rattle.schema.specs.Encoded.{file_of}
use Rattle.schema.specs.File.{table_of}
use Rattle.schema.specs.Table.{Table, row_at, shape, scalar, text, array, map, struct, fields_of, width}
use Rattle.schema.specs.Widths.{ScalarBits}
use Rattle.schema.specs.Extend.{extension, Extends}
use Rattle.schema.specs.Extended.{Yes, No}
use Rattle.schema.specs.declared.Field.{Field}
use Rattle.schema.specs.Numbers.{extend_number, extend_answer, extend_place}
use Rattle.schema.specs.Faults.{TableFault}
use Rattle.calls.specs.Forms.{row_of_form, letters_row}
use Rattle.value.specs.Added.{carries}
use Rattle.schema.proofs.Goods as schema-Goods
use Rattle.schema.proofs.Encoded as schema-Encoded
use Rattle.schema.proofs.Shapes as schema-Shapes
use Rattle.schema.proofs.Widths as schema-Widths
use Rattle.schema.proofs.Methods as schema-Methods
use Rattle.schema.proofs.Extending as schema-Extending
use Rattle.schema.proofs.Numbers as schema-Numbers
use Rattle.calls.proofs.Letters as calls-Letters
use Rattle.value.proofs.Statements as value-Statements

-- A good file, and why any other is refused:

-- Number 0 comes exactly for good files.
pub good-iff : (s : List ℕ) → IsGood s ↔ GoodFile s
good-iff = schema-Goods.good-iff

-- Stated in another file: `Demand1.schema-refused-iff`.

-- "Little-endian 32-bit numbers."

-- A file of the right shape is made of the table that is read from it.
pub file-made : (s : List ℕ) → Bytes s → HasShape s → file_of (table_of s) ≡ s
file-made = schema-Encoded.file-made

-- "A type row is three numbers: kind, a, b. Kinds: 1 bool; .. 16 struct (a first field, b number of fields, 1 to 64)."

-- A type row of kind 1 to 11 is a scalar of that kind.
pub shape-scalar : (T : Table) (t : ℕ) → 1 ≤ (row_at T t).kind → (row_at T t).kind ≤ 11 → shape T t ≡ scalar (row_at T t).kind
shape-scalar = schema-Shapes.shape-scalar

-- Kinds 12 and 13 are string and bytes.
pub shape-text : (T : Table) (t : ℕ) → 12 ≤ (row_at T t).kind → (row_at T t).kind ≤ 13 → shape T t ≡ text (row_at T t).kind
shape-text = schema-Shapes.shape-text

-- Kind 14 is an array of the element type a.
pub shape-array : (T : Table) (t : ℕ) → (row_at T t).kind ≡ 14 → shape T t ≡ array (row_at T t).a
shape-array = schema-Shapes.shape-array

-- Kind 15 is a map from the key type a to the value type b.
pub shape-map : (T : Table) (t : ℕ) → (row_at T t).kind ≡ 15 → shape T t ≡ map (row_at T t).a (row_at T t).b
shape-map = schema-Shapes.shape-map

-- Kind 16 is a struct of its b fields from field a on.
pub shape-struct : (T : Table) (t : ℕ) → (row_at T t).kind ≡ 16 → shape T t ≡ struct (fields_of T (row_at T t))
shape-struct = schema-Shapes.shape-struct

-- A scalar of kind 1 to 11 has the bits that 01 lists, in whole bytes.
pub width-iff : (kind bits : ℕ) → ScalarBits kind bits ↔ ((1 ≤ kind) × (kind ≤ 11) × (8 * width kind ≡ bits))
width-iff = schema-Widths.width-iff

-- Stated above: `file-made`.

-- "A field entry is type number, then 1 if optional, else 0."

-- Stated above: `file-made`.

-- "Structs may contain themselves."

-- Computed: `value/Examples.U`, `value/Examples.read-faults`.

-- "A method entry is eight numbers: package, service, method, form 0 to 15, then the types of input, output, input stream, output stream."

-- Stated above: `file-made`.

-- "Form letters count 8, 4, 2, 1 in that order, so YYNN is 12. A Y has a struct type, an N has 4294967295."

-- Computed: `schema/Examples.T-rows`.

-- "No two entries share all three identifiers; the later is at fault."

-- Two entries of a good table that share their identifiers are one.
pub names-differ : (T : Table) (g : GoodSchema T)
    (i j : ℕ) → i < length T.methods → j < length T.methods → SameNames (method_row T i) (method_row T j) → i ≡ j
names-differ = schema-Methods.names-differ

-- Each entry is found by its own identifiers.
pub finds-own : (T : Table) (g : GoodSchema T)
    (i : ℕ) → i < length T.methods → find_method T (method_row T i).«package» (method_row T i).service (method_row T i).method ≡ Some i
finds-own = schema-Methods.finds-own

-- Stated in another file: `Demand1.schema-refused-iff`.

-- "The draft's Table 1, one row a form, is kept as a constant table."

-- Each row of the constant table is what the form's letters say.
pub by-letters : (form : ℕ) → form < 16 → row_of_form form ≡ letters_row form
by-letters = calls-Letters.by-letters

-- "A schema file holds types, fields, methods and a 16-byte trailer pointing back: places of the fields, methods and trailer, layout number 1."

-- A file has the shape exactly where it is made of a table: types from 0 on, fields, methods, and the trailer that points back.
pub shape-iff : (s : List ℕ) → Bytes s → length s < 4294967296 → HasShape s ↔ ((T : Table) × (s ≡ file_of T))
shape-iff = schema-Encoded.shape-iff

-- Stated above: `file-made`.

-- "At most 256 types, 2,048 fields, 256 methods."

-- Computed: `schema/Examples.most`.

-- "Types start at 0 and sections touch; any other place, length or layout number is 40."

-- Stated in another file: `Demand1.schema-refused-iff`.

-- "Three empty sections are a legal table."

-- Computed: `schema/Examples.empty-good`.

-- Extension:

-- For two good tables the answer is yes exactly where the new one extends the old one.
pub yes_iff : (old new : List ℕ) (g : IsGood old) (g' : IsGood new) → extension old new ≡ Yes ↔ Extends (table_of old) (table_of new)
yes_iff = schema-Extending.yes_iff

-- It is no exactly where the new one does not.
pub no_iff : (old new : List ℕ) (g : IsGood old) (g' : IsGood new) → extension old new ≡ No ↔ (Extends (table_of old) (table_of new) → ⊥)
no_iff = schema-Extending.no_iff

-- "A good new table extends a good old one when it has at least its type rows; each old row keeps kind, element, key and value numbers; each old
-- struct keeps its fields in order with type and optionality and may gain optional fields at the end, the number of whole bytes of its bitmap staying
-- the same; each old method entry is found unchanged."

-- Stated in another file: `Request08.still-found`.

-- "Seven fields may become eight, eight not nine."

-- Computed: `schema/Examples.eight-fields`.

-- "A field so gained is added; a struct carries it when its bit is set."

-- A struct carries an added field exactly when a bit beyond its known fields is set.
pub carries-iff : (fs : List Field) (m : ℕ) → (carries (struct fs) m ≡ true) ↔ ((i : ℕ) × (length fs ≤ i) × (m / 2 ^ i % 2 ≡ 1))
carries-iff = value-Statements.carries-iff

-- "A yes-or-no entry decides this for two good tables; for others it gives the table's refusal, old table first."

-- 0 and 1 come back exactly for two good tables of which the new one extends the old one.
pub one-iff-extends : (old new : List ℕ)
    → ((extend_number (extension old new) ≡ 0) × (extend_answer (extension old new) ≡ 1)) ↔ (GoodFile old × GoodFile new × Extends (table_of old) (table_of new))
one-iff-extends = schema-Numbers.one-iff-extends

-- 0 and 0 come back exactly for two good tables of which it does not.
pub zero-iff-other : (old new : List ℕ) → ((extend_number (extension old new) ≡ 0) × (extend_answer (extension old new) ≡ 0))
    ↔ (GoodFile old × GoodFile new × (Extends (table_of old) (table_of new) → ⊥))
zero-iff-other = schema-Numbers.zero-iff-other

-- Any other number comes back with a row exactly for the old table's reason, or for the new one's where the old one is good.
pub number-iff-either : (old new : List ℕ)
    (n q : ℕ) → 0 < n → ((extend_number (extension old new) ≡ n) × (extend_place (extension old new) ≡ q))
    ↔ (TableFault old n q ⊎ (GoodFile old × TableFault new n q))
number-iff-either = schema-Numbers.number-iff-either
