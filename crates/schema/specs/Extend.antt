-- When a table extends another: the relation as its sentence is written, the test that decides it for good tables, and the entry's answer.
use Rattle.std.specs.Prelude.{◌≡◌, Bool, false, cond, not, ◌&&◌, ◌||◌, List, ◌++◌, ℕ, ◌+◌, ◌≤◌, ◌<◌, length, get_or, leb, ltb, eqb, None, Option, Some}
use Rattle.schema.specs.declared.TypeRow.{TypeRow}
use Rattle.schema.specs.declared.Field.{Field}
use Rattle.schema.specs.declared.Method.{Method}
use Rattle.schema.specs.Checked.{Checked}
use Rattle.schema.specs.Checked.{Good, Refused as Faulty}
use Rattle.schema.specs.Extended.{Extended}
use Rattle.schema.specs.Extended.{Yes, No, Refused}
use Rattle.schema.specs.Table.{Table, Shape, struct, row_at, fields_of, bitmap_bytes}
use Rattle.schema.specs.File.{table_of}
use Rattle.schema.specs.Check.{no_field, field_row_of, method_row, lowest, is_missing, find_method, checked}

-- ---- the relation

-- A struct keeps its fields in order with type and optionality and may gain optional fields at the end.
pub record KeepsFields (old new : List Field) : Type 0 where
  pub gained : List Field
  pub kept : new ≡ old ++ gained
  pub optional : (i : ℕ) → i < length gained → (get_or gained i no_field).optional ≡ 1

-- A row keeps kind, element, key and value numbers; a struct keeps its fields.
pub record KeepsRow (old new : Table) (t : ℕ) : Type 0 where
  pub kind : (row_at new t).kind ≡ (row_at old t).kind
  pub element : (row_at old t).kind ≡ 14 → (row_at new t).a ≡ (row_at old t).a
  pub key : (row_at old t).kind ≡ 15 → (row_at new t).a ≡ (row_at old t).a
  pub value : (row_at old t).kind ≡ 15 → (row_at new t).b ≡ (row_at old t).b
  pub fields : (row_at old t).kind ≡ 16 → KeepsFields (fields_of old (row_at old t)) (fields_of new (row_at new t))

-- The new table has at least the old type rows, keeps each of them, and each old method entry is found in it unchanged. Bitmaps may grow.
pub record Widens (old new : Table) : Type 0 where
  pub types : length old.types ≤ length new.types
  pub rows : (t : ℕ) → t < length old.types → KeepsRow old new t
  pub methods : (i : ℕ) → i < length old.methods → (j : ℕ) × (j < length new.methods) × (method_row new j ≡ method_row old i)

-- The same, and the number of whole bytes of each old struct's bitmap stays the same: 01's extension.
pub record Extends (old new : Table) : Type 0 where
  pub widens : Widens old new
  pub bitmaps : (t : ℕ) → t < length old.types → (row_at old t).kind ≡ 16 → bitmap_bytes (row_at new t).b ≡ bitmap_bytes (row_at old t).b

-- What becomes of a shape: it stays, or a struct gains optional fields at its end.
pub data Grows : Shape → Shape → Type 0 where
  same : (s : Shape) → Grows s s
  gains : (fs gs : List Field) → ((i : ℕ) → i < length gs → (get_or gs i no_field).optional ≡ 1) → Grows (struct fs) (struct (fs ++ gs))

-- A struct's bitmap keeps its number of whole bytes.
abbrev pub SameBytes : Shape → Shape → Type 0
SameBytes s s' = (fs fs' : List Field) → s ≡ struct fs → s' ≡ struct fs' → bitmap_bytes (length fs') ≡ bitmap_bytes (length fs)

-- ---- the test

-- All of the first n numbers pass.
unfoldable pub every : (ℕ → Bool) → ℕ → Bool
every p n = is_missing (lowest (λ i. not (p i)) 0 n)

abbrev pub same_field : Field → Field → Bool
same_field f g = eqb f.ty g.ty && eqb f.optional g.optional

-- Field i of a struct that had row r and has row q: an old one is the same, another is optional.
unfoldable pub field_kept : Table → Table → TypeRow → TypeRow → ℕ → Bool
field_kept old new r q i =
    cond (ltb i r.b) (same_field (field_row_of new (q.a + i)) (field_row_of old (r.a + i))) (eqb (field_row_of new (q.a + i)).optional 1)

abbrev pub struct_kept : Table → Table → TypeRow → TypeRow → Bool
struct_kept old new r q = leb r.b q.b && every (field_kept old new r q) q.b

unfoldable pub row_kept_of : Table → Table → TypeRow → TypeRow → Bool
row_kept_of old new r q =
    eqb q.kind r.kind && cond (eqb r.kind 16) (struct_kept old new r q) (eqb q.a r.a && eqb q.b r.b)

abbrev pub rows_kept : Table → Table → Bool
rows_kept old new = every (λ t. row_kept_of old new (row_at old t) (row_at new t)) (length old.types)

abbrev pub same_method : Method → Method → Bool
same_method m n =
    (eqb m.«package» n.«package» && (eqb m.service n.service && (eqb m.method n.method && eqb m.form n.form))) &&
    ((eqb m.input n.input && eqb m.output n.output) &&
    (eqb m.input_stream n.input_stream && eqb m.output_stream n.output_stream))

-- The entry that has the method's identifiers is the method.
abbrev pub same_at : Table → Method → Option ℕ → Bool
same_at new m (Some j) = same_method (method_row new j) m
same_at new m None = false

unfoldable pub method_kept : Table → Method → Bool
method_kept new m = same_at new m (find_method new m.«package» m.service m.method)

abbrev pub methods_kept : Table → Table → Bool
methods_kept old new = every (λ i. method_kept new (method_row old i)) (length old.methods)

unfoldable pub widened : Table → Table → Bool
widened old new =
    leb (length old.types) (length new.types) && (rows_kept old new && methods_kept old new)

-- The bitmap of a struct that had row r and has row q.
unfoldable pub bitmap_kept : TypeRow → TypeRow → Bool
bitmap_kept r q = not (eqb r.kind 16) || eqb (bitmap_bytes q.b) (bitmap_bytes r.b)

abbrev pub bitmaps_kept : Table → Table → Bool
bitmaps_kept old new = every (λ t. bitmap_kept (row_at old t) (row_at new t)) (length old.types)

unfoldable pub extended : Table → Table → Bool
extended old new = widened old new && bitmaps_kept old new

-- ---- the entry

-- The table's refusal, or else what comes after.
abbrev pub if_good : Checked → Extended → Extended
if_good Good next = next
if_good (Faulty number place) next = Refused number place

-- Yes or no for two good tables; for others the first table's refusal, old first.
unfoldable pub extension : List ℕ → List ℕ → Extended
extension old new =
    if_good (checked old) (if_good (checked new) (cond (extended (table_of old) (table_of new)) Yes No))
