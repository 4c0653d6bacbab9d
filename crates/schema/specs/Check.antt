-- The judgement of a schema table: of each type row, field and method, and of the whole file with its first fault.
use Rattle.std.specs.Prelude.{◌≡◌, Bool, true, false, cond, not, ◌&&◌, ◌||◌, List, ℕ, zero, suc, ◌+◌, ◌/◌, ◌%◌, length, get_or, leb, ltb, eqb, None, Option, Some}
use Rattle.schema.specs.declared.TypeRow.{TypeRow}
use Rattle.schema.specs.declared.Field.{Field}
use Rattle.schema.specs.declared.Method.{Method}
use Rattle.schema.specs.Checked.{Checked}
use Rattle.schema.specs.Checked.{Good, Refused}
use Rattle.schema.specs.Table.{Table, row_at}
use Rattle.schema.specs.File.{shaped, table_of}

-- The lowest number, of n counted from i, that passes the test.
unfoldable pub lowest : (ℕ → Bool) → ℕ → ℕ → Option ℕ
lowest p i zero = None
lowest p i (suc n) = cond (p i) (Some i) (lowest p (suc i) n)

-- ---- a type row

-- What stands past the last row.
abbrev pub no_row : TypeRow
no_row = record { kind = 0; a = 0; b = 0 }

-- Key kinds are 1 to 9, 12, 13.
abbrev pub key_kind : ℕ → Bool
key_kind k = (leb 1 k && leb k 9) || (eqb k 12 || eqb k 13)

-- Kinds 1 to 13 use neither a nor b.
abbrev pub plain_row : TypeRow → Bool
plain_row r = (leb 1 r.kind && leb r.kind 13) && (eqb r.a 0 && eqb r.b 0)

-- 14: a is the element, one of so many types; b is not used.
abbrev pub array_row : ℕ → TypeRow → Bool
array_row types r = eqb r.kind 14 && (ltb r.a types && eqb r.b 0)

-- 15: a is the key, judged by the kind of its row alone, and b the value.
abbrev pub map_row : ℕ → (key : ℕ) → TypeRow → Bool
map_row types key r = eqb r.kind 15 && (key_kind key && ltb r.b types)

-- 16: a is the first of so many fields and b the number of fields, 1 to 64.
abbrev pub struct_row : ℕ → TypeRow → Bool
struct_row fields r = eqb r.kind 16 && ((leb 1 r.b && leb r.b 64) && leb (r.a + r.b) fields)

unfoldable pub good_row : Table → ℕ → Bool
good_row T t =
    plain_row (row_at T t) ||
    (array_row (length T.types) (row_at T t) ||
    (map_row (length T.types) (row_at T (row_at T t).a).kind (row_at T t) || struct_row (length T.fields) (row_at T t)))

-- ---- a field

abbrev pub no_field : Field
no_field = record { ty = 0; optional = 0 }

abbrev pub field_row_of : Table → ℕ → Field
field_row_of T i = get_or T.fields i no_field

unfoldable pub good_field : Table → ℕ → Bool
good_field T i = ltb (field_row_of T i).ty (length T.types) && leb (field_row_of T i).optional 1

-- ---- a method

abbrev pub no_method : Method
no_method =
    record {
      «package» = 0;
      service = 0;
      method = 0;
      form = 0;
      input = 0;
      output = 0;
      input_stream = 0;
      output_stream = 0;
    }

abbrev pub method_row : Table → ℕ → Method
method_row T i = get_or T.methods i no_method

abbrev pub is_struct : Table → ℕ → Bool
is_struct T t = eqb (row_at T t).kind 16

-- A letter of the form and its type: a Y (1) has a struct type, an N (0) has 4294967295.
abbrev pub letter_fits : Table → ℕ → ℕ → Bool
letter_fits T bit t = cond (eqb bit 1) (is_struct T t) (eqb t 4294967295)

-- The letters count 8, 4, 2, 1.
abbrev pub formed : Table → Method → Bool
formed T m =
    leb m.form 15 &&
    (letter_fits T (m.form / 8 % 2) m.input &&
    (letter_fits T (m.form / 4 % 2) m.output &&
    (letter_fits T (m.form / 2 % 2) m.input_stream && letter_fits T (m.form % 2) m.output_stream)))

-- The method has these three identifiers.
abbrev pub named : («package» service method : ℕ) → Method → Bool
named p s n m = eqb m.«package» p && (eqb m.service s && eqb m.method n)

-- The first of the first n entries with these three identifiers.
unfoldable pub find_among : Table → ℕ → («package» service method : ℕ) → Option ℕ
find_among T n p s m = lowest (λ i. named p s m (method_row T i)) 0 n

abbrev pub is_missing : Option ℕ → Bool
is_missing (Some i) = false
is_missing None = true

-- No two entries share all three identifiers; the later is at fault.
unfoldable pub good_method : Table → ℕ → Bool
good_method T i =
    formed T (method_row T i) &&
    is_missing (find_among T i (method_row T i).«package» (method_row T i).service (method_row T i).method)

-- The first entry of the table with these three identifiers.
abbrev pub find_method : Table → («package» service method : ℕ) → Option ℕ
find_method T p s m = find_among T (length T.methods) p s m

-- ---- the whole file

-- At most 256 types, 2,048 fields, 256 methods.
unfoldable pub small : Table → Bool
small T = leb (length T.types) 256 && (leb (length T.fields) 2048 && leb (length T.methods) 256)

-- The fault found, or else what comes after.
abbrev pub fault : ℕ → Option ℕ → Checked → Checked
fault number (Some i) next = Refused number i
fault number None next = next

-- Entry i of a section is good: section 0 has the types, 1 the fields, 2 the methods.
unfoldable pub good_entry : Table → (section i : ℕ) → Bool
good_entry T zero i = good_row T i
good_entry T (suc zero) i = good_field T i
good_entry T (suc (suc n)) i = good_method T i

-- The lowest of the first n entries of a section at fault.
unfoldable pub bad_entry : Table → (section n : ℕ) → Option ℕ
bad_entry T section n = lowest (λ i. not (good_entry T section i)) 0 n

-- The lowest type row, field and method at fault.
unfoldable pub bad_row : Table → Option ℕ
bad_row T = lowest (λ i. not (good_row T i)) 0 (length T.types)

unfoldable pub bad_field : Table → Option ℕ
bad_field T = lowest (λ i. not (good_field T i)) 0 (length T.fields)

unfoldable pub bad_method : Table → Option ℕ
bad_method T = lowest (λ i. not (good_method T i)) 0 (length T.methods)

-- The first test that fails: too many rows (41), a type row (42), a field (43), a method (44).
unfoldable pub checked_table : Table → Checked
checked_table T =
    cond (small T) (fault 42 (bad_row T) (fault 43 (bad_field T) (fault 44 (bad_method T) Good))) (Refused 41 0)

-- The shape (40) before all else.
unfoldable pub checked : List ℕ → Checked
checked s = cond (shaped s) (checked_table (table_of s)) (Refused 40 0)

-- The file passes its check: what the accessors ask.
abbrev pub IsGood : List ℕ → Type 0
IsGood s = checked s ≡ Good
