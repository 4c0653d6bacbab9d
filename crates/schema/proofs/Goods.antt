-- A file passes its check exactly where it is good: each test is the sentence that it tests.
use Rattle.std.specs.Prelude.{None}
use mathlib.Core.Path.{◌≡◌, refl, sym, ap, ◌∙◌}
use mathlib.Core.Logic.{inl, inr, ⊎_elim, ◌↔◌}
use mathlib.Core.Bool.{Bool, true, false, cond, ◌&&◌, ◌||◌}
use mathlib.Core.List.{List}
use Prim.Native.Nat.{ℕ, ◌+◌, ◌-◌, ◌/◌, ◌%◌, ◌≤◌, ◌<◌}
use native.Mathlib.Omega.{arith}
use lib.ListN.{length, get_or-eq_default}
use lib.Dec.{leb, ltb, eqb}
use borrow.Author.Tests.{leb-true, ltb-true, eqb-true, leb-false, ltb-false, eqb-false, le-leb, lt-ltb, eq-eqb}
use Rattle.schema.specs.declared.TypeRow.{TypeRow}
use Rattle.schema.specs.declared.Field.{Field}
use Rattle.schema.specs.declared.Method.{Method}
use Rattle.schema.specs.Checked.{Good}
use Rattle.schema.specs.Table.{Table, row_at}
use Rattle.schema.specs.File.{cell, trailer_at, fields_at_of, methods_at_of, shaped, table_of}
use Rattle.schema.specs.Check.{no_row, key_kind, plain_row, array_row, map_row, struct_row, good_row, field_row_of, good_field, method_row, letter_fits}
use Rattle.schema.specs.Check.{formed, named, find_among, is_missing, good_method, small, bad_row, bad_field, bad_method, checked_table, IsGood}
use Rattle.schema.specs.Good.{HasShape, KeyKind, GoodRow, GoodField, Letter, GoodMethod, SameNames, GoodSchema, GoodFile}
use Rattle.schema.specs.Faults.{FewRows, RowOk, FieldOk, MethodOk, RowsOk, FieldsOk}
use Rattle.schema.proofs.Bools.{cases, clash, and_left, and_right, and_i, or_left, or_right, or_cases}
use Rattle.schema.proofs.Files.{tests_of}
use Rattle.schema.proofs.Checks.{faultless, no-faults, in_shape, good-shaped, good-checked}
use Rattle.schema.proofs.Lowest.{missing-is, none_below, below_none, all-good}

ruleset tests = (and_left, and_right, eqb-true, ltb-true, leb-true)

-- ---- the shape

module _ (s : List ℕ) where
  pub shape_of : shaped s ≡ true → HasShape s
  shape_of h =
      let t = tests_of s h in
      record {
        types = fields_at_of s / 12;
        fields = (methods_at_of s - fields_at_of s) / 8;
        methods = (trailer_at s - methods_at_of s) / 32;
        whole = omega arith;
        fields_place = omega arith;
        methods_place = omega arith;
        trailer_place = omega arith;
        number = t.number;
      }

  pub of-shape : HasShape s → shaped s ≡ true
  unfolding shaped
  of-shape h =
      and_i _ _ (le-leb 16 (length s) (omega arith))
      (and_i _ _ (le-leb (fields_at_of s) (methods_at_of s) (omega arith))
      (and_i _ _ (le-leb (methods_at_of s) (trailer_at s) (omega arith))
      (and_i _ _ (eq-eqb (cell s (trailer_at s + 12)) 1 h.number)
      (and_i _ _ (eq-eqb (cell s (trailer_at s + 8)) (trailer_at s) (omega arith))
      (and_i _ _ (eq-eqb (fields_at_of s % 12) 0 (omega arith))
      (and_i _ _ (eq-eqb ((methods_at_of s - fields_at_of s) % 8) 0 (omega arith))
      (eq-eqb ((trailer_at s - methods_at_of s) % 32) 0 (omega arith))))))))

-- ---- a type row

pub key-kind : (k : ℕ) → key_kind k ≡ true → KeyKind k
key-kind k e =
    ⊎_elim
    (λ h. let a : 1 ≤ k = search tests in let b : k ≤ 9 = search tests in inl (a, b))
    (λ h. ⊎_elim (λ x. inr (inl (eqb-true k 12 x))) (λ x. inr (inr (eqb-true k 13 x))) (or_cases (eqb k 12) (eqb k 13) h))
    (or_cases (leb 1 k && leb k 9) (eqb k 12 || eqb k 13) e)

kind-key : (k : ℕ) → KeyKind k → key_kind k ≡ true
kind-key k =
    ⊎_elim
    (λ h. or_left _ _ (and_i _ _ (le-leb 1 k h.0) (le-leb k 9 h.1)))
    (λ h. or_right (leb 1 k && leb k 9) _ (⊎_elim (λ x. or_left _ _ (eq-eqb k 12 x)) (λ x. or_right (eqb k 12) _ (eq-eqb k 13 x)) h))

-- The five ways of a kind.
pub data Kinds (k : ℕ) : Type 0 where
  scalars : 1 ≤ k → k ≤ 11 → Kinds k
  texts : 12 ≤ k → k ≤ 13 → Kinds k
  arrays : k ≡ 14 → Kinds k
  maps : k ≡ 15 → Kinds k
  structs : k ≡ 16 → Kinds k

pub kinds : (k : ℕ) → 1 ≤ k → k ≤ 16 → Kinds k
kinds k p q =
    ⊎_elim (λ e. scalars p (leb-true k 11 e))
    (λ e. ⊎_elim (λ f. let l = leb-false k 11 e in texts l (leb-true k 13 f))
    (λ f. let l = leb-false k 13 f in
    ⊎_elim (λ g. arrays (eqb-true k 14 g))
    (λ g. let n = eqb-false k 14 g in
    ⊎_elim (λ h. maps (eqb-true k 15 h)) (λ h. let m = eqb-false k 15 h in structs (omega arith)) (cases (eqb k 15)))
    (cases (eqb k 14)))
    (cases (leb k 13)))
    (cases (leb k 11))

-- ---- identifiers

pub names_of : (m n : Method) → named n.«package» n.service n.method m ≡ true → SameNames m n
names_of m n e = record { «package» = search tests; service = search tests; method = search tests }

pub of-names : (m n : Method) → SameNames m n → named n.«package» n.service n.method m ≡ true
of-names m n s =
    and_i _ _ (eq-eqb m.«package» _ s.«package») (and_i _ _ (eq-eqb m.service _ s.service) (eq-eqb m.method _ s.method))

-- a row of any kind but 0 is in the table
pub kind-within : (T : Table) (t : ℕ) → ((row_at T t).kind ≡ 0 → ⊥) → t < length T.types
kind-within T t f =
    ⊎_elim (λ e. ltb-true t _ e)
    (λ e.
    let d : row_at T t ≡ no_row = get_or-eq_default T.types no_row (ltb-false t _ e) in
    absurd (f (ap (λ (r : TypeRow). r.kind) d)))
    (cases (ltb t (length T.types)))

module _ (T : Table) where
  key-within : (t : ℕ) → KeyKind (row_at T t).kind → t < length T.types
  key-within t k =
      kind-within T t (λ z. ⊎_elim (λ h. omega arith) (λ h. ⊎_elim (λ x. omega arith) (λ x. omega arith) h) k)

  row_of : (r : TypeRow) → (plain_row r || (array_row (length T.types) r || (map_row (length T.types) (row_at T r.a).kind r || struct_row (length T.fields) r))) ≡ true
      → GoodRow T r
  row_of r e =
      ⊎_elim
      (λ h.
      let k : 1 ≤ r.kind = search tests in
      let l : r.kind ≤ 13 = search tests in
      let a : r.a ≡ 0 = search tests in
      let b : r.b ≡ 0 = search tests in
      record {
        kind = omega arith;
        plain = λ _. (a, b);
        array = λ q. absurd (omega arith);
        map = λ q. absurd (omega arith);
        struct = λ q. absurd (omega arith);
      })
      (λ f.
      ⊎_elim
      (λ h.
      let k : r.kind ≡ 14 = search tests in
      let a : r.a < length T.types = search tests in
      let b : r.b ≡ 0 = search tests in
      record {
        kind = omega arith;
        plain = λ q. absurd (omega arith);
        array = λ q. (a, b);
        map = λ q. absurd (omega arith);
        struct = λ q. absurd (omega arith);
      })
      (λ g.
      ⊎_elim
      (λ h.
      let k : r.kind ≡ 15 = search tests in
      let key : key_kind (row_at T r.a).kind ≡ true = search tests in
      let b : r.b < length T.types = search tests in
      record {
        kind = omega arith;
        plain = λ q. absurd (omega arith);
        array = λ q. absurd (omega arith);
        map = λ q. (key-within r.a (key-kind _ key), key-kind _ key, b);
        struct = λ q. absurd (omega arith);
      })
      (λ h.
      let k : r.kind ≡ 16 = search tests in
      let one : 1 ≤ r.b = search tests in
      let most : r.b ≤ 64 = search tests in
      let room : r.a + r.b ≤ length T.fields = search tests in
      record {
        kind = omega arith;
        plain = λ q. absurd (omega arith);
        array = λ q. absurd (omega arith);
        map = λ q. absurd (omega arith);
        struct = λ q. (one, most, room);
      })
      (or_cases (map_row (length T.types) (row_at T r.a).kind r) (struct_row (length T.fields) r) g))
      (or_cases (array_row (length T.types) r) _ f))
      (or_cases (plain_row r) _ e)

  of_row : (r : TypeRow) → GoodRow T r
      → (plain_row r || (array_row (length T.types) r || (map_row (length T.types) (row_at T r.a).kind r || struct_row (length T.fields) r))) ≡ true
  of_row r g = go (kinds r.kind g.kind.0 g.kind.1)
    where
      plain : r.kind ≤ 13 → plain_row r ≡ true
      plain l =
          and_i _ _ (and_i _ _ (le-leb 1 r.kind g.kind.0) (le-leb r.kind 13 l))
          (and_i _ _ (eq-eqb r.a 0 (g.plain l).0) (eq-eqb r.b 0 (g.plain l).1))

      go : Kinds r.kind
          → (plain_row r || (array_row (length T.types) r || (map_row (length T.types) (row_at T r.a).kind r || struct_row (length T.fields) r))) ≡ true
      go (scalars p q) = or_left _ _ (plain (omega arith))
      go (texts p q) = or_left _ _ (plain q)
      go (arrays e) =
          or_right (plain_row r) _
          (or_left _ _ (and_i _ _ (eq-eqb r.kind 14 e) (and_i _ _ (lt-ltb r.a _ (g.array e).0) (eq-eqb r.b 0 (g.array e).1))))
      go (maps e) =
          or_right (plain_row r) _
          (or_right (array_row (length T.types) r) _
          (or_left _ _ (and_i _ _ (eq-eqb r.kind 15 e) (and_i _ _ (kind-key _ (g.map e).1) (lt-ltb r.b _ (g.map e).2)))))
      go (structs e) =
          or_right (plain_row r) _
          (or_right (array_row (length T.types) r) _
          (or_right (map_row (length T.types) (row_at T r.a).kind r) _
          (and_i _ _ (eq-eqb r.kind 16 e)
          (and_i _ _ (and_i _ _ (le-leb 1 r.b (g.struct e).0) (le-leb r.b 64 (g.struct e).1)) (le-leb (r.a + r.b) _ (g.struct e).2)))))

  -- ---- a field

  field-of : (f : Field) → (ltb f.ty (length T.types) && leb f.optional 1) ≡ true → GoodField T f
  field-of f e = record { type = search tests; optional = search tests }

  of_field : (f : Field) → GoodField T f → (ltb f.ty (length T.types) && leb f.optional 1) ≡ true
  of_field f g = and_i _ _ (lt-ltb f.ty _ g.type) (le-leb f.optional 1 g.optional)

  -- ---- a method

  letter-of : (n t : ℕ) → letter_fits T (n % 2) t ≡ true → Letter T (n % 2) t
  letter-of n t = go (eqb (n % 2) 1) refl
    where
      go : (b : Bool) → eqb (n % 2) 1 ≡ b → cond b (eqb (row_at T t).kind 16) (eqb t 4294967295) ≡ true → Letter T (n % 2) t
      go true y e =
          let one = eqb-true (n % 2) 1 y in
          record { yes = λ _. eqb-true (row_at T t).kind 16 e; no = λ z. absurd (omega arith) }
      go false y e =
          let other = eqb-false (n % 2) 1 y in
          record { yes = λ z. absurd (other z); no = λ _. eqb-true t 4294967295 e }

  of-letter : (n t : ℕ) → Letter T (n % 2) t → letter_fits T (n % 2) t ≡ true
  of-letter n t l = go (eqb (n % 2) 1) refl
    where
      go : (b : Bool) → eqb (n % 2) 1 ≡ b → cond b (eqb (row_at T t).kind 16) (eqb t 4294967295) ≡ true
      go true y = eq-eqb (row_at T t).kind 16 (l.yes (eqb-true (n % 2) 1 y))
      go false y =
          let other = eqb-false (n % 2) 1 y in
          let zero_bit : n % 2 ≡ 0 = omega arith in
          eq-eqb t 4294967295 (l.no zero_bit)

  method-of : (m : Method) → formed T m ≡ true → GoodMethod T m
  method-of m e =
      let e1 = and_right (leb m.form 15) _ e in
      let e2 = and_right (letter_fits T (m.form / 8 % 2) m.input) _ e1 in
      let e3 = and_right (letter_fits T (m.form / 4 % 2) m.output) _ e2 in
      record {
        form = leb-true m.form 15 (and_left _ _ e);
        input = letter-of (m.form / 8) m.input (and_left _ _ e1);
        output = letter-of (m.form / 4) m.output (and_left _ _ e2);
        input_stream_of = letter-of (m.form / 2) m.input_stream (and_left _ _ e3);
        output_stream_of = letter-of m.form m.output_stream (and_right (letter_fits T (m.form / 2 % 2) m.input_stream) _ e3);
      }

  of-method : (m : Method) → GoodMethod T m → formed T m ≡ true
  of-method m g =
      and_i _ _ (le-leb m.form 15 g.form)
      (and_i _ _ (of-letter (m.form / 8) m.input g.input)
      (and_i _ _ (of-letter (m.form / 4) m.output g.output)
      (and_i _ _ (of-letter (m.form / 2) m.input_stream g.input_stream_of) (of-letter m.form m.output_stream g.output_stream_of))))

  -- no earlier entry has the identifiers of entry j
  fresh : ℕ → Bool
  fresh j = is_missing (find_among T j (method_row T j).«package» (method_row T j).service (method_row T j).method)

  fresh-of : (i j : ℕ) → fresh j ≡ true → i < j → SameNames (method_row T i) (method_row T j) → ⊥
  unfolding fresh find_among
  fresh-of i j e h s = clash _ (of-names (method_row T i) (method_row T j) s) (none_below _ j (missing-is _ e) i h)

  of-fresh : (j : ℕ) → ((i : ℕ) → i < j → SameNames (method_row T i) (method_row T j) → ⊥) → fresh j ≡ true
  unfolding fresh find_among
  of-fresh j f =
      ap is_missing
      (below_none _ j (λ i h. ⊎_elim (λ e. absurd (f i h (names_of (method_row T i) (method_row T j) e))) (λ e. e) (cases (named (method_row T j).«package» (method_row T j).service (method_row T j).method (method_row T i)))))

  -- ---- each entry of the table

  pub row-iff : (t : ℕ) → (good_row T t ≡ true) ↔ RowOk T t
  unfolding good_row
  row-iff t = (row_of (row_at T t), of_row (row_at T t))

  pub field-iff : (i : ℕ) → (good_field T i ≡ true) ↔ FieldOk T i
  unfolding good_field
  field-iff i = (field-of (field_row_of T i), of_field (field_row_of T i))

  pub method-iff : (i : ℕ) → (good_method T i ≡ true) ↔ MethodOk T i
  unfolding good_method fresh
  method-iff i = (
    λ e. (method-of (method_row T i) (and_left _ _ e), λ j. fresh-of j i (and_right (formed T (method_row T i)) _ e)),
    λ (g, f). and_i _ _ (of-method (method_row T i) g) (of-fresh i f),
  )

  pub few-iff : (small T ≡ true) ↔ FewRows T
  unfolding small
  few-iff = (
    λ e. let a : length T.types ≤ 256 = search tests in let b : length T.fields ≤ 2048 = search tests in let c : length T.methods ≤ 256 = search tests in (a, b, c),
    λ (a, b, c). and_i _ _ (le-leb _ 256 a) (and_i _ _ (le-leb _ 2048 b) (le-leb _ 256 c)),
  )

  -- ---- the sections

  pub rows-iff : (bad_row T ≡ None) ↔ RowsOk T
  unfolding bad_row
  rows-iff = all-good (good_row T) (RowOk T) row-iff (length T.types)

  pub fields-iff : (bad_field T ≡ None) ↔ FieldsOk T
  unfolding bad_field
  fields-iff = all-good (good_field T) (FieldOk T) field-iff (length T.fields)

  pub methods-iff : (bad_method T ≡ None) ↔ ((i : ℕ) → i < length T.methods → MethodOk T i)
  unfolding bad_method
  methods-iff = all-good (good_method T) (MethodOk T) method-iff (length T.methods)

  -- ---- the whole table

  pub table-of : checked_table T ≡ Good → GoodSchema T
  table-of e =
      let f = faultless T e in
      let (types, fields, methods) = few-iff.0 f.few in
      let each = methods-iff.0 f.methods in
      record {
        few_types = types;
        few_fields = fields;
        few_methods = methods;
        rows = rows-iff.0 f.rows;
        fields = fields-iff.0 f.fields;
        methods = λ i h. (each i h).0;
        distinct = λ i j h k. (each j k).1 i h;
      }

  pub of-table : GoodSchema T → checked_table T ≡ Good
  of-table g =
      sym (no-faults T (few-iff.1 (g.few_types, g.few_fields, g.few_methods)) (rows-iff.1 g.rows) (fields-iff.1 g.fields)
      (methods-iff.1 (λ i h. (g.methods i h, λ j k. g.distinct j i k h))))

-- Number 0 comes exactly for good tables.
pub good-iff : (s : List ℕ) → IsGood s ↔ GoodFile s
good-iff s = (
  λ g. record { shape = shape_of s (good-shaped s g); table = table-of (table_of s) (good-checked s g) },
  λ g. sym (in_shape s (of-shape s g.shape)) ∙ of-table (table_of s) g.table,
)

pub good-table : (s : List ℕ) → IsGood s → GoodSchema (table_of s)
good-table s g = table-of (table_of s) (good-checked s g)
