-- The test of extension decides the relation, for good tables; and what a table that extends another gives for each of its type numbers.
use Rattle.std.specs.Prelude.{None, Option, Some}
use mathlib.Core.Path.{◌≡◌, refl, sym, ap, ◌∙◌}
use mathlib.Core.Logic.{⊎_elim, ◌↔◌}
use mathlib.Core.Bool.{Bool, true, false, cond, ◌&&◌}
use mathlib.Core.List.{List, [], ◌++◌, append-nil}
use Prim.Native.Nat.{ℕ, ◌+◌, ◌-◌, ◌≤◌, ◌<◌}
use native.Mathlib.Omega.{arith}
use lib.ListN.{length, get_or, take, drop, length-append, length-drop, take-append-drop, get_or-append}
use lib.Seq.{ext_get_or, get_or-take, get_or-drop, get_or-append-add, length-take-le}
use lib.Dec.{eqb, ltb}
use borrow.Author.Tests.{leb-true, ltb-true, ltb-false, eqb-true, eqb-false, le-leb, eq-eqb, ne_eqb}
use Rattle.wire.proofs.Cases.{differ}
use Rattle.schema.specs.declared.TypeRow.{TypeRow}
use Rattle.schema.specs.declared.Field.{Field}
use Rattle.schema.specs.declared.Method.{Method}
use Rattle.schema.specs.Extended.{Yes, No}
use Rattle.schema.specs.Table.{Table, scalar, text, array, map, struct, row_at, fields_of, shape, bitmap_bytes}
use Rattle.schema.specs.File.{table_of}
use Rattle.schema.specs.Check.{no_field, method_row, find_method, IsGood}
use Rattle.schema.specs.Good.{GoodRow, GoodSchema}
use Rattle.schema.specs.Extend.{KeepsFields, KeepsRow, Widens, Extends, Grows, SameBytes, same, gains, every}
use Rattle.schema.specs.Extend.{same_field, field_kept, struct_kept, row_kept_of, rows_kept, same_method, same_at, method_kept, methods_kept, widened, bitmap_kept, bitmaps_kept, extended, extension}
use Rattle.schema.proofs.Bools.{cases, clash, and_left, and_right, and_i}
use Rattle.schema.proofs.Lowest.{every-all, all-every}
use Rattle.schema.proofs.Goods.{Kinds, scalars, texts, arrays, maps, structs, kinds, good-table}
use Rattle.schema.proofs.Shapes.{shape-scalar, shape-text, shape-array, shape-map, shape-struct, fields-length, fields_at, kind_of, kind-of}
use Rattle.schema.proofs.Methods.{found-named, finds-own}
use Rattle.schema.proofs.Extensions.{kept-old, kept_new}

ruleset tests = (and_left, and_right, eqb-true, ltb-true, leb-true)

-- ---- equal entries

same-field : (f g : Field) → same_field f g ≡ true → f ≡ g
same-field f g e =
    let p : f.ty ≡ g.ty = search tests in
    let q : f.optional ≡ g.optional = search tests in
    λ i. record { ty = p i; optional = q i }

field-same : (f g : Field) → f ≡ g → same_field f g ≡ true
field-same f g e = and_i _ _ (eq-eqb _ _ (ap (λ (x : Field). x.ty) e)) (eq-eqb _ _ (ap (λ (x : Field). x.optional) e))

same-method : (m n : Method) → same_method m n ≡ true → m ≡ n
same-method m n e =
    let p : m.«package» ≡ n.«package» = search tests in
    let s : m.service ≡ n.service = search tests in
    let t : m.method ≡ n.method = search tests in
    let f : m.form ≡ n.form = search tests in
    let a : m.input ≡ n.input = search tests in
    let b : m.output ≡ n.output = search tests in
    let c : m.input_stream ≡ n.input_stream = search tests in
    let d : m.output_stream ≡ n.output_stream = search tests in
    λ i. record { «package» = p i; service = s i; method = t i; form = f i; input = a i; output = b i; input_stream = c i; output_stream = d i }

eqb_same : (n : ℕ) → eqb n n ≡ true
eqb_same n = eq-eqb n n refl

method-same : (m : Method) → same_method m m ≡ true
method-same m = simp eqb_same

-- ---- a struct

-- a list that agrees with a shorter one goes on from it
goes_on : (fs fs' : List Field) → length fs ≤ length fs' → ((i : ℕ) → i < length fs → get_or fs' i no_field ≡ get_or fs i no_field)
    → fs' ≡ fs ++ drop (length fs) fs'
goes_on fs fs' le f =
    let front : length (take (length fs) fs') ≡ length fs = length-take-le (length fs) fs' le in
    let same : take (length fs) fs' ≡ fs =
    ext_get_or no_field (take (length fs) fs') fs front
    (λ i h.
    let k : i < length fs = omega arith in
    get_or-take (length fs) fs' i no_field k ∙ f i k) in
    sym (take-append-drop (length fs) fs') ∙ ap (λ (l : List Field). l ++ drop (length fs) fs') same

module _ (old new : Table) (r q : TypeRow) (room : r.a + r.b ≤ length old.fields) (room' : q.a + q.b ≤ length new.fields) where
  kept-fields : struct_kept old new r q ≡ true → KeepsFields (fields_of old r) (fields_of new q)
  kept-fields e =
      let n = fields-length old r room in
      let n' = fields-length new q room' in
      let le : r.b ≤ q.b = search tests in
      let all : every (field_kept old new r q) q.b ≡ true = search tests in
      let each = every-all (field_kept old new r q) q.b all in
      record {
        gained = drop (length (fields_of old r)) (fields_of new q);
        kept =
            goes_on (fields_of old r) (fields_of new q) (omega arith)
            (λ i h.
            let k : i < r.b = omega arith in
            let k' : i < q.b = omega arith in
            fields_at new q room' i k'
            ∙ same-field _ _ (kept-old old new r q i _ refl _ refl k ∙ each i k')
            ∙ sym (fields_at old r room i k));
        optional =
            λ i h.
            let l : length (drop (length (fields_of old r)) (fields_of new q)) ≡ length (fields_of new q) - length (fields_of old r) = length-drop (length (fields_of old r)) (fields_of new q) in
            let k : length (fields_of old r) + i < q.b = omega arith in
            let k' : r.b ≤ length (fields_of old r) + i = omega arith in
            ap (λ (f : Field). f.optional) (get_or-drop (length (fields_of old r)) (fields_of new q) i no_field ∙ fields_at new q room' _ k)
            ∙ eqb-true _ 1 (kept_new old new r q (length (fields_of old r) + i) _ refl k' ∙ each _ k);
      }

  fields-kept : KeepsFields (fields_of old r) (fields_of new q) → struct_kept old new r q ≡ true
  fields-kept h =
      let n = fields-length old r room in
      let n' = fields-length new q room' in
      let l : length (fields_of new q) ≡ length (fields_of old r) + length h.gained = ap length h.kept ∙ length-append (fields_of old r) h.gained in
      and_i _ _ (le-leb r.b q.b (omega arith))
      (all-every _ q.b
      (λ i k.
      ⊎_elim
      (λ e.
      let m = ltb-true i r.b e in
      let m' : i < length (fields_of old r) = omega arith in
      sym (kept-old old new r q i _ refl _ refl m)
      ∙ field-same _ _
      (sym (fields_at new q room' i k)
      ∙ ap (λ (x : List Field). get_or x i no_field) h.kept
      ∙ get_or-append (fields_of old r) h.gained no_field i m'
      ∙ fields_at old r room i m))
      (λ e.
      let m = ltb-false i r.b e in
      let at_i : i ≡ length (fields_of old r) + (i - length (fields_of old r)) = omega arith in
      let m' : i - length (fields_of old r) < length h.gained = omega arith in
      sym (kept_new old new r q i _ refl m)
      ∙ eq-eqb _ 1
      (ap (λ (f : Field). f.optional)
      (sym (fields_at new q room' i k)
      ∙ ap (λ (x : List Field). get_or x i no_field) h.kept
      ∙ ap (λ (j : ℕ). get_or (fields_of old r ++ h.gained) j no_field) at_i
      ∙ get_or-append-add (fields_of old r) h.gained (i - length (fields_of old r)) no_field)
      ∙ h.optional _ m'))
      (cases (ltb i r.b))))

-- ---- a row, a method, a table

module _ (old new : Table) (g : GoodSchema old) (g' : GoodSchema new) where
  kept_row : (t : ℕ) → t < length old.types → t < length new.types → row_kept_of old new (row_at old t) (row_at new t) ≡ true → KeepsRow old new t
  unfolding row_kept_of
  kept_row t h h' e = go (eqb r.kind 16) refl (and_right (eqb q.kind r.kind) _ e)
    where
      r : TypeRow
      r = row_at old t

      q : TypeRow
      q = row_at new t

      k : q.kind ≡ r.kind
      k = eqb-true q.kind r.kind (and_left _ _ e)

      go : (b : Bool) → eqb r.kind 16 ≡ b → cond b (struct_kept old new r q) (eqb q.a r.a && eqb q.b r.b) ≡ true → KeepsRow old new t
      go true z f =
          let is = eqb-true r.kind 16 z in
          record {
            kind = k;
            element = λ x. absurd (omega arith);
            key = λ x. absurd (omega arith);
            value = λ x. absurd (omega arith);
            fields = λ x. kept-fields old new r q ((g.rows t h).struct is).2 ((g'.rows t h').struct (k ∙ is)).2 f;
          }
      go false z f =
          record {
            kind = k;
            element = λ x. search tests;
            key = λ x. search tests;
            value = λ x. search tests;
            fields = λ x. absurd (eqb-false r.kind 16 z x);
          }

  row_kept : (t : ℕ) → t < length old.types → t < length new.types → KeepsRow old new t → row_kept_of old new (row_at old t) (row_at new t) ≡ true
  unfolding row_kept_of
  row_kept t h h' x = and_i _ _ (eq-eqb q.kind r.kind x.kind) (go (kinds r.kind good.kind.0 good.kind.1))
    where
      r : TypeRow
      r = row_at old t

      q : TypeRow
      q = row_at new t

      good : GoodRow old r
      good = g.rows t h

      good' : GoodRow new q
      good' = g'.rows t h'

      other : (r.kind ≡ 16 → ⊥) → q.a ≡ r.a → q.b ≡ r.b → cond (eqb r.kind 16) (struct_kept old new r q) (eqb q.a r.a && eqb q.b r.b) ≡ true
      other n a b = rw (ne_eqb r.kind 16 n) (and_i _ _ (eq-eqb q.a _ a) (eq-eqb q.b _ b))

      plain : r.kind ≤ 13 → cond (eqb r.kind 16) (struct_kept old new r q) (eqb q.a r.a && eqb q.b r.b) ≡ true
      plain l =
          let l' : q.kind ≤ 13 = omega (arith, x.kind) in
          other (λ e. omega arith) ((good'.plain l').0 ∙ sym (good.plain l).0) ((good'.plain l').1 ∙ sym (good.plain l).1)

      go : Kinds r.kind → cond (eqb r.kind 16) (struct_kept old new r q) (eqb q.a r.a && eqb q.b r.b) ≡ true
      go (scalars p l) = plain (omega arith)
      go (texts p l) = plain l
      go (arrays e) = other (λ f. omega arith) (x.element e) ((good'.array (x.kind ∙ e)).1 ∙ sym (good.array e).1)
      go (maps e) = other (λ f. omega arith) (x.key e) (x.value e)
      go (structs e) = rw (eq-eqb r.kind 16 e) (fields-kept old new r q (good.struct e).2 (good'.struct (x.kind ∙ e)).2 (x.fields e))

  kept-method : (m : Method) → method_kept new m ≡ true → (j : ℕ) × (j < length new.methods) × (method_row new j ≡ m)
  unfolding method_kept
  kept-method m = go _ refl
    where
      go : (f : Option ℕ) → find_method new m.«package» m.service m.method ≡ f → same_at new m f ≡ true → (j : ℕ) × (j < length new.methods) × (method_row new j ≡ m)
      go (Some j) e s = (j, (found-named new _ _ _ j e).0, same-method (method_row new j) m s)
      go None e s = clash false s refl

  method-kept : (m : Method) (j : ℕ) → j < length new.methods → method_row new j ≡ m → method_kept new m ≡ true
  unfolding method_kept
  method-kept m j h e =
      let found : find_method new m.«package» m.service m.method ≡ Some j =
      sym (ap (λ (x : Method). find_method new x.«package» x.service x.method) e) ∙ finds-own new g' j h in
      ap (same_at new m) found ∙ ap (λ (x : Method). same_method x m) e ∙ method-same m

  -- The test says yes exactly where the new table extends the old one, but for the bitmaps.
  pub widens-iff : widened old new ≡ true ↔ Widens old new
  unfolding widened
  widens-iff = (
    λ e.
        let le : length old.types ≤ length new.types = search tests in
        let rows : rows_kept old new ≡ true = search tests in
        let methods : methods_kept old new ≡ true = search tests in
        record {
          types = le;
          rows = λ t h. kept_row t h (omega arith) (every-all _ _ rows t h);
          methods = λ i h. kept-method (method_row old i) (every-all _ _ methods i h);
        },
    λ x.
        let le = x.types in
        and_i _ _ (le-leb _ _ le)
        (and_i _ _ (all-every _ (length old.types) (λ t h. row_kept t h (omega arith) (x.rows t h)))
        (all-every _ (length old.methods) (λ i h. let w = x.methods i h in method-kept (method_row old i) w.0 w.1 w.2))),
  )

  bitmap-iff : (r q : TypeRow) → bitmap_kept r q ≡ true ↔ (r.kind ≡ 16 → bitmap_bytes q.b ≡ bitmap_bytes r.b)
  unfolding bitmap_kept
  bitmap-iff r q = (
    λ e k. eqb-true _ _ (rw (eq-eqb r.kind 16 k) at e),
    λ f. ⊎_elim (λ e. rw e (eq-eqb _ _ (f (eqb-true r.kind 16 e)))) (λ e. rw e) (cases (eqb r.kind 16)),
  )

  -- And here with the bitmaps.
  pub extends-iff : extended old new ≡ true ↔ Extends old new
  unfolding extended
  extends-iff = (
    λ e. record {
      widens = widens-iff.0 (and_left _ (bitmaps_kept old new) e);
      bitmaps = λ t h. (bitmap-iff (row_at old t) (row_at new t)).0 (every-all _ _ (and_right (widened old new) _ e) t h);
    },
    λ x. and_i _ _ (widens-iff.1 x.widens) (all-every _ (length old.types) (λ t h. (bitmap-iff (row_at old t) (row_at new t)).1 (x.bitmaps t h))),
  )

-- Every table extends itself.
pub widens_same : (T : Table) → Widens T T
widens_same T = record {
  types = omega arith;
  rows = λ t h. record {
    kind = refl;
    element = λ e. refl;
    key = λ e. refl;
    value = λ e. refl;
    fields = λ e. record { gained = []; kept = sym (append-nil (fields_of T (row_at T t))); optional = λ i l. absurd (omega arith) };
  };
  methods = λ i h. (i, h, refl);
}

-- ---- the entry

module _ (old new : List ℕ) (g : IsGood old) (g' : IsGood new) where
  yes-no : (b : Bool) → cond b Yes No ≡ Yes → b ≡ true
  yes-no true e = refl
  yes-no false e = differ cc

  no-yes : (b : Bool) → cond b Yes No ≡ No → b ≡ false
  no-yes true e = differ cc
  no-yes false e = refl

  decided : extension old new ≡ cond (extended (table_of old) (table_of new)) Yes No
  unfolding extension
  decided = rw (g, g')

  iff : extended (table_of old) (table_of new) ≡ true ↔ Extends (table_of old) (table_of new)
  iff = extends-iff (table_of old) (table_of new) (good-table old g) (good-table new g')

  -- For two good tables the answer is yes exactly where the new one extends the old one, and no exactly where it does not.
  pub yes_iff : extension old new ≡ Yes ↔ Extends (table_of old) (table_of new)
  yes_iff = (λ e. iff.0 (yes-no _ (sym decided ∙ e)), λ x. decided ∙ rw (iff.1 x))

  pub no_iff : extension old new ≡ No ↔ (Extends (table_of old) (table_of new) → ⊥)
  no_iff = (
    λ e x. clash _ (iff.1 x) (no-yes _ (sym decided ∙ e)),
    λ f. decided ∙ ⊎_elim (λ e. absurd (f (iff.0 e))) (λ e. rw e) (cases (extended (table_of old) (table_of new))),
  )

-- ---- what an extended table keeps

module _ (old new : Table) (g : GoodSchema old) (g' : GoodSchema new) (x : Widens old new) where
  -- each type number keeps its shape, or its struct gains optional fields
  pub grows : (t : ℕ) → t < length old.types → Grows (shape old t) (shape new t)
  grows t h = go (kinds (row_at old t).kind (g.rows t h).kind.0 (g.rows t h).kind.1)
    where
      k : (row_at new t).kind ≡ (row_at old t).kind
      k = (x.rows t h).kind

      keeps : shape new t ≡ shape old t → Grows (shape old t) (shape new t)
      keeps e = rw e (same (shape old t))

      go : Kinds (row_at old t).kind → Grows (shape old t) (shape new t)
      go (scalars p q) = keeps (shape-scalar new t (omega (arith, k)) (omega (arith, k)) ∙ ap scalar k ∙ sym (shape-scalar old t p q))
      go (texts p q) = keeps (shape-text new t (omega (arith, k)) (omega (arith, k)) ∙ ap text k ∙ sym (shape-text old t p q))
      go (arrays e) = keeps (shape-array new t (k ∙ e) ∙ ap array ((x.rows t h).element e) ∙ sym (shape-array old t e))
      go (maps e) =
          keeps (shape-map new t (k ∙ e) ∙ (λ i. map ((x.rows t h).key e i) ((x.rows t h).value e i)) ∙ sym (shape-map old t e))
      go (structs e) =
          let f = (x.rows t h).fields e in
          rw (shape-struct old t e, shape-struct new t (k ∙ e), f.kept)
          (gains (fields_of old (row_at old t)) f.gained f.optional)

  -- a method found in the old table is found in the new one, the same
  pub still-found : (p q r i : ℕ) → find_method old p q r ≡ Some i → (j : ℕ) × (find_method new p q r ≡ Some j) × (method_row new j ≡ method_row old i)
  still-found p q r i e =
      let f = found-named old p q r i e in
      let w = x.methods i f.0 in
      let a : (method_row old i).«package» ≡ p = eqb-true _ p (and_left _ _ f.1) in
      let rest = and_right (eqb (method_row old i).«package» p) _ f.1 in
      let b : (method_row old i).service ≡ q = eqb-true _ q (and_left _ _ rest) in
      let c : (method_row old i).method ≡ r = eqb-true _ r (and_right (eqb (method_row old i).service q) _ rest) in
      let own = finds-own new g' w.0 w.1 in
      let ids : find_method new (method_row new w.0).«package» (method_row new w.0).service (method_row new w.0).method ≡ find_method new p q r =
      ap (λ (m : Method). find_method new m.«package» m.service m.method) w.2 ∙ (λ i. find_method new (a i) (b i) (c i)) in
      (w.0, sym ids ∙ own, w.2)

-- a struct has as many fields as its row says
fields-counted : (T : Table) → GoodSchema T → (t : ℕ) → t < length T.types → (fs : List Field) → shape T t ≡ struct fs → ((row_at T t).kind ≡ 16) × (length fs ≡ (row_at T t).b)
fields-counted T g t h fs e =
    let k : (row_at T t).kind ≡ 16 = sym (kind-of T g t) ∙ ap kind_of e in
    let f : fs ≡ fields_of T (row_at T t) = cc (shape-struct T t k) in
    (k, ap length f ∙ fields-length T (row_at T t) ((g.rows t h).struct k).2)

-- and its bitmap keeps its bytes, where the table extends the other
pub same_bytes : (old new : Table) → GoodSchema old → GoodSchema new → Extends old new → (t : ℕ) → t < length old.types → SameBytes (shape old t) (shape new t)
same_bytes old new g g' x t h fs fs' e e' =
    let a = fields-counted old g t h fs e in
    let b = fields-counted new g' t (omega (arith, x.widens.types)) fs' e' in
    rw (a.1, b.1) (x.bitmaps t h a.0)
