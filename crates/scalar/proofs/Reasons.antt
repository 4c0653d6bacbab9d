-- A row that is handed out is refused exactly for its reason.
use mathlib.Core.Path.{◌≡◌, refl, subst, ◌∙◌}
use mathlib.Core.Logic.{inl, inr, ◌↔◌}
use mathlib.Core.Bool.{Bool, true, false, not, ◌||◌}
use mathlib.Core.List.{List}
use Prim.Native.Nat.{ℕ, ◌+◌}
use native.Mathlib.Omega.{arith}
use lib.Dec.{ltb, eqb}
use lib.ListN.{length}
use borrow.Author.Tests.{leb-true, leb-false, ltb-false, eqb-true, eqb-false, le-leb, lt-leb, le-ltb, eq-eqb, ne_eqb}
use Rattle.buffer.specs.Span.{span, inside}
use Rattle.wire.specs.Little.{little}
use Rattle.utf8.specs.Utf8.{utf8}
use Rattle.utf8.proofs.Utf8s.{utf8-is}
use Rattle.parse.specs.Test.{test}
use Rattle.schema.specs.Checked.{Checked}
use Rattle.schema.specs.Checked as check
use Rattle.schema.specs.Table.{Shape, unknown, scalar, text, array, map, struct, shape, width}
use Rattle.schema.specs.File.{table_of}
use Rattle.schema.specs.Check.{checked, IsGood}
use Rattle.schema.proofs.Bools.{is_false}
use Rattle.schema.proofs.Faults.{refused-iff as schema-refused}
use Rattle.value.specs.declared.Row.{Row}
use Rattle.value.specs.SheetReasons.{RowFault, scalar-unfit, scalar-outside, no_bool, text-unfit, text-outside, no_string, many-pairs, bits, struct-unfit}
use Rattle.value.proofs.Reasons.{denied}
use Rattle.value.proofs.RowFaults.{bool-fault, string_fault}
use Rattle.scalar.specs.declared.Scalar.{Scalar}
use Rattle.scalar.specs.Answer.{Answer, Is, Refused}
use Rattle.scalar.specs.Scalar.{text_at, by_shape, scalar_of, after_table, scalar_by, scalar_at}
use Rattle.scalar.specs.Reasons.{Leaf, fault_place, Reason, file, no-leaf, faulty}

-- ---- a refusal has its reason

module _ (bytes : List ℕ) where
  -- What a row of a leaf's shape is refused for.
  data Told (s : Shape) (p n c : ℕ) : Answer → Type 0 where
    shown : {x : Scalar} → Told s p n c (Is x)
    refuses : {number : ℕ} → RowFault bytes s p n c number → Told s p n c (Refused number (fault_place number p))

  test-told : {s : Shape} {p n c : ℕ} (b : Bool) (number q : ℕ) (next : Answer) → (b ≡ false → Told s p n c (Refused number q)) → (b ≡ true → Told s p n c next)
      → Told s p n c (test b (Refused number q) next)
  test-told true number q next f g = g refl
  test-told false number q next f g = f refl

  number-told : (kind p n c : ℕ) → c ≡ 0 → Told (scalar kind) p n c (scalar_at kind p n bytes)
  unfolding scalar_at
  number-told kind p n c z =
      test-told (eqb n (width kind)) 50 0 _ (λ e. refuses (scalar-unfit (inl (eqb-false n (width kind) e)))) (λ e.
      let w = eqb-true n (width kind) e in
      test-told (inside bytes p n) 51 0 _ (λ e'. refuses (rw z (scalar-outside w (leb-false _ _ e')))) (λ e'.
      test-told (not (eqb kind 1) || ltb (little (span bytes p n)) 2) 22 p _
      (λ e''. let d = denied 1 kind _ e'' in refuses (rw z (bool-fault bytes kind p n d.0 w (leb-true _ _ e') (ltb-false _ 2 d.1)))) (λ _. shown)))

  text-told : (kind p n c : ℕ) → c ≡ 0 → Told (text kind) p n c (text_at kind p n bytes)
  unfolding text_at
  text-told kind p n c z =
      test-told (inside bytes p n) 51 0 _ (λ e'. refuses (rw z (text-outside (leb-false _ _ e')))) (λ e'.
      test-told (not (eqb kind 12) || utf8 (span bytes p n)) 23 p _
      (λ e''. let d = denied 12 kind _ e'' in refuses (rw z (string_fault bytes kind p n d.0 (leb-true _ _ e') d.1))) (λ _. shown))

  leaf-told : (s : Shape) → Leaf s → (r : Row) → Told s r.place r.length r.count (by_shape s r bytes)
  leaf-told (scalar kind) h r =
      test-told (eqb r.count 0) 50 0 _ (λ e. refuses (scalar-unfit (inr (eqb-false r.count 0 e)))) (λ e. number-told kind r.place r.length r.count (eqb-true r.count 0 e))
  leaf-told (text kind) h r =
      test-told (eqb r.count 0) 50 0 _ (λ e. refuses (text-unfit (eqb-false r.count 0 e))) (λ e. text-told kind r.place r.length r.count (eqb-true r.count 0 e))
  leaf-told unknown h r = absurd h
  leaf-told (array _) h r = absurd h
  leaf-told (map _ _) h r = absurd h
  leaf-told (struct _) h r = absurd h

  -- ---- a reason makes the entry refuse

  either : (b : Bool) (number q : ℕ) → test b (Refused number q) (Refused number q) ≡ Refused number q
  either true number q = refl
  either false number q = refl

  fault-refused : (s : Shape) (t p n c number : ℕ) → Leaf s → RowFault bytes s p n c number
      → by_shape s (record { ty = t; place = p; length = n; count = c }) bytes ≡ Refused number (fault_place number p)
  unfolding scalar_at text_at little
  fault-refused s t p n c number h (scalar-unfit {kind} (inl w)) = let wide : eqb n (width kind) ≡ false = ne_eqb n (width kind) w in rw wide (either (eqb c 0) 50 0)
  fault-refused s t p n c number h (scalar-unfit {kind} (inr z)) = let some : eqb c 0 ≡ false = ne_eqb c 0 z in rw some
  fault-refused s t p n c number h (scalar-outside {kind} w o) =
      let wide : eqb n (width kind) ≡ true = eq-eqb n (width kind) w in
      let out : inside bytes p n ≡ false = lt-leb (p + n) (length bytes) o in
      rw (wide, out)
  fault-refused s t p n c number h (no_bool b one (i, x) high) =
      let wide : eqb n 1 ≡ true = eq-eqb n 1 one in
      let within : inside bytes p n ≡ true = le-leb (p + n) (length bytes) i in
      let bad : ltb (little (span bytes p n)) 2 ≡ false = rw (← x) (le-ltb (b + 0) 2 (omega arith)) in
      rw (wide, within, bad)
  fault-refused s t p n c number h (text-unfit z) = let some : eqb c 0 ≡ false = ne_eqb c 0 z in rw some
  fault-refused s t p n c number h (text-outside o) = let out : inside bytes p n ≡ false = lt-leb (p + n) (length bytes) o in rw out
  fault-refused s t p n c number h (no_string x (i, x-is) bad) =
      let within : inside bytes p n ≡ true = le-leb (p + n) (length bytes) i in
      let no : utf8 (span bytes p n) ≡ false = rw (← x-is) (is_false (utf8 x) (λ e. bad ((utf8-is x).0 e))) in
      rw (within, no)
  fault-refused s t p n c number h (many-pairs m) = absurd h
  fault-refused s t p n c number h (bits f) = absurd h
  fault-refused s t p n c number h (struct-unfit m q f) = absurd h

  unleaf_refused : (s : Shape) (r : Row) → (Leaf s → ⊥) → by_shape s r bytes ≡ Refused 50 0
  unleaf_refused (scalar _) r h = absurd (h tt)
  unleaf_refused (text _) r h = absurd (h tt)
  unleaf_refused unknown r h = refl
  unleaf_refused (array _) r h = refl
  unleaf_refused (map _ _) r h = refl
  unleaf_refused (struct _) r h = refl

-- ---- by any schema file

module _ (schema : List ℕ) (r : Row) (bytes : List ℕ) where
  leaf-reason : (s : Shape) (n q : ℕ) → IsGood schema → shape (table_of schema) r.ty ≡ s → Leaf s → Told bytes s r.place r.length r.count (Refused n q)
      → Reason schema bytes r n q
  leaf-reason s n q good st h (refuses {number} f) = faulty {n = number} good (rw st h) (rw st f)

  other-reason : (s : Shape) (n q : ℕ) → IsGood schema → shape (table_of schema) r.ty ≡ s → (Leaf s → ⊥) → Refused 50 0 ≡ Refused n q → Reason schema bytes r n q
  other-reason s n q good st h e =
      let number : 50 ≡ n = cc in
      let place : 0 ≡ q = cc in
      subst (λ (k : ℕ). Reason schema bytes r k q) number (subst (λ (k : ℕ). Reason schema bytes r 50 k) place (no-leaf good (rw st h)))

  shape-reason : (s : Shape) (n q : ℕ) → IsGood schema → shape (table_of schema) r.ty ≡ s → by_shape s r bytes ≡ Refused n q → Reason schema bytes r n q
  shape-reason (scalar kind) n q good st e = leaf-reason (scalar kind) n q good st tt (subst (Told bytes (scalar kind) _ _ _) e (leaf-told bytes (scalar kind) tt r))
  shape-reason (text kind) n q good st e = leaf-reason (text kind) n q good st tt (subst (Told bytes (text kind) _ _ _) e (leaf-told bytes (text kind) tt r))
  shape-reason unknown n q good st e = other-reason unknown n q good st (λ h. h) e
  shape-reason (array x) n q good st e = other-reason (array x) n q good st (λ h. h) e
  shape-reason (map x y) n q good st e = other-reason (map x y) n q good st (λ h. h) e
  shape-reason (struct x) n q good st e = other-reason (struct x) n q good st (λ h. h) e

  reason : (n q : ℕ) → scalar_by schema r bytes ≡ Refused n q → Reason schema bytes r n q
  unfolding scalar_by scalar_of
  reason n q e = go (checked schema) refl e
    where
      go : (v : Checked) → checked schema ≡ v → after_table v (by_shape (shape (table_of schema) r.ty) r bytes) ≡ Refused n q → Reason schema bytes r n q
      go check.Good good e = shape-reason (shape (table_of schema) r.ty) n q good refl e
      go (check.Refused m p) bad e = file {n = n} {q = q} ((schema-refused schema n q).0 (bad ∙ cc))

  refuse : (n q : ℕ) → Reason schema bytes r n q → scalar_by schema r bytes ≡ Refused n q
  unfolding scalar_by scalar_of
  refuse n q (file bad) = rw ((schema-refused schema n q).1 bad)
  refuse n q (no-leaf good h) = rw good (unleaf_refused bytes (shape (table_of schema) r.ty) r h)
  refuse n q (faulty good h f) = rw good (fault-refused bytes (shape (table_of schema) r.ty) r.ty r.place r.length r.count n h f)

  -- A row is refused with a number at a place exactly for its reason.
  pub refused-iff : (n q : ℕ) → (scalar_by schema r bytes ≡ Refused n q) ↔ Reason schema bytes r n q
  refused-iff n q = (reason n q, refuse n q)
