-- The answer of each branch of the code.
use mathlib.Core.Path.{◌≡◌, refl, ap, ◌∙◌}
use mathlib.Core.Bool.{Bool, true, false, not, ◌||◌}
use mathlib.Core.List.{List}
use mathlib.Core.Logic.{⊎_elim}
use Prim.Native.Nat.{ℕ, ◌+◌, ◌≤◌, ◌<◌}
use native.Mathlib.Omega.{arith}
use borrow.Author.Tests.{eq-eqb, ne_eqb, leb-true, lt-ltb, le-ltb, eqb-true, eqb-false, ltb-true, ltb-false, not-true, not-false}
use lib.Dec.{ltb, eqb}
use lib.ListN.{length, get_or}
use Rattle.buffer.specs.Span.{span, inside}
use Rattle.wire.specs.Little.{little}
use Rattle.utf8.specs.Utf8.{utf8}
use Rattle.schema.specs.Table.{Table, Shape, unknown, scalar, text, array, map, struct, row_at, shape, width}
use Rattle.schema.specs.Good.{GoodSchema}
use Rattle.schema.proofs.Bools.{or_cases, or-false}
use Rattle.schema.proofs.Shapes.{shape-scalar, shape-text, kind_of, Within, within, kind-of}
use Rattle.value.specs.declared.Row.{Row}
use Rattle.value.proofs.Spans.{truth-byte}
use Rattle.value.proofs.Complete.{asks}
use Rattle.scalar.specs.Answer.{Is, Refused}
use Rattle.scalar.specs.declared.Scalar.TheVariants.{Span}
use Rattle.scalar.specs.Scalar.{value_of, text_at, by_shape, scalar_of, scalar_at}

module _ (kind place n : ℕ) (bytes : List ℕ) where
  pub wrong-length : (n ≡ width kind → ⊥) → scalar_at kind place n bytes ≡ Refused 50 0
  unfolding scalar_at
  wrong-length h = rw (ne_eqb n (width kind) h)

  module _ (w : n ≡ width kind) where
    pub outside : inside bytes place n ≡ false → scalar_at kind place n bytes ≡ Refused 51 0
    unfolding scalar_at
    outside h = rw (eq-eqb n (width kind) w, h)

    module _ (h : inside bytes place n ≡ true) where
      truth : kind ≡ 1 → little (span bytes place n) ≡ get_or bytes place 0
      truth e = truth-byte bytes kind place n w (leb-true (place + n) (length bytes) h) e

      pub no_truth : kind ≡ 1 → 1 < get_or bytes place 0 → scalar_at kind place n bytes ≡ Refused 22 place
      unfolding scalar_at
      no_truth e b = rw (eq-eqb n (width kind) w, h, eq-eqb kind 1 e, le-ltb (little (span bytes place n)) 2 (rw (truth e) b))

      pub number-told : (kind ≡ 1 → little (span bytes place n) < 2) → scalar_at kind place n bytes ≡ Is (value_of kind (span bytes place n))
      unfolding scalar_at
      number-told b =
          let t = asks 1 kind (ltb (little (span bytes place n)) 2) (λ e. lt-ltb (little (span bytes place n)) 2 (b e)) in
          rw (eq-eqb n (width kind) w, h, t)

      pub number_is : (kind ≡ 1 → get_or bytes place 0 ≤ 1) → scalar_at kind place n bytes ≡ Is (value_of kind (span bytes place (width kind)))
      number_is b = number-told (λ e. rw (truth e) (omega (arith, b e))) ∙ ap (λ (k : ℕ). Is (value_of kind (span bytes place k))) w

  pub text-outside : inside bytes place n ≡ false → text_at kind place n bytes ≡ Refused 51 0
  unfolding text_at
  text-outside h = rw h

  module _ (h : inside bytes place n ≡ true) where
    pub no-utf8 : kind ≡ 12 → utf8 (span bytes place n) ≡ false → text_at kind place n bytes ≡ Refused 23 place
    unfolding text_at
    no-utf8 e u = rw (h, eq-eqb kind 12 e, u)

    pub text-is : (kind ≡ 12 → utf8 (span bytes place n) ≡ true) → text_at kind place n bytes ≡ Is (Span place n)
    unfolding text_at
    text-is u = rw (h, asks 12 kind (utf8 (span bytes place n)) u)

-- ---- a row

module _ (T : Table) (g : GoodSchema T) (r : Row) (bytes : List ℕ) where
  -- A count is refused whatever the type.
  counted : (s : Shape) → eqb r.count 0 ≡ false → by_shape s r bytes ≡ Refused 50 0
  counted (scalar kind) e = rw e
  counted (text kind) e = rw e
  counted unknown e = refl
  counted (array _) e = refl
  counted (map _ _) e = refl
  counted (struct _) e = refl

  -- And so is a kind past 13 or none.
  no-leaf : (s : Shape) → Within (length T.types) (shape T) s → (1 ≤ kind_of s → 13 < kind_of s) → by_shape s r bytes ≡ Refused 50 0
  no-leaf (scalar kind) w h = absurd (omega (arith, h w.0))
  no-leaf (text kind) w h = absurd (omega (arith, h (omega arith)))
  no-leaf unknown w h = refl
  no-leaf (array _) w h = refl
  no-leaf (map _ _) w h = refl
  no-leaf (struct _) w h = refl

  module _ (kind : ℕ) (k : (row_at T r.ty).kind ≡ kind) where
    -- The code's test of kind and count.
    abbrev unfit : Bool
    unfit = eqb kind 0 || (ltb 13 kind || not (eqb r.count 0))

    by_kind : (1 ≤ kind → 13 < kind) → scalar_of T r bytes ≡ Refused 50 0
    unfolding scalar_of
    by_kind h = no-leaf (shape T r.ty) (within T g r.ty) (rw (kind-of T g r.ty, k) h)

    pub row-refused : unfit ≡ true → scalar_of T r bytes ≡ Refused 50 0
    unfolding scalar_of
    row-refused e =
        ⊎_elim
        (λ z. by_kind (λ h. absurd (omega (arith, eqb-true kind 0 z))))
        (λ f. ⊎_elim
        (λ l. by_kind (λ h. ltb-true 13 kind l))
        (λ l. counted (shape T r.ty) (not-true (eqb r.count 0) l))
        (or_cases (ltb 13 kind) (not (eqb r.count 0)) f))
        (or_cases (eqb kind 0) (ltb 13 kind || not (eqb r.count 0)) e)

    pub row-passed : unfit ≡ false → (0 < kind) × (kind < 14) × (r.count ≡ 0)
    row-passed e =
        let z = or-false (eqb kind 0) (ltb 13 kind || not (eqb r.count 0)) e in
        let f = or-false (ltb 13 kind) (not (eqb r.count 0)) z.1 in
        (omega (arith, eqb-false kind 0 z.0), omega (arith, ltb-false 13 kind f.0), eqb-true r.count 0 (not-false (eqb r.count 0) f.1))

    pub number-row : 0 < kind → kind < 12 → r.count ≡ 0 → scalar_of T r bytes ≡ scalar_at kind r.place r.length bytes
    unfolding scalar_of
    number-row p h e = rw (shape-scalar T r.ty (rw k p) (rw k (omega arith)), k, eq-eqb r.count 0 e)

    pub text-row : 12 ≤ kind → kind < 14 → r.count ≡ 0 → scalar_of T r bytes ≡ text_at kind r.place r.length bytes
    unfolding scalar_of
    text-row p h e = rw (shape-text T r.ty (rw k p) (rw k (omega arith)), k, eq-eqb r.count 0 e)
