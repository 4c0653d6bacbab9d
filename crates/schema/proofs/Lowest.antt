-- The lowest number that passes a test: what it means that there is one or none.
use Rattle.std.specs.Prelude.{None, Option, Some}
use mathlib.Core.Path.{◌≡◌, refl, sym, ap, ◌∙◌}
use mathlib.Core.Logic.{⊎_elim, ◌↔◌}
use mathlib.Core.Bool.{Bool, true, false, not, cond}
use Prim.Native.Nat.{ℕ, zero, suc, ◌+◌, ◌≤◌, ◌<◌, suc-le-suc}
use native.Mathlib.Nat.{not-suc-le-zero, le_of_suc-le-suc, zero-lt-suc, add-zero, add-suc, suc-add, zero-add}
use native.Mathlib.Omega.{arith}
use lib.Dec.{ltb, eqb}
use borrow.Author.Tests.{eqb-true, eqb-false, ltb-true, ltb-false, not-true, not-false}
use Rattle.wire.proofs.Cases.{differ}
use Rattle.schema.specs.Check.{lowest, is_missing}
use Rattle.schema.specs.Faults.{First}
use Rattle.schema.specs.Extend.{every}
use Rattle.schema.proofs.Bools.{cases, clash, is_false}

pub missing-is : (f : Option ℕ) → is_missing f ≡ true → f ≡ None
missing-is (Some i) e = clash false e refl
missing-is None e = refl

pub at-missing : (i : ℕ) → Some i ≡ None → ⊥
at-missing i e = differ cc

-- ---- none, and none passes

module _ (p : ℕ → Bool) where
  one_more : (i n : ℕ) (b : Bool) → p i ≡ b → cond b (Some i) (lowest p (suc i) n) ≡ None
      → (lowest p (suc i) n ≡ None → (k : ℕ) → k < n → p (suc i + k) ≡ false) → (k : ℕ) → k < suc n → p (i + k) ≡ false
  one_more i n true t e f k h = absurd (at-missing i e)
  one_more i n false t e f zero h = rw (add-zero i) t
  one_more i n false t e f (suc k) h = rw (add-suc i k) (rw (suc-add i k) at (f e k (le_of_suc-le-suc h)))

  found-more : (i n k : ℕ) (b : Bool) → p i ≡ b → cond b (Some i) (lowest p (suc i) n) ≡ Some k
      → (lowest p (suc i) n ≡ Some k → (suc i ≤ k) × (k < suc i + n) × (p k ≡ true)) → (i ≤ k) × (k < i + suc n) × (p k ≡ true)
  found-more i n k true t e f =
      let q : i ≡ k = cc in
      (omega arith, omega arith, ap p (sym q) ∙ t)
  found-more i n k false t e f =
      let r = f e in
      (omega arith, omega arith, r.2)

  pub none_passes : (i n : ℕ) → lowest p i n ≡ None → (k : ℕ) → k < n → p (i + k) ≡ false
  unfolding lowest
  none_passes i zero e k h = absurd (not-suc-le-zero h)
  none_passes i (suc n) e k h = one_more i n (p i) refl e (none_passes (suc i) n) k h

  pub passes_none : (i n : ℕ) → ((k : ℕ) → k < n → p (i + k) ≡ false) → lowest p i n ≡ None
  unfolding lowest
  passes_none i zero f = refl
  passes_none i (suc n) f =
      let here : p i ≡ false = rw (add-zero i) at (f 0 (zero-lt-suc n)) in
      rw here (passes_none (suc i) n (λ k h. rw (suc-add i k) (rw (add-suc i k) at (f (suc k) (suc-le-suc h)))))

  -- from 0 on
  pub none_below : (n : ℕ) → lowest p 0 n ≡ None → (k : ℕ) → k < n → p k ≡ false
  none_below n e k h = rw (zero-add k) at (none_passes 0 n e k h)

  pub below_none : (n : ℕ) → ((k : ℕ) → k < n → p k ≡ false) → lowest p 0 n ≡ None
  below_none n f = passes_none 0 n (λ k h. rw (zero-add k) (f k h))

  -- what is found is within, and passes
  pub found-passes : (i n k : ℕ) → lowest p i n ≡ Some k → (i ≤ k) × (k < i + n) × (p k ≡ true)
  unfolding lowest
  found-passes i zero k e = absurd (at-missing k (sym e))
  found-passes i (suc n) k e = found-more i n k (p i) refl e (found-passes (suc i) n k)

  -- and none before it passes
  first_more : (i n k : ℕ) (b : Bool) → p i ≡ b → cond b (Some i) (lowest p (suc i) n) ≡ Some k
      → (lowest p (suc i) n ≡ Some k → (j : ℕ) → suc i ≤ j → j < k → p j ≡ false) → (j : ℕ) → i ≤ j → j < k → p j ≡ false
  first_more i n k true t e f j h l = let q : i ≡ k = cc in absurd (omega arith)
  first_more i n k false t e f j h l =
      ⊎_elim (λ z. let q = eqb-true i j z in ap p (sym q) ∙ t) (λ z. let q = eqb-false i j z in f e j (omega arith) l) (cases (eqb i j))

  found_first : (i n k : ℕ) → lowest p i n ≡ Some k → (j : ℕ) → i ≤ j → j < k → p j ≡ false
  unfolding lowest
  found_first i zero k e j h l = absurd (at-missing k (sym e))
  found_first i (suc n) k e j h l = first_more i n k (p i) refl e (found_first (suc i) n k) j h l

  -- the first that passes is what is found
  pub first_found : (n k : ℕ) → k < n → ((j : ℕ) → j < k → p j ≡ false) → p k ≡ true → lowest p 0 n ≡ Some k
  first_found n k h f t = go (lowest p 0 n) refl
    where
      go : (r : Option ℕ) → lowest p 0 n ≡ r → lowest p 0 n ≡ Some k
      go None e = clash (p k) t (none_below n e k h)
      go (Some m) e =
          let (_, _, passes) = found-passes 0 n m e in
          ⊎_elim (λ z. clash (p m) passes (f m (ltb-true m k z)))
          (λ z.
          let l = ltb-false m k z in
          ⊎_elim (λ y. clash (p k) t (found_first 0 n m e k (omega arith) (ltb-true k m y)))
          (λ y. let u = ltb-false k m y in let q : m ≡ k = omega arith in e ∙ ap Some q)
          (cases (ltb k m)))
          (cases (ltb m k))

-- ---- the first that is not good, by a relation that the test decides

module _ (good : ℕ → Bool) (Good : ℕ → Type 0) (is : (i : ℕ) → (good i ≡ true) ↔ Good i) (n : ℕ) where
  pub all-good : (lowest (λ i. not (good i)) 0 n ≡ None) ↔ ((i : ℕ) → i < n → Good i)
  all-good = (
    λ e i h. (is i).0 (not-false (good i) (none_below (λ i. not (good i)) n e i h)),
    λ f. below_none (λ i. not (good i)) n (λ i h. ap not ((is i).1 (f i h))),
  )

  pub first-fault : (q : ℕ) → (lowest (λ i. not (good i)) 0 n ≡ Some q) ↔ First Good n q
  first-fault q = (
    λ e.
        let (_, below, bad) = found-passes (λ i. not (good i)) 0 n q e in
        record {
          there = omega (arith, below);
          earlier = λ i h. (is i).0 (not-false (good i) (found_first (λ i. not (good i)) 0 n q e i (omega arith) h));
          fault = λ g. clash (good q) ((is q).1 g) (not-true (good q) bad);
        },
    λ f.
        first_found (λ i. not (good i)) n q f.there (λ j h. ap not ((is j).1 (f.earlier j h)))
        (ap not (is_false (good q) (λ e. f.fault ((is q).0 e)))),
  )

-- ---- all pass

pub every-all : (p : ℕ → Bool) (n : ℕ) → every p n ≡ true → (i : ℕ) → i < n → p i ≡ true
unfolding every
every-all p n e i h = not-false (p i) (none_below (λ j. not (p j)) n (missing-is _ e) i h)

pub all-every : (p : ℕ → Bool) (n : ℕ) → ((i : ℕ) → i < n → p i ≡ true) → every p n ≡ true
unfolding every
all-every p n f = ap is_missing (below_none (λ j. not (p j)) n (λ i h. ap not (f i h)))
