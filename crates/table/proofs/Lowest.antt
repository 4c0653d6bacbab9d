-- What searches among the numbers below n have found, by the definitions of the table's check.
use Rattle.std.proofs.Common.{◌≡◌, ℕ, ◌+◌, ◌<◌, ◌≤◌, Bool, true, false, not, ltb, sym, ap, arith, None, Some, Option, lt_trans, ⊎_elim, ltb-true, ltb-false}
use Rattle.schema.specs.Check.{lowest}
use Rattle.schema.specs.Extend.{every}
use Rattle.schema.proofs.Bools.{cases, clash, is_false}
use Rattle.schema.proofs.Lowest.{first_found, below_none, all-every, every-all}
use Rattle.table.specs.Search.{Lowest, Every}

module _ {tests : ℕ → Bool → Type 0} {n : ℕ} {r : Option ℕ} (found : Lowest tests n r) (p : ℕ → Bool) where
  -- what was found is the lowest number
  pub lowest-is : ((k : ℕ) (b : Bool) → k < n → tests k b → b ≡ p k) → r ≡ lowest p 0 n
  unfolding Lowest
  lowest-is is = go r found
    where
      go : (r : Option ℕ) → Lowest tests n r → r ≡ lowest p 0 n
      go (Some i) (below, passes, before) =
          sym (first_found p n i below (λ j h. sym (is j false (lt_trans h below) (before j h))) (sym (is i true below passes)))
      go None fails = sym (below_none p n (λ k h. sym (is k false h (fails k h))))

module _ {tests : ℕ → Bool → Type 0} {n : ℕ} {r : Bool} (found : Every tests n r) (p : ℕ → Bool) where
  -- and so is the answer whether all pass
  pub every-is : ((k : ℕ) (b : Bool) → k < n → tests k b → b ≡ p k) → r ≡ every p n
  unfolding Every
  every-is is = go r found
    where
      go : (r : Bool) → Every tests n r → r ≡ every p n
      go true passes = sym (all-every p n (λ k h. sym (is k true h (passes k h))))
      go false (k, below, fails) = sym (is_false (every p n) (λ e. clash (p k) (every-all p n e k below) (sym (is k false below fails))))

-- ---- where a loop has passed the numbers before

module _ (good : ℕ → Bool) (n i : ℕ) (passed : (k : ℕ) → k < i → good k ≡ true) where
  pub passed_next : good i ≡ true → (k : ℕ) → k < i + 1 → good k ≡ true
  passed_next g k h = ⊎_elim (λ z. passed k (ltb-true k i z)) (λ z. let l = ltb-false k i z in let q : k ≡ i = omega arith in rw q g) (cases (ltb k i))

  pub bad_here : i < n → good i ≡ false → Some i ≡ lowest (λ j. not (good j)) 0 n
  bad_here h b = sym (first_found (λ j. not (good j)) n i h (λ k l. ap not (passed k l)) (ap not b))

  pub bad_nowhere : n ≤ i → None ≡ lowest (λ j. not (good j)) 0 n
  bad_nowhere h = sym (below_none (λ j. not (good j)) n (λ k l. ap not (passed k (omega (arith, l)))))
