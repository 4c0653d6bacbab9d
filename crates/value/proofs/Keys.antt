-- The test of keys one after the other, against the keys before, says that no two of them are equal.
use mathlib.Core.Path.{◌≡◌, refl, sym, ap, ◌∙◌}
use mathlib.Core.List.{List, [], ◌∷◌}
use mathlib.Core.Bool.{Bool, true, false, ◌&&◌, and-eq-true_iff, false≢true}
use Prim.Native.Nat.{ℕ, zero, suc, ◌<◌}
use native.Mathlib.Omega.{arith}
use lib.Dec.{eqb}
use lib.ListN.{length, get_or}
use borrow.Author.Tests.{eqb-true, eq-eqb}
use Rattle.schema.proofs.Bools.{or-false}
use Rattle.value.specs.Value.{Values, none, some, content}
use Rattle.value.specs.Read.{Item, same, among, with_key}
use Rattle.value.specs.Spell.{keys_of, Distinct}

-- Each key of a plan is not among those before it.
abbrev pub Fresh : List (List ℕ) → List Item → Values → Type 0
Fresh keys [] vs = Unit {0}
Fresh keys (i ∷ is) none = Unit {0}
Fresh keys (i ∷ is) (some v vs) = (i.key && among (content v) keys ≡ false) × Fresh (with_key i.key (content v) keys) is vs

pub same_refl : (x : List ℕ) → same x x ≡ true
same_refl [] = refl
same_refl (a ∷ x) = rw (eq-eqb a a refl, same_refl x)

pub same-eq : (x y : List ℕ) → same x y ≡ true → x ≡ y
same-eq [] [] e = refl
same-eq [] (b ∷ y) e = absurd (false≢true e)
same-eq (a ∷ x) [] e = absurd (false≢true e)
same-eq (a ∷ x) (b ∷ y) e =
    let w = (and-eq-true_iff (eqb a b) (same x y)).0 e in
    cc (eqb-true a b w.0, same-eq x y w.1)

pub same_not : (x y : List ℕ) → (x ≡ y → ⊥) → same x y ≡ false
same_not x y h = go (same x y) refl
  where
    go : (t : Bool) → same x y ≡ t → t ≡ false
    go true e = absurd (h (same-eq x y e))
    go false e = refl

-- Contents of different lengths are not the same.
pub lengths_differ : (x y : List ℕ) → (length x ≡ length y → ⊥) → same x y ≡ false
lengths_differ x y h = same_not x y (λ e. h (ap length e))

-- The keys to come are not among those before, and no two of them are equal.
abbrev Distinct₂ : List (List ℕ) → List (List ℕ) → Type 0
Distinct₂ keys ks = ((j : ℕ) → j < length ks → among (get_or ks j []) keys ≡ false) × Distinct ks

distinct_more : (keys : List (List ℕ)) (x : List ℕ) (ks : List (List ℕ)) → among x keys ≡ false → Distinct₂ (x ∷ keys) ks → Distinct₂ keys (x ∷ ks)
distinct_more keys x ks e (f, a) = (before, distinct)
  where
    before : (j : ℕ) → j < suc (length ks) → among (get_or (x ∷ ks) j []) keys ≡ false
    before zero h = e
    before (suc j) h = (or-false (same (get_or ks j []) x) _ (f j (omega arith))).1

    distinct : Distinct (x ∷ ks)
    distinct i zero h l k = omega arith
    distinct zero (suc j) h l k =
        let z : same (get_or ks j []) x ≡ true = rw (← k) (same_refl x) in
        false≢true (sym (or-false (same (get_or ks j []) x) _ (f j (omega arith))).0 ∙ z)
    distinct (suc i) (suc j) h l k = a i j (omega arith) (omega arith) k

distinct-less : (keys : List (List ℕ)) (x : List ℕ) (ks : List (List ℕ)) → Distinct₂ keys (x ∷ ks) → (among x keys ≡ false) × Distinct₂ (x ∷ keys) ks
distinct-less keys x ks (f, a) =
    (f 0 (omega arith), (λ j h. rw (same_not (get_or ks j []) x (λ e. a 0 (suc j) (omega arith) (omega arith) (sym e))) (f (suc j) (omega arith)), λ i j h l k. a (suc i) (suc j) (omega arith) (omega arith) k))

fresh_distinct₂ : (keys : List (List ℕ)) (is : List Item) (vs : Values) → Fresh keys is vs → Distinct₂ keys (keys_of is vs)
fresh_distinct₂ keys [] vs f = (λ j h. absurd (omega arith), λ i j h l k. omega arith)
fresh_distinct₂ keys (i ∷ is) none f = (λ j h. absurd (omega arith), λ i j h l k. omega arith)
fresh_distinct₂ keys (i ∷ is) (some v vs) f = go i.key f.0 (fresh_distinct₂ (with_key i.key (content v) keys) is vs f.1)
  where
    go : (b : Bool) → b && among (content v) keys ≡ false → Distinct₂ (with_key b (content v) keys) (keys_of is vs) → Distinct₂ keys (with_key b (content v) (keys_of is vs))
    go true e a = distinct_more keys (content v) (keys_of is vs) e a
    go false e a = a

distinct_fresh₂ : (keys : List (List ℕ)) (is : List Item) (vs : Values) → Distinct₂ keys (keys_of is vs) → Fresh keys is vs
distinct_fresh₂ keys [] vs a = tt
distinct_fresh₂ keys (i ∷ is) none a = tt
distinct_fresh₂ keys (i ∷ is) (some v vs) a =
    let w = go i.key a in
    (w.0, distinct_fresh₂ (with_key i.key (content v) keys) is vs w.1)
  where
    go : (b : Bool) → Distinct₂ keys (with_key b (content v) (keys_of is vs)) → (b && among (content v) keys ≡ false) × Distinct₂ (with_key b (content v) keys) (keys_of is vs)
    go true a = distinct-less keys (content v) (keys_of is vs) a
    go false a = (refl, a)

pub fresh-distinct : (is : List Item) (vs : Values) → Fresh [] is vs → Distinct (keys_of is vs)
fresh-distinct is vs f = (fresh_distinct₂ [] is vs f).1

pub distinct-fresh : (is : List Item) (vs : Values) → Distinct (keys_of is vs) → Fresh [] is vs
distinct-fresh is vs a = distinct_fresh₂ [] is vs (λ j h. refl, a)
