-- Laws of the slots: what a search found, and the record at a slot after one is changed.
use Rattle.std.specs.Prelude.{None, Option, Some}
use mathlib.Core.Path.{◌≡◌, refl, ap, subst}
use mathlib.Core.Logic.{⊎_elim}
use mathlib.Core.Bool.{Bool, true, false, cond}
use mathlib.Core.List.{List, [], ◌∷◌}
use Prim.Native.Nat.{ℕ, zero, suc, ◌+◌, ◌<◌}
use native.Mathlib.Omega.{arith}
use lib.ListN.{length, set, get_or-eq_default}
use lib.Seq.{get_or-set_same, get_or-set_other}
use lib.Dec.{ltb}
use borrow.Author.Tests.{ltb-true, ltb-false}
use Rattle.wire.proofs.Cases.{differ}
use Rattle.calls.specs.declared.Call.{Call}
use Rattle.calls.specs.Record.{empty_call}
use Rattle.calls.specs.Slots.{slot, first_slot}
use Rattle.schema.proofs.Bools.{cases, clash}

-- ---- what a search found
pub missing_at : {A : Type 0} (i : ℕ) → None ≡ Some i → A
missing_at i e = differ cc

pub at-missing : {A : Type 0} (i : ℕ) → Some i ≡ None → A
at-missing i e = differ cc

pub at_at : (i j : ℕ) → Some i ≡ Some j → i ≡ j
at_at i j e = cc

module _ (p : Call → Bool) where
  -- counted from k: the place found is there, it passes, and none before it does
  record FirstAt (l : List Call) (k i : ℕ) : Type 0 where
    place : ℕ
    is : i ≡ k + place
    there : place < length l
    passes : p (slot l place) ≡ true
    before : (j : ℕ) → j < place → p (slot l j) ≡ false

  first-at : (l : List Call) (k i : ℕ) → first_slot p k l ≡ Some i → FirstAt l k i
  first-at [] k i e = missing_at i e
  first-at (y ∷ ys) k i e = go (p y) refl e (first-at ys (suc k) i)
    where
      go : (b : Bool) → p y ≡ b → cond b (Some k) (first_slot p (suc k) ys) ≡ Some i → (first_slot p (suc k) ys ≡ Some i → FirstAt ys (suc k) i) → FirstAt (y ∷ ys) k i
      go true q h ih =
          let n : k ≡ i = cc in
          record { place = 0; is = omega arith; there = omega arith; passes = q; before = λ j m. absurd (omega arith) }
      go false q h ih =
          let r = ih h in
          record {
            place = suc r.place;
            is = omega (arith, r.is);
            there = omega (arith, r.there);
            passes = r.passes;
            before = earlier r.place r.before;
          }
        where
          earlier : (n : ℕ) → ((j : ℕ) → j < n → p (slot ys j) ≡ false) → (j : ℕ) → j < suc n → p (slot (y ∷ ys) j) ≡ false
          earlier n f zero m = q
          earlier n f (suc j) m = f j (omega arith)

  module _ (l : List Call) (i : ℕ) (e : first_slot p 0 l ≡ Some i) where
    same_place : (first-at l 0 i e).place ≡ i
    same_place = let r = first-at l 0 i e in omega (arith, r.is)

    pub found_in : i < length l
    found_in = let r = first-at l 0 i e in omega (arith, r.there, r.is)

    pub found-passes : p (slot l i) ≡ true
    found-passes = subst (λ (j : ℕ). p (slot l j) ≡ true) same_place (first-at l 0 i e).passes

    pub found-lowest : (j : ℕ) → j < i → p (slot l j) ≡ false
    found-lowest j h = let r = first-at l 0 i e in r.before j (omega (arith, r.is))

  pub none_passes : (l : List Call) (k : ℕ) → first_slot p k l ≡ None → (j : ℕ) → j < length l → p (slot l j) ≡ false
  none_passes [] k e j h = absurd (omega arith)
  none_passes (y ∷ ys) k e j h = go (p y) refl e (none_passes ys (suc k)) j h
    where
      go : (b : Bool) → p y ≡ b → cond b (Some k) (first_slot p (suc k) ys) ≡ None →
          (first_slot p (suc k) ys ≡ None → (j : ℕ) → j < length ys → p (slot ys j) ≡ false) → (j : ℕ) → j < suc (length ys) → p (slot (y ∷ ys) j) ≡ false
      go true q h ih j m = at-missing k h
      go false q h ih zero m = q
      go false q h ih (suc j) m = ih h j (omega arith)

  -- the only record that passes is found
  pub only-found : (l : List Call) (i : ℕ) → i < length l → p (slot l i) ≡ true → ((j : ℕ) → p (slot l j) ≡ true → j ≡ i) → first_slot p 0 l ≡ Some i
  only-found l i h t u = go (first_slot p 0 l) refl
    where
      go : (f : Option ℕ) → first_slot p 0 l ≡ f → f ≡ Some i
      go None e = clash (p (slot l i)) t (none_passes l 0 e i h)
      go (Some j) e = ap Some (u j (found-passes l j e))

  pub none_found : (l : List Call) → ((j : ℕ) → p (slot l j) ≡ false) → first_slot p 0 l ≡ None
  none_found l u = go (first_slot p 0 l) refl
    where
      go : (f : Option ℕ) → first_slot p 0 l ≡ f → f ≡ None
      go None e = refl
      go (Some j) e = clash (p (slot l j)) (found-passes l j e) (u j)

-- ---- a slot after one is changed
module _ (l : List Call) (i : ℕ) (x : Call) where
  pub slot_same : i < length l → slot (set l i x) i ≡ x
  slot_same h = get_or-set_same l i x empty_call h

  pub slot-other : (j : ℕ) → (j ≡ i → ⊥) → slot (set l i x) j ≡ slot l j
  slot-other j n = get_or-set_other l i j x empty_call n

-- a slot with a record that is not the empty one is one of the table's
pub past_end : (l : List Call) (i : ℕ) → (slot l i).«open» ≡ true → i < length l
past_end l i h =
    ⊎_elim (ltb-true i (length l))
    (λ q. clash false (subst (λ (c : Call). c.«open» ≡ true) (get_or-eq_default l empty_call (ltb-false i (length l) q)) h) refl)
    (cases (ltb i (length l)))
