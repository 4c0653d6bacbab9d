-- The loop that tests whether the numbers of a list differ, from its end on. A table of booleans says which flags the numbers passed have,
-- and a number whose flag is not among them is none of those passed.
use mathlib.Core.Path.{◌≡◌, refl, sym, ◌∙◌, ap, subst}
use mathlib.Core.Bool.{Bool, true, false, not, ◌&&◌, ◌||◌}
use mathlib.Core.List.{List, [], ◌∷◌}
use Prim.Native.Nat.{ℕ, zero, suc, ◌+◌, ◌-◌, ◌<◌, ◌≤◌}
use native.Mathlib.Omega.{arith}
use lib.ListN.{length, get_or, take, drop, set, length-set, length-drop, drop_of_length-le}
use lib.Seq.{take_all, drop-nil, drop-cons, get_or-set_same}
use lib.Dec.{eqb}
use borrow.Author.Tests.{eqb-true}
use Rattle.calls.specs.Slots.{contains, distinct}
use Rattle.connection.specs.Flags.{flag_of_number}
use Rattle.table.specs.Flags.{mixed}
use Rattle.schema.proofs.Bools.{clash}
use Rattle.table.proofs.Flags.{set-kept}
use Rattle.table.proofs.Products.{top_below}

pub flag_below : (b : Bool) (x : ℕ) → flag_of_number b x < 1024
unfolding flag_of_number mixed
flag_below true x = top_below 10 54 _
flag_below false x = top_below 10 54 _

abbrev bits : (mixing : Bool) → List Bool → ℕ → Bool
bits b seen x = get_or seen (flag_of_number b x) false

abbrev Seen : (mixing : Bool) → List Bool → List ℕ → Type 0
Seen b seen [] = Unit {0}
Seen b seen (x ∷ xs) = (bits b seen x ≡ true) × Seen b seen xs

seen-kept : (b : Bool) (seen : List Bool) (i : ℕ) (xs : List ℕ) → Seen b seen xs → Seen b (set seen i true) xs
seen-kept b seen i [] s = tt
seen-kept b seen i (x ∷ xs) s = (set-kept seen i (flag_of_number b x) s.0, seen-kept b seen i xs s.1)

-- looking through the list only where the flag is seen makes no difference
module _ (b : Bool) (seen : List Bool) (x : ℕ) where
  unseen : (xs : List ℕ) → Seen b seen xs → bits b seen x ≡ false → contains x xs ≡ false
  unseen [] s q = refl
  unseen (y ∷ ys) s q = go (eqb y x) refl (unseen ys s.1 q)
    where
      go : (c : Bool) → eqb y x ≡ c → contains x ys ≡ false → (c || contains x ys) ≡ false
      go true e ih = clash (bits b seen x) (subst (λ (n : ℕ). bits b seen n ≡ true) (eqb-true y x e) s.0) q
      go false e ih = ih

  looked : (xs : List ℕ) → Seen b seen xs → (bits b seen x && contains x xs) ≡ contains x xs
  looked xs s = go (bits b seen x) refl
    where
      go : (c : Bool) → bits b seen x ≡ c → (c && contains x xs) ≡ contains x xs
      go true e = refl
      go false e = sym (unseen xs s e)

drop_false : (l : List ℕ) (i : ℕ) → distinct (drop i l) ≡ false → distinct l ≡ false
drop_false [] i h = rw (drop-nil i) at h
drop_false (x ∷ xs) zero h = h
drop_false (x ∷ xs) (suc i) h = go (not (contains x xs)) (drop_false xs i h)
  where
    go : (b : Bool) → distinct xs ≡ false → (b && distinct xs) ≡ false
    go true e = e
    go false e = refl

-- ---- the loop: the numbers from place i on differ, and their flags are seen
pub record DistinctFrom (l : List ℕ) (mixing : Bool) (seen : List Bool) (i : ℕ) : Type 0 where
  pub differ : distinct (drop i l) ≡ true
  pub seen_bits : Seen mixing seen (drop i l)
  pub within : i ≤ length l
  pub wide : length seen ≡ 1024

pub distinct_none : (l : List ℕ) (b : Bool) (seen : List Bool) → length seen ≡ 1024 → DistinctFrom l b seen (length l)
distinct_none l b seen h =
    let e = drop_of_length-le l {i = length l} (omega arith) in
    record { differ = rw e; seen_bits = rw e tt; within = omega arith; wide = h }

pub distinct-all : (l : List ℕ) (b : Bool) (seen : List Bool) (i : ℕ) → DistinctFrom l b seen i → i ≤ 0 → true ≡ distinct l
distinct-all l b seen i a h =
    let z : i ≡ 0 = omega arith in
    sym (subst (λ (n : ℕ). distinct (drop n l) ≡ true) z a.differ)

module _ (l : List ℕ) (b : Bool) (seen : List Bool) (i : ℕ) (a : DistinctFrom l b seen i) (h : 0 < i) (k : ℕ) (e : k ≡ flag_of_number b (get_or l (i - 1) 0)) where
  abbrev x : ℕ
  x = get_or l (i - 1) 0

  -- the number is among the later ones, as the code asks it: the part runs to the end of the list
  abbrev again : Bool
  again = get_or seen k false && contains x (take (length l - (i - 1 + 1)) (drop (i - 1 + 1) l))

  again-contains : again ≡ contains x (drop i l)
  again-contains =
      let same : i - 1 + 1 ≡ i = omega (arith, h) in
      (λ j. get_or seen k false && contains x (take (length l - same j) (drop (same j) l)))
      ∙ (λ j. get_or seen (e j) false && contains x (take_all (length l - i) (drop i l) (omega (arith, length-drop i l)) j))
      ∙ looked b seen x (drop i l) a.seen_bits

  before : drop (i - 1) l ≡ x ∷ drop i l
  before =
      let k : suc (i - 1) ≡ i = omega arith in
      let m : i - 1 < length l = omega (arith, a.within) in
      drop-cons l (i - 1) 0 m ∙ ap (λ (n : ℕ). x ∷ drop n l) k

  pub distinct-here : again ≡ true → false ≡ distinct l
  distinct-here t = sym (drop_false l (i - 1) (rw (before, sym again-contains ∙ t)))

  pub distinct-next : again ≡ false → DistinctFrom l b (set seen k true) (i - 1)
  distinct-next t =
      let w : flag_of_number b x < length seen = omega (arith, a.wide, flag_below b x) in
      record {
        differ = rw (before, sym again-contains ∙ t) a.differ;
        seen_bits = rw before (subst (λ (j : ℕ). Seen b (set seen j true) (x ∷ drop i l)) (sym e) (get_or-set_same seen (flag_of_number b x) true false w, seen-kept b seen (flag_of_number b x) (drop i l) a.seen_bits));
        within = omega (arith, a.within);
        wide = length-set seen k true ∙ a.wide;
      }
