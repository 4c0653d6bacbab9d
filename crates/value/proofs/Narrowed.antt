-- For the walkers' code, which is lent the number of fields that ours knows of each struct: the shapes so narrowed, and the items of two plans read one
-- after the other.
use mathlib.Core.Path.{◌≡◌, refl, sym, ap, ◌∙◌}
use mathlib.Core.List.{List, [], ◌∷◌, ◌++◌}
use Prim.Native.Nat.{ℕ, ◌≤◌, ◌<◌}
use native.Mathlib.Omega.{arith}
use lib.Seq.{take_all, take-append_seam}
use Rattle.parse.specs.Reader.{Cursor, Answer, refused, seen, Reader, and_then, check}
use Rattle.schema.specs.Table.{Shape, unknown, scalar, text, array, map, struct}
use Rattle.schema.specs.Extend.{Grows, same, gains}
use Rattle.value.specs.Value.{Tree, tip, branch, Forest, stop, plus}
use Rattle.value.specs.Read.{Item, plan, walk}
use Rattle.value.specs.Beside.{pruned, pruned_all}
use Rattle.value.specs.Narrow.{first_of, fields_in}
use Rattle.value.proofs.Shapes.{Closed}
use Rattle.value.proofs.Root.{Unkeyed}
use Rattle.value.proofs.TwoTables.{Below, plan-below}
use Rattle.value.proofs.Without.{◌⧺◌}

-- No field is left out where there are no more than k.
pub first-all : (k : ℕ) (s : Shape) → fields_in s ≤ k → first_of k s ≡ s
first-all k (struct fs) h = ap struct (take_all k fs h)
first-all k (array _) h = refl
first-all k (map _ _) h = refl
first-all k (scalar _) h = refl
first-all k (text _) h = refl
first-all k unknown h = refl

-- A shape of ours is theirs with as many fields as ours has.
pub narrowed : {s s' : Shape} → Grows s s' → s ≡ first_of (fields_in s) s'
narrowed (same s) = sym (first-all (fields_in s) s (omega arith))
narrowed (gains fs gs o) = ap struct (sym (take-append_seam fs gs))

-- ---- ours and theirs narrowed leave out the same

module _ (S R : ℕ → Shape) (n : ℕ) (closed : (t : ℕ) → t < n → Closed n (S t)) (agree : (t : ℕ) → t < n → S t ≡ R t) where
  mutual
    unfolding pruned pruned_all

    pub pruned-agree : (tree : Tree) (t : ℕ) → t < n → pruned S tree t ≡ pruned R tree t
    pruned-agree (tip r x) t l = refl
    pruned-agree (branch r h ts) t l = rw (← agree t l, all-agree ts (plan (S t) h) (plan-below n (S t) h (closed t l)))

    all-agree : (ts : Forest) (is : List Item) → Below n is → pruned_all S ts is ≡ pruned_all R ts is
    all-agree stop is b = refl
    all-agree (plus x ts) [] b = refl
    all-agree (plus x ts) (i ∷ is) b = rw (pruned-agree x i.type b.0, all-agree ts is b.1)

-- ---- known fields, then added ones

module _ {A B : Type 0} where
  then_same : (m : Answer A) {f g : A → Reader B} → ((a : A) (c : Cursor) → f a c ≡ g a c) → and_then m f ≡ and_then m g
  unfolding and_then
  then_same (refused n p) h = refl
  then_same (seen a c) h = h a c

  then-then : {C : Type 0} (m : Answer A) (f : A → Reader B) (g : B → Reader C) → and_then (and_then m f) g ≡ and_then m (λ a c. and_then (f a c) g)
  unfolding and_then
  then-then (refused n p) f g = refl
  then-then (seen a c) f g = refl

then-seen : {A : Type 0} (m : Answer A) → and_then m (λ a c. seen a c) ≡ m
unfolding and_then
then-seen (refused n p) = refl
then-seen (seen a c) = refl

module _ (p : ℕ → Reader Tree) (keys : List (List ℕ)) (js : List Item) where
  -- The items of js after the trees us.
  unfoldable pub go_on : Forest → Reader Forest
  go_on us c = and_then (walk p keys js c) (λ vs c'. seen (us ⧺ vs) c')

  one_more : (is : List Item) → ((c : Cursor) → walk p keys (is ++ js) c ≡ and_then (walk p keys is c) go_on) → (t : Tree) (c : Cursor)
      → and_then (walk p keys (is ++ js) c) (λ ts c'. seen (plus t ts) c') ≡ and_then (and_then (walk p keys is c) (λ ts c'. seen (plus t ts) c')) go_on
  unfolding go_on and_then
  one_more is h t c =
      ap (λ (m : Answer Forest). and_then m (λ ts c'. seen (plus t ts) c')) (h c)
      ∙ then-then (walk p keys is c) go_on _ ∙ then_same (walk p keys is c) (λ us c'. then-then (walk p keys js c') _ _) ∙ sym (then-then (walk p keys is c) _ go_on)

  -- Two plans are read as one: a struct's known fields, and those that ours does not know.
  pub walk-append : (is : List Item) → Unkeyed is → (c : Cursor) → walk p keys (is ++ js) c ≡ and_then (walk p keys is c) go_on
  unfolding walk go_on and_then
  walk-append [] u c = sym (then-seen (walk p keys js c))
  walk-append (i ∷ is) u c =
      then_same (p i.type c) (λ t c₁.
      then_same (check _ 24 c.at c₁) (λ _ c₂. rw u.0 (one_more is (walk-append is u.1) t c₂)) ∙ sym (then-then (check _ 24 c.at c₁) _ go_on))
      ∙ sym (then-then (p i.type c) _ go_on)
