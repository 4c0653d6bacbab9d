-- What a reader by an old table and a reader by a table that extends it say of the same bytes, for inner values.
use mathlib.Core.Path.{◌≡◌, refl}
use mathlib.Core.List.{List, [], ◌∷◌, ◌++◌}
use mathlib.Core.Option.{Option, none, some}
use mathlib.Core.Bool.{Bool, true, false, cond}
use Prim.Native.Nat.{ℕ, zero, suc, ◌/◌, ◌%◌, ◌^◌, ◌≤◌, ◌<◌}
use native.Mathlib.Omega.{arith}
use lib.Pow.{pow_mono}
use lib.Dec.{ltb, eqb}
use lib.ListN.{length, length-append, replicate}
use borrow.Author.Tests.{ltb-true, ltb-false, le-leb, lt-leb}
use Rattle.parse.specs.Reader.{Cursor, Answer, refused, seen, Reader, and_then, check}
use Rattle.parse.proofs.Answers.{Seen, nothing, value, seen-then, check_true}
use Rattle.schema.specs.declared.Field.{Field}
use Rattle.schema.specs.Table.{Shape, unknown, scalar, text, array, map, struct, bitmap_bytes}
use Rattle.value.specs.Value.{Tree, Forest, value as value_of, content}
use Rattle.value.specs.Read.{Item, Own, plain, parts, plain_item, pairs, present, plan, bitmap, own, with_key, walk, whole_value, parse}
use Rattle.schema.specs.Extend.{Grows, same, gains, SameBytes}
use Rattle.value.proofs.Shapes.{FieldsBelow, Closed, Optional, Extension}
use Rattle.value.specs.Added.{carries, ReachedNode, reached, reached_all, first_added}
use Rattle.value.proofs.Bits.{complete_gain, present_gain}

or_else : Option ℕ → Option ℕ → Option ℕ
or_else none y = y
or_else (some x) y = some x

first-append : (xs ys : List ReachedNode) → first_added (xs ++ ys) ≡ or_else (first_added xs) (first_added ys)
unfolding or_else
first-append [] ys = refl
first-append (x ∷ xs) ys = go x.adds (first-append xs ys)
  where
    go : (b : Bool) → first_added (xs ++ ys) ≡ or_else (first_added xs) (first_added ys)
        → cond b (some x.place) (first_added (xs ++ ys)) ≡ or_else (cond b (some x.place) (first_added xs)) (first_added ys)
    go true e = refl
    go false e = e

-- An answer that, where it accepts, has an added field first at x.
pub data From {A : Type 0} (first : A → Option ℕ) (x : ℕ) : Answer A → Type 0 where
  gone : {n p : ℕ} → From first x (refused n p)
  kept : {a : A} {c : Cursor} → first a ≡ some x → From first x (seen a c)

-- The old answer is the new one, and no struct carries an added field; or it is 26 at the first struct that does.
pub data Follows {A : Type 0} (first : A → Option ℕ) : Answer A → Answer A → Type 0 where
  agree : {n p : ℕ} → Follows first (refused n p) (refused n p)
  both : {a : A} {c : Cursor} → first a ≡ none → Follows first (seen a c) (seen a c)
  early : {x : ℕ} {m : Answer A} → From first x m → Follows first (refused 26 x) m

-- What the old reader answers where the new one accepts.
abbrev pub outcome : {A : Type 0} → Option ℕ → A → Cursor → Answer A
outcome none a c = seen a c
outcome (some x) a c = refused 26 x

pub follows-outcome : {A : Type 0} {first : A → Option ℕ} {o n : Answer A} {a : A} {c : Cursor} → Follows first o n → n ≡ seen a c → o ≡ outcome (first a) a c
follows-outcome agree e = cc
follows-outcome {first} {a} (both f) e = let f' : first a ≡ none = cc in rw f' e
follows-outcome (early gone) e = cc
follows-outcome {first} {a} (early {x} (kept f)) e = let f' : first a ≡ some x = cc in rw f'

-- The old answer is the new one, or it is 26.
pub data Agrees {A : Type 0} : Answer A → Answer A → Type 0 where
  alike : (m : Answer A) → Agrees m m
  unknown-bit : {x : ℕ} {m : Answer A} → Agrees (refused 26 x) m

pub follows-agrees : {A : Type 0} {first : A → Option ℕ} {o n : Answer A} → Follows first o n → Agrees o n
follows-agrees agree = alike _
follows-agrees (both f) = alike _
follows-agrees (early f) = unknown-bit

pub agrees-then : {A B : Type 0} {m m' : Answer A} {f g : A → Reader B} → Agrees m m' → ((a : A) (c : Cursor) → m ≡ seen a c → Agrees (f a c) (g a c))
    → Agrees (and_then m f) (and_then m' g)
unfolding and_then
agrees-then (alike (refused n p)) h = alike _
agrees-then (alike (seen a c)) h = h a c refl
agrees-then unknown-bit h = unknown-bit

-- What the old reader accepts, the new one accepts.
pub agrees-accepts : {A : Type 0} {o n : Answer A} {a : A} {c : Cursor} → Agrees o n → o ≡ seen a c → n ≡ seen a c
agrees-accepts (alike m) e = e
agrees-accepts unknown-bit e = cc

module _ {A B : Type 0} {first : B → Option ℕ} where
  from_then : {x : ℕ} (m : Answer A) {g : A → Reader B} → ((a : A) (c : Cursor) → From first x (g a c)) → From first x (and_then m g)
  unfolding and_then
  from_then (refused n p) h = gone
  from_then (seen a c) h = h a c

  then_same : (m : Answer A) {f g : A → Reader B} → ((a : A) (c : Cursor) → Follows first (f a c) (g a c)) → Follows first (and_then m f) (and_then m g)
  unfolding and_then
  then_same (refused n p) h = agree
  then_same (seen a c) h = h a c

  then_same₂ : {C : Type 0} (m : Answer C) (f f' : C → Reader A) (g g' : A → Reader B)
      → ((a : C) (c : Cursor) → Follows first (and_then (f a c) g) (and_then (f' a c) g')) → Follows first (and_then (and_then m f) g) (and_then (and_then m f') g')
  unfolding and_then
  then_same₂ (refused n p) f f' g g' h = agree
  then_same₂ (seen a c) f f' g g' h = h a c

  then-follows : {first_a : A → Option ℕ} {m m' : Answer A} {f g : A → Reader B}
      → Follows first_a m m'
      → ((a : A) (c : Cursor) → first_a a ≡ none → Follows first (f a c) (g a c))
      → ((x : ℕ) (a : A) (c : Cursor) → first_a a ≡ some x → From first x (g a c))
      → Follows first (and_then m f) (and_then m' g)
  unfolding and_then
  then-follows agree h k = agree
  then-follows (both {a} {c} e) h k = h a c e
  then-follows (early gone) h k = early gone
  then-follows (early (kept {a} {c} e)) h k = early (k _ a c e)

  then-seen : {P : A → Cursor → Type 0} {m : Answer A} {f g : A → Reader B} → Seen P m
      → ((a : A) (c : Cursor) → P a c → Follows first (f a c) (g a c)) → Follows first (and_then m f) (and_then m g)
  unfolding and_then
  then-seen nothing h = agree
  then-seen (value {a} {c} w) h = h a c w

-- ---- the types of a plan are below n

abbrev pub Below : ℕ → List Item → Type 0
Below n [] = Unit {0}
Below n (i ∷ is) = (i.type < n) × Below n is

below-cond : (n : ℕ) (b : Bool) (xs ys : List Item) → Below n xs → Below n ys → Below n (cond b xs ys)
below-cond n true xs ys p q = p
below-cond n false xs ys p q = q

pub present-below : (n : ℕ) (fs : List Field) (m : ℕ) → FieldsBelow n fs → Below n (present fs m)
unfolding present
present-below n [] m w = tt
present-below n (f ∷ fs) m w = below-cond n (eqb (m % 2) 1) _ _ (w.0, present-below n fs (m / 2) w.1) (present-below n fs (m / 2) w.1)

replicate-below : (n k e : ℕ) → e < n → Below n (replicate k (plain_item e))
replicate-below n zero e h = tt
replicate-below n (suc k) e h = (h, replicate-below n k e h)

pairs_below : (n j k v : ℕ) → k < n → v < n → Below n (pairs j k v)
pairs_below n zero k v h l = tt
pairs_below n (suc j) k v h l = (omega arith, (omega arith, pairs_below n j k v h l))

pub plan-below : (n : ℕ) (s : Shape) (h : ℕ) → Closed n s → Below n (plan s h)
plan-below n (array e) h w = replicate-below n h e w
plan-below n (map k v) h w = pairs_below n h k v w.0 w.1
plan-below n (struct fs) h w = present-below n fs h w
plan-below n unknown h w = tt
plan-below n (scalar _) h w = tt
plan-below n (text _) h w = tt

-- ---- one value

-- A composite's head has no bit beyond the fields of its shape.
abbrev Bare : Shape → Own → Type 0
Bare s (plain x) = Unit {0}
Bare s (parts start h) = carries s h ≡ false

own_bare : (s : Shape) (c : Cursor) → Seen (λ o _. Bare s o) (own s c)
own_bare unknown c = nothing
own_bare (scalar kind) c = seen-then _ (λ x c' _. seen-then _ (λ _ c'' _. value tt))
own_bare (text kind) c = seen-then _ (λ k c' _. seen-then _ (λ x c'' _. seen-then _ (λ _ c''' _. value tt)))
own_bare (array e) c = seen-then _ (λ k c' _. value refl)
own_bare (map k v) c = seen-then _ (λ j c' _. seen-then _ (λ _ c'' _. value refl))
own_bare (struct fs) c = seen-then _ (λ m c' _. seen-then _ (λ _ c'' e. value (lt-leb _ m (omega (arith, ltb-true m (2 ^ length fs) (check_true _ _ _ _ e))))))

pub bitmap_gain : (fs gs : List Field) → bitmap_bytes (length (fs ++ gs)) ≡ bitmap_bytes (length fs) → Optional gs → (c : Cursor) → bitmap (fs ++ gs) c ≡ bitmap fs c
unfolding bitmap
bitmap_gain fs gs b o c = rw b (simp (complete_gain fs gs))

abbrev pub first : (ℕ → Shape) → (t : ℕ) → Tree → Option ℕ
first S t tree = first_added (reached S tree t)

abbrev pub first_of : (ℕ → Shape) → List Item → Forest → Option ℕ
first_of S is ts = first_added (reached_all S ts is)

module _ (S : ℕ → Shape) (n : ℕ) (p q : ℕ → Reader Tree) (pq : (t : ℕ) → t < n → (c : Cursor) → Follows (first S t) (p t c) (q t c)) where
  pub walk-follows : (keys : List (List ℕ)) (is : List Item) → Below n is → (c : Cursor) → Follows (first_of S is) (walk p keys is c) (walk q keys is c)
  unfolding walk reached_all or_else
  walk-follows keys [] b c = both refl
  walk-follows keys (i ∷ is) b c =
      then-follows (pq i.type b.0 c)
      (λ t c' e. then_same _ (λ _ c''. then-follows (walk-follows (with_key i.key (content (value_of t)) keys) is b.1 c'')
      (λ ts c''' e'. both (rw (first-append, e, e')))
      (λ x ts c''' e'. kept (rw (first-append, e, e')))))
      (λ x t c' e. from_then _ (λ _ c''. from_then _ (λ ts c'''. kept (rw (first-append, e)))))

  module _ (t : ℕ) where
    whole-follows : (o : Own) → Closed n (S t) → Bare (S t) o → (c : Cursor) → Follows (first S t) (whole_value p t (S t) o c) (whole_value q t (S t) o c)
    unfolding reached
    whole-follows (plain x) w f c = both refl
    whole-follows (parts start h) w f c =
        then-follows (walk-follows [] (plan (S t) h) (plan-below n (S t) h w) c)
        (λ ts c' e. both (rw (f, e)))
        (λ x ts c' e. kept (rw (f, e)))

    carried : (s : Shape) (start m : ℕ) → carries (S t) m ≡ true → (c : Cursor) → From (first S t) start (whole_value q t s (parts start m) c)
    unfolding reached
    carried s start m e c = from_then _ (λ ts c'. kept (rw e))

    struct_own : ℕ → ℕ → Bool → Reader Own
    struct_own start m b c = and_then (check b 26 start c) (λ _ c'. seen (parts start m) c')

    gained : (fs gs : List Field) → S t ≡ struct fs → FieldsBelow n fs → (start m : ℕ) (c : Cursor) (b b' : Bool)
        → ltb m (2 ^ length fs) ≡ b → ltb m (2 ^ length (fs ++ gs)) ≡ b'
        → Follows (first S t) (and_then (struct_own start m b c) (whole_value p t (struct fs))) (and_then (struct_own start m b' c) (whole_value q t (struct (fs ++ gs))))
    unfolding struct_own and_then check
    gained fs gs e w start m c true true h h' =
        let l : m < 2 ^ length fs = ltb-true m _ h in
        rw (present_gain fs gs m l) (rw e at (whole-follows (parts start m) (rw e w) (rw e (lt-leb _ m (omega arith))) c))
    gained fs gs e w start m c true false h h' =
        let l : 2 ^ length fs ≤ 2 ^ length (fs ++ gs) = pow_mono (simp length-append (omega arith)) in
        absurd (omega (arith, ltb-true m (2 ^ length fs) h, ltb-false m (2 ^ length (fs ++ gs)) h'))
    gained fs gs e w start m c false true h h' =
        early (carried (struct (fs ++ gs)) start m (rw e (le-leb _ m (omega (arith, ltb-false m (2 ^ length fs) h)))) c)
    gained fs gs e w start m c false false h h' = agree

    step : (s s' : Shape) → S t ≡ s → Closed n s → Grows s s' → SameBytes s s' → (c : Cursor)
        → Follows (first S t) (and_then (own s c) (whole_value p t s)) (and_then (own s' c) (whole_value q t s'))
    unfolding struct_own
    step s s' e w (same _) b c = rw (← e) (then-seen (own_bare (S t) c) (λ o c' f. whole-follows o (rw e w) f c'))
    step s s' e w (gains fs gs o) b c =
        rw (bitmap_gain fs gs (b fs (fs ++ gs) refl refl) o c) (then_same₂ (bitmap fs c) _ _ _ _ (λ m c'. gained fs gs e w c.at m c' _ _ refl refl))

-- A reader by the old shapes follows a reader by the new ones, for each type of the old table.
pub two-tables : (S S' : ℕ → Shape) (n : ℕ) → Extension S S' n → (d t : ℕ) → t < n → (c : Cursor) → Follows (first S t) (parse S d t c) (parse S' d t c)
unfolding parse
two-tables S S' n x zero t h c = agree
two-tables S S' n x (suc d) t h c =
    step S n (parse S d) (parse S' d) (two-tables S S' n x d) t (S t) (S' t) refl (x.wide.closed t h) (x.wide.grows t h) (x.bytes t h) c
