-- What an old table's rules allow has no added field.
use mathlib.Core.Path.{◌≡◌, refl}
use mathlib.Core.List.{List, [], ◌∷◌}
use Prim.Native.Nat.{ℕ, zero, suc}
use native.Mathlib.Nat.{mod-eq_of_lt}
use native.Mathlib.Omega.{arith}
use lib.ListN.{length}
use Rattle.schema.specs.Table.{Shape, unknown, scalar, text, array, map, struct}
use Rattle.value.specs.Value.{Value, leaf, node, Values, none, some, Forest, stop, plus, values}
use Rattle.value.specs.Read.{Item, plan}
use Rattle.value.specs.Spell.{HeadSpells, AllSpell, Spells}
use Rattle.value.specs.Added.{kept_head, without, without_all, after_first_of, reached_all}

head-kept : (s : Shape) (h : ℕ) (u : List ℕ) → HeadSpells s h u → kept_head s h ≡ h
head-kept (array _) h u q = refl
head-kept (map _ _) h u q = refl
head-kept (struct fs) h u q = mod-eq_of_lt q.1
head-kept unknown h u q = refl
head-kept (scalar _) h u q = refl
head-kept (text _) h u q = refl

module _ (S : ℕ → Shape) where
  all-kept : (P : ℕ → Value → List ℕ → Type 0) → ((t : ℕ) (v : Value) (u : List ℕ) → P t v u → without S v t ≡ v)
      → (is : List Item) (vs : Values) (u : List ℕ) → AllSpell P is vs u → without_all S vs is ≡ vs
  unfolding without_all
  all-kept P h [] none u q = refl
  all-kept P h [] (some v vs) u q = absurd q
  all-kept P h (i ∷ is) none u q = absurd q
  all-kept P h (i ∷ is) (some v vs) u q = rw (h i.type v q.0 q.3, all-kept P h is vs q.1 q.4)

  value-kept : (d t : ℕ) (v : Value) (u : List ℕ) → Spells S d t v u → without S v t ≡ v
  unfolding without
  value-kept zero t v u q = absurd q
  value-kept (suc d) t (leaf x) u q = refl
  value-kept (suc d) t (node h vs) u q =
      rw (head-kept (S t) h q.0 q.3, all-kept (Spells S d) (value-kept d) (plan (S t) h) vs q.1 q.4)

  pub spelled_kept : (d : ℕ) (is : List Item) (vs : Values) (u : List ℕ) → AllSpell (Spells S d) is vs u → without_all S vs is ≡ vs
  spelled_kept d = all-kept (Spells S d) (value-kept d)

-- ---- the first trees of a forest

infixr 65 ◌⧺◌
abbrev pub ◌⧺◌ : Forest → Forest → Forest
stop ⧺ us = us
plus t ts ⧺ us = plus t (ts ⧺ us)

-- How many.
abbrev pub trees : Forest → ℕ
trees stop = 0
trees (plus t ts) = suc (trees ts)

-- What stands after the items of a plan is not looked at.
module _ (S : ℕ → Shape) where
  pub reached-first : (us vs : Forest) (is : List Item) → trees us ≡ length is → reached_all S (us ⧺ vs) is ≡ reached_all S us is
  unfolding reached_all
  reached-first stop stop [] e = refl
  reached-first stop (plus v vs) [] e = refl
  reached-first stop vs (i ∷ is) e = absurd (omega arith)
  reached-first (plus u us) vs [] e = absurd (omega arith)
  reached-first (plus u us) vs (i ∷ is) e = rw (reached-first us vs is (omega arith))

  pub without-first : (us vs : Forest) (is : List Item) → trees us ≡ length is → without_all S (values (us ⧺ vs)) is ≡ without_all S (values us) is
  unfolding without_all values
  without-first stop stop [] e = refl
  without-first stop (plus v vs) [] e = refl
  without-first stop vs (i ∷ is) e = absurd (omega arith)
  without-first (plus u us) vs [] e = absurd (omega arith)
  without-first (plus u us) vs (i ∷ is) e = rw (without-first us vs is (omega arith))

pub after_first : (us vs : Forest) (n : ℕ) → trees us ≡ n → after_first_of n (values (us ⧺ vs)) ≡ values vs
unfolding values
after_first stop vs zero e = refl
after_first stop vs (suc n) e = absurd (omega arith)
after_first (plus u us) vs zero e = absurd (omega arith)
after_first (plus u us) vs (suc n) e = after_first us vs n (omega arith)
