-- The levels of depth that a value is allowed are as many as its depth at least.
use mathlib.Core.Path.{refl}
use mathlib.Core.List.{List, [], ◌∷◌, ◌++◌}
use Prim.Native.Nat.{ℕ, zero, suc, ◌≤◌}
use native.Mathlib.Omega.{arith}
use Rattle.schema.specs.declared.Field.{Field}
use Rattle.schema.specs.Table.{Shape, struct}
use Rattle.value.specs.Value.{Value, leaf, node, Values, none, some, depth, depth_all}
use Rattle.value.specs.Read.{Item, plan, known_bits, unknown_bits}
use Rattle.value.specs.Spell.{BitmapSpells, AllSpell, Spells, TailFits, RootSpells}

module _ (S : ℕ → Shape) where
  all-shallow : (d : ℕ) → ((t : ℕ) (v : Value) (u : List ℕ) → Spells S d t v u → depth v ≤ d)
      → (is : List Item) (vs : Values) (u : List ℕ) → AllSpell (Spells S d) is vs u → depth_all vs ≤ d
  unfolding depth_all
  all-shallow d h [] none u q = omega arith
  all-shallow d h [] (some v vs) u q = absurd q
  all-shallow d h (i ∷ is) none u q = absurd q
  all-shallow d h (i ∷ is) (some v vs) u q = omega (arith, h i.type v q.0 q.3, all-shallow d h is vs q.1 q.4)

  -- A value is no deeper than the levels allowed.
  pub shallow : (d t : ℕ) (v : Value) (u : List ℕ) → Spells S d t v u → depth v ≤ d
  unfolding depth
  shallow zero t v u q = absurd q
  shallow (suc d) t (leaf x) u q = omega arith
  shallow (suc d) t (node h vs) u q = omega (arith, all-shallow d (shallow d) (plan (S t) h) vs q.1 q.4)

  all-enough : (d e : ℕ) → ((t : ℕ) (v : Value) (u : List ℕ) → Spells S d t v u → depth v ≤ e → Spells S e t v u)
      → (is : List Item) (vs : Values) (u : List ℕ) → AllSpell (Spells S d) is vs u → depth_all vs ≤ e → AllSpell (Spells S e) is vs u
  unfolding depth_all
  all-enough d e h [] none u q l = q
  all-enough d e h [] (some v vs) u q l = absurd q
  all-enough d e h (i ∷ is) none u q l = absurd q
  all-enough d e h (i ∷ is) (some v vs) u q l =
      (q.0, q.1, q.2, h i.type v q.0 q.3 (omega arith), all-enough d e h is vs q.1 q.4 (omega arith))

  -- As many levels as its depth are enough for a value that is spelled with any number of them.
  pub enough-levels : (d e t : ℕ) (v : Value) (u : List ℕ) → Spells S d t v u → depth v ≤ e → Spells S e t v u
  unfolding depth
  enough-levels zero e t v u q l = absurd q
  enough-levels (suc d) zero t (leaf x) u q l = absurd (omega arith)
  enough-levels (suc d) zero t (node h vs) u q l = absurd (omega arith)
  enough-levels (suc d) (suc e) t (leaf x) u q l = q
  enough-levels (suc d) (suc e) t (node h vs) u q l =
      (q.0, q.1, q.2, q.3, all-enough d e (enough-levels d e) (plan (S t) h) vs q.1 q.4 (omega arith), q.5)

  pub root-shallow : (fs : List Field) (v : Value) (payload tail : List ℕ) → RootSpells S fs v payload tail → depth v ≤ 16
  unfolding depth
  root-shallow fs (leaf x) payload tail q = absurd q
  root-shallow fs (node h vs) payload tail q = omega (arith, all-shallow 15 (shallow 15) (plan (struct fs) h) vs q.2 q.6)

  pub root-enough : (fs : List Field) (d m : ℕ) (vs : Values) (x y tail : List ℕ) → BitmapSpells fs m x
      → AllSpell (Spells S d) (plan (struct fs) (known_bits fs m)) vs y → TailFits (unknown_bits fs m) tail
      → depth (node (known_bits fs m) vs) ≤ 16 → RootSpells S fs (node (known_bits fs m) vs) (x ++ (y ++ tail)) tail
  unfolding depth
  root-enough fs d m vs x y tail b q f l =
      (m, x, y, refl, b, refl, all-enough d 15 (enough-levels d 15) (plan (struct fs) (known_bits fs m)) vs y q (omega arith), f)
