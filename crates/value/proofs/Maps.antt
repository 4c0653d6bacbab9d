-- The maps in a value that bytes spell or rows show: their keys differ, and they have 64 pairs at most.
use mathlib.Core.Path.{◌≡◌, subst}
use mathlib.Core.List.{List, [], ◌∷◌}
use Prim.Native.Nat.{ℕ, zero, suc}
use Rattle.wire.proofs.Cases.{differ}
use Rattle.schema.specs.declared.Field.{Field}
use Rattle.schema.specs.Table.{Shape, map, struct}
use Rattle.value.specs.declared.Row.{Row}
use Rattle.value.specs.Value.{Tree, tip, branch, Forest, stop, plus, Value, leaf, node, Values, none, some, value, values}
use Rattle.value.specs.Read.{Item, plan}
use Rattle.value.specs.Spell.{AllSpell, WholeSpells, Spells, RootSpells, EachMap, EachIn, Differ, KeysDiffer, FewPairs, MapsSmall}
use Rattle.value.specs.Fits.{AllFit, WholeFits, Fits, RootFits, Shows}
use Rattle.value.proofs.Pairs.{distinct-differ}

module _ (Q : (n : ℕ) → Values → Type 0) (S : ℕ → Shape) where
  -- Values that bytes spell.
  module _ (step : (d k v n : ℕ) (vs : Values) (u : List ℕ) → WholeSpells (Spells S d) (map k v) (node n vs) u → Q n vs) where
    all-each : (d : ℕ) → ((t : ℕ) (v : Value) (u : List ℕ) → Spells S d t v u → EachMap Q S v t)
        → (is : List Item) (vs : Values) (u : List ℕ) → AllSpell (Spells S d) is vs u → EachIn Q S vs is
    unfolding EachIn
    all-each d h [] none u q = tt
    all-each d h [] (some v vs) u q = absurd q
    all-each d h (i ∷ is) none u q = absurd q
    all-each d h (i ∷ is) (some v vs) u q = (h i.type v q.0 q.3, all-each d h is vs q.1 q.4)

    value-each : (d t : ℕ) (v : Value) (u : List ℕ) → Spells S d t v u → EachMap Q S v t
    unfolding EachMap
    value-each zero t v u q = absurd q
    value-each (suc d) t (leaf x) u q = tt
    value-each (suc d) t (node h vs) u q = (
      λ k v e. step d k v h vs u (subst (λ (s : Shape). WholeSpells (Spells S d) s (node h vs) u) e q),
      all-each d (value-each d) (plan (S t) h) vs q.1 q.4,
    )

    root-each : (t : ℕ) (fs : List Field) → S t ≡ struct fs → (v : Value) (p z : List ℕ) → RootSpells S fs v p z → EachMap Q S v t
    unfolding EachMap
    root-each t fs st (leaf x) p z q = absurd q
    root-each t fs st (node h vs) p z q = rw st (λ k v e. differ cc, all-each 15 (value-each 15) (plan (struct fs) h) vs q.2 q.6)

  -- Values that rows show.
  module _ (B : List ℕ) (step : (d t k v : ℕ) (r : Row) (n : ℕ) (ts : Forest) → WholeFits (Fits S B d) B (map k v) t (branch r n ts) → Q n (values ts)) where
    all_shown : (d : ℕ) → ((t : ℕ) (tree : Tree) → Fits S B d t tree → EachMap Q S (value tree) t)
        → (is : List Item) (ts : Forest) → AllFit (Fits S B d) is ts → EachIn Q S (values ts) is
    unfolding EachIn values
    all_shown d h [] stop q = tt
    all_shown d h [] (plus t ts) q = absurd q
    all_shown d h (i ∷ is) stop q = absurd q
    all_shown d h (i ∷ is) (plus t ts) q = (h i.type t q.0, all_shown d h is ts q.1)

    tree-each : (d t : ℕ) (tree : Tree) → Fits S B d t tree → EachMap Q S (value tree) t
    unfolding EachMap value
    tree-each zero t tree q = absurd q
    tree-each (suc d) t (tip r x) q = tt
    tree-each (suc d) t (branch r h ts) q = (
      λ k v e. step d t k v r h ts (subst (λ (s : Shape). WholeFits (Fits S B d) B s t (branch r h ts)) e q),
      all_shown d (tree-each d) (plan (S t) h) ts q.2,
    )

    shown-each : (t : ℕ) (fs : List Field) → S t ≡ struct fs → (tree : Tree) → RootFits S B t fs tree → EachMap Q S (value tree) t
    unfolding EachMap value
    shown-each t fs st (tip r x) q = absurd q
    shown-each t fs st (branch r h ts) q = rw st (λ k v e. differ cc, all_shown 15 (tree-each 15) (plan (struct fs) h) ts q.5)

module _ (S : ℕ → Shape) (t : ℕ) (fs : List Field) (st : S t ≡ struct fs) where
  -- The keys of each map in a payload's value differ.
  pub root-differs : (v : Value) (p z : List ℕ) → RootSpells S fs v p z → KeysDiffer S v t
  root-differs = root-each Differ S distinct t fs st
    where
      distinct : (d k w n : ℕ) (vs : Values) (u : List ℕ) → WholeSpells (Spells S d) (map k w) (node n vs) u → Differ n vs
      distinct d k w n vs u q = distinct-differ (Spells S d) n k w vs q.1 q.4 q.5

  -- Each map in a payload's value, and in a value that a sheet shows, has 64 pairs at most.
  pub root-small : (v : Value) (p z : List ℕ) → RootSpells S fs v p z → MapsSmall S v t
  root-small = root-each FewPairs S (λ d k v n vs u q. q.3.1) t fs st

  pub shown-small : (B : List ℕ) (rs : List Row) (v : Value) → Shows S B t fs rs v → MapsSmall S v t
  shown-small B rs v (tree, _, f, e) = rw e at (shown-each FewPairs S B (λ d t k v r n ts q. q.1.1) t fs st tree f)
