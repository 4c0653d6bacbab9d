-- Laws of the comparisons due: their number, the same from rows, a bound by the bytes, and the same by a table that extends another.
use mathlib.Core.Path.{◌≡◌, refl, sym, ap, ap₂, ◌∙◌}
use mathlib.Core.List.{List, [], ◌∷◌, ◌++◌}
use mathlib.Core.Bool.{Bool, true, false, cond}
use Prim.Native.Nat.{ℕ, zero, suc, ◌+◌, ◌-◌, ◌*◌, ◌^◌, ◌≤◌, ◌<◌, zero-le, min}
use native.Mathlib.Nat.{suc-mul, mul-suc, mul-le-mul_right, mod-lt}
use native.Mathlib.Omega.{arith}
use lib.Dec.{ltb}
use lib.ListN.{length, length-append, replicate}
use lib.Pow.{pow_pos}
use borrow.Author.Tests.{ltb-true, ltb-false}
use Rattle.parse.specs.Reader.{Cursor, seen, cursor_at}
use Rattle.parse.proofs.Answers.{seen_end}
use Rattle.schema.specs.declared.Field.{Field}
use Rattle.schema.specs.Table.{Shape, unknown, scalar, text, array, map, struct}
use Rattle.value.specs.declared.Row.{Row}
use Rattle.value.specs.Value.{Tree, tip, branch, Forest, stop, plus, rows, rows_all, Value, leaf, node, Values, none, some, value, values}
use Rattle.value.specs.Plan.{Item, plain_item, present, plan}
use Rattle.value.specs.Read.{root_struct}
use Rattle.value.specs.Comparisons.{key_comparisons, map_comparisons, comparisons, comparisons_all, rows_comparisons, sum, pairs_among}
use Rattle.value.specs.Spell.{HeadSpells, AllSpell, keys_of, Spells, RootSpells}
use Rattle.value.specs.Fits.{LeafFits, HeadFits, AllFit, Fits, RootFits, Shows}
use Rattle.schema.specs.Extend.{Grows, same, gains}
use Rattle.value.proofs.Shapes.{Solid, Widening}
use Rattle.value.proofs.Bits.{present_gain}
use Rattle.value.proofs.Complete.{head-takes, takes, length_pairs}
use Rattle.value.proofs.Root.{Unkeyed, present_unkeyed}
use Rattle.value.proofs.Pairs.{pair-keys}
use Rattle.value.proofs.Placed.{root-placed}
use Rattle.value.proofs.TwoTables.{Below, plan-below}

-- ---- of n keys

comparisons-square : (n : ℕ) → 2 * key_comparisons n + n ≡ n * n
unfolding key_comparisons
comparisons-square zero = refl
comparisons-square (suc n) = rw (suc-mul, mul-suc) (omega (arith, comparisons-square n))

pub comparisons-half : (n : ℕ) → 2 * key_comparisons n ≡ n * (n - 1)
unfolding key_comparisons
comparisons-half zero = refl
comparisons-half (suc n) =
    let e : suc n - 1 ≡ n = omega arith in
    rw e (omega (arith, comparisons-square (suc n), mul-suc (suc n) n))

below : (n j : ℕ) → sum n (λ i. cond (ltb i j) 1 0) ≡ min n j
below zero j = omega arith
below (suc n) j = go (ltb n j) refl (below n j)
  where
    go : (b : Bool) → ltb n j ≡ b → sum n (λ i. cond (ltb i j) 1 0) ≡ min n j → sum n (λ i. cond (ltb i j) 1 0) + cond b 1 0 ≡ min (suc n) j
    go true e h = omega (arith, ltb-true n j e)
    go false e h = omega (arith, ltb-false n j e)

rises : (m n : ℕ) → n ≤ m → sum n (λ j. sum m (λ i. cond (ltb i j) 1 0)) ≡ key_comparisons n
unfolding key_comparisons
rises m zero h = refl
rises m (suc n) h = omega (arith, rises m n (omega arith), below m n)

-- They are the pairs of an earlier key and a later one.
pub comparisons-pairs : (n : ℕ) → key_comparisons n ≡ pairs_among n
comparisons-pairs n = sym (rises n n (omega arith))

-- A map of 64 pairs at most has 63 for each two pairs at most.
pub comparisons-few : (n : ℕ) → n ≤ 64 → 2 * key_comparisons n ≤ 63 * n
comparisons-few n h = omega (arith, comparisons-square n, mul-le-mul_right n h)

-- ---- of a composite's own keys

replicate_unkeyed : (n e : ℕ) → Unkeyed (replicate n (plain_item e))
replicate_unkeyed zero e = tt
replicate_unkeyed (suc n) e = (refl, replicate_unkeyed n e)

unkeyed_keys : (is : List Item) (vs : Values) → Unkeyed is → length (keys_of is vs) ≡ 0
unkeyed_keys [] vs u = refl
unkeyed_keys (i ∷ is) none u = refl
unkeyed_keys (i ∷ is) (some v vs) u = rw u.0 (unkeyed_keys is vs u.1)

own_keys : (P : ℕ → Value → List ℕ → Type 0) (s : Shape) (h : ℕ) (vs : Values) (u : List ℕ) → AllSpell P (plan s h) vs u → map_comparisons s h ≡ key_comparisons (length (keys_of (plan s h) vs))
unfolding key_comparisons
own_keys P (map k v) h vs u q = ap key_comparisons (sym (pair-keys P h k v vs u q).0)
own_keys P (array e) h vs u q = ap key_comparisons (sym (unkeyed_keys (plan (array e) h) vs (replicate_unkeyed h e)))
own_keys P (struct fs) h vs u q = ap key_comparisons (sym (unkeyed_keys (present fs h) vs (present_unkeyed fs h)))
own_keys P unknown h vs u q = refl
own_keys P (scalar _) h vs u q = refl
own_keys P (text _) h vs u q = refl

-- Each later one with each earlier one.
pub own-comparisons : (S : ℕ → Shape) (d t h : ℕ) (vs : Values) (u : List ℕ) → Spells S d t (node h vs) u → map_comparisons (S t) h ≡ pairs_among (length (keys_of (plan (S t) h) vs))
own-comparisons S zero t h vs u q = absurd q
own-comparisons S (suc d) t h vs u q = own_keys (Spells S d) (S t) h vs q.1 q.4 ∙ comparisons-pairs (length (keys_of (plan (S t) h) vs))

-- ---- from rows

module _ (S : ℕ → Shape) where
  pub comparisons-append : (rs qs : List Row) → rows_comparisons S (rs ++ qs) ≡ rows_comparisons S rs + rows_comparisons S qs
  unfolding rows_comparisons
  comparisons-append [] qs = omega arith
  comparisons-append (r ∷ rs) qs = omega (arith, comparisons-append rs qs)

module _ (B : List ℕ) where
  -- A leaf's row has no pairs, and a composite's row has the count of its head.
  leaf-comparisons : (s : Shape) (p n c : ℕ) (x : List ℕ) → LeafFits B s p n c x → map_comparisons s c ≡ 0
  leaf-comparisons (scalar _) p n c x q = refl
  leaf-comparisons (text _) p n c x q = refl
  leaf-comparisons unknown p n c x q = refl
  leaf-comparisons (array _) p n c x q = refl
  leaf-comparisons (map _ _) p n c x q = absurd q
  leaf-comparisons (struct _) p n c x q = refl

  head-comparisons : (s : Shape) (p c h : ℕ) → HeadFits B s p c h → map_comparisons s c ≡ map_comparisons s h
  head-comparisons (map _ _) p c h q = ap key_comparisons q.0
  head-comparisons (array _) p c h q = refl
  head-comparisons (struct _) p c h q = refl
  head-comparisons unknown p c h q = refl
  head-comparisons (scalar _) p c h q = refl
  head-comparisons (text _) p c h q = refl

  module _ (S : ℕ → Shape) where
    all-comparisons : (d : ℕ) → ((t : ℕ) (tree : Tree) → Fits S B d t tree → comparisons S (value tree) t ≡ rows_comparisons S (rows tree))
        → (is : List Item) (ts : Forest) → AllFit (Fits S B d) is ts → comparisons_all S (values ts) is ≡ rows_comparisons S (rows_all ts)
    unfolding comparisons_all values rows_all rows_comparisons
    all-comparisons d h [] stop q = refl
    all-comparisons d h [] (plus t ts) q = absurd q
    all-comparisons d h (i ∷ is) stop q = absurd q
    all-comparisons d h (i ∷ is) (plus t ts) q = ap₂ (λ (a b : ℕ). a + b) (h i.type t q.0) (all-comparisons d h is ts q.1) ∙ sym (comparisons-append S (rows t) (rows_all ts))

    -- The comparisons due in a value are those that the rows of its tree count.
    pub tree-comparisons : (d t : ℕ) (tree : Tree) → Fits S B d t tree → comparisons S (value tree) t ≡ rows_comparisons S (rows tree)
    unfolding comparisons value rows rows_comparisons
    tree-comparisons zero t tree q = absurd q
    tree-comparisons (suc d) t (tip r x) q =
        let a : map_comparisons (S r.ty) r.count ≡ map_comparisons (S t) r.count = ap (λ (k : ℕ). map_comparisons (S k) r.count) q.0 in
        omega (arith, a, leaf-comparisons (S t) r.place r.length r.count x q.1)
    tree-comparisons (suc d) t (branch r h ts) q =
        let a : map_comparisons (S r.ty) r.count ≡ map_comparisons (S t) r.count = ap (λ (k : ℕ). map_comparisons (S k) r.count) q.0 in
        omega (arith, a, head-comparisons (S t) r.place r.count h q.1, all-comparisons d (tree-comparisons d) (plan (S t) h) ts q.2)

    pub root-comparisons : (t : ℕ) (fs : List Field) → S t ≡ struct fs → (tree : Tree) → RootFits S B t fs tree → comparisons S (value tree) t ≡ rows_comparisons S (rows tree)
    unfolding comparisons value rows rows_comparisons
    root-comparisons t fs st (tip r x) q = absurd q
    root-comparisons t fs st (branch r h ts) q =
        let a : map_comparisons (S r.ty) r.count ≡ 0 = ap (λ (k : ℕ). map_comparisons (S k) r.count) q.1 ∙ rw st in
        rw (a, st) (omega (arith, all-comparisons 15 (tree-comparisons 15) (plan (struct fs) h) ts q.5))

    -- The same of what the reader sees.
    pub read-comparisons : (t : ℕ) (fs : List Field) → S t ≡ struct fs → (tree : Tree) (end : Cursor) → root_struct S t fs (cursor_at B 0) ≡ seen tree end
        → comparisons S (value tree) t ≡ rows_comparisons S (rows tree)
    read-comparisons t fs st tree end e = root-comparisons t fs st tree (seen_end (root-placed B S t fs (cursor_at B 0) (refl, zero-le)) e).1

pub shown-comparisons : (S : ℕ → Shape) (t : ℕ) (fs : List Field) → S t ≡ struct fs → (B : List ℕ) (rs : List Row) (v : Value) → Shows S B t fs rs v
    → comparisons S v t ≡ rows_comparisons S rs
shown-comparisons S t fs st B rs v (tree, r, f, e) = rw (e, r) at (root-comparisons B S t fs st tree f)

-- ---- the bound

-- A map's own are 63 for each 4 of its keys and values at most.
head_few : (s : Shape) (h : ℕ) (u : List ℕ) → HeadSpells s h u → 4 * map_comparisons s h ≤ 63 * length (plan s h)
head_few (map k v) h u q = omega (arith, comparisons-few h q.1, length_pairs h k v)
head_few (array _) h u q = omega arith
head_few (struct _) h u q = omega arith
head_few unknown h u q = omega arith
head_few (scalar _) h u q = omega arith
head_few (text _) h u q = omega arith

module _ (S : ℕ → Shape) (solid : (t : ℕ) → Solid (S t)) where
  all-bound : (d : ℕ) → ((t : ℕ) (v : Value) (u : List ℕ) → Spells S d t v u → 4 * comparisons S v t + 63 ≤ 63 * length u)
      → (is : List Item) (vs : Values) (u : List ℕ) → AllSpell (Spells S d) is vs u → 4 * comparisons_all S vs is + 63 * length is ≤ 63 * length u
  unfolding comparisons_all
  all-bound d h [] none u q = omega arith
  all-bound d h [] (some v vs) u q = absurd q
  all-bound d h (i ∷ is) none u q = absurd q
  all-bound d h (i ∷ is) (some v vs) u q =
      rw q.2 (simp length-append (omega (arith, h i.type v q.0 q.3, all-bound d h is vs q.1 q.4)))

  -- A value's are 63 for each 4 of its bytes after the first at most.
  pub value-bound : (d t : ℕ) (v : Value) (u : List ℕ) → Spells S d t v u → 4 * comparisons S v t + 63 ≤ 63 * length u
  unfolding comparisons
  value-bound zero t v u q = absurd q
  value-bound (suc d) t (leaf x) u q = omega (arith, takes S solid (suc d) t (leaf x) u q)
  value-bound (suc d) t (node h vs) u q =
      let a = head-takes (S t) (solid t) h q.0 q.3 in
      let b = all-bound d (value-bound d) (plan (S t) h) vs q.1 q.4 in
      rw q.2 (simp length-append (omega (arith, a, b, head_few (S t) h q.0 q.3)))

  pub root-bound : (t : ℕ) (fs : List Field) → S t ≡ struct fs → (v : Value) (p z : List ℕ) → RootSpells S fs v p z → 4 * comparisons S v t ≤ 63 * length p
  unfolding comparisons
  root-bound t fs st (leaf x) p z q = absurd q
  root-bound t fs st (node h vs) p z q =
      rw (q.3, st) (simp length-append (omega (arith, all-bound 15 (value-bound 15) (plan (struct fs) h) vs q.2 q.6)))

-- ---- by an old table and by one that extends it

grown-same : {s s' : Shape} → Grows s s' → (h : ℕ) (u : List ℕ) → HeadSpells s h u → (plan s' h ≡ plan s h) × (map_comparisons s' h ≡ map_comparisons s h)
grown-same (same _) h u q = (refl, refl)
grown-same (gains fs gs o) h u q = (present_gain fs gs h q.1, refl)

module _ (S S' : ℕ → Shape) (n : ℕ) (x : Widening S S' n) where
  all_same : (d : ℕ) → ((t : ℕ) (v : Value) (u : List ℕ) → t < n → Spells S d t v u → comparisons S' v t ≡ comparisons S v t)
      → (is : List Item) (vs : Values) (u : List ℕ) → Below n is → AllSpell (Spells S d) is vs u → comparisons_all S' vs is ≡ comparisons_all S vs is
  unfolding comparisons_all
  all_same d h [] none u b q = refl
  all_same d h [] (some v vs) u b q = refl
  all_same d h (i ∷ is) none u b q = refl
  all_same d h (i ∷ is) (some v vs) u b q = ap₂ (λ (a b : ℕ). a + b) (h i.type v q.0 b.0 q.3) (all_same d h is vs q.1 b.1 q.4)

  value_same : (d t : ℕ) (v : Value) (u : List ℕ) → t < n → Spells S d t v u → comparisons S' v t ≡ comparisons S v t
  unfolding comparisons
  value_same zero t v u l q = absurd q
  value_same (suc d) t (leaf y) u l q = refl
  value_same (suc d) t (node h vs) u l q =
      let w = grown-same (x.grows t l) h q.0 q.3 in
      rw (w.0, w.1, all_same d (value_same d) (plan (S t) h) vs q.1 (plan-below n (S t) h (x.closed t l)) q.4)

  -- What the old rules allow has the same number by both.
  pub root-same : (t : ℕ) → t < n → (fs gs : List Field) → S t ≡ struct fs → S' t ≡ struct (fs ++ gs) → (v : Value) (p z : List ℕ) → RootSpells S fs v p z
      → comparisons S' v t ≡ comparisons S v t
  unfolding comparisons
  root-same t l fs gs st st' (leaf y) p z q = absurd q
  root-same t l fs gs st st' (node h vs) p z q =
      let b : h < 2 ^ length fs = rw q.5 (mod-lt q.0 (pow_pos (length fs))) in
      rw (st, st', present_gain fs gs h b, all_same 15 (value_same 15) (present fs h) vs q.2 (rw st at (plan-below n (S t) h (x.closed t l))) q.6)
