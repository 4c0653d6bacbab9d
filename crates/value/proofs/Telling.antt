-- What the rows tell determines the value.
use mathlib.Core.Path.{◌≡◌, refl, sym, ap, ◌∙◌}
use mathlib.Core.List.{List, [], ◌∷◌, ◌++◌, map as each, map-append, append_assoc}
use Prim.Native.Nat.{ℕ, zero, suc}
use native.Mathlib.Nat.{mod-eq_of_lt}
use Rattle.schema.specs.declared.Field.{Field}
use Rattle.schema.specs.Table.{Shape, unknown, scalar, text, array, map, struct}
use Rattle.value.specs.declared.Row.{Row}
use Rattle.value.specs.Value.{Tree, tip, branch, Forest, stop, plus, rows, rows_all, Value, value, values}
use Rattle.value.specs.Read.{Item, present, plan}
use Rattle.value.specs.Fits.{LeafFits, HeadFits, AllFit, Fits, RootFits, Shows, HeadKnown, FitsKnown, AllKnown, ShowsKnown, RowTold, held_by, told}

leaf-told : (B : List ℕ) (s : Shape) (r : Row) (x : List ℕ) → LeafFits B s r.place r.length r.count x → held_by B s r.place r.length ≡ x
leaf-told B (scalar _) r x q = sym q.2.1
leaf-told B (text _) r x q = sym q.1.1
leaf-told B unknown r x q = absurd q
leaf-told B (array _) r x q = absurd q
leaf-told B (map _ _) r x q = absurd q
leaf-told B (struct _) r x q = absurd q

-- What fits shows what the table knows.
head-known : (B : List ℕ) (s : Shape) (p c h : ℕ) → HeadFits B s p c h → HeadKnown B s p c h
head-known B (array _) p c h q = q
head-known B (map _ _) p c h q = q.0
head-known B (struct fs) p c h q = (h, q.0, sym (mod-eq_of_lt q.1), q.2)
head-known B unknown p c h q = absurd q
head-known B (scalar _) p c h q = absurd q
head-known B (text _) p c h q = absurd q

module _ (S : ℕ → Shape) (B : List ℕ) where
  all_known : (P : ℕ → Tree → Type 0) → ((t : ℕ) (tree : Tree) → P t tree → FitsKnown S B tree t) → (is : List Item) (ts : Forest) → AllFit P is ts → AllKnown S B ts is
  unfolding AllKnown
  all_known P h [] stop q = tt
  all_known P h [] (plus t ts) q = absurd q
  all_known P h (i ∷ is) stop q = absurd q
  all_known P h (i ∷ is) (plus t ts) q = (h i.type t q.0, all_known P h is ts q.1)

  fits-known : (d t : ℕ) (tree : Tree) → Fits S B d t tree → FitsKnown S B tree t
  unfolding FitsKnown
  fits-known zero t tree q = absurd q
  fits-known (suc d) t (tip r x) q = q
  fits-known (suc d) t (branch r h ts) q = (q.0, head-known B (S t) _ _ h q.1, all_known (Fits S B d) (fits-known d) (plan (S t) h) ts q.2)

  pub root-known : (t : ℕ) (fs : List Field) → S t ≡ struct fs → (tree : Tree) → RootFits S B t fs tree → FitsKnown S B tree t
  unfolding FitsKnown
  root-known t fs st (tip r x) q = absurd q
  root-known t fs st (branch r h ts) q = rw st (q.1, (q.0, q.2, q.3, q.4), all_known (Fits S B 15) (fits-known 15) (present fs h) ts q.5)

module _ (B B' : List ℕ) where
  head-told : (s : Shape) (r r' : Row) (h h' : ℕ) → HeadKnown B s r.place r.count h → HeadKnown B' s r'.place r'.count h'
      → r.count ≡ r'.count → held_by B s r.place r.length ≡ held_by B' s r'.place r'.length → h ≡ h'
  head-told (array _) r r' h h' q q' e k = cc
  head-told (map _ _) r r' h h' q q' e k = cc
  head-told (struct fs) r r' h h' q q' e k = q.2 ∙ rw (q.1.1, q'.1.1) (cc) ∙ sym q'.2
  head-told unknown r r' h h' q q' e k = absurd q
  head-told (scalar _) r r' h h' q q' e k = absurd q
  head-told (text _) r r' h h' q q' e k = absurd q

  -- A leaf is no composite.
  clash : (s : Shape) (p n c : ℕ) (x : List ℕ) (p' c' h : ℕ) → LeafFits B s p n c x → HeadKnown B' s p' c' h → ⊥
  clash (array _) p n c x p' c' h q q' = q
  clash (map _ _) p n c x p' c' h q q' = q
  clash (struct fs) p n c x p' c' h q q' = q
  clash unknown p n c x p' c' h q q' = q
  clash (scalar _) p n c x p' c' h q q' = q'
  clash (text _) p n c x p' c' h q q' = q'

module _ (S : ℕ → Shape) (B B' : List ℕ) where
  abbrev Same : (Tree → Tree → Type 0)
  Same tree tree' = (rest rest' : List RowTold) → each (told S B) (rows tree) ++ rest ≡ each (told S B') (rows tree') ++ rest' → (value tree ≡ value tree') × (rest ≡ rest')

  same-told : (r r' : Row) (t : ℕ) → r.ty ≡ t → r'.ty ≡ t → told S B r ≡ told S B' r' → (r.count ≡ r'.count) × (held_by B (S t) r.place r.length ≡ held_by B' (S t) r'.place r'.length)
  same-told r r' t a b e =
      let k : held_by B (S r.ty) r.place r.length ≡ held_by B' (S r'.ty) r'.place r'.length = ap (λ (w : RowTold). w.held) e in
      (ap (λ (w : RowTold). w.count) e, rw (a, b) at k)

  mutual
    unfolding rows rows_all value values FitsKnown AllKnown

    determined : (tree tree' : Tree) (t : ℕ) → FitsKnown S B tree t → FitsKnown S B' tree' t → Same tree tree'
    determined (tip r x) (tip r' x') t q q' rest rest' e =
        let k = same-told r r' t q.0 q'.0 (cc) in
        let a = leaf-told B (S t) r x q.1 in
        let b = leaf-told B' (S t) r' x' q'.1 in
        (cc k.1, cc)
    determined (tip r x) (branch r' h' ts') t q q' rest rest' e = absurd (clash B B' (S t) _ _ _ _ _ _ _ q.1 q'.1)
    determined (branch r h ts) (tip r' x') t q q' rest rest' e = absurd (clash B' B (S t) _ _ _ _ _ _ _ q'.1 q.1)
    determined (branch r h ts) (branch r' h' ts') t q q' rest rest' e =
        let k = same-told r r' t q.0 q'.0 (cc) in
        let a = head-told B B' (S t) r r' h h' q.1 q'.1 k.0 k.1 in
        let w = all_told ts ts' (plan (S t) h) q.2 (rw a q'.2) rest rest' (cc) in
        (cc (a, w.0), w.1)

    all_told : (ts ts' : Forest) (is : List Item) → AllKnown S B ts is → AllKnown S B' ts' is → (rest rest' : List RowTold)
        → each (told S B) (rows_all ts) ++ rest ≡ each (told S B') (rows_all ts') ++ rest' → (values ts ≡ values ts') × (rest ≡ rest')
    all_told stop stop is q q' rest rest' e = (refl, e)
    all_told stop (plus t' ts') [] q q' rest rest' e = absurd q'
    all_told stop (plus t' ts') (i ∷ is) q q' rest rest' e = absurd q
    all_told (plus t ts) ts' [] q q' rest rest' e = absurd q
    all_told (plus t ts) stop (i ∷ is) q q' rest rest' e = absurd q'
    all_told (plus t ts) (plus t' ts') (i ∷ is) q q' rest rest' e =
        let w = determined t t' i.type q.0 q'.0 (each (told S B) (rows_all ts) ++ rest) (each (told S B') (rows_all ts') ++ rest') (simp (map-append, append_assoc) at e) in
        let v = all_told ts ts' is q.1 q'.1 rest rest' w.1 in
        (cc, v.1)

-- Rows that tell the same, over whatever bytes, show the same value.
pub known-once : (S : ℕ → Shape) (t : ℕ) (B B' : List ℕ) (v v' : Value) (rs rs' : List Row) → ShowsKnown S B t rs v → ShowsKnown S B' t rs' v'
    → each (told S B) rs ≡ each (told S B') rs' → v ≡ v'
known-once S t B B' v v' rs rs' (tree, r, f, k) (tree', r', f', k') e =
    sym k ∙ (determined S B B' tree tree' t f f' [] [] (rw (r, r', e))).0 ∙ k'

module _ (S : ℕ → Shape) (t : ℕ) (fs : List Field) (st : S t ≡ struct fs) where
  pub shows-known : (B : List ℕ) (v : Value) (rs : List Row) → Shows S B t fs rs v → ShowsKnown S B t rs v
  shows-known B v rs (tree, r, f, k) = (tree, r, root-known S B t fs st tree f, k)

  pub told-once : (B B' : List ℕ) (v v' : Value) (rs rs' : List Row) → Shows S B t fs rs v → Shows S B' t fs rs' v'
      → each (told S B) rs ≡ each (told S B') rs' → v ≡ v'
  told-once B B' v v' rs rs' s s' e = known-once S t B B' v v' rs rs' (shows-known B v rs s) (shows-known B' v' rs' s') e

  -- Rows over bytes show one value.
  pub root-once : (B : List ℕ) (v v' : Value) (rs : List Row) → Shows S B t fs rs v → Shows S B t fs rs v' → v ≡ v'
  root-once B v v' rs s s' = told-once B B v v' rs rs s s' refl
