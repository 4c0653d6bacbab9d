-- Laws of a tree without its added fields: its value, its rows and what they show, and that a tree without any stays as it is.
use mathlib.Core.Path.{◌≡◌, refl, sym, ap, ◌∙◌}
use mathlib.Core.List.{List, [], ◌∷◌, ◌++◌, append-nil}
use Prim.Native.Nat.{ℕ, ◌+◌, ◌-◌, ◌*◌, ◌%◌, ◌^◌, ◌≤◌, ◌<◌}
use native.Mathlib.Omega.{arith}
use native.Mathlib.Nat.{mod-mod, add-mul-mod_self_left}
use lib.ListN.{length, length-append}
use lib.Pow.{mod-mod-pow}
use Rattle.buffer.specs.Span.{span}
use Rattle.wire.specs.Little.{little}
use Rattle.wire.proofs.Numbers.{little-split, pow-bytes}
use Rattle.schema.specs.declared.Field.{Field}
use Rattle.schema.specs.Table.{Shape, unknown, scalar, text, array, map, struct, bitmap_bytes}
use Rattle.schema.specs.Extend.{Grows, same, gains}
use Rattle.value.specs.declared.Row.{Row}
use Rattle.value.specs.Value.{Tree, tip, branch, Forest, stop, plus, rows, rows_all, value, values}
use Rattle.value.specs.Read.{Item, plan, row_count, known_bits}
use Rattle.value.specs.Fits.{LeafFits, BitsFit, HeadKnown, FitsKnown, AllKnown}
use Rattle.value.specs.Added.{kept_head, without, without_all}
use Rattle.value.specs.Beside.{pruned, pruned_all, SomeOf, done, passed, kept}
use Rattle.value.proofs.Shapes.{Optional, Widening}
use Rattle.value.proofs.Bits.{present-append, present_mod, complete_mod, complete_gain, known-again}
use Rattle.value.proofs.TwoTables.{Below, plan-below}
use Rattle.value.proofs.Without.{◌⧺◌, trees}

-- ---- the value

module _ (S : ℕ → Shape) where
  mutual
    unfolding pruned pruned_all without without_all value values

    -- The value of a tree without the added fields is its value without them.
    pub pruned-value : (tree : Tree) (t : ℕ) → value (pruned S tree t) ≡ without S (value tree) t
    pruned-value (tip r x) t = refl
    pruned-value (branch r h ts) t = rw (pruned-values ts (plan (S t) h))

    pruned-values : (ts : Forest) (is : List Item) → values (pruned_all S ts is) ≡ without_all S (values ts) is
    pruned-values stop is = refl
    pruned-values (plus x ts) [] = refl
    pruned-values (plus x ts) (i ∷ is) = rw (pruned-value x i.type, pruned-values ts is)

-- ---- a tree of the same table

head-same : (B : List ℕ) (s : Shape) (p c h : ℕ) → HeadKnown B s p c h → (kept_head s h ≡ h) × (row_count s h ≡ c)
head-same B (array _) p c h q = (refl, sym q)
head-same B (map _ _) p c h q = (refl, sym q)
head-same B (struct fs) p c h q = (rw q.2 (mod-mod q.0 (2 ^ length fs)), sym q.3)
head-same B unknown p c h q = absurd q
head-same B (scalar _) p c h q = absurd q
head-same B (text _) p c h q = absurd q

module _ (S : ℕ → Shape) (B : List ℕ) where
  mutual
    unfolding pruned pruned_all FitsKnown AllKnown

    -- A tree that shows only what the table knows stays as it is.
    pub pruned-same : (tree : Tree) (t : ℕ) → FitsKnown S B tree t → pruned S tree t ≡ tree
    pruned-same (tip r x) t q = refl
    pruned-same (branch r h ts) t q = let e = head-same B (S t) _ _ h q.1 in rw (e.1, e.0, all_same ts (plan (S t) h) q.2)

    all_same : (ts : Forest) (is : List Item) → AllKnown S B ts is → pruned_all S ts is ≡ ts
    all_same stop is q = refl
    all_same (plus x ts) [] q = absurd q
    all_same (plus x ts) (i ∷ is) q = rw (pruned-same x i.type q.0, all_same ts is q.1)

-- ---- the rows

none_of : (rs : List Row) → SomeOf [] rs
none_of [] = done
none_of (r ∷ rs) = passed r (none_of rs)

some-append : {rs rs' qs qs' : List Row} → SomeOf rs rs' → SomeOf qs qs' → SomeOf (rs ++ qs) (rs' ++ qs')
some-append done b = b
some-append (passed r a) b = passed r (some-append a b)
some-append (kept r r' t p l a) b = kept r r' t p l (some-append a b)

module _ (S : ℕ → Shape) where
  mutual
    unfolding pruned pruned_all rows rows_all

    -- They are some of the tree's rows, as written but for the counts.
    pub pruned-rows : (tree : Tree) (t : ℕ) → SomeOf (rows (pruned S tree t)) (rows tree)
    pruned-rows (tip r x) t = kept r r refl refl refl done
    pruned-rows (branch r h ts) t = kept _ r refl refl refl (pruned-all ts (plan (S t) h))

    pruned-all : (ts : Forest) (is : List Item) → SomeOf (rows_all (pruned_all S ts is)) (rows_all ts)
    pruned-all stop is = done
    pruned-all (plus x ts) [] = none_of (rows x ++ rows_all ts)
    pruned-all (plus x ts) (i ∷ is) = some-append (pruned-rows x i.type) (pruned-all ts is)

-- What stands after the items of a plan is left out.
pub pruned-first : (S : ℕ → Shape) (us vs : Forest) (is : List Item) → trees us ≡ length is → pruned_all S (us ⧺ vs) is ≡ pruned_all S us is
unfolding pruned_all
pruned-first S stop stop is e = refl
pruned-first S stop (plus v vs) [] e = refl
pruned-first S stop (plus v vs) (i ∷ is) e = absurd (omega arith)
pruned-first S (plus u us) vs [] e = absurd (omega arith)
pruned-first S (plus u us) vs (i ∷ is) e = rw (pruned-first S us vs is (omega arith))

-- ---- what the rows show

low_bits : (a x w k : ℕ) → k ≤ 8 * w → (a + 256 ^ w * x) % 2 ^ k ≡ a % 2 ^ k
low_bits a x w k h =
    let e : 8 * w ≡ (8 * w - k) + k = omega arith in
    let b : 256 ^ w ≡ 2 ^ ((8 * w - k) + k) = pow-bytes w ∙ ap (λ (n : ℕ). 2 ^ n) e in
    sym (mod-mod-pow _ (8 * w - k) k) ∙ rw (b, add-mul-mod_self_left, mod-mod-pow)

-- The known bits of a longer bitmap stand in its first bytes.
bits-shown : (B : List ℕ) (fs gs : List Field) → Optional gs → (p m : ℕ) → BitsFit B (fs ++ gs) p m → (m' : ℕ) × BitsFit B fs p m' × (known_bits fs m ≡ known_bits fs m')
bits-shown B fs gs o p m f =
    let l = length-append fs gs in
    let j = bitmap_bytes (length (fs ++ gs)) - bitmap_bytes (length fs) in
    let e : bitmap_bytes (length (fs ++ gs)) ≡ bitmap_bytes (length fs) + j = omega arith in
    let inside : p + bitmap_bytes (length fs) ≤ length B = omega (arith, f.0) in
    let known : known_bits fs m ≡ known_bits fs (little (span B p (bitmap_bytes (length fs)))) =
    rw (f.1, e, little-split B p (bitmap_bytes (length fs)) j inside) (low_bits _ _ (bitmap_bytes (length fs)) (length fs) (omega arith)) in
    (_, (inside, refl, sym (complete_mod fs _) ∙ rw (← known, complete_mod fs m, ← complete_gain fs gs m o) f.2), known)

module _ (S S' : ℕ → Shape) (n : ℕ) (w : Widening S S' n) (B : List ℕ) where
  leaf-shown : {s s' : Shape} → Grows s s' → (p k c : ℕ) (x : List ℕ) → LeafFits B s' p k c x → LeafFits B s p k c x
  leaf-shown (same s) p k c x q = q
  leaf-shown (gains fs gs o) p k c x q = absurd q

  -- A head by the wider shape: what the narrower one shows of it; and its plan goes on after the narrower one's.
  head-shown : {s s' : Shape} → Grows s s' → (p c h : ℕ) → HeadKnown B s' p c h
      → HeadKnown B s p (row_count s h) (kept_head s h) × (plan s (kept_head s h) ≡ plan s h) × ((js : List Item) × (plan s' h ≡ plan s h ++ js))
  head-shown (same s) p c h q = let e = head-same B s p c h q in rw (e.0, e.1) (q, refl, ([], sym (append-nil (plan s h))))
  head-shown (gains fs gs o) p c h (m, f, e, k) =
      let b = bits-shown B fs gs o p m f in
      ((b.0, b.1, ap (known_bits fs) e ∙ known-again fs gs m ∙ b.2, ap length (sym (present_mod fs h))), present_mod fs h, (_, present-append fs gs h))

  mutual
    unfolding pruned pruned_all FitsKnown AllKnown

    -- What the rows show by the wider shapes, they show by the narrower ones without the added fields.
    pub tree-shown : (tree : Tree) (t : ℕ) → t < n → FitsKnown S' B tree t → FitsKnown S B (pruned S tree t) t
    tree-shown (tip r x) t l q = (q.0, leaf-shown (w.grows t l) _ _ _ x q.1)
    tree-shown (branch r h ts) t l q =
        let e = head-shown (w.grows t l) _ _ h q.1 in
        (q.0, e.0, rw e.1 (all_shown ts (plan (S t) h) e.2.0 (plan-below n (S t) h (w.closed t l)) (rw e.2.1 at q.2)))

    all_shown : (ts : Forest) (is js : List Item) → Below n is → AllKnown S' B ts (is ++ js) → AllKnown S B (pruned_all S ts is) is
    all_shown stop [] js b q = tt
    all_shown stop (i ∷ is) js b q = absurd q
    all_shown (plus x ts) [] js b q = tt
    all_shown (plus x ts) (i ∷ is) js b q = (tree-shown x i.type b.0 q.0, all_shown ts is js b.1 q.1)
