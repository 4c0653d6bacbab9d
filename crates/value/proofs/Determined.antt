-- A payload determines its rows: trees that fit it and delimit its bytes are the same, and an accepted payload has such a tree.
use mathlib.Core.Path.{◌≡◌, refl, sym, ap, ap₂, subst, ◌∙◌}
use mathlib.Core.List.{List, [], ◌∷◌, ◌++◌}
use Prim.Native.Nat.{ℕ, zero, suc, ◌+◌, ◌-◌, ◌≤◌, zero-le}
use native.Mathlib.Omega.{arith}
use lib.ListN.{length, drop, take-append-drop, length-take, length-drop}
use lib.Seq.{drop-drop}
use Rattle.buffer.specs.Span.{span}
use Rattle.buffer.proofs.Spans.{length-span}
use Rattle.wire.specs.Varuint.{front_var_u_int, Spelled, Number}
use Rattle.wire.proofs.Varuints.{spelled-reads}
use Rattle.wire.proofs.Cases.{differ}
use Rattle.parse.specs.Reader.{Cursor, seen, cursor_at}
use Rattle.parse.proofs.Answers.{yields-end, seen_end}
use Rattle.schema.specs.declared.Field.{Field}
use Rattle.schema.specs.Table.{Shape, unknown, scalar, text, array, map, struct}
use Rattle.value.specs.declared.Row.{Row}
use Rattle.value.specs.Value.{Tree, tip, branch, Forest, stop, plus, rows, Value, leaf, node, Values, some, value, values}
use Rattle.value.specs.Read.{Item, plan, root_of, accepted, reading}
use Rattle.value.specs.Spell.{keys_of, Distinct, WholeSpells, Spells, RootSpells}
use Rattle.value.specs.Fits.{LeafFits, HeadFits, AllFit, Fits, RootFits}
use Rattle.value.specs.Delimits.{AllStand, NodeSpan, first_at, Delimits, RootDelimits}
use Rattle.value.specs.Claims.{DelimitedTree, Delimited}
use Rattle.value.proofs.Shapes.{Solid}
use Rattle.value.proofs.Complete.{takes, parse-complete}
use Rattle.value.proofs.Root.{root-complete}
use Rattle.value.proofs.Placed.{root-placed}
use Rattle.value.proofs.Delimited.{joined, root-delimits}
use Rattle.value.proofs.Reading.{accepted-gives, gives-accepted, root-of, root-inv, root_in}

-- ---- values that are the same

leaf-same : (x y : List ℕ) → leaf x ≡ leaf y → x ≡ y
leaf-same x y e = cc

node-same : (h k : ℕ) (vs ws : Values) → node h vs ≡ node k ws → (h ≡ k) × (vs ≡ ws)
node-same h k vs ws e = (cc, cc)

some_same : (v w : Value) (vs ws : Values) → some v vs ≡ some w ws → (v ≡ w) × (vs ≡ ws)
some_same v w vs ws e = (cc, cc)

other-value : {A : Type 0} (x : List ℕ) (h : ℕ) (vs : Values) → leaf x ≡ node h vs → A
other-value x h vs e = differ cc

row_same : (r q : Row) → r.ty ≡ q.ty → r.place ≡ q.place → r.length ≡ q.length → r.count ≡ q.count → r ≡ q
row_same r q a b c d = λ i. record { ty = a i; place = b i; length = c i; count = d i }

module _ (S : ℕ → Shape) (solid : (t : ℕ) → Solid (S t)) (B : List ℕ) where
  -- ---- ends

  parted : (a b : ℕ) → a ≤ b → drop a B ≡ span B a (b - a) ++ drop b B
  parted a b h =
      let k : a + (b - a) ≡ b = omega arith in
      sym (take-append-drop (b - a) (drop a B)) ∙ ap (λ (l : List ℕ). span B a (b - a) ++ l) (drop-drop (b - a) a B ∙ ap (λ (n : ℕ). drop n B) k)

  drop-once : (b c : ℕ) → b ≤ length B → c ≤ length B → drop b B ≡ drop c B → b ≡ c
  drop-once b c h l e =
      let n : length B - b ≡ length B - c = sym (length-drop b B) ∙ ap length e ∙ length-drop c B in
      omega arith

  reaches : (d t : ℕ) (v : Value) (a b : ℕ) → Spells S d t v (span B a (b - a)) → a ≤ b
  reaches d t v a b q = omega (arith, takes S solid d t v (span B a (b - a)) q, length-take (b - a) (drop a B))

  -- Bytes of one value from one place on end at one place.
  same_end : (d t : ℕ) (v : Value) (a b c : ℕ) → b ≤ length B → c ≤ length B → Spells S d t v (span B a (b - a)) → Spells S d t v (span B a (c - a)) → b ≡ c
  same_end d t v a b c h l q q' =
      let y = yields-end (parse-complete S solid d t v (span B a (b - a)) (drop b B) (cursor_at B a) q (parted a b (reaches d t v a b q))) in
      let y' = yields-end (parse-complete S solid d t v (span B a (c - a)) (drop c B) (cursor_at B a) q' (parted a c (reaches d t v a c q'))) in
      drop-once b c h l (cc (y.2, y'.2, y.3.1, y'.3.1))

  -- And so does a VarUInt.
  number-end : (k a b : ℕ) → a ≤ b → b ≤ length B → Spelled k (span B a (b - a)) → front_var_u_int (drop a B) 0 ≡ Number k (b - a)
  number-end k a b h l q =
      let n : 0 + length (span B a (b - a)) ≡ b - a = omega (arith, length-span B a (b - a) (omega arith)) in
      rw n at (rw (← parted a b h) at (spelled-reads k (span B a (b - a)) (drop b B) 0 q))

  same_count : (k a b c : ℕ) → a ≤ b → b ≤ length B → a ≤ c → c ≤ length B → Spelled k (span B a (b - a)) → Spelled k (span B a (c - a)) → b ≡ c
  same_count k a b c h l h' l' q q' =
      let e = number-end k a b h l q in
      let e' = number-end k a c h' l' q' in
      let n : b - a ≡ c - a = cc (e, e') in
      omega arith

  -- ---- what is delimited is spelled

  node-spelled : (d : ℕ) (s : Shape) (h start p n end : ℕ) (ts : Forest) → p + n ≡ end → Distinct (keys_of (plan s h) (values ts))
      → NodeSpan (Spells S d) B s h (values ts) start p n → WholeSpells (Spells S d) s (node h (values ts)) (span B start (end - start))
  node-spelled d (struct fs) h start p n end ts e a o = let k : end - start ≡ n = omega (arith, o.0) in rw (k, ← o.0) o.1
  node-spelled d (array _) h start p n end ts e a o =
      let k : end - p ≡ n = omega arith in
      (_, _, rw k at (joined B start p end o.0 (omega arith)), o.1, o.2, a)
  node-spelled d (map _ _) h start p n end ts e a o =
      let k : end - p ≡ n = omega arith in
      (_, _, rw k at (joined B start p end o.0 (omega arith)), o.1, o.2, a)
  node-spelled d unknown h start p n end ts e a o = absurd o
  node-spelled d (scalar _) h start p n end ts e a o = absurd o
  node-spelled d (text _) h start p n end ts e a o = absurd o

  spelled : (d t : ℕ) (tree : Tree) (start end : ℕ) → Fits S B d t tree → Delimits S B d t tree start end
      → Spells S d t (value tree) (span B start (end - start)) × (end ≤ length B)
  unfolding value
  spelled zero t tree start end f a = absurd f
  spelled (suc d) t (tip r x) start end f a = (a.0, omega (arith, a.1.0, a.2))
  spelled (suc d) t (branch r h ts) start end f a = (node-spelled d (S t) h start r.place r.length end ts a.1 f.3 a.0, a.2)

  -- ---- one tree

  leaf-count : (s : Shape) (p n c : ℕ) (x : List ℕ) → LeafFits B s p n c x → c ≡ 0
  leaf-count (scalar _) p n c x f = f.1
  leaf-count (text _) p n c x f = f.0
  leaf-count unknown p n c x f = absurd f
  leaf-count (array _) p n c x f = absurd f
  leaf-count (map _ _) p n c x f = absurd f
  leaf-count (struct _) p n c x f = absurd f

  head-count : (s : Shape) (p p' c c' h : ℕ) → HeadFits B s p c h → HeadFits B s p' c' h → c ≡ c'
  head-count (array _) p p' c c' h f g = f ∙ sym g
  head-count (map _ _) p p' c c' h f g = f.0 ∙ sym g.0
  head-count (struct _) p p' c c' h f g = f.2 ∙ sym g.2
  head-count unknown p p' c c' h f g = absurd f
  head-count (scalar _) p p' c c' h f g = absurd f
  head-count (text _) p p' c c' h f g = absurd f

  head-place : (d : ℕ) (s : Shape) (h start p n p' n' end : ℕ) (vs ws : Values) → p + n ≡ end → p' + n' ≡ end → end ≤ length B
      → NodeSpan (Spells S d) B s h vs start p n → NodeSpan (Spells S d) B s h ws start p' n' → p ≡ p'
  head-place d (struct _) h start p n p' n' end vs ws e e' l o o' = o.0 ∙ sym o'.0
  head-place d (array _) h start p n p' n' end vs ws e e' l o o' = same_count h start p p' o.0 (omega arith) o'.0 (omega arith) o.1 o'.1
  head-place d (map _ _) h start p n p' n' end vs ws e e' l o o' = same_count h start p p' o.0 (omega arith) o'.0 (omega arith) o.1.0 o'.1.0
  head-place d unknown h start p n p' n' end vs ws e e' l o o' = absurd o
  head-place d (scalar _) h start p n p' n' end vs ws e e' l o o' = absurd o
  head-place d (text _) h start p n p' n' end vs ws e e' l o o' = absurd o

  -- Trees of one value with d levels, from one place up to another, are the same.
  abbrev Once : ℕ → Type 0
  Once d =
      (t : ℕ) (tree other : Tree) (start end : ℕ) → Fits S B d t tree → Fits S B d t other → Delimits S B d t tree start end → Delimits S B d t other start end
      → value tree ≡ value other → tree ≡ other

  all_once : (d : ℕ) → Once d → (is : List Item) (ts us : Forest) (start end end' : ℕ) → AllFit (Fits S B d) is ts → AllFit (Fits S B d) is us
      → AllStand (Delimits S B d) is ts start end → AllStand (Delimits S B d) is us start end' → values ts ≡ values us → ts ≡ us
  unfolding values
  all_once d once [] stop stop start end end' f g a b v = refl
  all_once d once [] (plus t ts) us start end end' f g a b v = absurd f
  all_once d once [] stop (plus u us) start end end' f g a b v = absurd g
  all_once d once (i ∷ is) stop us start end end' f g a b v = absurd f
  all_once d once (i ∷ is) (plus t ts) stop start end end' f g a b v = absurd g
  all_once d once (i ∷ is) (plus t ts) (plus u us) start end end' f g a b v =
      let w = some_same (value t) (value u) (values ts) (values us) v in
      let x = spelled d i.type t start a.0 f.0 a.1 in
      let y = spelled d i.type u start b.0 g.0 b.1 in
      let e : a.0 ≡ b.0 = same_end d i.type (value t) start a.0 b.0 x.1 y.1 x.0 (subst (λ (z : Value). Spells S d i.type z (span B start (b.0 - start))) (sym w.0) y.0) in
      ap₂ {C = Forest} plus
      (once i.type t u start a.0 f.0 g.0 a.1 (subst (λ (n : ℕ). Delimits S B d i.type u start n) (sym e) b.1) w.0)
      (all_once d once is ts us a.0 end end' f.1 g.1 a.2 (subst (λ (n : ℕ). AllStand (Delimits S B d) is us n end') (sym e) b.2) w.1)

  tip-once : (d t : ℕ) (r q : Row) (x y : List ℕ) (start end : ℕ) → Fits S B (suc d) t (tip r x) → Fits S B (suc d) t (tip q y)
      → Delimits S B (suc d) t (tip r x) start end → Delimits S B (suc d) t (tip q y) start end → x ≡ y → tip r x ≡ tip q y
  tip-once d t r q x y start end f g a b e =
      let m : length x ≡ r.length = ap length a.1.1 ∙ length-span B r.place r.length a.1.0 in
      let n : length y ≡ q.length = ap length b.1.1 ∙ length-span B q.place q.length b.1.0 in
      let l : r.length ≡ q.length = sym m ∙ ap length e ∙ n in
      let c : r.count ≡ q.count = leaf-count (S t) r.place r.length r.count x f.1 ∙ sym (leaf-count (S t) q.place q.length q.count y g.1) in
      ap₂ {C = Tree} tip (row_same r q (f.0 ∙ sym g.0) (omega (arith, a.2, b.2)) l c) e

  branch-once : (d t : ℕ) → Once d → (r q : Row) (h : ℕ) (ts us : Forest) (start end : ℕ) → Fits S B (suc d) t (branch r h ts) → Fits S B (suc d) t (branch q h us)
      → Delimits S B (suc d) t (branch r h ts) start end → Delimits S B (suc d) t (branch q h us) start end → values ts ≡ values us → branch r h ts ≡ branch q h us
  branch-once d t once r q h ts us start end f g a b v =
      let p : r.place ≡ q.place = head-place d (S t) h start r.place r.length q.place q.length end (values ts) (values us) a.1 b.1 a.2 a.0 b.0 in
      let n : r.length ≡ q.length = omega (arith, a.1, b.1) in
      let w = subst (λ (k : ℕ). AllStand (Delimits S B d) (plan (S t) h) us (first_at (S t) k) end) (sym p) b.3 in
      ap₂ {C = Tree} (λ (k : Row) (l : Forest). branch k h l)
      (row_same r q (f.0 ∙ sym g.0) p n (head-count (S t) r.place q.place r.count q.count h f.1 g.1))
      (all_once d once (plan (S t) h) ts us (first_at (S t) r.place) end end f.2 g.2 a.3 w v)

  tree-once : (d : ℕ) → Once d
  unfolding value
  tree-once zero t tree other start end f g a b v = absurd f
  tree-once (suc d) t (tip r x) (tip q y) start end f g a b v = tip-once d t r q x y start end f g a b (leaf-same x y v)
  tree-once (suc d) t (tip r x) (branch q k us) start end f g a b v = other-value x k (values us) v
  tree-once (suc d) t (branch r h ts) (tip q y) start end f g a b v = other-value y h (values ts) (sym v)
  tree-once (suc d) t (branch r h ts) (branch q k us) start end f g a b v =
      let w = node-same h k (values ts) (values us) v in
      subst
      (λ (j : ℕ). Fits S B (suc d) t (branch q j us) → Delimits S B (suc d) t (branch q j us) start end → branch r h ts ≡ branch q j us)
      w.0 (λ g' b'. branch-once d t (tree-once d) r q h ts us start end f g' a b' w.1) g b

  -- ---- the root

  roots-once : (t : ℕ) (fs : List Field) (r q : Row) (h : ℕ) (ts us : Forest) (end : ℕ) → RootFits S B t fs (branch r h ts) → RootFits S B t fs (branch q h us)
      → RootDelimits S B fs (branch r h ts) end → RootDelimits S B fs (branch q h us) end → values ts ≡ values us → branch r h ts ≡ branch q h us
  roots-once t fs r q h ts us end f g a b v =
      ap₂ {C = Tree} (λ (k : Row) (l : Forest). branch k h l)
      (row_same r q (f.1 ∙ sym g.1) (a.1 ∙ sym b.1) (a.2 ∙ sym b.2) (f.4 ∙ sym g.4))
      (all_once 15 (tree-once 15) (plan (struct fs) h) ts us _ end end f.5 g.5 a.4 b.4 v)

  -- Two trees that fit the payload and delimit its bytes are the same, and so are the places of their tails.
  pub determined : (t : ℕ) (fs : List Field) (tree other : Tree) (end end' : ℕ) → RootFits S B t fs tree → RootFits S B t fs other
      → RootDelimits S B fs tree end → RootDelimits S B fs other end' → (tree ≡ other) × (end ≡ end')
  determined t fs (tip r x) other end end' f g a b = absurd f
  determined t fs (branch r h ts) (tip q y) end end' f g a b = absurd g
  determined t fs (branch r h ts) (branch q k us) end end' f g a b =
      let y = yields-end (root-complete S t fs solid (node h (values ts)) (drop end B) (cursor_at B 0) a.0) in
      let z = yields-end (root-complete S t fs solid (node k (values us)) (drop end' B) (cursor_at B 0) b.0) in
      let w = node-same h k (values ts) (values us) (cc (y.2, z.2, y.3.0, z.3.0)) in
      let e : end ≡ end' = drop-once end end' a.3 b.3 (cc (y.2, z.2, y.3.1, z.3.1)) in
      let b' = subst (λ (n : ℕ). RootDelimits S B fs (branch q k us) n) (sym e) b in (
        subst
            (λ (j : ℕ). RootFits S B t fs (branch q j us) → RootDelimits S B fs (branch q j us) end → branch r h ts ≡ branch q j us)
            w.0 (λ g' b''. roots-once t fs r q h ts us end f g' a b'' w.1) g b',
        e,
      )

-- ---- the answer

module _ (S : ℕ → Shape) (t : ℕ) (payload : List ℕ) where
  -- What is read delimits the payload.
  pub read-tree : (tree : Tree) (end : Cursor) → root_of S t payload ≡ seen tree end → DelimitedTree S t payload tree end.at (length end.left)
  read-tree tree end e =
      let (fs, st, k, short) = root-inv S t payload tree end e in
      let f = seen_end (root-placed payload S t fs (cursor_at payload 0) (refl, zero-le)) k in
      (fs, st, f.1, root-delimits payload S t fs tree end k, (root_in S t fs payload tree end k).1, short)

  root-spelled : (fs : List Field) (tree : Tree) (place : ℕ) → RootDelimits S payload fs tree place → RootSpells S fs (value tree) payload (drop place payload)
  unfolding value
  root-spelled fs (tip r x) place d = absurd d
  root-spelled fs (branch r h ts) place d = d.0

  -- And what delimits the payload is read: no other tree does.
  pub tree-read : ((t : ℕ) → Solid (S t)) → (tree : Tree) (place n : ℕ) → DelimitedTree S t payload tree place n
      → (end : Cursor) × (root_of S t payload ≡ seen tree end) × (end.at ≡ place) × (length end.left ≡ n)
  tree-read solid tree place n (fs, st, f, d, l, short) =
      let (read, end, e, _) = yields-end (root-complete S t fs solid (value tree) (drop place payload) (cursor_at payload 0) (root-spelled fs tree place d)) in
      let g = (seen_end (root-placed payload S t fs (cursor_at payload 0) (refl, zero-le)) e).1 in
      let w = determined S solid payload t fs read tree end.at place g f (root-delimits payload S t fs read end e) d in
      (end, root-of S t payload fs st short ∙ e ∙ ap (λ (x : Tree). seen x end) w.0, w.1, omega (arith, (root_in S t fs payload read end e).1, w.1))

module _ (S : ℕ → Shape) (t : ℕ) (payload : List ℕ) (room : ℕ) (rs : List Row) (place n comparisons : ℕ) where
  pub read_delimited : reading S t room (root_of S t payload) ≡ accepted rs place n comparisons → Delimited S t payload room rs place n comparisons
  read_delimited e =
      let (tree, (end, k, r, p, l, c, f)) = accepted-gives rows S t room _ rs place n comparisons e in
      (tree, rw (p, l) at (read-tree S t payload tree end k), r, c, f)

  pub delimited_read : ((t : ℕ) → Solid (S t)) → Delimited S t payload room rs place n comparisons → reading S t room (root_of S t payload) ≡ accepted rs place n comparisons
  delimited_read solid (tree, d, r, c, f) =
      let (end, k, p, l) = tree-read S t payload solid tree place n d in
      gives-accepted rows S t room _ rs place n comparisons tree (end, k, r, p, l, c, f)
