-- The whole reader's answers, taken apart and put together.
use mathlib.Core.Path.{◌≡◌, refl, ap, ◌∙◌}
use mathlib.Core.List.{List}
use mathlib.Core.Bool.{Bool, true, false, cond}
use Prim.Native.Nat.{ℕ, ◌+◌, ◌-◌, ◌≤◌}
use native.Mathlib.Omega.{arith}
use lib.Dec.{leb}
use lib.ListN.{length, length-append, length-drop}
use borrow.Author.Tests.{leb-true, le-leb}
use Rattle.wire.proofs.Cases.{differ}
use Rattle.parse.specs.Reader.{Cursor, Answer, refused, seen, cursor_at}
use Rattle.parse.proofs.Answers.{seen_end, yields-end}
use Rattle.schema.specs.declared.Field.{Field}
use Rattle.schema.specs.Table.{Shape, unknown, scalar, text, array, map, struct}
use Rattle.value.specs.declared.Row.{Row}
use Rattle.value.specs.Value.{Tree, tip, branch, Forest, stop, plus, rows, rows_all, Value, value, values, size, size_all}
use Rattle.value.specs.Comparisons as due
use Rattle.value.specs.Read.{on_struct_of, root_of, root_struct, refusal, accepted, reading_as, reading}
use Rattle.value.proofs.Shapes.{Solid}
use Rattle.value.specs.Fits.{Shows}
use Rattle.value.specs.Claims.{Rightful, ReadAs}
use Rattle.value.proofs.Root.{root-sound, root-complete}
use Rattle.value.proofs.Placed.{root-placed}
use Rattle.value.proofs.Telling.{root-once}

-- There are as many rows as values.
mutual
  unfolding rows rows_all value values size size_all

  pub sized : (tree : Tree) → length (rows tree) ≡ size (value tree)
  sized (tip r x) = refl
  sized (branch r h ts) = omega (arith, sized_all ts)

  sized_all : (ts : Forest) → length (rows_all ts) ≡ size_all (values ts)
  sized_all stop = refl
  sized_all (plus t ts) = simp length-append (omega (arith, sized t, sized_all ts))

never : {A : Type 0} {n p tp tl c : ℕ} {rs : List Row} → refusal n p ≡ accepted rs tp tl c → A
never e = differ cc

-- The rows, with the tail's place and length and the key comparisons due, are what is shown of the tree that was read, and there is room for them.
abbrev pub Gives : (Tree → List Row) → (ℕ → Shape) → (t room : ℕ) → Answer Tree → List Row → (place n comparisons : ℕ) → Tree → Type 0
Gives shown S t room m rs place n comparisons tree =
    (end : Cursor) × (m ≡ seen tree end) × (shown tree ≡ rs) × (end.at ≡ place) × (length end.left ≡ n) × (due.comparisons S (value tree) t ≡ comparisons)
    × (length rs ≤ room)

module _ (shown : Tree → List Row) (S : ℕ → Shape) (t room : ℕ) where
  pub accepted-gives : (m : Answer Tree) (rs : List Row) (place n comparisons : ℕ) → reading_as shown S t room m ≡ accepted rs place n comparisons
      → (tree : Tree) × Gives shown S t room m rs place n comparisons tree
  accepted-gives (refused _ _) rs place n comparisons e = never e
  accepted-gives (seen tree end) rs place n comparisons e = go (leb (length (shown tree)) room) refl e
    where
      go : (b : Bool) → leb (length (shown tree)) room ≡ b
          → cond b (accepted (shown tree) end.at (length end.left) (due.comparisons S (value tree) t)) (refusal 30 0) ≡ accepted rs place n comparisons
          → (tree' : Tree) × Gives shown S t room (seen tree end) rs place n comparisons tree'
      go true q e = let k : shown tree ≡ rs = cc in (tree, (end, refl, k, cc, cc, cc, rw (← k) (leb-true _ _ q)))
      go false q e = never e

  pub gives-accepted : (m : Answer Tree) (rs : List Row) (place n comparisons : ℕ) (tree : Tree) → Gives shown S t room m rs place n comparisons tree
      → reading_as shown S t room m ≡ accepted rs place n comparisons
  gives-accepted m rs place n comparisons tree (end, e, r, p, l, d, f) = let b : leb (length rs) room ≡ true = le-leb _ _ f in rw (e, r, b, p, l, d)

module _ (S : ℕ → Shape) (t : ℕ) (payload : List ℕ) where
  -- A payload that is not too long is judged by the root reader.
  pub root-of : (fs : List Field) → S t ≡ struct fs → length payload ≤ 16384 → root_of S t payload ≡ root_struct S t fs (cursor_at payload 0)
  root-of fs st l = let a : leb (length payload) 16384 ≡ true = le-leb _ _ l in rw (st, a)

  -- And what was read, it has read.
  abbrev RootRead : Tree → Cursor → Type 0
  RootRead tree end = (fs : List Field) × (S t ≡ struct fs) × (root_struct S t fs (cursor_at payload 0) ≡ seen tree end) × (length payload ≤ 16384)

  pub root-inv : (tree : Tree) (end : Cursor) → root_of S t payload ≡ seen tree end → RootRead tree end
  root-inv tree end e = go (S t) refl e
    where
      inside : (fs : List Field) → S t ≡ struct fs → (a : Bool) → leb (length payload) 16384 ≡ a
          → cond a (root_struct S t fs (cursor_at payload 0)) (refused 7 0) ≡ seen tree end → RootRead tree end
      inside fs st true p e = (fs, st, e, leb-true _ _ p)
      inside fs st false p e = differ cc

      go : (s : Shape) → S t ≡ s
          → on_struct_of s (refused 46 0) (λ fs. cond (leb (length payload) 16384) (root_struct S t fs (cursor_at payload 0)) (refused 7 0)) ≡ seen tree end
          → RootRead tree end
      go (struct fs) st e = inside fs st _ refl e
      go unknown st e = differ cc
      go (scalar _) st e = differ cc
      go (text _) st e = differ cc
      go (array _) st e = differ cc
      go (map _ _) st e = differ cc

module _ (S : ℕ → Shape) (t : ℕ) (payload : List ℕ) (room : ℕ) where
  pub as_root : (fs : List Field) → S t ≡ struct fs → length payload ≤ 16384 → reading S t room (root_of S t payload) ≡ reading S t room (root_struct S t fs (cursor_at payload 0))
  as_root fs st l = ap (reading S t room) (root-of S t payload fs st l)

  -- What is accepted, with its tree and the cursor at its tail.
  pub record Accepts (rs : List Row) (place n comparisons : ℕ) : Type 0 where
    pub fs : List Field
    pub tree : Tree
    pub end : Cursor
    pub is-struct : S t ≡ struct fs
    pub reads : root_struct S t fs (cursor_at payload 0) ≡ seen tree end
    pub has-rows : rows tree ≡ rs
    pub has-place : end.at ≡ place
    pub has-length : length end.left ≡ n
    pub has-comparisons : due.comparisons S (value tree) t ≡ comparisons
    pub short : length payload ≤ 16384
    pub fits : length rs ≤ room

  pub accepts : (rs : List Row) (place n comparisons : ℕ) → reading S t room (root_of S t payload) ≡ accepted rs place n comparisons → Accepts rs place n comparisons
  accepts rs place n comparisons e =
      let (tree, (end, k, r, p, l, d, f)) = accepted-gives rows S t room (root_of S t payload) rs place n comparisons e in
      let (fs, st, m, short) = root-inv S t payload tree end k in
      record { fs = fs; tree = tree; end = end; is-struct = st; reads = m; has-rows = r; has-place = p; has-length = l; has-comparisons = d; short = short; fits = f }

  pub accepted-of : (rs : List Row) (place n comparisons : ℕ) → Accepts rs place n comparisons → reading S t room (root_of S t payload) ≡ accepted rs place n comparisons
  accepted-of rs place n comparisons a =
      gives-accepted rows S t room _ rs place n comparisons a.tree
      (a.end, root-of S t payload a.fs a.is-struct a.short ∙ a.reads, a.has-rows, a.has-place, a.has-length, a.has-comparisons, a.fits)

-- ---- values

-- What a root reader reads stands in the payload: its rows show its value, and the tail reaches to the end.
pub root_in : (S : ℕ → Shape) (t : ℕ) (fs : List Field) (payload : List ℕ) (tree : Tree) (end : Cursor) → root_struct S t fs (cursor_at payload 0) ≡ seen tree end
    → Shows S payload t fs (rows tree) (value tree) × (end.at + length end.left ≡ length payload)
root_in S t fs payload tree end e =
    let w = seen_end (root-placed payload S t fs (cursor_at payload 0) (refl, omega arith)) e in
    let l : length end.left ≡ length payload - end.at = ap length w.0.0 ∙ length-drop end.at payload in
    ((tree, refl, w.1, refl), omega (arith, w.0.1))

module _ (S : ℕ → Shape) (t : ℕ) (fs : List Field) (st : S t ≡ struct fs) (payload : List ℕ) (room : ℕ) (v : Value) (place n : ℕ) where
  pub read_rightful : ReadAs S t fs payload (reading S t room (root_of S t payload)) v place n → Rightful S t fs payload room v place n
  read_rightful (rs, e, s) =
      let a = accepts S t payload room rs place n _ e in
      let f : a.fs ≡ fs = cc a.is-struct in
      let k : root_struct S t fs (cursor_at payload 0) ≡ seen a.tree a.end = rw f at a.reads in
      let w = root_in S t fs payload a.tree a.end k in
      let u : value a.tree ≡ v = root-once S t fs st payload (value a.tree) v rs (rw a.has-rows at w.0) s in
      let z : length (rows a.tree) ≡ length rs = ap length a.has-rows in (
        a.end.left,
        rw u at (seen_end (root-sound S t fs (cursor_at payload 0)) k),
        a.short,
        rw (← u) (omega (arith, sized a.tree, a.fits)),
        a.has-length,
        omega (arith, w.1, a.has-place, a.has-length),
      )

  pub rightful_read : ((t : ℕ) → Solid (S t)) → Rightful S t fs payload room v place n → ReadAs S t fs payload (reading S t room (root_of S t payload)) v place n
  rightful_read solid (tail, q, l, b, h, p) =
      let (tree, end, e, (u, z)) = yields-end (root-complete S t fs solid v tail (cursor_at payload 0) q) in
      let w = root_in S t fs payload tree end e in
      let i : length end.left ≡ n = ap length z ∙ h in
      let r : length (rows tree) ≤ room = omega (arith, sized tree, ap size u) in (
        rows tree,
        accepted-of S t payload room (rows tree) place n (due.comparisons S v t)
            (record { fs = fs; tree = tree; end = end; is-struct = st; reads = e; has-rows = refl; has-place = omega (arith, w.1); has-length = i; has-comparisons = rw u; short = l; fits = r }),
        rw u at w.0,
      )
