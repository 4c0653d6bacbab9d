-- Laws of the root: its known fields as those of any struct, and what follows them.
use mathlib.Core.Path.{◌≡◌, refl, sym, ap, ◌∙◌}
use mathlib.Core.Bool.{Bool, true, false, not, ◌&&◌, false≢true}
use mathlib.Core.List.{List, []}
use Prim.Native.Nat.{ℕ, zero, suc, ◌-◌, ◌≤◌, ◌<◌}
use native.Mathlib.Omega.{arith}
use borrow.Author.Tests.{eqb-true, eq-eqb, ne_eqb, le-leb, lt-leb}
use lib.Dec.{eqb}
use lib.ListN.{length, drop, length-drop}
use Rattle.wire.proofs.Cases.{differ}
use Rattle.parse.specs.Reader.{Answer, refused, seen, Reader, and_then, check, cursor_at, Accepted}
use Rattle.parse.proofs.Answers.{accepted-first}
use Rattle.schema.specs.declared.Field.{Field}
use Rattle.schema.proofs.Bools.{and_left, and_right}
use Rattle.schema.specs.Table.{Shape, struct}
use Rattle.value.specs.Value.{Tree, branch, Forest}
use Rattle.value.specs.Read.{row_count, plan, bitmap, parts, walk, node_row, whole_value, parse, root_ending, root_struct}
use Rattle.flat.specs.Head.{Head, Bits, Refused as HeadRefused}
use Rattle.flat.specs.Walk.{Walk, Past, Refused, Told, done, stopped, walk_of, Walked}
use Rattle.flat.specs.Leaf.{head_of, HeadIn, Headed}
use Rattle.reader.specs.Root.{Ended, whole, faulty}

-- ---- what follows the known fields

-- something follows though no unknown bit is set
pub surplus-told : (u rest : ℕ) → (eqb u 0 && not (eqb rest 0)) ≡ true → (u ≡ 0) × (rest ≡ 0 → ⊥)
surplus-told u rest e = (
  eqb-true u 0 (and_left (eqb u 0) (not (eqb rest 0)) e),
  λ z. let f : not (eqb rest 0) ≡ false = rw (eq-eqb rest 0 z) in false≢true (sym f ∙ and_right (eqb u 0) (not (eqb rest 0)) e),
)

pub no-surplus : (u rest : ℕ) → (eqb u 0 && not (eqb rest 0)) ≡ false → u ≡ 0 → rest ≡ 0
no-surplus u rest e z = go (eqb rest 0) refl
  where
    go : (b : Bool) → eqb rest 0 ≡ b → rest ≡ 0
    go true q = eqb-true rest 0 q
    go false q = let f : true ≡ false = rw (eq-eqb u 0 z, q) at e in absurd (false≢true (sym f))

module _ (p : List ℕ) (next : ℕ) where
  pub ending-surplus : (u : ℕ) → u ≡ 0 → (length p - next ≡ 0 → ⊥) → root_ending u (cursor_at p next) ≡ refused 27 next
  unfolding root_ending check
  ending-surplus zero e h =
      let k : length (drop next p) ≡ 0 → ⊥ = λ z. h (sym (length-drop next p) ∙ z) in
      rw (ne_eqb (length (drop next p)) 0 k)
  ending-surplus (suc u) e h = absurd (omega arith)

  pub ending-short : (u : ℕ) → length p - next < u → root_ending u (cursor_at p next) ≡ refused 20 next
  unfolding root_ending check
  ending-short zero h = absurd (omega arith)
  ending-short (suc u) h =
      let k : length (drop next p) < suc u = rw length-drop h in
      rw (lt-leb (suc u) (length (drop next p)) k)

  pub ending-fits : (u : ℕ) → u ≤ length p - next → (u ≡ 0 → length p - next ≡ 0) → root_ending u (cursor_at p next) ≡ seen tt (cursor_at p next)
  unfolding root_ending check
  ending-fits zero h z =
      let k : length (drop next p) ≡ 0 = length-drop next p ∙ z refl in
      rw (eq-eqb (length (drop next p)) 0 k)
  ending-fits (suc u) h z =
      let k : suc u ≤ length (drop next p) = rw length-drop h in
      rw (le-leb (suc u) (length (drop next p)) k)

-- ---- the root

-- The end of a root with so many unknown bits, after its known fields.
after_fields : ℕ → Tree → Reader Tree
after_fields u tree c = and_then (root_ending u c) (λ _ c. seen tree c)

module _ (t place n h u : ℕ) where
  regrouped : (o : Answer Forest)
      → and_then o (λ ts end. and_then (root_ending u end) (λ _ c. seen (branch (node_row t place end.at n) h ts) c))
      ≡ and_then (and_then o (λ ts end. seen (branch (node_row t place end.at n) h ts) end)) (after_fields u)
  unfolding and_then after_fields
  regrouped (seen ts c) = refl
  regrouped (refused m q) = refl

module _ (tell : Tree → Told) (p : List ℕ) (comparisons next row' : ℕ) (l m : List ℕ) (u : ℕ) where
  end-past : (o : Answer Tree) → done (cursor_at p next) comparisons row' m ≡ walk_of tell o 0 0 l → root_ending u (cursor_at p next) ≡ seen tt (cursor_at p next)
      → done (cursor_at p next) comparisons row' m ≡ walk_of tell (and_then o (after_fields u)) 0 0 l
  unfolding and_then after_fields
  end-past (seen tree c) e f = let k : cursor_at p next ≡ c = cc in rw (← k, f) (rw (← k) at e)
  end-past (refused a q) e f = differ cc

  end-stop : (o : Answer Tree) → done (cursor_at p next) comparisons row' m ≡ walk_of tell o 0 0 l → (a q : ℕ) → root_ending u (cursor_at p next) ≡ refused a q
      → stopped a q ≡ walk_of tell (and_then o (after_fields u)) 0 0 l
  unfolding and_then after_fields
  end-stop (seen tree c) e a q f = let k : cursor_at p next ≡ c = cc in rw (← k, f)
  end-stop (refused b r) e a q f = differ cc

fields-stop : (tell : Tree → Told) (l : List ℕ) (u a q : ℕ) (o : Answer Tree) → stopped a q ≡ walk_of tell o 0 0 l
    → stopped a q ≡ walk_of tell (and_then o (after_fields u)) 0 0 l
unfolding and_then
fields-stop tell l u a q (seen tree c) e = differ cc
fields-stop tell l u a q (refused b r) e = e

module _ (S : ℕ → Shape) (t : ℕ) (fs : List Field) (p : List ℕ) where
  -- where the root is accepted, its bitmap is
  pub root-bitmap : Accepted (root_struct S t fs (cursor_at p 0)) → Accepted (bitmap fs (cursor_at p 0))
  unfolding root_struct
  root-bitmap h = accepted-first (bitmap fs (cursor_at p 0)) _ h

  module _ (r : Head) (read : Headed p 0 fs (bitmap fs (cursor_at p 0)) r) where
    pub root-refused : (number : ℕ) → r ≡ HeadRefused number → root_struct S t fs (cursor_at p 0) ≡ refused number 0
    unfolding root_struct and_then
    root-refused number e = rw (sym read.same ∙ ap (head_of p 0) e)

    module _ (word known ones unknown start : ℕ) (is : r ≡ Bits word known ones unknown start) where
      pub root_in : HeadIn (length p) 0 fs (Bits word known ones unknown start)
      root_in = rw is at read.within

      -- the known fields are read as those of an inner struct
      inner : Answer Tree
      inner = whole_value (parse S 15) t (struct fs) (parts 0 known) (cursor_at p start)

      root-step : root_struct S t fs (cursor_at p 0) ≡ and_then inner (after_fields unknown)
      unfolding root_struct and_then inner
      root-step =
          rw (sym read.same ∙ ap (head_of p 0) is, ← root_in.0, ← root_in.2)
          (regrouped t 0 (row_count (struct fs) known) known unknown (walk (parse S 15) [] (plan (struct fs) known) (cursor_at p start)))

      pub root-fields : Accepted (root_struct S t fs (cursor_at p 0)) → Accepted (whole_value (parse S 15) t (struct fs) (parts 0 known) (cursor_at p start))
      unfolding inner
      root-fields h = accepted-first inner (after_fields unknown) (rw root-step at h)

      -- what is told of the fields is told of the root
      module _ (tell : Tree → Told) where
        pub root-stop : (a q : ℕ) (l m : List ℕ)
            → Walked p start tell (whole_value (parse S 15) t (struct fs) (parts 0 known) (cursor_at p start)) 0 l (Refused a q) m
            → Walked p 1 tell (root_struct S t fs (cursor_at p 0)) 0 l (Refused a q) m
        unfolding inner
        root-stop a q l m w = record { same = rw root-step (fields-stop tell l unknown a q inner w.same); within = tt }

        module _ (comparisons next row' : ℕ) (l m : List ℕ)
            (w : Walked p start tell (whole_value (parse S 15) t (struct fs) (parts 0 known) (cursor_at p start)) 0 l (Past comparisons next row') m) where
          pub root-end : {r : Walk} → Ended p comparisons next row' unknown r → Walked p 1 tell (root_struct S t fs (cursor_at p 0)) 0 l r m
          unfolding inner
          root-end (faulty a e) = record { same = rw root-step (end-stop tell p comparisons next row' l m unknown inner w.same a next e); within = tt }
          root-end (whole e) =
              let v = w.within in
              record { same = rw root-step (end-past tell p comparisons next row' l m unknown inner w.same e); within = (v.0, v.1, omega (arith, root_in.4)) }
