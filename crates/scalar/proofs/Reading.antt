-- The rows that are handed out are those that fit their bytes, and each leaf of an accepted payload is among them.
use mathlib.Core.Path.{◌≡◌, refl, sym, subst}
use mathlib.Core.Bool.{Bool, true, false, cond}
use mathlib.Core.List.{List, [], ◌∷◌}
use Prim.Native.Nat.{ℕ, zero, suc, zero-le}
use native.Mathlib.Omega.{arith}
use borrow.Author.Tests.{eq-eqb, le-leb, eqb-true, leb-true, ltb-true}
use lib.Dec.{leb}
use lib.ListN.{length}
use Rattle.buffer.specs.Span.{span}
use Rattle.utf8.specs.Utf8.{Utf8}
use Rattle.wire.proofs.Cases.{cond-case}
use Rattle.utf8.proofs.Utf8s.{utf8-is}
use Rattle.parse.specs.Reader.{Cursor, refused, seen, cursor_at}
use Rattle.parse.proofs.Answers.{Seen, nothing, seen-map, seen_end}
use Rattle.schema.specs.declared.Field.{Field}
use Rattle.schema.specs.Table.{Table, Shape, unknown, scalar, text, array, map, struct, shape}
use Rattle.value.specs.declared.Row.{Row}
use Rattle.value.specs.Value.{Tree, tip, branch, Forest, stop, plus}
use Rattle.value.specs.Read.{Item, plan, on_struct_of, root_struct, root_of}
use Rattle.value.specs.Fits.{LeafFits, AllFit, Fits, RootFits}
use Rattle.value.proofs.Sound.{asked}
use Rattle.value.proofs.Placed.{root-placed}
use Rattle.scalar.specs.Answer.{Answer as Told, Refused}
use Rattle.scalar.specs.Scalar.{text_at, by_shape, scalar_of, scalar_number, scalar_at}
use Rattle.scalar.specs.Leaves.{ShowsLeaf, EachLeaf, EachOf}
use Rattle.scalar.proofs.Answers.{number-told, text-is}

-- ---- number 0 exactly where the row fits

module _ (bytes : List ℕ) (r : Row) where
  -- A row that fits shows its content.
  pub fits-shown : (s : Shape) (x : List ℕ) → LeafFits bytes s r.place r.length r.count x → ShowsLeaf bytes s r x (by_shape s r bytes)
  fits-shown (scalar kind) x f =
      let e = f.2.1 in
      rw (eq-eqb r.count 0 f.1, e) (number-told kind r.place r.length bytes f.0 (le-leb _ _ f.2.0) (rw e at f.3))
  fits-shown (text kind) x f =
      let e = f.1.1 in
      (rw (eq-eqb r.count 0 f.0) (text-is kind r.place r.length bytes (le-leb _ _ f.1.0) (λ h. (utf8-is _).1 (subst Utf8 e (f.2 h)))), sym e)
  fits-shown unknown x f = f
  fits-shown (array _) x f = f
  fits-shown (map _ _) x f = f
  fits-shown (struct _) x f = f

  -- A test that was passed.
  passed : (b : Bool) (n p : ℕ) (next : Told) → scalar_number (cond b next (Refused (suc n) p)) ≡ 0 → (b ≡ true) × (scalar_number next ≡ 0)
  unfolding scalar_number
  passed true n p next e = (refl, e)
  passed false n p next e = absurd (omega arith)

  -- A row that is not refused fits.
  pub shown-fits : (s : Shape) → scalar_number (by_shape s r bytes) ≡ 0 → LeafFits bytes s r.place r.length r.count (span bytes r.place r.length)
  unfolding scalar_at text_at scalar_number
  shown-fits (scalar kind) e =
      let a = passed _ _ _ _ e in
      let b = passed _ _ _ _ a.1 in
      let c = passed _ _ _ _ b.1 in
      let d = passed _ _ _ _ c.1 in
      (eqb-true _ _ b.0, eqb-true _ _ a.0, (leb-true _ _ c.0, refl), λ k. ltb-true _ 2 (asked 1 kind _ d.0 k))
  shown-fits (text kind) e =
      let a = passed _ _ _ _ e in
      let b = passed _ _ _ _ a.1 in
      let c = passed _ _ _ _ b.1 in
      (eqb-true _ _ a.0, (leb-true _ _ b.0, refl), λ h. (utf8-is _).0 (asked 12 kind _ c.0 h))
  shown-fits unknown e = absurd (omega arith)
  shown-fits (array _) e = absurd (omega arith)
  shown-fits (map _ _) e = absurd (omega arith)
  shown-fits (struct _) e = absurd (omega arith)

-- ---- the leaves of an accepted payload

module _ (S : ℕ → Shape) (B : List ℕ) where
  abbrev Shown : Row → List ℕ → Type 0
  Shown r x = ShowsLeaf B (S r.ty) r x (by_shape (S r.ty) r B)

  all_shown : (Q : ℕ → Tree → Type 0) → ((t : ℕ) (tree : Tree) → Q t tree → EachLeaf Shown tree)
      → (is : List Item) (ts : Forest) → AllFit Q is ts → EachOf Shown ts
  unfolding EachOf
  all_shown Q q [] stop f = tt
  all_shown Q q [] (plus t ts) f = absurd f
  all_shown Q q (i ∷ is) stop f = absurd f
  all_shown Q q (i ∷ is) (plus t ts) f = (q i.type t f.0, all_shown Q q is ts f.1)

  tree-shown : (d t : ℕ) (tree : Tree) → Fits S B d t tree → EachLeaf Shown tree
  unfolding EachLeaf
  tree-shown zero t tree f = absurd f
  tree-shown (suc d) t (tip r x) f = subst (λ (k : ℕ). ShowsLeaf B (S k) r x (by_shape (S k) r B)) (sym f.0) (fits-shown B r (S t) x f.1)
  tree-shown (suc d) t (branch r h ts) f = all_shown (Fits S B d) (tree-shown d) (plan (S t) h) ts f.2

  root-shown : (t : ℕ) (fs : List Field) (tree : Tree) → RootFits S B t fs tree → EachLeaf Shown tree
  unfolding EachLeaf
  root-shown t fs (tip r x) f = absurd f
  root-shown t fs (branch r h ts) f = all_shown (Fits S B 15) (tree-shown 15) (plan (struct fs) h) ts f.5

  read-shown : (t : ℕ) → Seen (λ tree c. EachLeaf Shown tree) (root_of S t B)
  read-shown t = go (S t)
    where
      go : (s : Shape) → Seen (λ tree c. EachLeaf Shown tree) (on_struct_of s (refused 46 0) (λ fs. cond (leb (length B) 16384) (root_struct S t fs (cursor_at B 0)) (refused 7 0)))
      go (struct fs) =
          cond-case (Seen (λ tree c. EachLeaf Shown tree)) (leb (length B) 16384) (root_struct S t fs (cursor_at B 0)) (refused 7 0)
          (λ _. seen-map (root-placed B S t fs (cursor_at B 0) (refl, zero-le)) (λ tree c w. root-shown t fs tree w.1))
          (λ _. nothing)
      go unknown = nothing
      go (scalar _) = nothing
      go (text _) = nothing
      go (array _) = nothing
      go (map _ _) = nothing

-- Of a payload that is accepted by the table, each leaf's row over the payload is handed out, and shows the leaf's content.
pub leaves-shown : (T : Table) (t : ℕ) (payload : List ℕ) (tree : Tree) (c : Cursor) → root_of (shape T) t payload ≡ seen tree c
    → EachLeaf (λ r x. ShowsLeaf payload (shape T r.ty) r x (scalar_of T r payload)) tree
unfolding scalar_of
leaves-shown T t payload tree c e = seen_end (read-shown (shape T) payload t) e
