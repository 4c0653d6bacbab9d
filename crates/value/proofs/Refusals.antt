-- The refusals of a payload and their reasons, of good tables.
use mathlib.Core.Path.{◌≡◌, refl, sym, ap, subst, ◌∙◌}
use mathlib.Core.Bool.{Bool, true, false, cond}
use mathlib.Core.List.{List}
use Prim.Native.Nat.{ℕ, ◌≤◌, zero-le}
use native.Mathlib.Omega.{arith}
use lib.Dec.{leb}
use lib.ListN.{length, length-append}
use borrow.Author.Tests.{leb-true, leb-false, lt-leb}
use Rattle.parse.specs.Reader.{Cursor, Answer, refused, cursor_at}
use Rattle.parse.proofs.Answers.{Seen, value as holds, yields-end}
use Rattle.parse.proofs.Blames.{Blames, fine, blames}
use Rattle.schema.specs.declared.Field.{Field}
use Rattle.schema.specs.Table.{Table, Shape, unknown, scalar, text, array, map, struct, shape}
use Rattle.schema.specs.Good.{GoodSchema}
use Rattle.schema.proofs.Shapes.{known-shape}
use Rattle.value.specs.declared.Row.{Row}
use Rattle.value.specs.Value.{Tree, rows, value}
use Rattle.value.specs.Read.{on_struct_of, root_struct, Reading, refusal, accepted, reading, read}
use Rattle.value.specs.Spell.{RootSpells}
use Rattle.value.specs.Reasons.{RootFault, Reason, no-struct, too_long, faulty, too_few-rows}
use Rattle.value.proofs.Root.{root-sound, root-complete}
use Rattle.value.proofs.Reading.{sized, as_root}
use Rattle.value.proofs.Reasons.{root-blames}
use Rattle.value.proofs.Refused.{root-refused}
use Rattle.value.proofs.Shapes.{good-solid, good-closed}
use Rattle.value.proofs.TwoTables.{plan-below}

module _ (T : Table) (good : GoodSchema T) (t : ℕ) where
  pub good-blames : (fs : List Field) → shape T t ≡ struct fs → (c : Cursor) → Blames c (RootFault (shape T) fs) (root_struct (shape T) t fs c)
  good-blames fs st c =
      root-blames (shape T) (length T.types) (known-shape T good) (λ t head. plan-below (length T.types) (shape T t) head (good-closed T good t)) t fs st c

  module _ (payload : List ℕ) (room : ℕ) where
    data Told : Reading → Type 0 where
      shown : {rs : List Row} {place n comparisons : ℕ} → Told (accepted rs place n comparisons)
      refuses-by : {n p : ℕ} → Reason (shape T) t payload room n p → Told (refusal n p)

    module _ (fs : List Field) (st : shape T t ≡ struct fs) (short : length payload ≤ 16384) where
      fitting : (tree : Tree) (place n comparisons : ℕ) (tail : List ℕ) (b : Bool) → leb (length (rows tree)) room ≡ b → RootSpells (shape T) fs (value tree) payload tail
          → Told (cond b (accepted (rows tree) place n comparisons) (refusal 30 0))
      fitting tree place n comparisons tail true e q = shown
      fitting tree place n comparisons tail false e q =
          refuses-by (too_few-rows fs (value tree) tail st short q (omega (arith, sized tree, leb-false (length (rows tree)) room e)))

      judged : (m : Answer Tree) → Blames (cursor_at payload 0) (RootFault (shape T) fs) m
          → Seen (λ tree end. RootSpells (shape T) fs (value tree) payload end.left) m → Told (reading (shape T) t room m)
      judged m (blames {n} {p} u x rest l k f) s = refuses-by (subst (Reason (shape T) t payload room n) {y = p} (omega arith) (faulty fs u x rest st short l f))
      judged m (fine {a = tree} {c' = end}) (holds q) = fitting tree end.at (length end.left) _ end.left (leb (length (rows tree)) room) refl q

    measured : (fs : List Field) → shape T t ≡ struct fs → (b : Bool) → leb (length payload) 16384 ≡ b
        → Told (reading (shape T) t room (cond b (root_struct (shape T) t fs (cursor_at payload 0)) (refused 7 0)))
    measured fs st true e = judged fs st (leb-true _ _ e) _ (good-blames fs st (cursor_at payload 0)) (root-sound (shape T) t fs (cursor_at payload 0))
    measured fs st false e = refuses-by (too_long fs st (leb-false (length payload) 16384 e))

    told : Told (read T t payload room)
    unfolding read
    told = go (shape T t) refl
      where
        other : (s : Shape) → shape T t ≡ s → on_struct_of {A = ℕ} s 0 (λ fs. 1) ≡ 0 → Told (refusal 46 0)
        other s e z = refuses-by (no-struct (λ fs k. omega (arith, ap (λ (x : Shape). on_struct_of {A = ℕ} x 0 (λ _. 1)) (sym e ∙ k))))

        go : (s : Shape) → shape T t ≡ s
            → Told (reading (shape T) t room (on_struct_of s (refused 46 0) (λ fs. cond (leb (length payload) 16384) (root_struct (shape T) t fs (cursor_at payload 0)) (refused 7 0))))
        go (struct fs) e = measured fs e (leb (length payload) 16384) refl
        go unknown e = other unknown e refl
        go (scalar x) e = other (scalar x) e refl
        go (text x) e = other (text x) e refl
        go (array x) e = other (array x) e refl
        go (map x y) e = other (map x y) e refl

    -- A refusal has its reason.
    pub reason : (n p : ℕ) → read T t payload room ≡ refusal n p → Reason (shape T) t payload room n p
    reason n p e = go (subst Told e told)
      where
        go : Told (refusal n p) → Reason (shape T) t payload room n p
        go (refuses-by r) = r

    -- A reason makes the reader refuse.
    pub refuses : (n p : ℕ) → Reason (shape T) t payload room n p → read T t payload room ≡ refusal n p
    unfolding read
    refuses n p (no-struct h) = go (shape T t) refl
      where
        go : (s : Shape) → shape T t ≡ s
            → reading (shape T) t room (on_struct_of s (refused 46 0) (λ fs. cond (leb (length payload) 16384) (root_struct (shape T) t fs (cursor_at payload 0)) (refused 7 0))) ≡ refusal 46 0
        go (struct fs) e = absurd (h fs e)
        go unknown e = refl
        go (scalar x) e = refl
        go (text x) e = refl
        go (array x) e = refl
        go (map x y) e = refl
    refuses n p (too_long fs st h) = let long : leb (length payload) 16384 ≡ false = lt-leb (length payload) 16384 h in rw (st, long)
    refuses n p (faulty fs u x rest st short l f) =
        as_root (shape T) t payload room fs st short
        ∙ ap (reading (shape T) t room) (root-refused (shape T) (good-solid T good) t fs u x rest n (cursor_at payload 0) f l)
        ∙ ap (refusal n) (omega arith)
    refuses n p (too_few-rows fs v tail st short q h) =
        let (tree, end, e, (v-is, _)) = yields-end (root-complete (shape T) t fs (good-solid T good) v tail (cursor_at payload 0) q) in
        let few : leb (length (rows tree)) room ≡ false = lt-leb (length (rows tree)) room (rw (sized tree, v-is) h) in
        as_root (shape T) t payload room fs st short ∙ rw (e, few)

    -- A refusal's place lies within the payload or at its end.
    pub reason-within : (n p : ℕ) → Reason (shape T) t payload room n p → p ≤ length payload
    reason-within n p (no-struct h) = zero-le
    reason-within n p (too_long fs st h) = zero-le
    reason-within n p (faulty fs u x rest st short l f) = rw l (simp length-append (omega arith))
    reason-within n p (too_few-rows fs v tail st short q h) = zero-le
