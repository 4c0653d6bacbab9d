-- The refusals of a sheet and their reasons, of good tables.
use mathlib.Core.Path.{◌≡◌, refl, sym, ap, subst, ◌∙◌}
use mathlib.Core.Bool.{Bool, true, false, cond}
use mathlib.Core.List.{List}
use Prim.Native.Nat.{ℕ, ◌≤◌, zero-le}
use native.Mathlib.Omega.{arith}
use lib.Dec.{leb}
use lib.ListN.{length, length-append}
use borrow.Author.Tests.{leb-true, leb-false, le-leb, lt-leb}
use Rattle.wire.proofs.Cases.{differ}
use Rattle.parse.specs.Reader.{CursorOf, AnswerOf, refused}
use Rattle.parse.proofs.Answers.{yields-end}
use Rattle.parse.proofs.Blames.{Blames, fine, blames}
use Rattle.schema.specs.declared.Field.{Field}
use Rattle.schema.specs.Table.{Table, Shape, unknown, scalar, text, array, map, struct, shape}
use Rattle.schema.specs.Good.{GoodSchema}
use Rattle.schema.proofs.Shapes.{known-shape}
use Rattle.value.specs.declared.Row.{Row}
use Rattle.value.specs.Value.{Tree, Value, value}
use Rattle.value.specs.Read.{on_struct_of}
use Rattle.value.specs.Spell.{encode}
use Rattle.value.specs.Write.{show_root, Writing, refusal, written, fitted, writing, write}
use Rattle.value.specs.Fits.{Shows}
use Rattle.value.specs.SheetReasons.{SheetFault, SheetReason, no-struct, faulty, too_long, too_small}
use Rattle.value.proofs.RowFaults.{sheet-blames}
use Rattle.value.proofs.RowsRefused.{sheet-refused}
use Rattle.value.proofs.Shapes.{good-closed}
use Rattle.value.proofs.Shown.{root-shown}
use Rattle.value.proofs.TwoTables.{plan-below}
use Rattle.value.proofs.Writing.{sheet-shows}

module _ (T : Table) (good : GoodSchema T) (t : ℕ) (rs : List Row) (B : List ℕ) (room : ℕ) where
  good-blames : (fs : List Field) → shape T t ≡ struct fs → (c : CursorOf Row) → Blames c (SheetFault B (shape T) t fs) (show_root (shape T) B t fs c)
  good-blames fs st c =
      sheet-blames (shape T) B (length T.types) (known-shape T good) (λ t head. plan-below (length T.types) (shape T t) head (good-closed T good t)) t fs st c

  data Told : Writing → Type 0 where
    wrote : {out : List ℕ} → Told (written out)
    refuses-by : {n k : ℕ} → SheetReason (shape T) t rs B room n k → Told (refusal n k)

  fitting : (fs : List Field) (v : Value) → shape T t ≡ struct fs → Shows (shape T) B t fs rs v → (a b : Bool)
      → leb (length (encode (shape T) v t)) 16384 ≡ a → leb (length (encode (shape T) v t)) room ≡ b
      → Told (cond a (cond b (written (encode (shape T) v t)) (refusal 52 0)) (refusal 7 0))
  fitting fs v st s true true p q = wrote
  fitting fs v st s true false p q = refuses-by (too_small fs v st s (leb-true _ _ p) (leb-false _ _ q))
  fitting fs v st s false b p q = refuses-by (too_long fs v st s (leb-false _ _ p))

  judged : (fs : List Field) → shape T t ≡ struct fs → (m : AnswerOf Row Tree) → show_root (shape T) B t fs (record { left = rs; at = 0 }) ≡ m
      → Blames (record { left = rs; at = 0 }) (SheetFault B (shape T) t fs) m → Told (writing (shape T) t room m)
  judged fs st m e (blames {n} {p} u x rest l k f) = refuses-by (subst (SheetReason (shape T) t rs B room n) {y = p} (omega arith) (faulty fs u x rest st l f))
  judged fs st m e (fine {a = tree} {c' = end}) = fitting fs (value tree) st (sheet-shows (shape T) t fs rs B tree end e) _ _ refl refl

  told : Told (write T t rs B room)
  unfolding write
  told = go (shape T t) refl
    where
      other : (s : Shape) → shape T t ≡ s → ((fs : List Field) → s ≡ struct fs → ⊥) → Told (refusal 46 0)
      other s e h = refuses-by (no-struct (λ fs k. h fs (cc (e, k))))

      go : (s : Shape) → shape T t ≡ s → Told (writing (shape T) t room (on_struct_of s (refused 46 0) (λ fs. show_root (shape T) B t fs (record { left = rs; at = 0 }))))
      go (struct fs) e = judged fs e _ refl (good-blames fs e (record { left = rs; at = 0 }))
      go unknown e = other unknown e (λ fs k. differ cc)
      go (scalar x) e = other (scalar x) e (λ fs k. differ cc)
      go (text x) e = other (text x) e (λ fs k. differ cc)
      go (array x) e = other (array x) e (λ fs k. differ cc)
      go (map x y) e = other (map x y) e (λ fs k. differ cc)

  -- A refusal has its reason.
  pub reason : (n k : ℕ) → write T t rs B room ≡ refusal n k → SheetReason (shape T) t rs B room n k
  reason n k e = go (subst Told e told)
    where
      go : Told (refusal n k) → SheetReason (shape T) t rs B room n k
      go (refuses-by r) = r

  as_root : (fs : List Field) → shape T t ≡ struct fs → write T t rs B room ≡ writing (shape T) t room (show_root (shape T) B t fs (record { left = rs; at = 0 }))
  unfolding write
  as_root fs st = rw st

  shown-fitted : (fs : List Field) (v : Value) → shape T t ≡ struct fs → Shows (shape T) B t fs rs v → write T t rs B room ≡ fitted room (encode (shape T) v t)
  shown-fitted fs v st (tree, r, f, k) =
      let (shown, end, e, (same, _)) = yields-end (root-shown (shape T) B t fs tree (record { left = rs; at = 0 }) f (sym r)) in
      as_root fs st ∙ ap (writing (shape T) t room) e ∙ ap (λ (v : Value). fitted room (encode (shape T) v t)) (ap value same ∙ k)

  -- A reason makes the writer refuse.
  pub refuses : (n k : ℕ) → SheetReason (shape T) t rs B room n k → write T t rs B room ≡ refusal n k
  unfolding write
  refuses n k (no-struct h) = go (shape T t) refl
    where
      go : (s : Shape) → shape T t ≡ s → writing (shape T) t room (on_struct_of s (refused 46 0) (λ fs. show_root (shape T) B t fs (record { left = rs; at = 0 }))) ≡ refusal 46 0
      go (struct fs) e = absurd (h fs e)
      go unknown e = refl
      go (scalar x) e = refl
      go (text x) e = refl
      go (array x) e = refl
      go (map x y) e = refl
  refuses n k (faulty fs u x rest st l f) =
      as_root fs st ∙ ap (writing (shape T) t room) (sheet-refused (shape T) B t fs u x rest n (record { left = rs; at = 0 }) f l) ∙ ap (refusal n) (omega arith)
  refuses n k (too_long fs v st s h) =
      let long : leb (length (encode (shape T) v t)) 16384 ≡ false = lt-leb _ 16384 h in
      shown-fitted fs v st s ∙ rw long
  refuses n k (too_small fs v st s h h') =
      let short : leb (length (encode (shape T) v t)) 16384 ≡ true = le-leb _ 16384 h in
      let small : leb (length (encode (shape T) v t)) room ≡ false = lt-leb _ room h' in
      shown-fitted fs v st s ∙ rw (short, small)

  -- A refusal names a row that is there, or the number of rows.
  pub reason-within : (n k : ℕ) → SheetReason (shape T) t rs B room n k → k ≤ length rs
  reason-within n k (no-struct h) = zero-le
  reason-within n k (faulty fs u x rest st l f) = rw l (simp length-append (omega arith))
  reason-within n k (too_long fs v st s h) = zero-le
  reason-within n k (too_small fs v st s h h') = zero-le
