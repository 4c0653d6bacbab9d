-- The whole writer's answers, taken apart and put together.
use mathlib.Core.Path.{◌≡◌, refl, sym, subst}
use mathlib.Core.List.{List, [], ◌++◌, append-nil}
use mathlib.Core.Bool.{Bool, true, false, cond}
use Prim.Native.Nat.{ℕ, ◌≤◌}
use native.Mathlib.Omega.{arith}
use lib.Dec.{leb}
use lib.ListN.{length}
use borrow.Author.Tests.{leb-true, le-leb}
use Rattle.wire.specs.Little.{Bytes}
use Rattle.wire.proofs.Cases.{differ, nothing_left}
use Rattle.parse.specs.Reader.{CursorOf, AnswerOf, refused, seen}
use Rattle.parse.proofs.Answers.{seen_end, reads_end, yields-end}
use Rattle.schema.specs.declared.Field.{Field}
use Rattle.schema.specs.Table.{Shape, unknown, scalar, text, array, map, struct}
use Rattle.value.specs.declared.Row.{Row}
use Rattle.value.specs.Value.{Tree, Value, value, size}
use Rattle.value.specs.Read.{on_struct_of, root_of, reading}
use Rattle.value.specs.Spell.{RootSpells, encode}
use Rattle.value.proofs.Shapes.{Solid}
use Rattle.value.specs.Write.{refusal, written, fitted, writing, show_root, sheet_root}
use Rattle.value.specs.Fits.{Shows}
use Rattle.value.specs.Claims.{ReadAs, Writes}
use Rattle.value.proofs.Shown.{root-shows, root-shown, root_ends}
use Rattle.value.proofs.Encode.{root-short, root_encoding}
use Rattle.value.proofs.Written.{root-written}
use Rattle.value.proofs.Reading.{sized, rightful_read}

-- a refusal is nothing written
pub not_written : {A : Type 0} {n p : ℕ} {out : List ℕ} → refusal n p ≡ written out → A
not_written e = differ cc

pub fitted-inv : (room : ℕ) (out out' : List ℕ) → fitted room out ≡ written out' → (out ≡ out') × (length out ≤ 16384) × (length out ≤ room)
fitted-inv room out out' e = go (leb (length out) 16384) (leb (length out) room) refl refl e
  where
    go : (a b : Bool) → leb (length out) 16384 ≡ a → leb (length out) room ≡ b → cond a (cond b (written out) (refusal 52 0)) (refusal 7 0) ≡ written out'
        → (out ≡ out') × (length out ≤ 16384) × (length out ≤ room)
    go true true p q e = (cc, leb-true _ _ p, leb-true _ _ q)
    go true false p q e = not_written e
    go false b p q e = not_written e

whole-sheet : (rs u l q : List Row) → rs ≡ u ++ l → l ≡ [] → u ≡ q → q ≡ rs
whole-sheet rs u l q a b c = cc (append-nil q)

-- The rows that are read as a root show its value.
pub sheet-shows : (S : ℕ → Shape) (t : ℕ) (fs : List Field) (rs : List Row) (B : List ℕ) (tree : Tree) (end : CursorOf Row)
    → show_root S B t fs (record { left = rs; at = 0 }) ≡ seen tree end → Shows S B t fs rs (value tree)
sheet-shows S t fs rs B tree end k =
    let w = reads_end (root-shows S B t fs (record { left = rs; at = 0 })) k in
    let l = seen_end (root_ends S B t fs (record { left = rs; at = 0 })) k in
    (tree, whole-sheet _ _ _ _ w.1 l w.2.0, w.2.1, refl)

module _ (S : ℕ → Shape) (t : ℕ) (rs : List Row) (B : List ℕ) (room : ℕ) (out : List ℕ) where
  pub written-shown : writing S t room (sheet_root S t rs B) ≡ written out → Writes S t rs B room out
  written-shown e = go (S t) refl e
    where
      inside : (fs : List Field) → S t ≡ struct fs → (m : AnswerOf Row Tree) → show_root S B t fs (record { left = rs; at = 0 }) ≡ m → writing S t room m ≡ written out → Writes S t rs B room out
      inside fs st (refused n p) k e = not_written e
      inside fs st (seen tree end) k e =
          let f = fitted-inv room _ out e in
          (fs, value tree, st, sheet-shows S t fs rs B tree end k, sym f.0, rw (← f.0) f.1, rw (← f.0) f.2)

      go : (s : Shape) → S t ≡ s → writing S t room (on_struct_of s (refused 46 0) (λ fs. show_root S B t fs (record { left = rs; at = 0 }))) ≡ written out → Writes S t rs B room out
      go (struct fs) st e = inside fs st _ refl e
      go unknown st e = not_written e
      go (scalar _) st e = not_written e
      go (text _) st e = not_written e
      go (array _) st e = not_written e
      go (map _ _) st e = not_written e

  pub shown-written : Writes S t rs B room out → writing S t room (sheet_root S t rs B) ≡ written out
  shown-written (fs, v, st, (tree, r, f, k), o, l, l') =
      let y = yields-end (root-shown S B t fs tree (record { left = rs; at = 0 }) f (sym r)) in
      let a : leb (length out) 16384 ≡ true = le-leb _ _ l in
      let b : leb (length out) room ≡ true = le-leb _ _ l' in
      rw (st, y.2, y.3.0, k, ← o, a, b)

-- A sheet that shows a value has a row for each.
pub as_many : (S : ℕ → Shape) (t : ℕ) (fs : List Field) (B : List ℕ) (rs : List Row) (v : Value) → Shows S B t fs rs v → length rs ≡ size v
as_many S t fs B rs v (tree, r, f, k) = rw (← r, ← k) (sized tree)

module _ (S : ℕ → Shape) (solid : (t : ℕ) → Solid (S t)) (t : ℕ) (fs : List Field) (st : S t ≡ struct fs) where
  -- The encoding of what a sheet shows is read as that value, with no tail.
  pub encoding_read : (B : List ℕ) (rs : List Row) (v : Value) → Shows S B t fs rs v → (out : List ℕ) → out ≡ encode S v t → length out ≤ 16384 → (room : ℕ) → length rs ≤ room
      → ReadAs S t fs out (reading S t room (root_of S t out)) v (length out) 0
  encoding_read B rs v s out o l room b =
      let (tree, r, f, k) = s in
      let o' : encode S (value tree) t ≡ out = rw k (sym o) in
      let q : RootSpells S fs v out [] = rw (o', k) at (root-written S solid B t fs st tree f (rw o' l)) in
      rightful_read S t fs st out room v (length out) 0 solid ([], q, l, omega (arith, as_many S t fs B rs v s), refl, omega arith)

  -- The rows of a value, over a payload that spells it, are written, in no more bytes, and without a tail in the same.
  pub spelled-written : (payload tail : List ℕ) (v : Value) → Bytes payload → RootSpells S fs v payload tail → length payload ≤ 16384
      → (rs : List Row) → Shows S payload t fs rs v → (room : ℕ) → length payload ≤ room
      → (writing S t room (sheet_root S t rs payload) ≡ written (encode S v t))
      × (length (encode S v t) ≤ length payload)
      × (length tail ≡ 0 → encode S v t ≡ payload)
  spelled-written payload tail v b q l rs s room h =
      let e : length (encode S v t) ≤ length payload = root-short S t fs st v payload tail b q in (
        shown-written S t rs payload room (encode S v t) (fs, v, st, s, refl, omega arith, omega arith),
        e,
        λ none. sym (root_encoding S t fs st v payload b (subst (RootSpells S fs v payload) (nothing_left tail none) q)),
      )
