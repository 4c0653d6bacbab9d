-- The root is accepted exactly when the payload spells it.
use mathlib.Core.Path.{◌≡◌, refl, sym, ap, subst, ◌∙◌}
use mathlib.Core.List.{List, [], ◌∷◌, ◌++◌}
use mathlib.Core.Bool.{Bool, true, false, cond}
use Prim.Native.Nat.{ℕ, zero, suc, ◌/◌, ◌%◌}
use native.Mathlib.Omega.{arith}
use lib.Dec.{eqb}
use lib.ListN.{length}
use lib.Seq.{take_at}
use borrow.Author.Tests.{leb-true, le-leb, eqb-true, eq-eqb}
use Rattle.wire.specs.Little.{little}
use Rattle.parse.specs.Reader.{Cursor, seen}
use Rattle.parse.proofs.Answers.{Seen, value as holds, seen-then, check_true, check-stays, reads_end, Yields, gives, yields-then, goes, passes}
use Rattle.schema.specs.declared.Field.{Field}
use Rattle.schema.specs.Table.{Shape, struct, bitmap_bytes}
use Rattle.value.specs.Value.{Value, leaf, node, Values, none, some, value}
use Rattle.value.specs.Read.{Item, present, plan, parse, root_bits, unknown_bits, root_ending, root_struct}
use Rattle.value.specs.Spell.{BitmapSpells, Spells, TailFits, RootSpells}
use Rattle.value.proofs.Shapes.{Solid}
use Rattle.value.proofs.Keys.{Fresh}
use Rattle.value.proofs.Sound.{bitmap-reads, walk-reads, parse-reads}
use Rattle.value.proofs.Complete.{takes, bitmap-complete, walk-complete, parse-complete}

-- A struct's plan has no keys.
abbrev pub Unkeyed : List Item → Type 0
Unkeyed [] = Unit {0}
Unkeyed (i ∷ is) = (i.key ≡ false) × Unkeyed is

unkeyed_cond : (b : Bool) (xs ys : List Item) → Unkeyed xs → Unkeyed ys → Unkeyed (cond b xs ys)
unkeyed_cond true xs ys p q = p
unkeyed_cond false xs ys p q = q

pub present_unkeyed : (fs : List Field) (m : ℕ) → Unkeyed (present fs m)
unfolding present
present_unkeyed [] m = tt
present_unkeyed (f ∷ fs) m = unkeyed_cond (eqb (m % 2) 1) _ _ (refl, present_unkeyed fs (m / 2)) (present_unkeyed fs (m / 2))

pub unkeyed_fresh : (keys : List (List ℕ)) (is : List Item) (vs : Values) → Unkeyed is → Fresh keys is vs
unkeyed_fresh keys [] vs u = tt
unkeyed_fresh keys (i ∷ is) none u = tt
unkeyed_fresh keys (i ∷ is) (some v vs) u = (rw u.0, unkeyed_fresh _ is vs u.1)

pub struct-fresh : (fs : List Field) (m : ℕ) (vs : Values) → Fresh [] (present fs m) vs
struct-fresh fs m vs = unkeyed_fresh [] (present fs m) vs (present_unkeyed fs m)

-- The bits of the bitmap at the front of some bytes.
pub bits_in_front : (fs : List Field) (m : ℕ) (x y u : List ℕ) → u ≡ x ++ y → BitmapSpells fs m x → root_bits fs u ≡ m
bits_in_front fs m x y u e q = ap (root_bits fs) e ∙ ap little (take_at x y (bitmap_bytes (length fs)) q.0) ∙ q.1

-- The tail of a payload fits the root's unknown bits.
pub root-tail : (S : ℕ → Shape) (fs : List Field) (v : Value) (payload z : List ℕ) → RootSpells S fs v payload z → TailFits (unknown_bits fs (root_bits fs payload)) z
root-tail S fs (leaf x) payload z q = absurd q
root-tail S fs (node h vs) payload z q =
    let (m, x, y, e, bitmap, _, _, fits) = q in
    subst (λ (n : ℕ). TailFits (unknown_bits fs n) z) (sym (bits_in_front fs m x (y ++ z) payload e bitmap)) fits

pub ending-sound : (k : ℕ) (c c' : Cursor) (u : Unit {0}) → root_ending k c ≡ seen u c' → (c ≡ c') × TailFits k c.left
unfolding root_ending
ending-sound zero c c' u e = (check-stays _ _ _ _ e, (omega arith, λ _. eqb-true _ 0 (check_true _ _ _ _ e)))
ending-sound (suc k) c c' u e = (check-stays _ _ _ _ e, (leb-true (suc k) _ (check_true _ _ _ _ e), λ z. absurd (omega arith)))

pub ending-complete : (k : ℕ) (c : Cursor) → TailFits k c.left → root_ending k c ≡ seen tt c
unfolding root_ending
ending-complete zero c h = passes _ _ _ _ (eq-eqb _ 0 (h.1 refl))
ending-complete (suc k) c h = passes _ _ _ _ (le-leb _ _ h.0)

module _ (S : ℕ → Shape) (t : ℕ) (fs : List Field) where
  -- What is accepted at the root is spelled by the payload.
  pub root-sound : (c : Cursor) → Seen (λ tree end. RootSpells S fs (value tree) c.left end.left) (root_struct S t fs c)
  unfolding root_struct value
  root-sound c =
      seen-then _ (λ m c₁ e₁. seen-then _ (λ ts c₂ e₂. seen-then _ (λ _ c₃ e₃.
      let x = reads_end (bitmap-reads fs c) e₁ in
      let y = reads_end (walk-reads (Spells S 15) (parse S 15) (parse-reads S 15) [] _ c₁) e₂ in
      let z = ending-sound _ c₂ c₃ _ e₃ in
      holds (m, x.0, y.0, x.1 ∙ ap (λ (l : List ℕ). x.0 ++ l) (y.1 ∙ ap (λ (k : Cursor). y.0 ++ k.left) z.0), x.2, refl, y.2.0, rw (← z.0) z.1))))

  -- What the payload spells is accepted at the root.
  pub root-complete : ((t : ℕ) → Solid (S t)) → (v : Value) (z : List ℕ) (c : Cursor) → RootSpells S fs v c.left z
      → Yields (λ tree end. (value tree ≡ v) × (end.left ≡ z)) (root_struct S t fs c)
  unfolding root_struct value
  root-complete solid (leaf x) z c q = absurd q
  root-complete solid (node h vs) z c q =
      goes _ (bitmap-complete fs q.0 q.1 (q.2 ++ z) c q.4 q.3)
      (rw (← q.5)
      (yields-then (walk-complete (Spells S 15) (takes S solid 15) (parse S 15) (parse-complete S solid 15) [] (plan (struct fs) h) vs q.2 z _ q.6 (struct-fresh fs h vs) refl)
      (λ ts c'' w. goes _ (ending-complete _ c'' (rw w.1 q.7)) (gives (rw w.0, w.1)))))
