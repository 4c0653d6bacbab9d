-- What the reader refuses has its reason.
use mathlib.Core.Path.{◌≡◌, refl, sym, ap, subst, ◌∙◌}
use mathlib.Core.Logic.{inl, inr}
use mathlib.Core.List.{List, [], ◌∷◌, ◌++◌, append-nil, append_assoc}
use mathlib.Core.Bool.{Bool, true, false, not, ◌||◌}
use Prim.Native.Nat.{ℕ, zero, suc, ◌+◌, ◌*◌, ◌≤◌, ◌<◌}
use native.Mathlib.Omega.{arith}
use lib.Dec.{eqb}
use lib.ListN.{length}
use borrow.Author.Tests.{leb-false, ltb-false, eqb-true, eqb-false, not-false}
use Rattle.wire.specs.Little.{little}
use Rattle.utf8.specs.Utf8.{utf8}
use Rattle.wire.specs.Varuint.{Spelled}
use Rattle.utf8.proofs.Utf8s.{utf8-is}
use Rattle.parse.specs.Reader.{Cursor, seen, and_then, check, block, count}
use Rattle.parse.proofs.Answers.{Seen, nothing, value as holds, seen-after, seen-then, seen-check, seen_end}
use Rattle.parse.proofs.Blames.{Blames, fine, blames, blames-then, blames-check, blames-on, blames-map}
use Rattle.parse.proofs.Pieces.{block_reads, var_reads, count-reads, count-enough, block-blames, var_blames}
use Rattle.schema.specs.declared.Field.{Field}
use Rattle.schema.specs.Table.{Shape, unknown, scalar, text, array, map, struct, width}
use Rattle.schema.proofs.Bools.{or-false, clash}
use Rattle.value.specs.Value.{values, content}
use Rattle.value.specs.Read.{Item, plan, Own, plain, parts, bitmap, own, walk, whole_value, parse, known_bits, unknown_bits, root_ending, root_struct}
use Rattle.value.specs.Spell.{BitmapSpells, keys_of, Spells}
use Rattle.value.specs.Reasons.{least, BitmapFault, cut, absent, OwnFault, cut-number, bad_number, exceeds, cut-scalar, no_bool, no_string, many-pairs, bits, unknown-bit}
use Rattle.value.specs.Reasons.{Due, Faulty, too_deep, own as own-fault, inner, repeated, RootDue, RootFault, bits as root-bits, field, surplus, short-tail}
use Rattle.value.proofs.Bits.{bit-beyond}
use Rattle.value.proofs.Fields.{lacking}
use Rattle.value.proofs.Keys.{fresh-distinct}
use Rattle.value.proofs.Root.{Unkeyed, present_unkeyed}
use Rattle.value.proofs.Sound.{bitmap-reads, own-reads, OwnSpells, walk-reads, parse-reads}
use Rattle.value.proofs.Stops.{Stops, ItemFault, walk-blames, met, met-none}
use Rattle.value.proofs.TwoTables.{Below}

-- ---- own bytes

module _ {F : (u x rest : List ℕ) → ℕ → Type 0} (c : Cursor) where
  bitmap-blames : (fs : List Field) → ((x rest : List ℕ) (n : ℕ) → BitmapFault fs x rest n → F [] x rest n) → Blames c F (bitmap fs c)
  unfolding bitmap
  bitmap-blames fs f =
      blames-then (block_reads _ c) (block-blames c _ (λ h. f c.left [] 20 (cut h))) (λ x c' u _ l k q.
      blames-check _ _ _ _ _ (λ e. let w = lacking fs (little x) e in blames [] x c'.left (l ∙ rw q.0) (omega arith) (f x c'.left _ (absent w.0 q.1 w.1))) (λ _. fine))

-- A test that asks only where the kind is k, and fails.
pub denied : (k kind : ℕ) (b : Bool) → not (eqb kind k) || b ≡ false → (kind ≡ k) × (b ≡ false)
denied k kind b e = let w = or-false (not (eqb kind k)) b e in (eqb-true kind k (not-false _ w.0), w.1)

bool-fault : (kind : ℕ) (x rest : List ℕ) → kind ≡ 1 → length x ≡ width kind → 2 ≤ little x → OwnFault (scalar kind) [] x rest 22
unfolding little
bool-fault kind x rest one l high = subst (λ (k : ℕ). OwnFault (scalar k) [] x rest 22) (sym one) (go x (l ∙ ap width one) high)
  where
    go : (x : List ℕ) → length x ≡ 1 → 2 ≤ little x → OwnFault (scalar 1) [] x rest 22
    go [] l h = absurd (omega arith)
    go (b ∷ []) l h = no_bool {b = b} (omega arith)
    go (b ∷ b' ∷ x) l h = absurd (omega arith)

count-blames : (s : Shape) (c : Cursor) → 0 < least s → Blames c (OwnFault s) (count (least s) c)
unfolding count
count-blames s c h =
    blames-then (var_reads c) (var_blames c (cut-number h) (λ x rest. bad_number h)) (λ n c' u _ l k q.
    blames-check _ _ _ _ _ (λ e. blames [] u c'.left l (omega arith) (exceeds n q (leb-false _ _ e))) (λ _. fine))

abbrev Enough : Shape → Own → Cursor → Type 0
Enough s (plain x) c = Unit {0}
Enough s (parts start h) c = least s * h ≤ length c.left

own-enough : (s : Shape) (c : Cursor) → Seen (Enough s) (own s c)
own-enough unknown c = nothing
own-enough (scalar _) c = seen-then _ (λ x c₁ _. seen-check _ _ _ _ _ (λ _. holds tt))
own-enough (text _) c = seen-then _ (λ n c₁ _. seen-then _ (λ x c₂ _. seen-check _ _ _ _ _ (λ _. holds tt)))
own-enough (array _) c = seen-after (count-enough 1 c) (λ n c₁ h. holds h)
own-enough (map _ _) c = seen-after (count-enough 2 c) (λ n c₁ h. seen-check _ _ _ _ _ (λ _. holds h))
own-enough (struct fs) c = seen-then _ (λ m c₁ _. seen-check _ _ _ _ _ (λ _. holds (omega arith)))

text-blames : (kind n : ℕ) (u : List ℕ) (c : Cursor) → Spelled n u → n ≤ length c.left
    → Blames c (λ w x rest k. OwnFault (text kind) (u ++ w) x rest k)
    (and_then (block n c) (λ x c'. and_then (check (not (eqb kind 12) || utf8 x) 23 c.at c') (λ _ c''. seen (plain x) c'')))
text-blames kind n u c s room =
    blames-then (block_reads n c) (block-blames c n (λ h. absurd (omega arith))) (λ x c' u' _ l k q.
    blames-check _ _ _ _ _
    (λ e.
    let w = denied 12 kind (utf8 x) e in
    let bad : OwnFault (text 12) u x c'.left 23 = no_string (rw q.1 s) (λ y. clash (utf8 x) ((utf8-is x).1 y) w.1) in
    blames [] x c'.left (l ∙ rw q.0) (omega arith) (rw (append-nil, w.0) bad))
    (λ _. fine))

own-blames : (s : Shape) → (s ≡ unknown → ⊥) → (c : Cursor) → Blames c (OwnFault s) (own s c)
own-blames unknown h c = absurd (h refl)
own-blames (scalar kind) h c =
    blames-then (block_reads _ c) (block-blames c _ cut-scalar) (λ x c' u _ l k q. blames-check _ _ _ _ _
    (λ e. let w = denied 1 kind _ e in blames [] x c'.left (l ∙ rw q.0) (omega arith) (bool-fault kind x c'.left w.0 q.1 (ltb-false _ 2 w.1)))
    (λ _. fine))
own-blames (text kind) h c =
    blames-then (count-reads 1 c) (count-blames (text kind) c (omega arith)) (λ n c₁ u e l k q.
    blames-on u l k (text-blames kind n u c₁ q (omega (arith, seen_end (count-enough 1 c) e))) (λ w x rest m _ f. f))
own-blames (array e) h c = blames-then (count-reads 1 c) (count-blames (array e) c (omega arith)) (λ n c₁ u _ l k q. fine)
own-blames (map a b) h c =
    blames-then (count-reads 2 c) (count-blames (map a b) c (omega arith)) (λ n c₁ u e l k q. blames-check _ _ _ _ _
    (λ e'. blames [] u c₁.left l (omega arith) (many-pairs n q (seen_end (count-enough 2 c) e) (leb-false n _ e')))
    (λ _. fine))
own-blames (struct fs) h c =
    blames-then (bitmap-reads fs c) (bitmap-blames c fs (λ x rest n f. bits f)) (λ m c₁ u _ l k q. blames-check _ _ _ _ _
    (λ e. blames [] u c₁.left l (omega arith) (unknown-bit m q ((bit-beyond (length fs) m).0 (ltb-false m _ e))))
    (λ _. fine))

-- ---- whole values

-- Item i of a plan, after some that are spelled.
due : (S : ℕ → Shape) (d : ℕ) (s : Shape) (h : ℕ) (u left : List ℕ) {w x rest : List ℕ} {n : ℕ} → OwnSpells s (parts 0 h) u → least s * h ≤ length left
    → (F : ℕ → (u x rest : List ℕ) → ℕ → Type 0) (q : Stops (Spells S d) F [] (plan s h) w x rest n) → left ≡ w ++ (x ++ rest)
    → Due S d s u q.y (q.w ++ (x ++ rest)) q.item (keys_of q.before q.shown)
due S d s h u left {w} {x} {rest} starts room F q e = record {
  head = h;
  before = q.before;
  after = q.after;
  shown = q.shown;
  starts = starts;
  enough = subst (λ (l : List ℕ). least s * h ≤ length l) {y = q.y ++ (q.w ++ (x ++ rest))} (e ∙ rw (q.place, append_assoc)) room;
  planned = q.split;
  spelled = q.spelled;
  distinct = fresh-distinct q.before q.shown q.fresh;
  keys = refl;
}

pub unkeyed_at : (before : List Item) (i : Item) (after : List Item) → Unkeyed (before ++ (i ∷ after)) → i.key ≡ false
unkeyed_at [] i after u = u.0
unkeyed_at (j ∷ before) i after u = unkeyed_at before i after u.1

pub some_left : {A : Type 0} (l : List A) → (length l ≡ 0 → ⊥) → 0 < length l
some_left [] h = absurd (h refl)
some_left (b ∷ l) h = omega arith

test-blames : {F : (u x rest : List ℕ) → ℕ → Type 0} (b : Bool) (n : ℕ) (c : Cursor) → (b ≡ false → F [] c.left [] n) → Blames c F (check b n c.at c)
unfolding check
test-blames true n c f = fine
test-blames false n c f = blames {p = c.at} [] c.left [] (sym (append-nil c.left)) (omega arith) (f refl)

module _ (S : ℕ → Shape) (types : ℕ) (there : (t : ℕ) → t < types → S t ≡ unknown → ⊥) (below : (t head : ℕ) → Below types (plan (S t) head)) where
  held-fault : (d t h : ℕ) (u left w x rest : List ℕ) (n : ℕ) → OwnSpells (S t) (parts 0 h) u → least (S t) * h ≤ length left → left ≡ w ++ (x ++ rest)
      → Stops (Spells S d) (Faulty S d) [] (plan (S t) h) w x rest n → Faulty S (suc d) t (u ++ w) x rest n
  held-fault d t h u left w x rest n starts room e q = go q.fault
    where
      go : ItemFault (Spells S d) (Faulty S d) q.item (met [] q.before q.shown) q.w x rest n → Faulty S (suc d) t (u ++ w) x rest n
      go (inl f) = rw q.place (inner (due S d (S t) h u left starts room (Faulty S d) q e) f)
      go (inr (v, none-of-it, number, key, spelled, again)) =
          rw (q.place, none-of-it, number, append-nil)
          (repeated (rw none-of-it at (due S d (S t) h u left starts room (Faulty S d) q e)) key v spelled (met-none q.before q.shown (content v) again))

  parse-blames : (d t : ℕ) (c : Cursor) → t < types → Blames c (Faulty S d t) (parse S d t c)
  unfolding parse
  parse-blames zero t c h = blames {p = c.at} [] [] c.left refl (omega arith) too_deep
  parse-blames (suc d) t c h =
      blames-then (own-reads (S t) c) (blames-on [] refl (omega arith) (own-blames (S t) (there t h) c) (λ u x rest n _ f. own-fault f)) (λ o c₁ u e l k q.
      go o c₁ u l k q (seen_end (own-enough (S t) c) e) (λ head. walk-blames (Spells S d) (Faulty S d) (parse S d) types (parse-reads S d) (parse-blames d) [] (plan (S t) head) c₁ (below t head)))
    where
      go : (o : Own) (c₁ : Cursor) (u : List ℕ) → c.left ≡ u ++ c₁.left → c₁.at ≡ c.at + length u → OwnSpells (S t) o u → Enough (S t) o c₁
          → ((head : ℕ) → Blames c₁ (Stops (Spells S d) (Faulty S d) [] (plan (S t) head)) (walk (parse S d) [] (plan (S t) head) c₁))
          → Blames c (Faulty S (suc d) t) (whole_value (parse S d) t (S t) o c₁)
      go (plain x) c₁ u l k q room on = fine
      go (parts start head) c₁ u l k q room on =
          blames-map (blames-on u l k (on head) (λ w x rest n e f. held-fault d t head u c₁.left w x rest n q room e f)) (λ _ _. fine)

  -- ---- the root

  ending-blames : (fs : List Field) (m : ℕ) (u y : List ℕ) (c : Cursor) → RootDue S fs m u y []
      → Blames c (λ w x rest n. (w ≡ []) × RootFault S fs (u ++ y) x rest n) (root_ending (unknown_bits fs m) c)
  unfolding root_ending
  ending-blames fs m u y c r = go (unknown_bits fs m) refl
    where
      go : (k : ℕ) → unknown_bits fs m ≡ k → Blames c (λ w x rest n. (w ≡ []) × RootFault S fs (u ++ y) x rest n) (root_ending k c)
      go zero e = test-blames _ _ c (λ z. (refl, surplus r e (some_left c.left (eqb-false _ 0 z))))
      go (suc k) e = test-blames _ _ c (λ z. (refl, short-tail r (omega (arith, leb-false (suc k) (length c.left) z))))

  field-fault : (fs : List Field) (m : ℕ) (u w x rest : List ℕ) (n : ℕ) → BitmapSpells fs m u
      → Stops (Spells S 15) (Faulty S 15) [] (plan (struct fs) (known_bits fs m)) w x rest n → RootFault S fs (u ++ w) x rest n
  field-fault fs m u w x rest n starts q = go q.fault
    where
      go : ItemFault (Spells S 15) (Faulty S 15) q.item (met [] q.before q.shown) q.w x rest n → RootFault S fs (u ++ w) x rest n
      go (inl f) = rw q.place (field (record { before = q.before; shown = q.shown; starts = starts; planned = q.split; spelled = q.spelled }) f)
      go (inr (v, _, _, key, _, _)) =
          clash q.item.key key (unkeyed_at q.before q.item q.after (subst Unkeyed q.split (present_unkeyed fs (known_bits fs m))))

  pub root-blames : (t : ℕ) (fs : List Field) → S t ≡ struct fs → (c : Cursor) → Blames c (RootFault S fs) (root_struct S t fs c)
  unfolding root_struct
  root-blames t fs st c =
      blames-then (bitmap-reads fs c) (bitmap-blames c fs (λ x rest n f. root-bits f)) (λ m c₁ u _ l k q.
      blames-on {G = λ w x rest n. RootFault S fs (u ++ w) x rest n} u l k
      (blames-then (walk-reads (Spells S 15) (parse S 15) (parse-reads S 15) [] _ c₁)
      (blames-on [] refl (omega arith)
      (walk-blames (Spells S 15) (Faulty S 15) (parse S 15) types (parse-reads S 15) (parse-blames 15) [] _ c₁ (rw st at (below t (known_bits fs m))))
      (λ w x rest n _ f. field-fault fs m u w x rest n q f))
      (λ ts c₂ y _ l₂ k₂ q₂.
      let ended : RootDue S fs m u y [] = record { before = plan (struct fs) (known_bits fs m); shown = values ts; starts = q; planned = sym (append-nil _); spelled = q₂.0 } in
      blames-map (blames-on y l₂ k₂ (ending-blames fs m u y c₂ ended) (λ w x rest n _ f. rw (f.0, append-nil) f.1)) (λ _ _. fine)))
      (λ w x rest n _ f. f))
