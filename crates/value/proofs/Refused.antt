-- What has a reason is refused, with that number and at that place.
use mathlib.Core.Path.{◌≡◌, refl, sym, ap, subst, ◌∙◌}
use mathlib.Core.Logic.{inl, inr}
use mathlib.Core.List.{List, [], ◌∷◌, ◌++◌, append-nil, append_assoc}
use mathlib.Core.Bool.{true}
use Prim.Native.Nat.{ℕ, zero, suc, ◌+◌, ◌*◌, ◌<◌}
use native.Mathlib.Omega.{arith}
use lib.ListN.{length, length-append}
use borrow.Author.Tests.{lt-leb, le-ltb, ne_eqb}
use Rattle.wire.specs.Little.{little}
use Rattle.utf8.specs.Utf8.{utf8}
use Rattle.wire.specs.Varuint.{Spelled}
use Rattle.utf8.proofs.Utf8s.{utf8-is}
use Rattle.parse.specs.Reader.{Cursor, refused, check, var_u_int, count}
use Rattle.parse.proofs.Answers.{yields-end, stops, steps, fails, arrives}
use Rattle.parse.proofs.Pieces.{block-complete, count-complete, block_refused, var_cut, var_bad, count-refused}
use Rattle.schema.specs.declared.Field.{Field}
use Rattle.schema.specs.Table.{Shape, unknown, scalar, text, array, map, struct, bitmap_bytes}
use Rattle.schema.proofs.Bools.{is_false}
use Rattle.value.specs.Value.{Values, content}
use Rattle.value.specs.Read.{Item, plan, among, bitmap, own, parse, known_bits, unknown_bits, root_ending, root_struct}
use Rattle.value.specs.Spell.{Spells}
use Rattle.value.specs.Reasons.{least, BitmapFault, cut, absent, OwnFault, cut-number, bad_number, exceeds, cut-scalar, no_bool, no_string, many-pairs, bits, unknown-bit}
use Rattle.value.specs.Reasons.{Due, Faulty, too_deep, own as own-fault, inner, repeated, RootDue, RootFault, bits as root-bits, field, surplus, short-tail}
use Rattle.value.proofs.Bits.{bit-beyond}
use Rattle.value.proofs.Complete.{bitmap-complete, head-complete, takes, walk-complete, parse-complete}
use Rattle.value.proofs.Fields.{lacks}
use Rattle.value.proofs.Keys.{Fresh, distinct-fresh}
use Rattle.value.proofs.Root.{Unkeyed, present_unkeyed, unkeyed_fresh}
use Rattle.value.proofs.Shapes.{Solid}
use Rattle.value.proofs.Sound.{own-reads, walk-reads, parse-reads}
use Rattle.value.proofs.Stops.{met, holds-met, ItemFault, walk_refused}

-- ---- own bytes

module _ (c : Cursor) where
  -- A length or a count that cannot be read, and one above what follows it.
  number-refused : (s : Shape) (n : ℕ) → 0 < least s → var_u_int c ≡ refused n c.at → own s c ≡ refused n c.at
  unfolding count
  number-refused (text _) n h e = stops _ (stops _ e)
  number-refused (array _) n h e = stops _ (stops _ e)
  number-refused (map _ _) n h e = stops _ (stops _ e)
  number-refused unknown n h e = absurd (omega arith)
  number-refused (scalar _) n h e = absurd (omega arith)
  number-refused (struct _) n h e = absurd (omega arith)

  exceeds-refused : (s : Shape) (n : ℕ) (x rest : List ℕ) → c.left ≡ x ++ rest → Spelled n x → length rest < least s * n → own s c ≡ refused 20 c.at
  exceeds-refused (text _) n x rest l s h = stops _ (count-refused c 1 n x rest l s h)
  exceeds-refused (array _) n x rest l s h = stops _ (count-refused c 1 n x rest l s h)
  exceeds-refused (map _ _) n x rest l s h = stops _ (count-refused c 2 n x rest l s h)
  exceeds-refused unknown n x rest l s h = absurd (omega arith)
  exceeds-refused (scalar _) n x rest l s h = absurd (omega arith)
  exceeds-refused (struct _) n x rest l s h = absurd (omega arith)

  bitmap-refused : (fs : List Field) (x rest : List ℕ) (n : ℕ) → c.left ≡ x ++ rest → BitmapFault fs x rest n → bitmap fs c ≡ refused n c.at
  unfolding bitmap
  bitmap-refused fs x rest n l (cut h) = stops _ (block_refused c _ x l h)
  bitmap-refused fs x rest n l (absent i whole a) = steps _ (block-complete _ x rest c whole l) (fails _ _ (lacks fs (little x) i a) refl)

  own-refused : (s : Shape) (u x rest : List ℕ) (n : ℕ) → OwnFault s u x rest n → c.left ≡ u ++ (x ++ rest) → own s c ≡ refused n (c.at + length u)
  unfolding little
  own-refused s u x rest n (cut-number h w) l = number-refused s 20 h (var_cut c x l w) ∙ ap (refused 20) (omega arith)
  own-refused s u x rest n (bad_number h w) l = number-refused s 21 h (var_bad c x rest l w) ∙ ap (refused 21) (omega arith)
  own-refused s u x rest n (exceeds m w h) l = exceeds-refused s m x rest l w h ∙ ap (refused 20) (omega arith)
  own-refused s u x rest n (cut-scalar h) l = stops _ (block_refused c _ x l h) ∙ ap (refused 20) (omega arith)
  own-refused s u x rest n (no_bool {b} h) l = steps _ (block-complete 1 (b ∷ []) rest c refl l) (fails _ _ (le-ltb (b + 0) 2 (omega arith)) (omega arith))
  own-refused s u x rest n (no_string w h) l =
      steps _ (count-complete 1 (length x) u (x ++ rest) c w l (simp length-append (omega arith)))
      (steps _ (block-complete (length x) x rest _ refl refl) (fails _ _ (is_false (utf8 x) (λ e. h ((utf8-is x).0 e))) refl))
  own-refused s u x rest n (many-pairs m w room h) l = steps _ (count-complete 2 m x rest c w l room) (fails _ _ (lt-leb m _ h) (omega arith))
  own-refused s u x rest n (bits {fs} f) l = stops _ (bitmap-refused fs x rest n l f) ∙ ap (refused n) (omega arith)
  own-refused s u x rest n (unknown-bit {fs} m w b) l =
      steps _ (bitmap-complete fs m x rest c w l) (fails _ _ (le-ltb m _ ((bit-beyond (length fs) m).1 b)) (omega arith))

-- ---- whole values

-- What a composite's items leave is after its head.
beyond : (c c₁ : Cursor) (u y w left : List ℕ) → c.left ≡ u ++ (y ++ (w ++ left)) → c₁.left ≡ y ++ (w ++ left)
    → c₁.at + length c₁.left ≡ c.at + length c.left → c₁.at + length (y ++ w) ≡ c.at + length (u ++ (y ++ w))
beyond c c₁ u y w left l l₁ k =
    let k' : c₁.at + length (y ++ (w ++ left)) ≡ c.at + length (u ++ (y ++ (w ++ left))) =
    sym (ap (λ (z : List ℕ). c₁.at + length z) l₁) ∙ k ∙ ap (λ (z : List ℕ). c.at + length z) l in
    let k'' : c₁.at + (length y + (length w + length left)) ≡ c.at + (length u + (length y + (length w + length left))) = simp length-append at k' in
    simp length-append (omega arith)

unkeyed_front : (is js : List Item) → Unkeyed (is ++ js) → Unkeyed is
unkeyed_front [] js u = tt
unkeyed_front (i ∷ is) js u = (u.0, unkeyed_front is js u.1)

-- A struct's first fields have no keys among them.
pub fields-fresh : (fs : List Field) (m : ℕ) (before after : List Item) (vs : Values) → plan (struct fs) (known_bits fs m) ≡ before ++ after → Fresh [] before vs
fields-fresh fs m before after vs e = unkeyed_fresh [] before vs (unkeyed_front before after (subst Unkeyed e (present_unkeyed fs (known_bits fs m))))

surplus-refused : (k : ℕ) (c : Cursor) → k ≡ 0 → 0 < length c.left → root_ending k c ≡ refused 27 c.at
unfolding root_ending check
surplus-refused zero c none some = rw (ne_eqb (length c.left) 0 (λ e. omega arith))
surplus-refused (suc k) c none some = absurd (omega arith)

short-refused : (k : ℕ) (c : Cursor) → length c.left < k → root_ending k c ≡ refused 20 c.at
unfolding root_ending check
short-refused zero c few = absurd (omega arith)
short-refused (suc k) c few = rw (lt-leb (suc k) (length c.left) few)

module _ (S : ℕ → Shape) (solid : (t : ℕ) → Solid (S t)) where
  -- A composite whose item i is at fault, with the reader's answer for its items.
  held-refused : (d t : ℕ) (u y w x rest : List ℕ) (i : Item) (earlier : List (List ℕ)) (n : ℕ) (c : Cursor)
      → ((t : ℕ) (u x rest : List ℕ) (n : ℕ) (c : Cursor) → Faulty S d t u x rest n → c.left ≡ u ++ (x ++ rest) → parse S d t c ≡ refused n (c.at + length u))
      → (due : Due S d (S t) u y (w ++ (x ++ rest)) i earlier)
      → ItemFault (Spells S d) (Faulty S d) i (met [] due.before due.shown) w x rest n → c.left ≡ u ++ (y ++ (w ++ (x ++ rest)))
      → parse S (suc d) t c ≡ refused n (c.at + length (u ++ (y ++ w)))
  unfolding parse
  held-refused d t u y w x rest i earlier n c parts-refused due f l =
      let (o, c₁, e, (start, o_is, left)) = yields-end (head-complete (S t) due.head u (y ++ (w ++ (x ++ rest))) c due.starts l due.enough) in
      let stopped =
      walk_refused (Spells S d) (Faulty S d) (parse S d) (parse-reads S d) (parse-complete S solid d) parts-refused [] due.before i due.after due.shown y w x rest n c₁
      due.spelled (distinct-fresh due.before due.shown due.distinct) f left in
      steps _ e (rw (o_is, due.planned) (stops _ (stopped ∙ ap (refused n) (beyond c c₁ u y w (x ++ rest) l left (arrives (own-reads (S t) c) e)))))

  parse-refused : (d t : ℕ) (u x rest : List ℕ) (n : ℕ) (c : Cursor) → Faulty S d t u x rest n → c.left ≡ u ++ (x ++ rest) → parse S d t c ≡ refused n (c.at + length u)
  unfolding parse
  parse-refused zero t u x rest n c too_deep l = ap (refused 28) (omega arith)
  parse-refused (suc d) t u x rest n c (own-fault f) l = stops _ (own-refused c (S t) u x rest n f l)
  parse-refused (suc d) t u x rest n c (inner {u = u₁} {y} {w} {i} {earlier} due f) l =
      held-refused d t u₁ y w x rest i earlier n c (parse-refused d) due (inl f) (l ∙ rw (append_assoc, append_assoc))
  parse-refused (suc d) t u x rest n c (repeated {u = u₁} {y} {i} {earlier} due key v q h) l =
      let again : among (content v) (met [] due.before due.shown) ≡ true = holds-met [] due.before due.shown (content v) (rw due.keys h) in
      held-refused d t u₁ y [] x rest i earlier 24 c (parse-refused d) due (inr (v, refl, refl, key, q, again)) (l ∙ rw append_assoc)
      ∙ ap (λ (z : List ℕ). refused 24 (c.at + length (u₁ ++ z))) (append-nil y)

  -- ---- the root

  module _ (t : ℕ) (fs : List Field) (m : ℕ) (u y : List ℕ) (c : Cursor) where
    field-refused : (i : Item) (after : List Item) (w x rest : List ℕ) (n : ℕ) → RootDue S fs m u y (i ∷ after) → Faulty S 15 i.type w x rest n
        → c.left ≡ u ++ (y ++ (w ++ (x ++ rest))) → root_struct S t fs c ≡ refused n (c.at + length (u ++ (y ++ w)))
    unfolding root_struct
    field-refused i after w x rest n due f l =
        let stopped =
        walk_refused (Spells S 15) (Faulty S 15) (parse S 15) (parse-reads S 15) (parse-complete S solid 15) (parse-refused 15) [] due.before i after due.shown y w x rest n
        (record { left = y ++ (w ++ (x ++ rest)); at = c.at + bitmap_bytes (length fs) }) due.spelled (fields-fresh fs m due.before (i ∷ after) due.shown due.planned) (inl f) refl in
        steps _ (bitmap-complete fs m u (y ++ (w ++ (x ++ rest))) c due.starts l)
        (rw due.planned (stops _ (stopped ∙ ap (refused n) (simp length-append (omega (arith, due.starts.0))))))

    -- All known fields are spelled, and what follows them is refused.
    ending-refused : (x : List ℕ) (n : ℕ) → RootDue S fs m u y [] → ((c : Cursor) → c.left ≡ x → root_ending (unknown_bits fs m) c ≡ refused n c.at)
        → c.left ≡ u ++ (y ++ x) → root_struct S t fs c ≡ refused n (c.at + length (u ++ y))
    unfolding root_struct
    ending-refused x n due f l =
        let c₁ : Cursor = record { left = y ++ x; at = c.at + bitmap_bytes (length fs) } in
        let fresh = fields-fresh fs m due.before [] due.shown due.planned in
        let (ts, c₂, e, (_, left)) =
        yields-end (walk-complete (Spells S 15) (takes S solid 15) (parse S 15) (parse-complete S solid 15) [] due.before due.shown y x c₁ due.spelled fresh refl) in
        let at : c₂.at + length c₂.left ≡ c₁.at + length (y ++ x) = arrives (walk-reads (Spells S 15) (parse S 15) (parse-reads S 15) [] due.before c₁) e in
        let place : c₂.at ≡ c.at + length (u ++ y) = after c₂ at left in
        steps _ (bitmap-complete fs m u (y ++ x) c due.starts l) (rw (due.planned, append-nil) (steps _ e (stops _ (f c₂ left ∙ ap (refused n) place))))
      where
        after : (c₂ : Cursor) → c₂.at + length c₂.left ≡ c.at + bitmap_bytes (length fs) + length (y ++ x) → c₂.left ≡ x → c₂.at ≡ c.at + length (u ++ y)
        after c₂ k left =
            let k' : c₂.at + length x ≡ c.at + bitmap_bytes (length fs) + (length y + length x) = ap (λ (z : List ℕ). c₂.at + length z) (sym left) ∙ k ∙ simp length-append refl in
            simp length-append (omega (arith, due.starts.0))

  pub root-refused : (t : ℕ) (fs : List Field) (u x rest : List ℕ) (n : ℕ) (c : Cursor) → RootFault S fs u x rest n → c.left ≡ u ++ (x ++ rest)
      → root_struct S t fs c ≡ refused n (c.at + length u)
  unfolding root_struct
  root-refused t fs u x rest n c (root-bits f) l = stops _ (bitmap-refused c fs x rest n l f) ∙ ap (refused n) (omega arith)
  root-refused t fs u x rest n c (field {m} {u = u₁} {y} {w} {i} {after} due f) l =
      field-refused t fs m u₁ y c i after w x rest n due f (l ∙ rw (append_assoc, append_assoc))
  root-refused t fs u x rest n c (surplus {m} {u = u₁} {y} due none some) l =
      ending-refused t fs m u₁ y c x 27 due (λ c₂ left. surplus-refused (unknown_bits fs m) c₂ none (rw left some)) (l ∙ rw (append-nil, append_assoc))
  root-refused t fs u x rest n c (short-tail {m} {u = u₁} {y} due few) l =
      ending-refused t fs m u₁ y c x 20 due (λ c₂ left. short-refused (unknown_bits fs m) c₂ (rw left few)) (l ∙ rw (append-nil, append_assoc))
