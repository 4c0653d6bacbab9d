-- What has a reason in a sheet is refused, with that number and at that row.
use mathlib.Core.Path.{◌≡◌, refl, sym, ap, ◌∙◌}
use mathlib.Core.Logic.{◌⊎◌, inl, inr, ⊎_elim}
use mathlib.Core.Bool.{Bool, true, false, ◌&&◌}
use mathlib.Core.List.{List, [], ◌∷◌, ◌++◌, append-nil, append_assoc}
use Prim.Native.Nat.{ℕ, zero, suc, ◌+◌, ◌<◌}
use native.Mathlib.Omega.{arith}
use lib.Dec.{eqb}
use lib.ListN.{length, length-append}
use borrow.Author.Tests.{le-leb, lt-leb, le-ltb, eq-eqb, ne_eqb}
use Rattle.wire.specs.Little.{little}
use Rattle.utf8.specs.Utf8.{utf8}
use Rattle.utf8.proofs.Utf8s.{utf8-is}
use Rattle.parse.specs.Reader.{CursorOf, refused, seen, and_then, check}
use Rattle.parse.proofs.Answers.{passes, Yields, gives, yields-end, stops, steps, fails, arrives}
use Rattle.schema.specs.declared.Field.{Field}
use Rattle.schema.specs.Table.{Shape, width}
use Rattle.schema.proofs.Bools.{and_i, is_false, clash}
use Rattle.value.specs.declared.Row.{Row}
use Rattle.value.specs.Value.{branch, Forest, rows, rows_all, Value, value, values, content}
use Rattle.value.specs.Read.{Item, among, walk, known_bits}
use Rattle.value.specs.Write.{next_row, row_due, bits_at, says, show, show_root}
use Rattle.value.specs.Fits.{Fits}
use Rattle.value.specs.SheetReasons.{NoRow, missing, other, BitsFault, outside, absent, RowFault, scalar-unfit, scalar-outside, no_bool, text-unfit, text-outside, no_string, many-pairs, bits, struct-unfit}
use Rattle.value.specs.SheetReasons.{RowDue, SheetFaulty, too_deep, no_row, own, inner, repeated, RootRowDue, SheetFault, no_row as no-root, bits as root-bits, miscounted, field, left_over}
use Rattle.value.proofs.Bits.{bit-beyond}
use Rattle.value.proofs.Fields.{lacks}
use Rattle.value.proofs.Keys.{distinct-fresh}
use Rattle.value.proofs.Refused.{fields-fresh}
use Rattle.value.proofs.RowFaults.{RowsShow, of_forest, show-reads}
use Rattle.value.proofs.Shown.{row-complete, bits-complete, head-says, show-complete, show-sound, walk-shows, walk-shown}
use Rattle.value.proofs.Stops.{met, holds-met, ItemFault, walk_refused}

-- ---- one row

no-next : (c : CursorOf Row) → c.left ≡ [] → next_row c ≡ refused 50 c.at
unfolding next_row
no-next c l = rw l

next-is : (c : CursorOf Row) (r : Row) (rest : List Row) → c.left ≡ r ∷ rest → next_row c ≡ seen r (record { left = rest; at = c.at + 1 })
unfolding next_row
next-is c r rest l = rw l

row-refused : (t : ℕ) (x rest : List Row) (c : CursorOf Row) → NoRow t x rest → c.left ≡ x ++ rest → row_due t c ≡ refused 50 c.at
unfolding row_due
row-refused t x rest c missing l = stops _ (no-next c l)
row-refused t x rest c (other {r} h) l = steps _ (next-is c r rest l) (fails _ _ (ne_eqb r.ty t h) refl)

unfit-is : (a b : Bool) → (a ≡ false) ⊎ (b ≡ false) → a && b ≡ false
unfit-is true b (inl e) = clash true refl e
unfit-is true b (inr e) = e
unfit-is false b e = refl

module _ (B : List ℕ) (k : ℕ) (c : CursorOf Row) where
  bits-refused : (fs : List Field) (p n : ℕ) → BitsFault B fs p n → bits_at B k fs p c ≡ refused n k
  unfolding bits_at
  bits-refused fs p n (outside h) = fails _ _ (lt-leb _ _ h) refl
  bits-refused fs p n (absent i h a) = steps _ (passes _ _ _ _ (le-leb _ _ h)) (fails _ _ (lacks fs _ i a) refl)

  says-refused : (s : Shape) (p n i number : ℕ) → RowFault B s p n i number → says B k s p n i c ≡ refused number k
  unfolding little
  says-refused s p n i number (scalar-unfit {kind} h) = fails _ _ (unfit-is _ _ (⊎_elim (λ a. inl (ne_eqb _ _ a)) (λ b. inr (ne_eqb _ 0 b)) h)) refl
  says-refused s p n i number (scalar-outside {kind} w h) =
      steps _ (passes _ _ _ _ (and_i _ _ (eq-eqb n (width kind) w) refl)) (fails _ _ (lt-leb _ _ h) refl)
  says-refused s p n i number (no_bool b one (inside, x-is) h) =
      steps _ (passes _ _ _ _ (and_i _ _ (eq-eqb n 1 one) refl)) (steps _ (passes _ _ _ _ (le-leb _ _ inside))
      (fails _ _ (rw (← x-is) (le-ltb (b + 0) 2 (omega arith))) refl))
  says-refused s p n i number (text-unfit h) = fails _ _ (ne_eqb i 0 h) refl
  says-refused s p n i number (text-outside h) = steps _ (passes _ _ _ _ refl) (fails _ _ (lt-leb _ _ h) refl)
  says-refused s p n i number (no_string x (inside, x-is) h) =
      steps _ (passes _ _ _ _ refl) (steps _ (passes _ _ _ _ (le-leb _ _ inside)) (fails _ _ (rw (← x-is) (is_false (utf8 x) (λ e. h ((utf8-is x).0 e)))) refl))
  says-refused s p n i number (many-pairs h) = fails _ _ (lt-leb i _ h) refl
  says-refused s p n i number (bits {fs} f) = stops _ (bits-refused fs p number f)
  says-refused s p n i number (struct-unfit {fs} m q h) =
      steps _ (bits-complete B k fs m p c q) (fails _ _ (unfit-is _ _ (⊎_elim (λ a. inl (le-ltb m _ ((bit-beyond (length fs) m).1 a))) (λ b. inr (ne_eqb i _ b)) h)) refl)

-- ---- whole values

module _ (S : ℕ → Shape) (B : List ℕ) where
  show-accepts : (d t : ℕ) (v : Value) (u rest : List Row) (c : CursorOf Row) → RowsShow S B d t v u → c.left ≡ u ++ rest
      → Yields (λ tree c'. (value tree ≡ v) × (c'.left ≡ rest)) (show S B d t c)
  show-accepts d t v u rest c (tree, has-rows, has_value, f) l =
      let (shown, c', e, (same, left)) = yields-end (show-complete S B d t tree rest c f (l ∙ rw has-rows)) in
      rw e (gives (ap value same ∙ has_value, left))

  -- A composite whose item i is at fault, with the writer's answer for its items.
  held-refused : (d t : ℕ) (r : Row) (ts : Forest) (w x rest : List Row) (i : Item) (earlier : List (List ℕ)) (n : ℕ) (c : CursorOf Row)
      → ((t : ℕ) (u x rest : List Row) (n : ℕ) (c : CursorOf Row) → SheetFaulty B S d t u x rest n → c.left ≡ u ++ (x ++ rest) → show S B d t c ≡ refused n (c.at + length u))
      → (due : RowDue B S d t r ts i earlier)
      → ItemFault (RowsShow S B d) (SheetFaulty B S d) i (met [] due.before (values ts)) w x rest n → c.left ≡ r ∷ (rows_all ts ++ (w ++ (x ++ rest)))
      → show S B (suc d) t c ≡ refused n (c.at + length (r ∷ (rows_all ts ++ w)))
  unfolding show
  held-refused d t r ts w x rest i earlier n c parts-refused due f l =
      let stopped =
      walk_refused (RowsShow S B d) (SheetFaulty B S d) (show S B d) (show-reads S B d) (show-accepts d) parts-refused [] due.before i due.after (values ts) (rows_all ts) w x rest n
      (record { left = rows_all ts ++ (w ++ (x ++ rest)); at = c.at + 1 }) (of_forest S B d due.before ts due.fit) (distinct-fresh due.before (values ts) due.distinct) f refl in
      steps _ (row-complete t r _ c due.of-type l)
      (steps _ (head-says B c.at (S t) r.place r.length r.count due.head _ due.starts)
      (rw due.planned (stops _ (stopped ∙ ap (refused n) (omega arith)))))

  show-refused : (d t : ℕ) (u x rest : List Row) (n : ℕ) (c : CursorOf Row) → SheetFaulty B S d t u x rest n → c.left ≡ u ++ (x ++ rest)
      → show S B d t c ≡ refused n (c.at + length u)
  unfolding show
  show-refused zero t u x rest n c too_deep l = ap (refused 28) (omega arith)
  show-refused (suc d) t u x rest n c (no_row w) l = stops _ (row-refused t x rest c w l) ∙ ap (refused 50) (omega arith)
  show-refused (suc d) t u x rest n c (own {r} of-type f) l =
      steps _ (row-complete t r rest c of-type l) (stops _ (says-refused B c.at _ (S t) r.place r.length r.count n f)) ∙ ap (refused n) (omega arith)
  show-refused (suc d) t u x rest n c (inner {r} {ts} {w} {i} {earlier} due f) l =
      held-refused d t r ts w x rest i earlier n c (show-refused d) due (inl f) (l ∙ rw append_assoc)
  show-refused (suc d) t u x rest n c (repeated {r} {ts} {i} {earlier} tree due key f h) l =
      let again : among (content (value tree)) (met [] due.before (values ts)) ≡ true = holds-met [] due.before (values ts) (content (value tree)) (rw due.keys h) in
      held-refused d t r ts [] (rows tree) rest i earlier 24 c (show-refused d) due (inr (value tree, refl, refl, key, (tree, refl, refl, f), again)) l
      ∙ ap (λ (z : List Row). refused 24 (c.at + length (r ∷ z))) (append-nil (rows_all ts))

  -- ---- the root

  module _ (t : ℕ) (fs : List Field) (r : Row) (ts : Forest) (c : CursorOf Row) where
    -- The root's row is right, and what is done with the rows after it is refused.
    root-goes : (after : List Item) (left : List Row) (n k : ℕ) (due : RootRowDue B S t fs r ts after) → c.left ≡ r ∷ left
        → and_then (walk (show S B 15) [] (due.before ++ after) (record { left = left; at = c.at + 1 }))
        (λ ts c₁. and_then (check (eqb (length c₁.left) 0) 50 c₁.at c₁) (λ _ c₂. seen (branch r (known_bits fs due.m) ts) c₂))
        ≡ refused n k
        → show_root S B t fs c ≡ refused n k
    unfolding show_root
    root-goes after left n k due l e =
        steps _ (row-complete t r left c due.of-type l)
        (steps _ (bits-complete B c.at fs due.m r.place _ due.starts) (steps _ (passes _ _ _ _ (eq-eqb _ _ due.count)) (rw due.planned e)))

    field-refused : (i : Item) (after : List Item) (w x rest : List Row) (n : ℕ) → RootRowDue B S t fs r ts (i ∷ after) → SheetFaulty B S 15 i.type w x rest n
        → c.left ≡ r ∷ (rows_all ts ++ (w ++ (x ++ rest))) → show_root S B t fs c ≡ refused n (c.at + length (r ∷ (rows_all ts ++ w)))
    field-refused i after w x rest n due f l =
        let fresh = fields-fresh fs due.m due.before (i ∷ after) (values ts) due.planned in
        let stopped =
        walk_refused (RowsShow S B 15) (SheetFaulty B S 15) (show S B 15) (show-reads S B 15) (show-accepts 15) (show-refused 15) [] due.before i after (values ts) (rows_all ts) w x rest n
        (record { left = rows_all ts ++ (w ++ (x ++ rest)); at = c.at + 1 }) (of_forest S B 15 due.before ts due.fit) fresh (inl f) refl in
        root-goes (i ∷ after) (rows_all ts ++ (w ++ (x ++ rest))) n _ due l (stops _ (stopped ∙ ap (refused n) (omega arith)))

    over-refused : (x : List Row) → RootRowDue B S t fs r ts [] → 0 < length x → c.left ≡ r ∷ (rows_all ts ++ x) → show_root S B t fs c ≡ refused 50 (c.at + length (r ∷ rows_all ts))
    over-refused x due some l =
        let c₁ : CursorOf Row = record { left = rows_all ts ++ x; at = c.at + 1 } in
        let fresh = fields-fresh fs due.m due.before [] (values ts) due.planned in
        let (shown, c₂, e, (_, left)) = yields-end (walk-shown (Fits S B 15) (show S B 15) (show-complete S B 15) [] due.before ts x c₁ due.fit fresh refl) in
        let at : c₂.at + length c₂.left ≡ c₁.at + length (rows_all ts ++ x) = arrives (walk-shows (Fits S B 15) (show S B 15) (show-sound S B 15) [] due.before c₁) e in
        let more : eqb (length c₂.left) 0 ≡ false = ne_eqb (length c₂.left) 0 (λ z. omega (arith, ap length left)) in
        let place : c₂.at ≡ c.at + length (r ∷ rows_all ts) = after c₂ at left in
        root-goes [] (rows_all ts ++ x) 50 _ due l (rw (append-nil due.before) (steps _ e (fails _ _ more place)))
      where
        after : (c₂ : CursorOf Row) → c₂.at + length c₂.left ≡ c.at + 1 + length (rows_all ts ++ x) → c₂.left ≡ x → c₂.at ≡ c.at + length (r ∷ rows_all ts)
        after c₂ k left =
            let k' : c₂.at + length x ≡ c.at + 1 + (length (rows_all ts) + length x) = ap (λ (z : List Row). c₂.at + length z) (sym left) ∙ k ∙ simp length-append refl in
            omega arith

  pub sheet-refused : (t : ℕ) (fs : List Field) (u x rest : List Row) (n : ℕ) (c : CursorOf Row) → SheetFault B S t fs u x rest n → c.left ≡ u ++ (x ++ rest)
      → show_root S B t fs c ≡ refused n (c.at + length u)
  unfolding show_root
  sheet-refused t fs u x rest n c (no-root w) l = stops _ (row-refused t x rest c w l) ∙ ap (refused 50) (omega arith)
  sheet-refused t fs u x rest n c (root-bits {r} of-type f) l =
      steps _ (row-complete t r rest c of-type l) (stops _ (bits-refused B c.at _ fs r.place n f)) ∙ ap (refused n) (omega arith)
  sheet-refused t fs u x rest n c (miscounted {r} m of-type q h) l =
      steps _ (row-complete t r rest c of-type l) (steps _ (bits-complete B c.at fs m r.place _ q) (fails _ _ (ne_eqb r.count _ h) (omega arith)))
  sheet-refused t fs u x rest n c (field {r} {ts} {w} {i} {after} due f) l = field-refused t fs r ts c i after w x rest n due f (l ∙ rw append_assoc)
  sheet-refused t fs u x rest n c (left_over {r} {ts} due some) l = over-refused t fs r ts c x due some (l ∙ rw append-nil)
