-- What the writer refuses of a sheet has its reason.
use mathlib.Core.Path.{◌≡◌, refl, sym, ap, subst, ◌∙◌}
use mathlib.Core.Logic.{◌⊎◌, inl, inr, ⊎_elim}
use mathlib.Core.Bool.{Bool, true, false, ◌&&◌}
use mathlib.Core.List.{List, [], ◌∷◌, append-nil}
use Prim.Native.Nat.{ℕ, zero, suc, ◌+◌, ◌^◌, ◌≤◌, ◌<◌}
use native.Mathlib.Omega.{arith}
use lib.Dec.{ltb, eqb}
use lib.ListN.{length}
use borrow.Author.Tests.{leb-true, leb-false, ltb-false, eqb-true, eqb-false}
use Rattle.buffer.specs.Span.{span}
use Rattle.buffer.proofs.Spans.{length-span}
use Rattle.wire.specs.Little.{little}
use Rattle.utf8.specs.Utf8.{utf8}
use Rattle.utf8.proofs.Utf8s.{utf8-is}
use Rattle.parse.specs.Reader.{CursorOf, refused}
use Rattle.parse.proofs.Answers.{Reads, reads-map}
use Rattle.parse.proofs.Blames.{Blames, fine, blames, blames-then, blames-check, blames-on, blames-map}
use Rattle.schema.specs.declared.Field.{Field}
use Rattle.schema.specs.Table.{Shape, unknown, scalar, text, array, map, struct, width}
use Rattle.schema.proofs.Bools.{clash, and_left, and_right}
use Rattle.value.specs.declared.Row.{Row}
use Rattle.value.specs.Value.{Tree, Forest, stop, plus, rows, rows_all, Value, value, Values, none, some, values, content}
use Rattle.value.specs.Read.{Item, plan, row_count, Own, plain, parts, walk, known_bits}
use Rattle.value.specs.Spell.{AllSpell, keys_of}
use Rattle.value.specs.Write.{next_row, row_due, bits_at, says, held, show, show_root}
use Rattle.value.specs.Fits.{BitsFit, HeadFits, AllFit, Fits}
use Rattle.value.specs.SheetReasons.{NoRow, missing, other, BitsFault, outside, absent, RowFault, scalar-unfit, scalar-outside, no_bool, text-unfit, text-outside, no_string, many-pairs, bits, struct-unfit}
use Rattle.value.specs.SheetReasons.{RowDue, SheetFaulty, too_deep, no_row, own, inner, repeated, RootRowDue, SheetFault, no_row as no-root, bits as root-bits, miscounted, field, left_over}
use Rattle.value.proofs.Bits.{bit-beyond}
use Rattle.value.proofs.Fields.{lacking}
use Rattle.value.proofs.Keys.{fresh-distinct}
use Rattle.value.proofs.Reasons.{denied, unkeyed_at, some_left}
use Rattle.value.proofs.Root.{Unkeyed, present_unkeyed}
use Rattle.value.proofs.Shown.{next-reads, row_reads, bits-reads, says-reads, Says, show-sound, walk-shows}
use Rattle.value.proofs.Stops.{Stops, ItemFault, walk-blames, met, met-none}
use Rattle.value.proofs.TwoTables.{Below}

-- ---- one row

module _ {F : (u x rest : List Row) → ℕ → Type 0} (t : ℕ) (c : CursorOf Row) (f : (x rest : List Row) → NoRow t x rest → F [] x rest 50) where
  next-blames : Blames c F (next_row c)
  unfolding next_row
  next-blames = go c.left refl
    where
      go : (l : List Row) → c.left ≡ l → Blames c F (next_row (record { left = l; at = c.at }))
      go [] e = blames {p = c.at} [] [] [] e (omega arith) (f [] [] missing)
      go (r ∷ rs) e = fine

  row-blames : Blames c F (row_due t c)
  unfolding row_due
  row-blames =
      blames-then (next-reads c) next-blames (λ r c₁ u _ l k q.
      blames-check _ _ _ _ _ (λ e. blames [] (r ∷ []) c₁.left (l ∙ rw q) (omega arith) (f (r ∷ []) c₁.left (other (eqb-false r.ty t e)))) (λ _. fine))

both_not : (a b : Bool) → a && b ≡ false → (a ≡ false) ⊎ (b ≡ false)
both_not true b e = inr e
both_not false b e = inl refl

module _ (B : List ℕ) where
  scalar-fault : (kind p n k : ℕ) → eqb n (width kind) && eqb k 0 ≡ false → RowFault B (scalar kind) p n k 50
  scalar-fault kind p n k e = scalar-unfit (⊎_elim (λ w. inl (eqb-false n (width kind) w)) (λ z. inr (eqb-false k 0 z)) (both_not _ _ e))

  pub bool-fault : (kind p n : ℕ) → kind ≡ 1 → n ≡ width kind → p + n ≤ length B → 2 ≤ little (span B p n) → RowFault B (scalar kind) p n 0 22
  unfolding little
  bool-fault kind p n one w inside high =
      subst (λ (k : ℕ). RowFault B (scalar k) p n 0 22) (sym one) (go (span B p n) refl (length-span B p n inside ∙ w ∙ ap width one) high)
    where
      go : (x : List ℕ) → x ≡ span B p n → length x ≡ 1 → 2 ≤ little x → RowFault B (scalar 1) p n 0 22
      go [] e l h = absurd (omega arith)
      go (b ∷ []) e l h = no_bool b (w ∙ ap width one) (inside, e) (omega arith)
      go (b ∷ b' ∷ x) e l h = absurd (omega arith)

  pub string_fault : (kind p n : ℕ) → kind ≡ 12 → p + n ≤ length B → utf8 (span B p n) ≡ false → RowFault B (text kind) p n 0 23
  string_fault kind p n is inside e = rw is (no_string (span B p n) (inside, refl) (λ w. clash (utf8 (span B p n)) ((utf8-is (span B p n)).1 w) e))

  struct-fault : (fs : List Field) (p n k m : ℕ) → BitsFit B fs p m → ltb m (2 ^ length fs) && eqb k (row_count (struct fs) m) ≡ false → RowFault B (struct fs) p n k 50
  struct-fault fs p n k m q e =
      struct-unfit m q (⊎_elim (λ b. inl ((bit-beyond (length fs) m).0 (ltb-false m _ b))) (λ z. inr (eqb-false k _ z)) (both_not _ _ e))

  -- The first of the rows left at the cursor c, by its place, length and count.
  module _ {F : (u x rest : List Row) → ℕ → Type 0} (c : CursorOf Row) (r : Row) (rest : List Row) (l : c.left ≡ r ∷ rest) where
    blamed : {A : Type 0} {n : ℕ} → F [] (r ∷ []) rest n → Blames {A = A} c F (refused n c.at)
    blamed f = blames {p = c.at} [] (r ∷ []) rest l (omega arith) f

    bits-blames : (fs : List Field) (p : ℕ) (c₁ : CursorOf Row) → ((n : ℕ) → BitsFault B fs p n → F [] (r ∷ []) rest n) → Blames c F (bits_at B c.at fs p c₁)
    unfolding bits_at
    bits-blames fs p c₁ f =
        blames-check _ _ _ _ _ (λ e. blamed (f _ (outside (leb-false _ _ e)))) (λ e.
        blames-check _ _ _ _ _ (λ e'. let w = lacking fs _ e' in blamed (f _ (absent w.0 (leb-true _ _ e) w.1))) (λ _. fine))

    says-blames : (s : Shape) → (s ≡ unknown → ⊥) → (p n k : ℕ) (c₁ : CursorOf Row) → ((number : ℕ) → RowFault B s p n k number → F [] (r ∷ []) rest number)
        → Blames c F (says B c.at s p n k c₁)
    says-blames unknown h p n k c₁ f = absurd (h refl)
    says-blames (scalar kind) h p n k c₁ f =
        blames-check _ _ _ _ _ (λ e. blamed (f _ (scalar-fault kind p n k e))) (λ e.
        let w = eqb-true n (width kind) (and_left _ _ e) in
        let z = eqb-true k 0 (and_right (eqb n (width kind)) _ e) in
        blames-check _ _ _ _ _ (λ e'. blamed (f _ (rw z (scalar-outside w (leb-false _ _ e'))))) (λ e'.
        blames-check _ _ _ _ _ (λ e''. let d = denied 1 kind _ e'' in blamed (f _ (rw z (bool-fault kind p n d.0 w (leb-true _ _ e') (ltb-false _ 2 d.1))))) (λ _. fine)))
    says-blames (text kind) h p n k c₁ f =
        blames-check _ _ _ _ _ (λ e. blamed (f _ (text-unfit (eqb-false k 0 e)))) (λ e.
        let z = eqb-true k 0 e in
        blames-check _ _ _ _ _ (λ e'. blamed (f _ (rw z (text-outside (leb-false _ _ e'))))) (λ e'.
        blames-check _ _ _ _ _ (λ e''. let d = denied 12 kind _ e'' in blamed (f _ (rw z (string_fault kind p n d.0 (leb-true _ _ e') d.1)))) (λ _. fine)))
    says-blames (array e) h p n k c₁ f = fine
    says-blames (map a b) h p n k c₁ f = blames-check _ _ _ _ _ (λ e. blamed (f _ (many-pairs (leb-false k _ e)))) (λ _. fine)
    says-blames (struct fs) h p n k c₁ f =
        blames-then (bits-reads B c.at fs p c₁) (bits-blames fs p c₁ (λ m g. f m (bits g))) (λ m c₂ u _ _ _ q.
        blames-check _ _ _ _ _ (λ e. blamed (f _ (struct-fault fs p n k m q.1 e))) (λ _. fine))

-- ---- whole values

-- The rows u are those of a tree that fits, and show v.
abbrev pub RowsShow : (ℕ → Shape) → List ℕ → (d t : ℕ) → Value → List Row → Type 0
RowsShow S B d t v u = (tree : Tree) × (rows tree ≡ u) × (value tree ≡ v) × Fits S B d t tree

module _ (S : ℕ → Shape) (B : List ℕ) where
  pub forest_of : (d : ℕ) (is : List Item) (vs : Values) (y : List Row) → AllSpell (RowsShow S B d) is vs y
      → (ts : Forest) × AllFit (Fits S B d) is ts × (rows_all ts ≡ y) × (values ts ≡ vs)
  unfolding rows_all values
  forest_of d [] none y q = (stop, tt, sym q, refl)
  forest_of d [] (some v vs) y q = absurd q
  forest_of d (i ∷ is) none y q = absurd q
  forest_of d (i ∷ is) (some v vs) y (x, y', e, (tree, has-rows, has_value, f), qs) =
      let (ts, fit, all-rows, all-values) = forest_of d is vs y' qs in
      (plus tree ts, (f, fit), rw (has-rows, all-rows) (sym e), rw (has_value, all-values))

  pub of_forest : (d : ℕ) (is : List Item) (ts : Forest) → AllFit (Fits S B d) is ts → AllSpell (RowsShow S B d) is (values ts) (rows_all ts)
  unfolding rows_all values
  of_forest d [] stop q = refl
  of_forest d [] (plus tree ts) q = absurd q
  of_forest d (i ∷ is) stop q = absurd q
  of_forest d (i ∷ is) (plus tree ts) q = (rows tree, rows_all ts, refl, (tree, refl, refl, q.0), of_forest d is ts q.1)

  pub show-reads : (d t : ℕ) (c : CursorOf Row) → Reads c (λ tree u. RowsShow S B d t (value tree) u) (show S B d t c)
  show-reads d t c = reads-map (show-sound S B d t c) (λ tree u q. (tree, sym q.0, refl, q.1))

  module _ (types : ℕ) (there : (t : ℕ) → t < types → S t ≡ unknown → ⊥) (below : (t head : ℕ) → Below types (plan (S t) head)) where
    held-fault : (d t h : ℕ) (r : Row) (w x rest : List Row) (n : ℕ) → r.ty ≡ t → HeadFits B (S t) r.place r.count h
        → Stops (RowsShow S B d) (SheetFaulty B S d) [] (plan (S t) h) w x rest n → SheetFaulty B S (suc d) t (r ∷ w) x rest n
    held-fault d t h r w x rest n of-type starts q = go (forest_of d q.before q.shown q.y q.spelled) q.fault
      where
        due : (ts : Forest) → AllFit (Fits S B d) q.before ts → values ts ≡ q.shown → RowDue B S d t r ts q.item (keys_of q.before q.shown)
        due ts fit e = record {
          head = h;
          before = q.before;
          after = q.after;
          of-type = of-type;
          starts = starts;
          planned = q.split;
          fit = fit;
          distinct = rw e (fresh-distinct q.before q.shown q.fresh);
          keys = ap (keys_of q.before) e;
        }

        go : (ts : Forest) × AllFit (Fits S B d) q.before ts × (rows_all ts ≡ q.y) × (values ts ≡ q.shown)
            → ItemFault (RowsShow S B d) (SheetFaulty B S d) q.item (met [] q.before q.shown) q.w x rest n → SheetFaulty B S (suc d) t (r ∷ w) x rest n
        go (ts, fit, all-rows, all-values) (inl f) = rw (q.place, ← all-rows) (inner (due ts fit all-values) f)
        go (ts, fit, all-rows, all-values) (inr (v, none-of-it, number, key, (tree, has-rows, has_value, f), again)) =
            rw (q.place, none-of-it, number, append-nil, ← all-rows, ← has-rows)
            (repeated tree (due ts fit all-values) key f (rw has_value (met-none q.before q.shown (content v) again)))

    show-blames : (d t : ℕ) (c : CursorOf Row) → t < types → Blames c (SheetFaulty B S d t) (show S B d t c)
    unfolding show
    show-blames zero t c h = blames {p = c.at} [] [] c.left refl (omega arith) too_deep
    show-blames (suc d) t c h =
        blames-then (row_reads t c) (row-blames t c (λ x rest w. no_row w)) (λ r c₁ u _ l k q.
        let first : c.left ≡ r ∷ c₁.left = l ∙ rw q.0 in
        let one : length u ≡ 1 = ap length q.0 in
        blames-then (says-reads B c.at (S t) r.place r.length r.count c₁)
        (says-blames B c r c₁.left first (S t) (there t h) r.place r.length r.count c₁ (λ n f. own q.1 f))
        (λ o c₂ u₂ _ l₂ k₂ q₂.
        let none-of-it : length u₂ ≡ 0 = ap length q₂.0 in
        go o r c₂ (first ∙ ap (λ (z : List Row). r ∷ z) (l₂ ∙ rw q₂.0)) (omega arith) q.1 q₂.1
        (λ head. walk-blames (RowsShow S B d) (SheetFaulty B S d) (show S B d) types (show-reads d) (show-blames d) [] (plan (S t) head) c₂ (below t head))))
      where
        go : (o : Own) (r : Row) (c₂ : CursorOf Row) → c.left ≡ r ∷ c₂.left → c₂.at ≡ c.at + 1 → r.ty ≡ t → Says B (S t) r.place r.length r.count o
            → ((head : ℕ) → Blames c₂ (Stops (RowsShow S B d) (SheetFaulty B S d) [] (plan (S t) head)) (walk (show S B d) [] (plan (S t) head) c₂))
            → Blames c (SheetFaulty B S (suc d) t) (held (show S B d) r (S t) o c₂)
        go (plain x) r c₂ l k of-type q on = fine
        go (parts _ head) r c₂ l k of-type q on =
            blames-map (blames-on (r ∷ []) l k (on head) (λ w x rest n _ f. held-fault d t head r w x rest n of-type q f)) (λ _ _. fine)

    -- ---- the root

    field-fault : (t : ℕ) (fs : List Field) (m : ℕ) (r : Row) (w x rest : List Row) (n : ℕ) → r.ty ≡ t → BitsFit B fs r.place m
        → r.count ≡ row_count (struct fs) (known_bits fs m) → Stops (RowsShow S B 15) (SheetFaulty B S 15) [] (plan (struct fs) (known_bits fs m)) w x rest n
        → SheetFault B S t fs (r ∷ w) x rest n
    field-fault t fs m r w x rest n of-type starts count q = go (forest_of 15 q.before q.shown q.y q.spelled) q.fault
      where
        go : (ts : Forest) × AllFit (Fits S B 15) q.before ts × (rows_all ts ≡ q.y) × (values ts ≡ q.shown)
            → ItemFault (RowsShow S B 15) (SheetFaulty B S 15) q.item (met [] q.before q.shown) q.w x rest n → SheetFault B S t fs (r ∷ w) x rest n
        go (ts, fit, all-rows, _) (inl f) =
            rw (q.place, ← all-rows) (field (record { m = m; before = q.before; of-type = of-type; starts = starts; count = count; planned = q.split; fit = fit }) f)
        go _ (inr (v, _, _, key, _, _)) =
            clash q.item.key key (unkeyed_at q.before q.item q.after (subst Unkeyed q.split (present_unkeyed fs (known_bits fs m))))

    pub sheet-blames : (t : ℕ) (fs : List Field) → S t ≡ struct fs → (c : CursorOf Row) → Blames c (SheetFault B S t fs) (show_root S B t fs c)
    unfolding show_root
    sheet-blames t fs st c =
        blames-then (row_reads t c) (row-blames t c (λ x rest w. no-root w)) (λ r c₁ u _ l k q.
        let first : c.left ≡ r ∷ c₁.left = l ∙ rw q.0 in
        let one : length u ≡ 1 = ap length q.0 in
        blames-then (bits-reads B c.at fs r.place c₁) (bits-blames B c r c₁.left first fs r.place c₁ (λ n f. root-bits q.1 f)) (λ m c₂ u₂ _ l₂ k₂ q₂.
        let none-of-it : length u₂ ≡ 0 = ap length q₂.0 in
        let l' : c.left ≡ r ∷ c₂.left = first ∙ ap (λ (z : List Row). r ∷ z) (l₂ ∙ rw q₂.0) in
        let k' : c₂.at ≡ c.at + 1 = omega arith in
        blames-check _ _ _ _ _ (λ e. blamed B c r c₁.left first (miscounted m q.1 q₂.1 (eqb-false _ _ e))) (λ e.
        blames-then (walk-shows (Fits S B 15) (show S B 15) (show-sound S B 15) [] _ c₂)
        (blames-on (r ∷ []) l' k'
        (walk-blames (RowsShow S B 15) (SheetFaulty B S 15) (show S B 15) types (show-reads 15) (show-blames 15) [] _ c₂ (rw st at (below t (known_bits fs m))))
        (λ w x rest n _ f. field-fault t fs m r w x rest n q.1 q₂.1 (eqb-true _ _ e) f))
        (λ ts c₃ u₃ _ l₃ k₃ q₃.
        let all : RootRowDue B S t fs r ts [] = record {
          m = m;
          before = plan (struct fs) (known_bits fs m);
          of-type = q.1;
          starts = q₂.1;
          count = eqb-true _ _ e;
          planned = sym (append-nil _);
          fit = q₃.1;
        } in
        let long : length u₃ ≡ length (rows_all ts) = ap length q₃.0 in
        blames-check _ _ _ _ _
        (λ e'. blames (r ∷ rows_all ts) c₃.left [] (l' ∙ ap (λ (z : List Row). r ∷ z) (l₃ ∙ rw (append-nil, q₃.0))) (omega arith) (left_over all (some_left c₃.left (eqb-false _ 0 e'))))
        (λ _. fine)))))
