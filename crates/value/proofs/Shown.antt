-- The writer accepts exactly the rows of the trees that fit the bytes.
use mathlib.Core.Path.{◌≡◌, refl, sym, ap, ◌∙◌}
use mathlib.Core.List.{List, [], ◌∷◌, ◌++◌, append-nil, append_assoc}
use mathlib.Core.Bool.{Bool, true, ◌&&◌, and-eq-true_iff}
use Prim.Native.Nat.{ℕ, zero, suc, ◌+◌}
use lib.ListN.{length}
use borrow.Author.Tests.{ltb-true, lt-ltb, leb-true, le-leb, eqb-true, eq-eqb, not-true}
use Rattle.wire.proofs.Cases.{nothing_left}
use Rattle.utf8.proofs.Utf8s.{utf8-is}
use Rattle.parse.specs.Reader.{CursorOf, seen, and_then}
use Rattle.parse.proofs.Answers.{Seen, value as holds, seen-then, seen-check, Reads, not-ok, ok, stay, reads_then, reads-check, Yields, gives, yields-then, goes, passes}
use Rattle.schema.specs.declared.Field.{Field}
use Rattle.schema.specs.Table.{Shape, unknown, scalar, text, array, map, struct}
use Rattle.value.specs.declared.Row.{Row}
use Rattle.value.specs.Value.{Tree, tip, branch, Forest, stop, plus, rows, rows_all, values}
use Rattle.value.specs.Read.{Item, Own, plain, parts, plan, walk}
use Rattle.value.specs.Write.{RowReader, next_row, row_due, bits_at, says, held, show, show_root}
use Rattle.value.specs.Fits.{LeafFits, BitsFit, HeadFits, AllFit, WholeFits, Fits, RootFits}
use Rattle.value.proofs.Keys.{Fresh, fresh-distinct, distinct-fresh}
use Rattle.value.proofs.Sound.{asked}
use Rattle.value.proofs.Complete.{asks}
use Rattle.value.proofs.Root.{struct-fresh}

both : (a b : Bool) → a && b ≡ true → (a ≡ true) × (b ≡ true)
both a b e = (and-eq-true_iff a b).0 e

both_true : (a b : Bool) → a ≡ true → b ≡ true → a && b ≡ true
both_true a b e f = (and-eq-true_iff a b).1 (e, f)

-- ---- what is accepted fits

pub next-reads : (c : CursorOf Row) → Reads c (λ r u. u ≡ r ∷ []) (next_row c)
unfolding next_row
next-reads c = go c.left refl
  where
    go : (rs : List Row) → c.left ≡ rs → Reads c (λ r u. u ≡ r ∷ []) (next_row (record { left = rs; at = c.at }))
    go [] e = not-ok
    go (r ∷ rs) e = ok (r ∷ []) e refl refl

pub row_reads : (t : ℕ) (c : CursorOf Row) → Reads c (λ r u. (u ≡ r ∷ []) × (r.ty ≡ t)) (row_due t c)
unfolding row_due
row_reads t c = reads_then (next-reads c) (λ r c' u q. reads-check _ _ _ _ _ (λ e. stay (rw (append-nil, q), eqb-true _ t e)))

-- What a row says.
abbrev pub Says : List ℕ → Shape → (place n count : ℕ) → Own → Type 0
Says B s p n c (plain x) = LeafFits B s p n c x
Says B s p n c (parts _ h) = HeadFits B s p c h

module _ (B : List ℕ) (k : ℕ) where
  pub bits-reads : (fs : List Field) (p : ℕ) (c : CursorOf Row) → Reads c (λ m u. (u ≡ []) × BitsFit B fs p m) (bits_at B k fs p c)
  unfolding bits_at
  bits-reads fs p c = reads-check _ _ _ _ _ (λ e. reads-check _ _ _ _ _ (λ e'. stay (refl, (leb-true _ _ e, refl, e'))))

  pub says-reads : (s : Shape) (p n count : ℕ) (c : CursorOf Row) → Reads c (λ o u. (u ≡ []) × Says B s p n count o) (says B k s p n count c)
  says-reads unknown p n count c = not-ok
  says-reads (scalar kind) p n count c =
      reads-check _ _ _ _ _ (λ e. reads-check _ _ _ _ _ (λ e'. reads-check _ _ _ _ _ (λ e''.
      let b = both _ _ e in
      stay (refl, (eqb-true _ _ b.0, eqb-true _ 0 b.1, (leb-true _ _ e', refl), λ h. ltb-true _ 2 (asked 1 kind _ e'' h))))))
  says-reads (text kind) p n count c =
      reads-check _ _ _ _ _ (λ e. reads-check _ _ _ _ _ (λ e'. reads-check _ _ _ _ _ (λ e''.
      stay (refl, (eqb-true _ 0 e, (leb-true _ _ e', refl), λ h. (utf8-is _).0 (asked 12 kind _ e'' h))))))
  says-reads (array e) p n count c = stay (refl, refl)
  says-reads (map a b) p n count c = reads-check _ _ _ _ _ (λ e. stay (refl, (refl, leb-true count _ e)))
  says-reads (struct fs) p n count c =
      reads_then (bits-reads fs p c) (λ m c' u q. reads-check _ _ _ _ _ (λ e.
      let b = both _ _ e in
      stay (rw append-nil q.0, (q.1, ltb-true _ _ b.0, eqb-true _ _ b.1))))

module _ (P : ℕ → Tree → Type 0) (p : ℕ → RowReader Tree) (p_p : (t : ℕ) (c : CursorOf Row) → Reads c (λ tree u. (u ≡ rows tree) × P t tree) (p t c)) where
  pub walk-shows : (keys : List (List ℕ)) (is : List Item) (c : CursorOf Row)
      → Reads c (λ ts u. (u ≡ rows_all ts) × AllFit P is ts × Fresh keys is (values ts)) (walk p keys is c)
  unfolding walk rows_all values
  walk-shows keys [] c = stay (refl, tt, tt)
  walk-shows keys (i ∷ is) c =
      reads_then (p_p i.type c) (λ t c' u q. reads-check _ _ _ _ _ (λ e.
      reads_then (walk-shows _ is c') (λ ts c'' u' q'. stay (rw (append-nil, q.0, q'.0), (q.1, q'.1), (not-true _ e, q'.2)))))

  held-shows : (B : List ℕ) (s : Shape) (t : ℕ) (r : Row) (o : Own) → r.ty ≡ t → Says B s r.place r.length r.count o → (c : CursorOf Row)
      → Reads c (λ tree u. (r ∷ u ≡ rows tree) × WholeFits P B s t tree) (held p r s o c)
  unfolding rows
  held-shows B s t r (plain x) h q c = stay (refl, (h, q))
  held-shows B s t r (parts _ head) h q c =
      reads_then (walk-shows [] (plan s head) c) (λ ts c' u w. stay (rw (append-nil, w.0), (h, q, w.1, fresh-distinct (plan s head) (values ts) w.2)))

module _ (S : ℕ → Shape) (B : List ℕ) where
  pub show-sound : (d t : ℕ) (c : CursorOf Row) → Reads c (λ tree u. (u ≡ rows tree) × Fits S B d t tree) (show S B d t c)
  unfolding show
  show-sound zero t c = not-ok
  show-sound (suc d) t c =
      reads_then (row_reads t c) (λ r c' u q. reads_then (says-reads B c.at (S t) r.place r.length r.count c') (λ o c'' u' q'.
      rw (q.0, q'.0) (held-shows (Fits S B d) (show S B d) (show-sound d) B (S t) t r o q.1 q'.1 c'')))

-- ---- what fits is accepted

pub row-complete : (t : ℕ) (r : Row) (rest : List Row) (c : CursorOf Row) → r.ty ≡ t → c.left ≡ r ∷ rest → row_due t c ≡ seen r (record { left = rest; at = c.at + 1 })
unfolding row_due next_row and_then
row-complete t r rest c h e = rw (e, passes _ _ _ _ (eq-eqb r.ty t h))

module _ (B : List ℕ) (k : ℕ) where
  pub bits-complete : (fs : List Field) (m p : ℕ) (c : CursorOf Row) → BitsFit B fs p m → bits_at B k fs p c ≡ seen m c
  unfolding bits_at and_then
  bits-complete fs m p c q = rw (passes _ _ _ _ (le-leb _ _ q.0), ← q.1, passes _ _ _ _ q.2)

  leaf-says : (s : Shape) (p n count : ℕ) (x : List ℕ) (c : CursorOf Row) → LeafFits B s p n count x → says B k s p n count c ≡ seen (plain x) c
  unfolding and_then
  leaf-says (scalar kind) p n count x c q =
      rw (passes _ _ _ _ (both_true _ _ (eq-eqb _ _ q.0) (eq-eqb _ 0 q.1)), passes _ _ _ _ (le-leb _ _ q.2.0), ← q.2.1, passes _ _ _ _ (asks 1 kind _ (λ h. lt-ltb _ 2 (q.3 h))))
  leaf-says (text kind) p n count x c q =
      rw (passes _ _ _ _ (eq-eqb _ 0 q.0), passes _ _ _ _ (le-leb _ _ q.1.0), ← q.1.1, passes _ _ _ _ (asks 12 kind _ (λ h. (utf8-is _).1 (q.2 h))))
  leaf-says unknown p n count x c q = absurd q
  leaf-says (array _) p n count x c q = absurd q
  leaf-says (map _ _) p n count x c q = absurd q
  leaf-says (struct _) p n count x c q = absurd q

  pub head-says : (s : Shape) (p n count h : ℕ) (c : CursorOf Row) → HeadFits B s p count h → says B k s p n count c ≡ seen (parts 0 h) c
  unfolding and_then
  head-says (array _) p n count h c q = rw q
  head-says (map _ _) p n count h c q = rw (q.0, passes _ _ _ _ (le-leb h _ q.1))
  head-says (struct fs) p n count h c q =
      rw (bits-complete fs h p c q.0, passes _ _ _ _ (both_true _ _ (lt-ltb h _ q.1) (eq-eqb _ _ q.2)))
  head-says unknown p n count h c q = absurd q
  head-says (scalar _) p n count h c q = absurd q
  head-says (text _) p n count h c q = absurd q

abbrev pub AtEnd : {A : Type 0} → A → List Row → A → CursorOf Row → Type 0
AtEnd x rest y c = (y ≡ x) × (c.left ≡ rest)

module _ (P : ℕ → Tree → Type 0) (p : ℕ → RowReader Tree)
    (p_p : (t : ℕ) (tree : Tree) (rest : List Row) (c : CursorOf Row) → P t tree → c.left ≡ rows tree ++ rest → Yields (AtEnd tree rest) (p t c))
  where
    pub walk-shown : (keys : List (List ℕ)) (is : List Item) (ts : Forest) (rest : List Row) (c : CursorOf Row) → AllFit P is ts → Fresh keys is (values ts)
        → c.left ≡ rows_all ts ++ rest → Yields (AtEnd ts rest) (walk p keys is c)
    unfolding walk rows_all values
    walk-shown keys [] stop rest c q f l = gives (refl, l)
    walk-shown keys [] (plus t ts) rest c q f l = absurd q
    walk-shown keys (i ∷ is) stop rest c q f l = absurd q
    walk-shown keys (i ∷ is) (plus t ts) rest c q f l =
        yields-then (p_p i.type t (rows_all ts ++ rest) c q.0 (l ∙ append_assoc (rows t) (rows_all ts) rest)) (λ y c' w.
        goes _ (passes _ _ _ _ (rw (w.0, f.0)))
        (yields-then (walk-shown _ is ts rest c' q.1 (rw w.0 f.1) w.1) (λ ys c'' w'. gives (rw (w.0, w'.0), w'.1))))

    whole-shown : (B : List ℕ) (k : ℕ) (s : Shape) (t : ℕ) (tree : Tree) (rest : List Row) (c : CursorOf Row) → WholeFits P B s t tree → c.left ≡ rows tree ++ rest
        → Yields (AtEnd tree rest) (and_then (row_due t c) (λ r c. and_then (says B k s r.place r.length r.count c) (held p r s)))
    unfolding rows
    whole-shown B k s t (tip r x) rest c q l =
        goes _ (row-complete t r rest c q.0 l) (goes _ (leaf-says B k s _ _ _ x _ q.1) (gives (refl, refl)))
    whole-shown B k s t (branch r h ts) rest c q l =
        goes _ (row-complete t r (rows_all ts ++ rest) c q.0 l) (goes _ (head-says B k s _ _ _ h _ q.1)
        (yields-then (walk-shown [] (plan s h) ts rest _ q.2 (distinct-fresh (plan s h) (values ts) q.3) refl) (λ ys c'' w. gives (rw w.0, w.1))))

module _ (S : ℕ → Shape) (B : List ℕ) where
  pub show-complete : (d t : ℕ) (tree : Tree) (rest : List Row) (c : CursorOf Row) → Fits S B d t tree → c.left ≡ rows tree ++ rest → Yields (AtEnd tree rest) (show S B d t c)
  unfolding show
  show-complete zero t tree rest c q l = absurd q
  show-complete (suc d) t tree rest c q l = whole-shown (Fits S B d) (show S B d) (show-complete d) B c.at (S t) t tree rest c q l

-- ---- the root

module _ (S : ℕ → Shape) (B : List ℕ) (t : ℕ) (fs : List Field) where
  pub root-shows : (c : CursorOf Row) → Reads c (λ tree u. (u ≡ rows tree) × RootFits S B t fs tree) (show_root S B t fs c)
  unfolding show_root rows
  root-shows c =
      reads_then (row_reads t c) (λ r c₁ u₁ q₁. reads_then (bits-reads B c.at fs r.place c₁) (λ m c₂ u₂ q₂. reads-check _ _ _ _ _ (λ e.
      reads_then (walk-shows (Fits S B 15) (show S B 15) (show-sound S B 15) [] _ c₂) (λ ts c₃ u₃ q₃. reads-check _ _ _ _ _ (λ e'.
      stay (rw (append-nil, q₁.0, q₂.0, q₃.0), (m, q₁.1, q₂.1, refl, eqb-true _ _ e, q₃.1)))))))

  pub root-shown : (tree : Tree) (c : CursorOf Row) → RootFits S B t fs tree → c.left ≡ rows tree → Yields (AtEnd tree []) (show_root S B t fs c)
  unfolding show_root rows
  root-shown (tip r x) c q l = absurd q
  root-shown (branch r h ts) c q l =
      goes _ (row-complete t r (rows_all ts) c q.1 l) (goes _ (bits-complete B c.at fs q.0 r.place _ q.2)
      (rw (← q.3)
      (goes _ (passes _ _ _ _ (eq-eqb _ _ q.4))
      (yields-then (walk-shown (Fits S B 15) (show S B 15) (show-complete S B 15) [] _ ts [] _ q.5 (struct-fresh fs h (values ts)) (sym (append-nil (rows_all ts)))) (λ ys c' w.
      goes _ (passes _ _ _ _ (eq-eqb _ 0 (ap length w.1))) (gives (rw w.0, w.1)))))))

  -- No row is left over.
  pub root_ends : (c : CursorOf Row) → Seen (λ tree end. end.left ≡ []) (show_root S B t fs c)
  unfolding show_root
  root_ends c =
      seen-then _ (λ r c₁ _. seen-then _ (λ m c₂ _. seen-then _ (λ _ c₃ _. seen-then _ (λ ts c₄ _. seen-check _ _ _ _ _ (λ e.
      holds (nothing_left c₄.left (eqb-true _ 0 e)))))))
