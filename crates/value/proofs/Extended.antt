-- A payload that a new table's rules allow, read by an old table that the new one extends; and the other way round.
use mathlib.Core.Path.{◌≡◌, refl, sym, ap, ap₂, ◌∙◌}
use mathlib.Core.Logic.{◌↔◌}
use mathlib.Core.List.{List, [], ◌∷◌, ◌++◌, append-nil, append_assoc}
use mathlib.Core.Option.{Option, none, some}
use mathlib.Core.Bool.{Bool, true, false, cond}
use Prim.Native.Nat.{ℕ, ◌+◌, ◌/◌, ◌^◌, ◌≤◌, ◌<◌, zero-le}
use native.Mathlib.Omega.{arith}
use native.Mathlib.Nat.{div-eq_of_lt}
use lib.Dec.{leb}
use lib.ListN.{length, take, length-append}
use borrow.Author.Tests.{leb-false}
use Rattle.wire.specs.Little.{little}
use Rattle.wire.proofs.Cases.{differ}
use Rattle.parse.specs.Reader.{Cursor, seen, cursor_at}
use Rattle.parse.proofs.Answers.{seen_end, yields-end}
use Rattle.schema.specs.declared.Field.{Field}
use Rattle.schema.specs.Table.{Shape, struct, bitmap_bytes}
use Rattle.value.specs.declared.Row.{Row}
use Rattle.value.specs.Beside.{pruned, pruned_all, root_length}
use Rattle.value.specs.Value.{Value, node, Values, none as empty, some as and, Tree, tip, branch, Forest, rows, rows_all, value, values}
use Rattle.value.specs.Comparisons as due
use Rattle.value.specs.Read.{Item, present, root_bits, root_of, root_struct, refusal, accepted, reading}
use Rattle.value.specs.Spell.{AllSpell, Spells, RootSpells}
use Rattle.value.proofs.Shapes.{FieldsBelow, Optional, Widening, Extension}
use Rattle.schema.specs.Extend.{Grows, same, gains}
use Rattle.value.specs.Fits.{RootFits, Shows}
use Rattle.value.specs.Delimits.{RootDelimits}
use Rattle.value.specs.Added.{carries, reached, inner, reached_all, first_added, without, added_values, NoneAdded}
use Rattle.value.specs.Claims.{ByOld}
use Rattle.value.proofs.Bits.{present_mod, present-none, present-added}
use Rattle.value.proofs.Root.{bits_in_front, root-sound, root-complete}
use Rattle.value.proofs.TwoTables.{outcome, Agrees, agrees-accepts}
use Rattle.value.proofs.Comparisons.{root-same}
use Rattle.value.proofs.Without.{◌⧺◌, trees, spelled_kept, without-first, after_first}
use Rattle.value.proofs.Placed.{root-placed}
use Rattle.value.proofs.Delimited.{root-delimits}
use Rattle.value.proofs.Telling.{root-known}
use Rattle.value.proofs.Pruned.{pruned-same, pruned-first}
use Rattle.value.proofs.RootTables.{root_tree, OldSays, new-then-old-root, root-agrees, tailless}
use Rattle.value.proofs.Reading.{as_root, accepts, accepted-of, root_in}

-- ---- what a struct gains

cancel : (fs gs hs : List Field) → fs ++ gs ≡ fs ++ hs → gs ≡ hs
cancel [] gs hs e = e
cancel (f ∷ fs) gs hs e = cancel fs gs hs (cc)

pub grown : (fs : List Field) {s s' : Shape} → Grows s s' → s ≡ struct fs → (gs : List Field) × (s' ≡ struct (fs ++ gs)) × Optional gs
grown fs (same s) e = ([], rw append-nil e, λ i l. absurd (omega arith))
grown fs (gains fs' gs o) e = let f : fs' ≡ fs = cc in (gs, rw f, o)

-- A struct of the old table has its fields in the new one too, and perhaps more.
pub gained-fields : (S S' : ℕ → Shape) (n : ℕ) → Widening S S' n → (t : ℕ) → t < n → (fs : List Field) → S t ≡ struct fs → (gs : List Field) × (S' t ≡ struct (fs ++ gs))
gained-fields S S' n x t l fs st = let w = grown fs (x.grows t l) st in (w.0, w.1)

module _ (S S' : ℕ → Shape) (n : ℕ) (x : Extension S S' n) (t : ℕ) (l : t < n) (fs gs : List Field) (st : S t ≡ struct fs) (st' : S' t ≡ struct (fs ++ gs)) where
  gained : (bitmap_bytes (length (fs ++ gs)) ≡ bitmap_bytes (length fs)) × Optional gs
  gained =
      let w = grown fs (x.wide.grows t l) st in
      let e : fs ++ w.0 ≡ fs ++ gs = cc (w.1, st') in
      let k : w.0 ≡ gs = cancel fs w.0 gs e in
      (x.bytes t l fs (fs ++ gs) st st', rw k at w.2)

  below : FieldsBelow n fs
  below = rw st at (x.wide.closed t l)

  -- A root that carries no added field has no bytes of any.
  no-added : (P : ℕ → Value → List ℕ → Type 0) (h : ℕ) (vs : Values) (w : List ℕ) → carries (struct fs) h ≡ false → AllSpell P (present gs (h / 2 ^ length fs)) vs w → w ≡ []
  no-added P h vs w f q = go (present gs (h / 2 ^ length fs)) vs (rw (div-eq_of_lt (leb-false (2 ^ length fs) h f)) (present-none gs)) q
    where
      go : (is : List Item) (vs : Values) → is ≡ [] → AllSpell P is vs w → w ≡ []
      go [] empty e q = q
      go [] (and v vs) e q = absurd q
      go (i ∷ is) vs e q = differ cc

  -- ---- from the new table to the old one

  module _ (payload : List ℕ) (room : ℕ) where
    abbrev Answered : Value → Option ℕ → Type 0
    Answered v f = ByOld S S' t fs gs payload room v (reading S t room (root_of S t payload)) f

    -- The old root's value is the new one's without the added fields.
    kept-value : (r : Row) (h : ℕ) (us vs : Forest) (c' : Cursor) → trees us ≡ length (present fs h)
        → root_struct S t fs (cursor_at payload 0) ≡ seen (root_tree t fs 0 h us c') c' → value (root_tree t fs 0 h us c') ≡ without S (value (branch r h (us ⧺ vs))) t
    unfolding value without
    kept-value r h us vs c' z e =
        let q = seen_end (root-sound S t fs (cursor_at payload 0)) e in
        rw (st, without-first S us vs (present fs h) z, spelled_kept S 15 (present fs h) (values us) q.2 (rw (present_mod fs h) at q.6))

    -- Where the old reader accepts: the payload's known and added bytes.
    split : (h : ℕ) (us : Forest) (c' : Cursor) → root_struct S t fs (cursor_at payload 0) ≡ seen (root_tree t fs 0 h us c') c'
        → (known : List ℕ) × (payload ≡ known ++ c'.left) × (c'.at ≡ length known)
    unfolding value
    split h us c' e =
        let q = seen_end (root-sound S t fs (cursor_at payload 0)) e in
        let k : payload ≡ (q.1 ++ q.2) ++ c'.left = q.3 ∙ sym (append_assoc q.1 q.2 c'.left) in
        let w = root_in S t fs payload (root_tree t fs 0 h us c') c' e in
        let n : length payload ≡ length (q.1 ++ q.2) + length c'.left = ap length k ∙ length-append (q.1 ++ q.2) c'.left in
        (q.1 ++ q.2, k, omega (arith, w.1))

    answer : (r : Row) (h : ℕ) (ts : Forest) (end : Cursor) → length payload ≤ 16384 → end.left ≡ []
        → OldSays S S' n x t fs gs below gained.0 gained.1 (cursor_at payload 0) (branch r h ts) end
        → Answered (value (branch r h ts)) (first_added (inner S (branch r h ts) t))
    unfolding value
    answer r h ts end short none_left (us, vs, w, c', a, s, z, k, q) =
        let i : first_added (inner S (branch r h ts) t) ≡ first_added (reached_all S ts (present fs h)) = rw st in
        rw i (go (first_added (reached_all S ts (present fs h))) a)
      where
        go : (f : Option ℕ) → root_struct S t fs (cursor_at payload 0) ≡ outcome f (root_tree t fs 0 h us c') c' → Answered (value (branch r h ts)) f
        go (some p) a = as_root S t payload room fs st short ∙ rw a
        go none a =
            let (known, e, m) = split h us c' a in
            let e' : c'.left ≡ w = rw (none_left, append-nil) at k in
            let i = root_in S t fs payload (root_tree t fs 0 h us c') c' a in
            let b : values vs ≡ added_values fs (node h (values ts)) = rw s (sym (after_first us vs (length (present fs h)) z)) in
            let rs = rows (root_tree t fs 0 h us c') in
            let u : value (root_tree t fs 0 h us c') ≡ without S (value (branch r h ts)) t = rw s (kept-value r h us vs c' z a) in (
              rs,
              known,
              w,
              e ∙ ap (λ (y : List ℕ). known ++ y) e',
              rw b at q,
              λ f. no-added (Spells S' 15) h (values vs) w f q,
              rw u at i.0,
              as_root S t payload room fs st short ∙ ap (reading S t room) a
                  ∙ ap₂ (λ (i : ℕ) (y : List ℕ). cond (leb (length rs) room) (accepted rs i (length y) (due.comparisons S (value (root_tree t fs 0 h us c')) t)) (refusal 30 0)) m e'
                  ∙ ap (λ (y : Value). cond (leb (length rs) room) (accepted rs (length known) (length w) (due.comparisons S y t)) (refusal 30 0)) u,
            )

    -- The old reader's answer for a value that the new rules allow, without unknown bits; the tree has its places.
    pub new-by-old : (v : Value) → RootSpells S' (fs ++ gs) v payload [] → length payload ≤ 16384
        → (tree : Tree) × (end : Cursor) × (root_struct S' t (fs ++ gs) (cursor_at payload 0) ≡ seen tree end) × (value tree ≡ v)
        × Answered v (first_added (inner S tree t))
    new-by-old v q short =
        let (tree, end, e, (u, z)) = yields-end (root-complete S' t (fs ++ gs) x.wide.solid v [] (cursor_at payload 0) q) in
        (tree, end, e, u, rw u at (go tree end z (seen_end (new-then-old-root S S' n x t fs gs below gained.0 gained.1 (cursor_at payload 0)) e)))
      where
        go : (tree : Tree) (end : Cursor) → end.left ≡ [] → OldSays S S' n x t fs gs below gained.0 gained.1 (cursor_at payload 0) tree end
            → Answered (value tree) (first_added (inner S tree t))
        go (tip r y) end z o = absurd o
        go (branch r h ts) end z o = answer r h ts end short z o

    -- 26 is answered exactly for an inner struct that carries an added field, at the first.
    pub refused-iff : (v : Value) (f : Option ℕ) → Answered v f → (p : ℕ) → (reading S t room (root_of S t payload) ≡ refusal 26 p) ↔ (f ≡ some p)
    refused-iff v (some p') a p = (λ e. cc, λ e. a ∙ cc)
    refused-iff v none (rs, known, added, k, q, z, s, a) p = (λ e. go (leb (length rs) room) (sym a ∙ e), λ e. differ cc)
      where
        go : (b : Bool) → cond b (accepted rs (length known) (length added) (due.comparisons S (without S v t) t)) (refusal 30 0) ≡ refusal 26 p → none ≡ some p
        go true e = differ cc
        go false e = absurd (let z : ◌≡◌ {A = ℕ} 30 26 = cc in omega arith)

    -- ---- from the old table to the new one

    -- Where no added field's bit is set, the old root reader answers as the new one does, or 26.
    pub roots-agree : NoneAdded fs gs payload → Agrees (root_struct S t fs (cursor_at payload 0)) (root_struct S' t (fs ++ gs) (cursor_at payload 0))
    roots-agree = root-agrees S S' n x t fs gs below gained.0 gained.1 (cursor_at payload 0)

    -- And both count the same comparisons due in what the old one reads.
    pub same-comparisons : (tree : Tree) (end : Cursor) → root_struct S t fs (cursor_at payload 0) ≡ seen tree end → due.comparisons S' (value tree) t ≡ due.comparisons S (value tree) t
    same-comparisons tree end k =
        root-same S S' n x.wide t l fs gs st st' (value tree) payload end.left (seen_end (root-sound S t fs (cursor_at payload 0)) k)

    -- What the old reader accepts, with no added field's bit set, the new one accepts with the same rows, tail and comparisons; the rows show the same
    -- value.
    pub old-by-new : (rs : List Row) (place k comparisons : ℕ) → reading S t room (root_of S t payload) ≡ accepted rs place k comparisons → NoneAdded fs gs payload
        → (reading S' t room (root_of S' t payload) ≡ accepted rs place k comparisons)
        × ((v : Value) × Shows S payload t fs rs v × Shows S' payload t (fs ++ gs) rs v)
    old-by-new rs place k₀ comparisons e bare =
        let a = accepts S t payload room rs place k₀ comparisons e in
        let f : a.fs ≡ fs = cc a.is-struct in
        let k : root_struct S t fs (cursor_at payload 0) ≡ seen a.tree a.end = rw f at a.reads in
        let k' = agrees-accepts (roots-agree bare) k in
        let d = same-comparisons a.tree a.end k in (
          accepted-of S' t payload room rs place k₀ comparisons
              (record {
                fs = fs ++ gs;
                tree = a.tree;
                end = a.end;
                is-struct = st';
                reads = k';
                has-rows = a.has-rows;
                has-place = a.has-place;
                has-length = a.has-length;
                has-comparisons = d ∙ a.has-comparisons;
                short = a.short;
                fits = a.fits;
              }),
          (value a.tree, rw a.has-rows at (root_in S t fs payload a.tree a.end k).0, rw a.has-rows at (root_in S' t (fs ++ gs) payload a.tree a.end k').0),
        )

    -- No added field's bit is set where the old reader accepts without a tail.
    pub none-added : (rs : List Row) (place comparisons : ℕ) → reading S t room (root_of S t payload) ≡ accepted rs place 0 comparisons → NoneAdded fs gs payload
    none-added rs place comparisons e =
        let a = accepts S t payload room rs place 0 comparisons e in
        let f : a.fs ≡ fs = cc a.is-struct in
        let k : root_struct S t fs (cursor_at payload 0) ≡ seen a.tree a.end = rw f at a.reads in
        seen_end (tailless S S' n x t fs gs below gained.0 gained.1 (cursor_at payload 0)) k a.has-length

    -- Where no struct of what the new one reads carries an added field, the root's bitmap sets no added field's bit, and the old one accepts.
    pub none-carried : (tree : Tree) (end : Cursor) → root_struct S' t (fs ++ gs) (cursor_at payload 0) ≡ seen tree end → first_added (reached S tree t) ≡ none
        → NoneAdded fs gs payload × ((old : Tree) × (end' : Cursor) × (root_struct S t fs (cursor_at payload 0) ≡ seen old end'))
    unfolding reached value
    none-carried tree end e = go tree (seen_end (new-then-old-root S S' n x t fs gs below gained.0 gained.1 (cursor_at payload 0)) e)
        (seen_end (root-sound S' t (fs ++ gs) (cursor_at payload 0)) e)
      where
        clear : (h : ℕ) (vs : Values) → RootSpells S' (fs ++ gs) (node h vs) payload end.left → leb (2 ^ length fs) h ≡ false → NoneAdded fs gs payload
        clear h vs (m, y, z, k, spells, known, _, _) f =
            let front : root_bits fs payload ≡ m = ap (λ (j : ℕ). little (take j payload)) (sym gained.0) ∙ bits_in_front (fs ++ gs) m y (z ++ end.left) payload k spells in
            let low : h / 2 ^ length fs ≡ 0 = div-eq_of_lt (leb-false (2 ^ length fs) h f) in
            rw (front, ← present-added fs gs m, ← known, low) (present-none gs)

        go : (tree : Tree) → OldSays S S' n x t fs gs below gained.0 gained.1 (cursor_at payload 0) tree end → RootSpells S' (fs ++ gs) (value tree) payload end.left
            → first_added (reached S tree t) ≡ none → NoneAdded fs gs payload × ((old : Tree) × (end' : Cursor) × (root_struct S t fs (cursor_at payload 0) ≡ seen old end'))
        go (tip r y) o q f = absurd o
        go (branch r h ts) (us, vs, w, c', a, _, _, _, _) q f = by (leb (2 ^ length fs) h) refl (rw st at f)
          where
            by : (b : Bool) → leb (2 ^ length fs) h ≡ b → cond b (some r.place) (first_added (reached_all S ts (present fs h))) ≡ none
                → NoneAdded fs gs payload × ((old : Tree) × (end' : Cursor) × (root_struct S t fs (cursor_at payload 0) ≡ seen old end'))
            by true k f = differ cc
            by false k f = (clear h (values ts) q k, (root_tree t fs 0 h us c', c', rw f at a))

    -- ---- with both tables

    -- Where both root readers accept, the new one's rows without the added fields are the old one's but for the root's length, and so is the value.
    pub both_read : (old tree : Tree) (end end' : Cursor) → root_struct S t fs (cursor_at payload 0) ≡ seen old end → root_struct S' t (fs ++ gs) (cursor_at payload 0) ≡ seen tree end'
        → (rows (pruned S tree t) ≡ root_length end'.at (rows old)) × (value (pruned S tree t) ≡ value old)
    unfolding pruned rows value
    both_read old tree end end' e e' =
        go tree (seen_end (new-then-old-root S S' n x t fs gs below gained.0 gained.1 (cursor_at payload 0)) e')
        (seen_end (root-placed payload S' t (fs ++ gs) (cursor_at payload 0) (refl, zero-le)) e').1 (root-delimits payload S' t (fs ++ gs) tree end' e')
      where
        -- The old reader's tree has no added fields.
        same-fields : (h : ℕ) (us : Forest) (c' : Cursor) → root_tree t fs 0 h us c' ≡ old → pruned_all S us (present fs h) ≡ us
        same-fields h us c' k =
            let f = (seen_end (root-placed payload S t fs (cursor_at payload 0) (refl, zero-le)) e).1 in
            let z = rw (← k) at (pruned-same S payload old t (root-known S payload t fs st old f)) in
            cc (rw (st, present_mod fs h) at z)

        go : (tree : Tree) → OldSays S S' n x t fs gs below gained.0 gained.1 (cursor_at payload 0) tree end' → RootFits S' payload t (fs ++ gs) tree
            → RootDelimits S' payload (fs ++ gs) tree end'.at → (rows (pruned S tree t) ≡ root_length end'.at (rows old)) × (value (pruned S tree t) ≡ value old)
        go (tip r y) o f d = absurd o
        go (branch r h ts) (us, vs, w, c', a, s, z, k, q) f d = by (first_added (reached_all S ts (present fs h))) a
          where
            by : (first : Option ℕ) → root_struct S t fs (cursor_at payload 0) ≡ outcome first (root_tree t fs 0 h us c') c'
                → (rows (pruned S (branch r h ts) t) ≡ root_length end'.at (rows old)) × (value (pruned S (branch r h ts) t) ≡ value old)
            by (some p) a = differ cc
            by none a =
                let k : root_tree t fs 0 h us c' ≡ old = cc in
                let u : pruned_all S ts (present fs h) ≡ us = rw s (pruned-first S us vs (present fs h) z) ∙ same-fields h us c' k in
                rw (st, u, ← k) (λ i. record { ty = f.1 i; place = d.1 i; length = d.2 i; count = length (present fs h) } ∷ rows_all us, refl)
