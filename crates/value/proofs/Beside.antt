-- Payloads read by the writer's table and shown by ours.
use mathlib.Core.Path.{◌≡◌, refl, sym, ap, subst, ◌∙◌}
use mathlib.Core.Logic.{◌⊎◌, inl, inr, ⊎_elim}
use mathlib.Core.List.{List, ◌++◌}
use mathlib.Core.Option.{none}
use mathlib.Core.Bool.{Bool, true, false, cond}
use Prim.Native.Nat.{ℕ, ◌+◌, ◌≤◌, ◌<◌}
use native.Mathlib.Omega.{arith}
use lib.Dec.{leb}
use lib.ListN.{length}
use borrow.Author.Tests.{leb-true, leb-false, le-leb, lt-leb}
use Rattle.wire.proofs.Cases.{differ}
use Rattle.parse.specs.Reader.{Cursor, Answer, refused, seen, cursor_at}
use Rattle.parse.proofs.Answers.{seen_end, yields-end}
use Rattle.parse.proofs.Blames.{blames-end}
use Rattle.schema.specs.declared.Field.{Field}
use Rattle.schema.specs.Table.{Table, Shape, unknown, scalar, text, array, map, struct, shape}
use Rattle.schema.specs.Good.{GoodSchema}
use Rattle.value.specs.declared.Row.{Row}
use Rattle.value.specs.Value.{Tree, rows, Value, value, size}
use Rattle.value.specs.Comparisons as due
use Rattle.value.specs.Read.{on_struct_of, root_of, root_struct, refusal, accepted, reading_as, reading}
use Rattle.value.specs.Spell.{RootSpells}
use Rattle.value.specs.Fits.{Shows, ShowsKnown}
use Rattle.value.specs.Added.{reached, first_added, without, NoneAdded}
use Rattle.value.specs.Claims.{DelimitedTree}
use Rattle.value.specs.Beside.{pruned, shown_rows, beside_of, RightfulBeside, TooFewRows, ShownAs, DelimitedBeside, BesideReason, no-struct, too_long, faulty, too_few-rows, root_length}
use Rattle.value.proofs.Shapes.{Widening, Extension}
use Rattle.value.proofs.Root.{root-sound, root-complete}
use Rattle.value.proofs.Refusals.{good-blames}
use Rattle.value.proofs.Telling.{root-known, known-once}
use Rattle.value.proofs.Pruned.{pruned-value, pruned-same, tree-shown}
use Rattle.value.proofs.Reading.{sized, accepts, Gives, accepted-gives, gives-accepted, root-of, root-inv, root_in}
use Rattle.value.proofs.Determined.{read-tree, tree-read}
use Rattle.value.proofs.Extended.{gained-fields, both_read, roots-agree, none-carried, same-comparisons}
use Rattle.value.proofs.TwoTables.{Agrees, alike, unknown-bit}

-- ---- one table twice

module _ (S : ℕ → Shape) (t : ℕ) (payload : List ℕ) where
  kept : (tree : Tree) (end : Cursor) → root_of S t payload ≡ seen tree end → pruned S tree t ≡ tree
  kept tree end e =
      let (fs, st, f, _, _, _) = read-tree S t payload tree end e in
      pruned-same S payload tree t (root-known S payload t fs st tree f)

  -- By one table twice a payload is read as by that table.
  pub beside_same : (room : ℕ) → beside_of S S t room payload ≡ reading S t room (root_of S t payload)
  beside_same room = go (S t) refl
    where
      all-kept : (m : Answer Tree) → root_of S t payload ≡ m → reading_as (shown_rows S t) S t room m ≡ reading S t room m
      all-kept (refused n p) e = refl
      all-kept (seen tree end) e = rw (kept tree end e)

      go : (s : Shape) → S t ≡ s → on_struct_of s (refusal 46 0) (λ _. reading_as (shown_rows S t) S t room (root_of S t payload)) ≡ reading S t room (root_of S t payload)
      go (struct fs) e = all-kept _ refl
      go unknown e = rw e
      go (scalar _) e = rw e
      go (text _) e = rw e
      go (array _) e = rw e
      go (map _ _) e = rw e

-- ---- two tables

module _ (S S' : ℕ → Shape) (n : ℕ) (x : Widening S S' n) (t : ℕ) (l : t < n) (fs : List Field) (st : S t ≡ struct fs) (payload : List ℕ) where
  -- The rows of what was read show its value without the added fields.
  shows : (tree : Tree) (end : Cursor) → root_of S' t payload ≡ seen tree end → ShowsKnown S payload t (shown_rows S t tree) (without S (value tree) t)
  shows tree end e =
      let (fs', st', f, _, _, _) = read-tree S' t payload tree end e in
      (pruned S tree t, refl, tree-shown S S' n x payload tree t l (root-known S' payload t fs' st' tree f), pruned-value S tree t)

  module _ (room : ℕ) where
    -- A struct of ours is judged by theirs.
    pub by-theirs : beside_of S S' t room payload ≡ reading_as (shown_rows S t) S' t room (root_of S' t payload)
    by-theirs = rw st

    beside-gives : (rs : List Row) (place k comparisons : ℕ) → beside_of S S' t room payload ≡ accepted rs place k comparisons
        → (tree : Tree) × Gives (shown_rows S t) S' t room (root_of S' t payload) rs place k comparisons tree
    beside-gives rs place k comparisons e = accepted-gives (shown_rows S t) S' t room _ rs place k comparisons (sym by-theirs ∙ e)

    gives-beside : (rs : List Row) (place k comparisons : ℕ) (tree : Tree) → Gives (shown_rows S t) S' t room (root_of S' t payload) rs place k comparisons tree
        → beside_of S S' t room payload ≡ accepted rs place k comparisons
    gives-beside rs place k comparisons tree g = by-theirs ∙ gives-accepted (shown_rows S t) S' t room _ rs place k comparisons tree g

    pub beside_delimited : (rs : List Row) (place k comparisons : ℕ) → beside_of S S' t room payload ≡ accepted rs place k comparisons
        → DelimitedBeside S S' t payload room rs place k comparisons
    beside_delimited rs place k comparisons e =
        let (tree, (end, m, r, p, q, d, f)) = beside-gives rs place k comparisons e in
        (tree, rw (p, q) at (read-tree S' t payload tree end m), r, d, f)

    pub delimited_beside : (rs : List Row) (place k comparisons : ℕ) → DelimitedBeside S S' t payload room rs place k comparisons
        → beside_of S S' t room payload ≡ accepted rs place k comparisons
    delimited_beside rs place k comparisons (tree, y, r, d, f) =
        let (end, m, p, q) = tree-read S' t payload x.solid tree place k y in
        gives-beside rs place k comparisons tree (end, m, r, p, q, d, f)

    module _ (fs' : List Field) (st' : S' t ≡ struct fs') where
      -- What is read: its parts, and the number of its rows.
      parts : (tree : Tree) (end : Cursor) → root_of S' t payload ≡ seen tree end
          → RootSpells S' fs' (value tree) payload end.left × (length payload ≤ 16384) × (end.at + length end.left ≡ length payload)
          × (length (shown_rows S t tree) ≡ size (without S (value tree) t))
      parts tree end m =
          let (fs'', st'', y, short) = root-inv S' t payload tree end m in
          let g : fs'' ≡ fs' = cc in
          let y' : root_struct S' t fs' (cursor_at payload 0) ≡ seen tree end = rw g at y in (
            seen_end (root-sound S' t fs' (cursor_at payload 0)) y',
            short,
            (root_in S' t fs' payload tree end y').1,
            sized (pruned S tree t) ∙ ap size (pruned-value S tree t),
          )

      -- What is spelled is read.
      reads : (v : Value) (tail : List ℕ) → RootSpells S' fs' v payload tail → length payload ≤ 16384
          → (tree : Tree) × (end : Cursor) × (root_of S' t payload ≡ seen tree end) × (value tree ≡ v) × (end.left ≡ tail)
      reads v tail q short =
          let (tree, end, e, (u, z)) = yields-end (root-complete S' t fs' x.solid v tail (cursor_at payload 0) q) in
          (tree, end, root-of S' t payload fs' st' short ∙ e, u, z)

      pub rightful_beside : (place k comparisons : ℕ) (v : Value) → RightfulBeside S S' t fs' payload room v place k comparisons
          → ShownAs S t payload (beside_of S S' t room payload) (without S v t) place k comparisons
      rightful_beside place k comparisons v (tail, q, short, f, h, p, d) =
          let (tree, end, m, u, z) = reads v tail q short in
          let (_, _, w, b) = parts tree end m in
          let i : length end.left ≡ k = ap length z ∙ h in
          let j : size (without S (value tree) t) ≤ room = rw u f in (
            shown_rows S t tree,
            gives-beside _ place k comparisons tree (end, m, refl, omega arith, i, rw u d, omega arith),
            rw u at (shows tree end m),
          )

      pub beside_rightful : (place k comparisons : ℕ) (w : Value) → ShownAs S t payload (beside_of S S' t room payload) w place k comparisons
          → (v : Value) × (without S v t ≡ w) × RightfulBeside S S' t fs' payload room v place k comparisons
      beside_rightful place k comparisons w (rs, e, s) =
          let (tree, (end, m, r, p, q, d, f)) = beside-gives rs place k comparisons e in
          let (y, short, h, b) = parts tree end m in
          let u : without S (value tree) t ≡ w = known-once S t payload payload _ w rs rs (rw r at (shows tree end m)) s refl in
          (value tree, u, (end.left, y, short, omega (arith, ap length r), q, omega arith, d))

      pub refused_as : (n p : ℕ) → beside_of S S' t room payload ≡ refusal n p
          → ((room' : ℕ) → reading S' t room' (root_of S' t payload) ≡ refusal n p) ⊎ ((n ≡ 30) × (p ≡ 0) × TooFewRows S S' t fs' payload room)
      refused_as n p e = go (root_of S' t payload) refl (sym by-theirs ∙ e)
        where
          fitting : (tree : Tree) (end : Cursor) (b : Bool) → root_of S' t payload ≡ seen tree end → leb (length (shown_rows S t tree)) room ≡ b
              → cond b (accepted (shown_rows S t tree) end.at (length end.left) (due.comparisons S' (value tree) t)) (refusal 30 0) ≡ refusal n p
              → (n ≡ 30) × (p ≡ 0) × TooFewRows S S' t fs' payload room
          fitting tree end true k q e = differ cc
          fitting tree end false k q e =
              let (y, short, _, b) = parts tree end k in
              (cc, cc, (value tree, end.left, y, short, omega (arith, leb-false (length (shown_rows S t tree)) room q)))

          go : (m : Answer Tree) → root_of S' t payload ≡ m → reading_as (shown_rows S t) S' t room m ≡ refusal n p
              → ((room' : ℕ) → reading S' t room' (root_of S' t payload) ≡ refusal n p) ⊎ ((n ≡ 30) × (p ≡ 0) × TooFewRows S S' t fs' payload room)
          go (refused n' p') k e = inl (λ room'. rw k e)
          go (seen tree end) k e = inr (fitting tree end _ k refl e)

      pub refused-from : (n p : ℕ)
          → ((room' : ℕ) → reading S' t room' (root_of S' t payload) ≡ refusal n p) ⊎ ((n ≡ 30) × (p ≡ 0) × TooFewRows S S' t fs' payload room)
          → beside_of S S' t room payload ≡ refusal n p
      refused-from n p = ⊎_elim (λ h. by-theirs ∙ go (root_of S' t payload) h) (λ (a, b, (v, tail, q, short, f)).
          let (tree, end, m, u, _) = reads v tail q short in
          let many : room < length (shown_rows S t tree) = omega (arith, (parts tree end m).3, ap (λ (y : Value). size (without S y t)) u) in
          let c : leb (length (shown_rows S t tree)) room ≡ false = lt-leb (length (shown_rows S t tree)) room many in
          by-theirs ∙ ap (reading_as (shown_rows S t) S' t room) m ∙ rw (c, a, b))
        where
          go : (m : Answer Tree) → ((room' : ℕ) → reading S' t room' m ≡ refusal n p) → reading_as (shown_rows S t) S' t room m ≡ refusal n p
          go (refused n' p') h = h 0
          go (seen tree end) h =
              let b : leb (length (rows tree)) (length (rows tree)) ≡ true = le-leb (length (rows tree)) (length (rows tree)) (omega arith) in
              let z = rw b at (h (length (rows tree))) in
              differ cc

-- ---- refusals of tables

module _ (ours theirs : Table) (good' : GoodSchema theirs) (n : ℕ) (x : Widening (shape ours) (shape theirs) n) (below : (t : ℕ) (fs : List Field) → shape ours t ≡ struct fs → t < n)
    (t : ℕ) (payload : List ℕ) (room : ℕ) where
  abbrev Told : (number place : ℕ) → Type 0
  Told = BesideReason (shape ours) (shape theirs) t payload room

  root-refused : (k p : ℕ) → ((room' : ℕ) → reading (shape theirs) t room' (root_of (shape theirs) t payload) ≡ refusal k p) → root_of (shape theirs) t payload ≡ refused k p
  root-refused k p h = go (root_of (shape theirs) t payload) h
    where
      go : (m : Answer Tree) → ((room' : ℕ) → reading (shape theirs) t room' m ≡ refusal k p) → m ≡ refused k p
      go (refused k' p') h = let e = h 0 in cc
      go (seen tree end) h =
          let b : leb (length (rows tree)) (length (rows tree)) ≡ true = le-leb (length (rows tree)) (length (rows tree)) (omega arith) in
          let z = rw b at (h (length (rows tree))) in
          differ cc

  by_length : (k p : ℕ) (fs' : List Field) → shape theirs t ≡ struct fs' → (b : Bool) → leb (length payload) 16384 ≡ b
      → cond b (root_struct (shape theirs) t fs' (cursor_at payload 0)) (refused 7 0) ≡ refused k p → Told k p
  by_length k p fs' st' true q e =
      let (u, y, rest, l, at, f) = blames-end (good-blames theirs good' t fs' st' (cursor_at payload 0)) e in
      subst (Told k) {y = p} (omega arith) (faulty fs' u y rest st' (leb-true (length payload) 16384 q) l f)
  by_length k p fs' st' false q e =
      let a : 7 ≡ k = cc in
      let b : 0 ≡ p = cc in
      subst (Told k) b (subst (λ (m : ℕ). Told m 0) a (too_long (leb-false (length payload) 16384 q)))

  in_struct : (k p : ℕ) (fs : List Field) → shape ours t ≡ struct fs → beside_of (shape ours) (shape theirs) t room payload ≡ refusal k p → Told k p
  in_struct k p fs st e =
      let (gs, st') = gained-fields (shape ours) (shape theirs) n x t (below t fs st) fs st in
      ⊎_elim
      (λ h. by_length k p (fs ++ gs) st' _ refl (rw st' at (root-refused k p h)))
      (λ (a, b, few). rw (a, b) (too_few-rows (fs ++ gs) st' few))
      (refused_as (shape ours) (shape theirs) n x t (below t fs st) fs st payload room (fs ++ gs) st' k p e)

  -- Every refusal is one of the list.
  pub listed : (k p : ℕ) → beside_of (shape ours) (shape theirs) t room payload ≡ refusal k p → Told k p
  listed k p e = go (shape ours t) refl
    where
      other : (s : Shape) → shape ours t ≡ s → on_struct_of {A = ℕ} s 0 (λ fs. 1) ≡ 0 → refusal 46 0 ≡ refusal k p → Told k p
      other s q z f =
          let a : 46 ≡ k = cc in
          let b : 0 ≡ p = cc in
          subst (Told k) b (subst (λ (m : ℕ). Told m 0) a (no-struct (λ fs i. omega (arith, ap (λ (y : Shape). on_struct_of {A = ℕ} y 0 (λ _. 1)) (sym q ∙ i)))))

      go : (s : Shape) → shape ours t ≡ s → Told k p
      go (struct fs) q = in_struct k p fs q e
      go unknown q = other unknown q refl (rw q at e)
      go (scalar y) q = other (scalar y) q refl (rw q at e)
      go (text y) q = other (text y) q refl (rw q at e)
      go (array y) q = other (array y) q refl (rw q at e)
      go (map y z) q = other (map y z) q refl (rw q at e)

-- ---- where ours reads too

module _ (S S' : ℕ → Shape) (n : ℕ) (x : Extension S S' n) (t : ℕ) (l : t < n) (fs gs : List Field) (st : S t ≡ struct fs)
    (st' : S' t ≡ struct (fs ++ gs)) (payload : List ℕ) (room : ℕ) where
  pub both-accept : (room' : ℕ) (rs rs' : List Row) (place place' k k' comparisons comparisons' : ℕ) → reading S t room (root_of S t payload) ≡ accepted rs place k comparisons
      → beside_of S S' t room' payload ≡ accepted rs' place' k' comparisons'
      → (rs' ≡ root_length place' rs) × ((v : Value) × Shows S payload t fs rs v × ShowsKnown S payload t rs' v)
  both-accept room' rs rs' place place' k k' comparisons comparisons' e e' =
      let a = accepts S t payload room rs place k comparisons e in
      let f : a.fs ≡ fs = cc a.is-struct in
      let m : root_struct S t fs (cursor_at payload 0) ≡ seen a.tree a.end = rw f at a.reads in
      let (tree, (end, y, r, p, _, _, _)) = beside-gives S S' n x.wide t l fs st payload room' rs' place' k' comparisons' e' in
      let (fs'', st'', y', _) = root-inv S' t payload tree end y in
      let g : fs'' ≡ fs ++ gs = cc in
      let w = both_read S S' n x t l fs gs st st' payload room a.tree tree a.end end m (rw g at y') in
      let u : without S (value tree) t ≡ value a.tree = sym (pruned-value S tree t) ∙ w.1 in (
        sym r ∙ w.0 ∙ rw (p, a.has-rows),
        (value a.tree, rw a.has-rows at (root_in S t fs payload a.tree a.end m).0, rw (u, r) at (shows S S' n x.wide t l fs st payload tree end y)),
      )

  -- Where no added field's bit is set in the root, the answer is ours, or ours is 26.
  pub none-added : NoneAdded fs gs payload
      → (beside_of S S' t room payload ≡ reading S t room (root_of S t payload)) ⊎ ((p : ℕ) × (reading S t room (root_of S t payload) ≡ refusal 26 p))
  none-added bare = go _ _ refl refl (by_length (leb (length payload) 16384) refl)
    where
      by_length : (b : Bool) → leb (length payload) 16384 ≡ b → Agrees (root_of S t payload) (root_of S' t payload)
      by_length true e = rw (st, st', e) (roots-agree S S' n x t l fs gs st st' payload room bare)
      by_length false e = rw (st, st', e) (alike (refused 7 0))

      both-seen : (tree : Tree) (end : Cursor) → root_of S t payload ≡ seen tree end
          → reading_as (shown_rows S t) S' t room (seen tree end) ≡ reading S t room (seen tree end)
      both-seen tree end e =
          let (fs'', st'', y, _) = root-inv S t payload tree end e in
          let g : fs'' ≡ fs = cc in
          rw (kept S t payload tree end e, same-comparisons S S' n x t l fs gs st st' payload room tree end (rw g at y))

      go : (m m' : Answer Tree) → root_of S t payload ≡ m → root_of S' t payload ≡ m' → Agrees m m'
          → (beside_of S S' t room payload ≡ reading S t room (root_of S t payload)) ⊎ ((p : ℕ) × (reading S t room (root_of S t payload) ≡ refusal 26 p))
      go m m' e e' (alike (refused k p)) = inl (by-theirs S S' n x.wide t l fs st payload room ∙ rw (e, e'))
      go m m' e e' (alike (seen tree end)) =
          inl (by-theirs S S' n x.wide t l fs st payload room ∙ ap (reading_as (shown_rows S t) S' t room) e' ∙ both-seen tree end e ∙ sym (ap (reading S t room) e))
      go m m' e e' (unknown-bit {x = p}) = inr (p, ap (reading S t room) e)

  -- And the answer is ours where theirs reads a tree of which no struct that ours reaches carries an added field.
  pub nowhere-added : (tree : Tree) (place k : ℕ) → DelimitedTree S' t payload tree place k → first_added (reached S tree t) ≡ none
      → beside_of S S' t room payload ≡ reading S t room (root_of S t payload)
  nowhere-added tree place k d f =
      let (end, m, _, _) = tree-read S' t payload x.wide.solid tree place k d in
      let (fs'', st'', y, short) = root-inv S' t payload tree end m in
      let g : fs'' ≡ fs ++ gs = cc in
      let (bare, (old, end', a)) = none-carried S S' n x t l fs gs st st' payload room tree end (rw g at y) f in
      ⊎_elim (λ e. e) (λ (p, e). accepts_not old end' p _ refl (sym (ap (reading S t room) (root-of S t payload fs st short ∙ a)) ∙ e)) (none-added bare)
    where
      accepts_not : {A : Type 0} (old : Tree) (end' : Cursor) (p : ℕ) (b : Bool) → leb (length (rows old)) room ≡ b → reading S t room (seen old end') ≡ refusal 26 p → A
      accepts_not old end' p true q e = let z = rw q at e in differ cc
      accepts_not old end' p false q e = let z = rw q at e in let n : ◌≡◌ {A = ℕ} 30 26 = cc in absurd (omega arith)
