-- The theorems about payloads read by the writer's table and shown by ours. The other files prove them.
use mathlib.Core.Path.{◌≡◌, refl}
use mathlib.Core.Logic.{◌⊎◌, ◌↔◌}
use mathlib.Core.List.{List, [], ◌++◌, map as each}
use mathlib.Core.Option.{none}
use Prim.Native.Nat.{ℕ, ◌≤◌, ◌<◌}
use native.Mathlib.Omega.{arith}
use lib.ListN.{length}
use Rattle.wire.proofs.Cases.{differ}
use Rattle.schema.specs.declared.Field.{Field}
use Rattle.schema.specs.Table.{Table, struct, shape}
use Rattle.schema.specs.Good.{GoodSchema}
use Rattle.schema.specs.Extend.{Widens, Extends}
use Rattle.schema.proofs.Shapes.{shape-known}
use Rattle.value.specs.declared.Row.{Row}
use Rattle.value.specs.Value.{Tree, rows, Value, value, size}
use Rattle.value.specs.Comparisons as due
use Rattle.value.specs.Read.{refusal, accepted, read}
use Rattle.value.specs.Spell.{RootSpells}
use Rattle.value.specs.Write.{written, write}
use Rattle.value.specs.Fits.{Shows, ShowsKnown, told}
use Rattle.value.specs.Added.{reached, first_added, without, NoneAdded}
use Rattle.value.specs.Claims.{ReadAs, DelimitedTree}
use Rattle.value.specs.Beside.{pruned, read_beside, RightfulBeside, TooFewRows, BesideReason, ShownAs, DelimitedBeside, SomeOf, root_length}
use Rattle.value.proofs.Shapes.{Widening, good_widening, good-extension}
use Rattle.value.proofs.Telling as telling
use Rattle.value.proofs.Pruned as laws
use Rattle.value.proofs.Extended.{gained-fields}
use Rattle.value.proofs.Statements as statements
use Rattle.value.proofs.Statements.{rows_delimit, accepted-iff-spelled, read_back}
use Rattle.value.proofs.Beside as beside

-- A tree without the added fields has the value without them.
pub pruned-value : (T : Table) (tree : Tree) (t : ℕ) → value (pruned (shape T) tree t) ≡ without (shape T) (value tree) t
pruned-value T = laws.pruned-value (shape T)

-- By one table twice a payload is read as by that table, with the same answer.
pub same-table : (T : Table) (t : ℕ) (payload : List ℕ) (room : ℕ) → read_beside T T t payload room ≡ read T t payload room
unfolding read_beside read
same-table T t payload room = beside.beside_same (shape T) t payload room

-- Rows that tell the same show the same value, whatever bits the structs have beyond those that the table knows.
pub known-once : (T : Table) (t : ℕ) (B B' : List ℕ) (v v' : Value) (rs rs' : List Row) → ShowsKnown (shape T) B t rs v → ShowsKnown (shape T) B' t rs' v'
    → each (told (shape T) B) rs ≡ each (told (shape T) B') rs' → v ≡ v'
known-once T t = telling.known-once (shape T) t

-- ---- our table, and theirs that extends it; bitmaps may grow

module _ (ours theirs : Table) (good : GoodSchema ours) (good' : GoodSchema theirs) (widens : Widens ours theirs) (t : ℕ) (fs : List Field) (st : shape ours t ≡ struct fs) where
  x : Widening (shape ours) (shape theirs) (length ours.types)
  x = good_widening ours theirs good good' widens

  l : t < length ours.types
  l = shape-known ours good t (λ e. differ cc)

  -- A struct of ours has its fields in theirs too, and perhaps more.
  pub gains : (gs : List Field) × (shape theirs t ≡ struct (fs ++ gs))
  gains = gained-fields (shape ours) (shape theirs) (length ours.types) x t l fs st

  -- A payload is accepted with exactly the rows of a tree that fits it and delimits its bytes by theirs, without the added fields: no cell is free.
  pub rows-beside : (payload : List ℕ) (room : ℕ) (rs : List Row) (place n comparisons : ℕ)
      → (read_beside ours theirs t payload room ≡ accepted rs place n comparisons) ↔ DelimitedBeside (shape ours) (shape theirs) t payload room rs place n comparisons
  unfolding read_beside
  rows-beside payload room rs place n comparisons = (
    beside.beside_delimited (shape ours) (shape theirs) (length ours.types) x t l fs st payload room rs place n comparisons,
    beside.delimited_beside (shape ours) (shape theirs) (length ours.types) x t l fs st payload room rs place n comparisons,
  )

  -- What is accepted their own reader accepts, given room for its rows, with the same tail and the same key comparisons due. The rows shown here are some
  -- of its rows, with type, place and length as there.
  pub theirs-accepts : (payload : List ℕ) (room : ℕ) (rs : List Row) (place n comparisons : ℕ) → read_beside ours theirs t payload room ≡ accepted rs place n comparisons
      → (rs' : List Row) × SomeOf rs rs' × ((room' : ℕ) → length rs' ≤ room' → read theirs t payload room' ≡ accepted rs' place n comparisons)
  theirs-accepts payload room rs place n comparisons e =
      let (tree, d, r, c, _) = (rows-beside payload room rs place n comparisons).0 e in
      (rows tree, rw r at (laws.pruned-rows (shape ours) tree t), λ room' f. (rows_delimit theirs good' t payload room' (rows tree) place n comparisons).1 (tree, d, refl, c, f))

  -- They are never above 258,048.
  pub comparisons-within : (payload : List ℕ) (room : ℕ) (rs : List Row) (place n comparisons : ℕ) → read_beside ours theirs t payload room ≡ accepted rs place n comparisons
      → comparisons ≤ 258048
  comparisons-within payload room rs place n comparisons e =
      let (rs', _, h) = theirs-accepts payload room rs place n comparisons e in
      statements.comparisons-within theirs good' t payload (length rs') rs' place n comparisons (h (length rs') (omega arith))

  module _ (fs' : List Field) (st' : shape theirs t ≡ struct fs') where
    -- A payload is accepted, with rows that show w by ours, exactly where it spells by theirs, within the limits, a value that without its added fields is w.
    pub shown-iff-spelled : (payload : List ℕ) (room : ℕ) (w : Value) (place n comparisons : ℕ)
        → ShownAs (shape ours) t payload (read_beside ours theirs t payload room) w place n comparisons
        ↔ ((v : Value) × (without (shape ours) v t ≡ w) × RightfulBeside (shape ours) (shape theirs) t fs' payload room v place n comparisons)
    unfolding read_beside
    shown-iff-spelled payload room w place n comparisons = (
      beside.beside_rightful (shape ours) (shape theirs) (length ours.types) x t l fs st payload room fs' st' place n comparisons w,
      λ (v, e, q). rw e at (beside.rightful_beside (shape ours) (shape theirs) (length ours.types) x t l fs st payload room fs' st' place n comparisons v q),
    )

    -- A refusal is one that their reader gives, with any room; or it is 30, for a payload that is otherwise right.
    pub refused-iff : (payload : List ℕ) (room n p : ℕ)
        → (read_beside ours theirs t payload room ≡ refusal n p)
        ↔ (((room' : ℕ) → read theirs t payload room' ≡ refusal n p) ⊎ ((n ≡ 30) × (p ≡ 0) × TooFewRows (shape ours) (shape theirs) t fs' payload room))
    unfolding read_beside read
    refused-iff payload room n p = (
      beside.refused_as (shape ours) (shape theirs) (length ours.types) x t l fs st payload room fs' st' n p,
      beside.refused-from (shape ours) (shape theirs) (length ours.types) x t l fs st payload room fs' st' n p,
    )

    -- Every value that their rules allow is shown without its added fields, given room for the rows.
    pub new-shown : (payload : List ℕ) (room : ℕ) (v : Value) → RootSpells (shape theirs) fs' v payload [] → length payload ≤ 16384
        → size (without (shape ours) v t) ≤ room
        → ShownAs (shape ours) t payload (read_beside ours theirs t payload room) (without (shape ours) v t) (length payload) 0 (due.comparisons (shape theirs) v t)
    new-shown payload room v q short f = (shown-iff-spelled payload room _ (length payload) 0 _).1 (v, refl, ([], q, short, f, refl, omega arith, refl))

    -- What their writer writes of a sheet is shown as the sheet's value without the added fields.
    pub written-shown : (rs : List Row) (B : List ℕ) (room : ℕ) (out : List ℕ) → write theirs t rs B room ≡ written out
        → (v : Value) × Shows (shape theirs) B t fs' rs v
        × ((room' : ℕ) → size (without (shape ours) v t) ≤ room'
        → ShownAs (shape ours) t out (read_beside ours theirs t out room') (without (shape ours) v t) (length out) 0 (due.comparisons (shape theirs) v t))
    written-shown rs B room out e =
        let (fs'', v, st'', s, a) = read_back theirs good' t rs B room out e (length rs) (omega arith) in
        let g : fs'' ≡ fs' = cc in
        let (tail, q, short, _, h, p) = (accepted-iff-spelled theirs good' t fs' st' out (length rs) v (length out) 0).0 (rw g at a) in
        (v, rw g at s, λ room' f. (shown-iff-spelled out room' _ (length out) 0 _).1 (v, refl, (tail, q, short, f, h, p, refl)))

    -- What is shown here and accepted by our plain writer comes back with the same known fields, and those only.
    pub shown-then-written : (payload : List ℕ) (room : ℕ) (rs : List Row) (place n comparisons : ℕ) → read_beside ours theirs t payload room ≡ accepted rs place n comparisons
        → (room' : ℕ) (out : List ℕ) → write ours t rs payload room' ≡ written out
        → (v : Value) × RightfulBeside (shape ours) (shape theirs) t fs' payload room v place n comparisons
        × ReadAs (shape ours) t fs out (read ours t out room) (without (shape ours) v t) (length out) 0
    shown-then-written payload room rs place n comparisons e room' out k =
        let (_, _, _, _, f) = (rows-beside payload room rs place n comparisons).0 e in
        let (fs'', w, st'', s, a) = read_back ours good t rs payload room' out k room f in
        let g : fs'' ≡ fs = cc in
        let (v, u, q) = (shown-iff-spelled payload room w place n comparisons).0 (rs, e, telling.shows-known (shape ours) t fs'' st'' payload w rs s) in
        (v, q, rw (g, ← u) at a)

-- Every refusal is one of the list.
pub refused-listed : (ours theirs : Table) → GoodSchema ours → GoodSchema theirs → Widens ours theirs → (t : ℕ) (payload : List ℕ) (room n p : ℕ)
    → read_beside ours theirs t payload room ≡ refusal n p → BesideReason (shape ours) (shape theirs) t payload room n p
unfolding read_beside
refused-listed ours theirs good good' widens t payload room n p =
    beside.listed ours theirs good' (length ours.types) (good_widening ours theirs good good' widens) (λ t fs st. shape-known ours good t (λ e. differ cc)) t payload room n p

-- ---- the same where the bitmaps keep their bytes: the base reader by ours beside

module _ (ours theirs : Table) (good : GoodSchema ours) (good' : GoodSchema theirs) (extends : Extends ours theirs) (t : ℕ) (fs gs : List Field)
    (st : shape ours t ≡ struct fs) (st' : shape theirs t ≡ struct (fs ++ gs)) (payload : List ℕ) (room : ℕ) where
  l' : t < length ours.types
  l' = shape-known ours good t (λ e. differ cc)

  -- Where the base reader accepts too, it shows the same value, by the same rows but for the root's length, which here reaches over the added fields.
  pub both-accept : (room' : ℕ) (rs rs' : List Row) (place place' n n' comparisons comparisons' : ℕ) → read ours t payload room ≡ accepted rs place n comparisons
      → read_beside ours theirs t payload room' ≡ accepted rs' place' n' comparisons'
      → (rs' ≡ root_length place' rs) × ((v : Value) × Shows (shape ours) payload t fs rs v × ShowsKnown (shape ours) payload t rs' v)
  unfolding read read_beside
  both-accept = beside.both-accept (shape ours) (shape theirs) (length ours.types) (good-extension ours theirs good good' extends) t l' fs gs st st' payload room

  -- And where no added field's bit is set in the root, the answer here is the same, refusals too, or the base reader's is 26.
  pub none-added : NoneAdded fs gs payload → (read_beside ours theirs t payload room ≡ read ours t payload room) ⊎ ((p : ℕ) × (read ours t payload room ≡ refusal 26 p))
  unfolding read read_beside
  none-added = beside.none-added (shape ours) (shape theirs) (length ours.types) (good-extension ours theirs good good' extends) t l' fs gs st st' payload room

  -- The answer is the base reader's wherever the payload is right by theirs and no struct that ours reaches carries an added field.
  pub nowhere-added : (tree : Tree) (place n : ℕ) → DelimitedTree (shape theirs) t payload tree place n → first_added (reached (shape ours) tree t) ≡ none
      → read_beside ours theirs t payload room ≡ read ours t payload room
  unfolding read read_beside
  nowhere-added = beside.nowhere-added (shape ours) (shape theirs) (length ours.types) (good-extension ours theirs good good' extends) t l' fs gs st st' payload room
