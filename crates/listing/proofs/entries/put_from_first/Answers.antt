-- `listing::entries::put_from_first` meets its contract: what is left of the entries gives the same end as all of them. A line takes at most 149 bytes
-- and its entry at least 27, so the place stays small.
use mathlib.Core.Path.{refl, sym, ap, ◌∙◌}
use Prim.Native.Nat.{ℕ, ◌+◌, ◌-◌, ◌≤◌}
use native.Mathlib.Omega.{arith}
use lib.ListN.{length}
use Rattle.constants.specs.Number.{number_of}
use Rattle.text.specs.Text.{put_on, shown}
use Rattle.receiver.specs.Told.{told}
use Rattle.listing.specs.Text.{stopped_text}
use Rattle.replay.specs.Run.{header_in}
use Rattle.replay.proofs.Replays.{tail_of, entry-bounds}
use Rattle.listing.proofs.Turns.{rest_first, rest_end, rest_stop, rest_line}
use Rattle.listing.proofs.entries.put_from_first.Goals.{Else-stops}
use Rattle.listing.proofs.entries.put_from_first.Goals as goal

pub loop-at-init : goal.loop-at-init
loop-at-init c =
    let a = c.args in (
      c.requires.2,
      omega arith,
      omega (arith, c.requires.0, c.requires.1),
      omega arith,
      rest_first a.schema.now.bytes.now a.entries.now (shown a.page.now) c.fresh-table.result c.fresh-table.ensures,
    )

pub step-r-requires : goal.step-r-requires
step-r-requires c = (c.args.schema.now.good, c.loop-at.invariant.0)

pub shape_of-sheet-then-stops : goal.shape_of-sheet-then-stops
shape_of-sheet-then-stops c =
    c.step-r.auto.sheet ∙ c.loop-at.invariant.0 ∙ sym c.requires.2

pub returns-then-stops : goal.returns-then-stops
returns-then-stops c =
    let a = c.args in
    let here = c.loop-at in
    let step = c.step-r in record {
      added = c.put_stopped.ensures.added
          ∙ ap (λ (n : ℕ). put_on (shown here.page) (stopped_text n (length a.entries.now - here.at))) c.number-then-stops.ensures
          ∙ rest_stop a.schema.now.bytes.now a.entries.now _ (shown here.page) here.entry here.at here.table.slots here.invariant.4
          c.loop-at-test.true _ (tail_of a.entries.now here.at) _ refl (told step.result.answer) step.ensures.0
          (sym (rw c.number.ensures at c.stops.ensures) ∙ c.if-stops.true);
      upper_bound = omega (arith, here.invariant.2, c.put_stopped.ensures.upper_bound);
    }

-- the entry that was listed lies in the record
bounds : (c : Else-stops) → let r = c.step-r.result.answer in
    (26 ≤ r.used) × (c.loop-at.at + 1 + r.used ≤ length c.args.entries.now)
bounds c =
    let a = c.args in
    let here = c.loop-at in
    let step = c.step-r in
    entry-bounds a.schema.now.bytes.now a.entries.now here.at here.table.slots c.loop-at-test.true
    _ (tail_of a.entries.now here.at) _ refl (told step.result.answer) step.ensures.0
    (sym (rw c.number.ensures at c.stops.ensures) ∙ c.if-stops.false)

pub overflow_add-entry : goal.overflow_add-entry
overflow_add-entry c =
    omega (arith, c.loop-at.invariant.3, c.loop-at-test.true, c.requires.1)

pub loop-at-preserved : goal.loop-at-preserved
loop-at-preserved c =
    let a = c.args in
    let here = c.loop-at in
    let step = c.step-r in
    let header = c.header in
    let b = bounds (goal.at.loop-at-preserved c).Else-stops in (
      step.auto.sheet ∙ here.invariant.0,
      b.1,
      omega (arith, here.invariant.2, b.0, b.1, c.put_line.ensures.upper_bound),
      omega (arith, here.invariant.3, b.0),
      rw c.put_line.ensures.added (rest_line a.schema.now.bytes.now a.entries.now _ (shown here.page) here.entry here.at here.table.slots here.invariant.4
          c.loop-at-test.true _ (tail_of a.entries.now here.at) _ refl (told step.result.answer) step.ensures.0
          (sym (rw c.number.ensures at c.stops.ensures) ∙ c.if-stops.false) b.0
          header.result (header.ensures number_of ∙ ap header_in step.ensures.1)),
    )

pub shape_of-sheet : goal.shape_of-sheet
shape_of-sheet c = c.loop-at.invariant.0 ∙ sym c.requires.2

pub returns : goal.returns
returns c =
    let a = c.args in
    let here = c.loop-at in record {
      added = c.put_stopped-2.ensures.added
          ∙ rest_end a.schema.now.bytes.now a.entries.now _ (shown here.page) here.entry here.at here.table.slots here.invariant.4 c.loop-at-test.false;
      upper_bound = omega (arith, here.invariant.2, c.put_stopped-2.ensures.upper_bound);
    }

pub overflow_add-at : goal.overflow_add-at
overflow_add-at c = omega (arith, (bounds (goal.at.overflow_add-at c).Else-stops).1, c.requires.1)

pub loop-at-smaller : goal.loop-at-smaller
loop-at-smaller c = omega (arith, (bounds (goal.at.loop-at-smaller c).Else-stops).1)
