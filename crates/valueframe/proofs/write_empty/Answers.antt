-- `valueframe::write_empty` meets its contract.
use mathlib.Core.Path.{ap}
use native.Mathlib.Omega.{arith}
use Rattle.value.specs.Sheet.{rows_of}
use Rattle.writer.specs.Entry.{length_of}
use Rattle.valueframe.specs.Entry.{empty_by}
use Rattle.valueframe.proofs.Entries.{empty-none, empty-surplus, in_refused, in_room, in_empty}
use Rattle.valueframe.proofs.write_empty.Goals as goal

pub returns-then-out-place : goal.returns-then-out-place
returns-then-out-place c =
    let args = c.args in
    rw c.at.ensures
    (in_room args.header args.out.now (empty_by (rows_of args.sheet.now)) 0 _ (ap length_of (empty-none args.sheet.now c.if-sheet-lt-ROW_CELLS.true)) c.payload_place-place.ensures.0 (omega (arith, c.if-out-place.true)))

pub returns-then-sheet-lt-ROW_CELLS : goal.returns-then-sheet-lt-ROW_CELLS
returns-then-sheet-lt-ROW_CELLS c =
    let args = c.args in
    in_empty args.header args.out.now args.sheet.now _ c.if-sheet-lt-ROW_CELLS.true c.payload_place-place.ensures.0 c.if-out-place.false
    _ c.write_front.ensures

pub returns : goal.returns
returns c =
    let args = c.args in
    rw c.at-2.ensures
    (in_refused args.header args.out.now (empty_by (rows_of args.sheet.now)) 50 0 (ap length_of (empty-surplus args.sheet.now c.if-sheet-lt-ROW_CELLS.false)))
