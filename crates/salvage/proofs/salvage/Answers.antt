-- `salvage::salvage` meets its contract: the tests pick the answer, and the pieces fill the buffers.
use mathlib.Core.Path.{refl, ◌∙◌}
use Prim.Native.Nat.{◌≤◌}
use lib.ListN.{length}
use Rattle.std.proofs.lemmas.Result.{err_from_is_err_and}
use Rattle.salvage.specs.Pieces.{pieces_of, copy_of, spans_of}
use Rattle.constants.specs.Number.{number_of}
use Rattle.salvage.proofs.Told.{some-number}
use Rattle.salvage.proofs.Outcomes.{long-refused, accepted, all_done}
use Rattle.salvage.proofs.Rooms.{room-refused, fits_both}
use Rattle.salvage.proofs.salvage.Goals.{In_ok-room_fault}
use Rattle.salvage.proofs.salvage.Goals as goal

pub returns-then-torn-gt-FILE : goal.returns-then-torn-gt-FILE
returns-then-torn-gt-FILE c = let a = c.args in long-refused a.torn.now a.copy.now a.spans.now c.if-torn-gt-FILE.true

pub returns-in_err-room_fault : goal.returns-in_err-room_fault
returns-in_err-room_fault c =
    let a = c.args in
    let r = c.in_err-room_fault.field-0.0 in
    let (_, is, same) = err_from_is_err_and c.from_residual.result c.from_residual.ensures.1 in
    rw (is, same) (room-refused a.torn.now a.copy.now a.spans.now (number_of r) c.in_err-room_fault.ensures c.if-torn-gt-FILE.false (some-number r))

room : (c : In_ok-room_fault) → let a = c.args in (length (copy_of (pieces_of a.torn.now)) ≤ length a.copy.now) × (length (spans_of 0 (pieces_of a.torn.now)) ≤ length a.spans.now)
room c = let a = c.args in fits_both a.torn.now a.copy.now a.spans.now 0 c.in_ok-room_fault.ensures refl

pub put_pieces-requires : goal.put_pieces-requires
put_pieces-requires c =
    let r = room (goal.at.put_pieces-requires c).In_ok-room_fault in (c.if-torn-gt-FILE.false, r.0, r.1)

pub returns : goal.returns
returns c =
    let a = c.args in
    let r = room (goal.at.returns c).In_ok-room_fault in
    let e = c.put_pieces.ensures in
    all_done a.torn.now a.copy.now a.spans.now c.put_pieces.result e.value _ _ e.copy_after e.spans_after
    ∙ accepted a.torn.now a.copy.now a.spans.now c.if-torn-gt-FILE.false r.0 r.1
