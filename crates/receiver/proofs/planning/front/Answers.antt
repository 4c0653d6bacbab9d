-- `receiver::planning::front` meets its contract: a frame that was read lies in the bytes.
use Rattle.std.proofs.Common.{arith, sym, ap, ◌∙◌, Ok}
use Rattle.frame.specs.Told.{told}
use Rattle.frame.proofs.Answers.{Bounds, read-bounds}
use Rattle.receiver.proofs.planning.front.Goals.{After-frame_from-arg-1}
use Rattle.receiver.proofs.planning.front.Goals as goal

bounds : (c : After-frame_from-arg-1) → let f = c.in-Whole.frame in Bounds c.args.bytes.now f.header f.place f.length
bounds c = read-bounds c.args.bytes.now (sym c.requires.1 ∙ ap told (c.in_ok-read.was ∙ ap Ok c.in-Whole.is))

pub frame_from-requires : goal.frame_from-requires
frame_from-requires c = (bounds c).most

pub overflow_add-result : goal.overflow_add-result
overflow_add-result c = omega (arith, (bounds (goal.at.overflow_add-result c).After-frame_from-arg-1).inside)
