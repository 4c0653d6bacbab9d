-- `writer::put::put_number` meets its contract: the groups still to be put give what all of them give.
use mathlib.Core.Path.{◌≡◌}
use lib.ListN.{length}
use Rattle.wire.proofs.Varuints.{Rest}
use Rattle.writer.proofs.Puts.{Groups}
use Rattle.writer.proofs.put.put_number.Given as goal

abbrev pub invariant-loop-y : goal.invariant-loop-y
invariant-loop-y l = (length l.out ≡ length l.initial.out) × Rest (Groups l.initial.out l.pos l.x l.out l.at) l.y

abbrev pub decreases-loop-y : goal.decreases-loop-y
decreases-loop-y l = l.y
