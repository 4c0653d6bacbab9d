-- `good::contains` meets its contract. The loop's invariant: what was found, or what the rest holds, is what the slice holds.
use Rattle.std.proofs.Common.{◌≡◌, ◌||◌, drop}
use Rattle.calls.specs.Slots.{contains}
use Rattle.connection.proofs.good.contains.Given as goal

abbrev pub invariant-loop-other : goal.invariant-loop-other
invariant-loop-other l = (l.found || contains l.id (drop l.other-index l.ids)) ≡ contains l.id l.ids
