-- `salvage::put_pieces` meets its contract: what is left of the pieces gives the same end as all of them.
use Prim.Native.Nat.{◌-◌, ◌*◌, ◌≤◌}
use lib.ListN.{length}
use Rattle.salvage.proofs.Turns.{Put, Counted}
use Rattle.salvage.proofs.put_pieces.Given as goal

abbrev pub invariant-loop-at : goal.invariant-loop-at
invariant-loop-at l = (l.at ≤ length l.torn) × Put l.torn l.initial.copy l.initial.spans l.copy l.spans l.m.bytes (2 * l.m.spans) l.at × Counted l.torn l.m.entries l.m.bytes l.m.spans l.at

abbrev pub decreases-loop-at : goal.decreases-loop-at
decreases-loop-at l = length l.torn - l.at
