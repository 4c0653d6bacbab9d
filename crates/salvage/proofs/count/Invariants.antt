-- `salvage::count` meets its contract: what was counted and what is left are all.
use Prim.Native.Nat.{◌-◌, ◌≤◌}
use lib.ListN.{length}
use Rattle.salvage.proofs.Turns.{Counted}
use Rattle.salvage.proofs.count.Given as goal

abbrev pub invariant-loop-at : goal.invariant-loop-at
invariant-loop-at l = (l.at ≤ length l.torn) × Counted l.torn l.m.entries l.m.bytes l.m.spans l.at

abbrev pub decreases-loop-at : goal.decreases-loop-at
decreases-loop-at l = length l.torn - l.at
