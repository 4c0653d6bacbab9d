-- `utf8::valid_runs` meets its contract: what the test says of all the bytes is what it says of those left.
use mathlib.Core.Path.{◌≡◌}
use Prim.Native.Nat.{◌-◌, ◌≤◌}
use lib.Seq.{slice}
use Rattle.utf8.specs.Utf8.{utf8}
use Rattle.utf8.proofs.valid_runs.Given as goal

abbrev pub invariant-loop-i : goal.invariant-loop-i
invariant-loop-i l = ((l.from ≤ l.i) × (l.i ≤ l.to)) × (utf8 (slice l.i l.to l.s) ≡ utf8 (slice l.from l.to l.s))

abbrev pub decreases-loop-i : goal.decreases-loop-i
decreases-loop-i l = l.to - l.i
