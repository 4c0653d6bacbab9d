-- `utf8::Part::skip` meets its contract: each part passed is whole characters.
use mathlib.Core.Path.{◌≡◌}
use Prim.Native.Nat.{◌-◌, ◌≤◌}
use lib.Seq.{slice}
use Rattle.utf8.specs.Utf8.{utf8}
use Rattle.utf8.proofs.Part.skip.Given as goal

abbrev pub invariant-loop-i : goal.invariant-loop-i
invariant-loop-i g l = ((l.from ≤ l.i) × (l.i ≤ l.to)) × (utf8 (slice l.i l.to l.s) ≡ utf8 (slice l.from l.to l.s))

abbrev pub decreases-loop-i : goal.decreases-loop-i
decreases-loop-i g l = l.to - l.i
