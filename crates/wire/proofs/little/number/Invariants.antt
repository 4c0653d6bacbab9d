-- `wire::little::number` meets its contract. The loop goes from the last byte down to the first: `r` is the number of the bytes passed.
use mathlib.Core.Path.{◌≡◌}
use Prim.Native.Nat.{◌+◌, ◌-◌}
use lib.ListN.{take, drop}
use Rattle.wire.specs.Little.{little}
use Rattle.wire.proofs.little.number.Given as goal

abbrev pub invariant-loop-i : goal.invariant-loop-i
invariant-loop-i l = l.r ≡ little (take (l.n - l.i) (drop (l.at + l.i) l.s))
