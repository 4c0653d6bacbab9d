-- `wire::varuint::read_more` meets its contract: `value` holds the groups passed, and the next one weighs `weight`.
use mathlib.Core.Path.{◌≡◌}
use Prim.Native.Nat.{◌+◌, ◌-◌, ◌^◌, ◌≤◌, ◌<◌}
use lib.ListN.{length, drop}
use Rattle.wire.specs.Varuint.{before, groups}
use Rattle.wire.proofs.Varuints.{with_low}
use Rattle.wire.proofs.varuint.read_more.Given as goal

abbrev pub invariant-loop-i : goal.invariant-loop-i
invariant-loop-i l =
    (0 < l.i → l.at + l.i ≤ length l.s)
    × ((l.value < l.weight) × (l.weight ≡ 128 ^ (1 + l.i)))
    × (with_low l.value l.weight (groups (9 - l.i) (drop (l.at + l.i) l.s) (l.at + l.i)) ≡ before l.first (groups 9 (drop l.at l.s) l.at))
