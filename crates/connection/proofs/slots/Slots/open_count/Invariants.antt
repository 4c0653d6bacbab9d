-- `Slots::open_count` meets its contract. The loop's invariant: the count so far and that of the rest make the whole.
use Rattle.std.proofs.Common.{◌≡◌, drop, ◌+◌, ◌≤◌}
use Rattle.calls.specs.Slots.{count_open}
use Rattle.connection.proofs.slots.Slots.open_count.Given as goal

abbrev pub invariant-loop-i : goal.invariant-loop-i
invariant-loop-i g l = (count_open (g.Self.Slots.slots l.self) ≡ l.n + count_open (drop l.i (g.Self.Slots.slots l.self))) × (l.n ≤ l.i)
