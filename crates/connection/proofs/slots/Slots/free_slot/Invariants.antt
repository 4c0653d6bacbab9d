-- `Slots::free_slot` meets its contract. The loop's invariant: the first record that passes is the first of the rest.
use Rattle.std.proofs.Common.{◌≡◌, drop}
use Rattle.calls.specs.Record.{is_free}
use Rattle.calls.specs.Slots.{first_slot}
use Rattle.connection.proofs.slots.Slots.free_slot.Given as goal

abbrev pub invariant-loop-i : goal.invariant-loop-i
invariant-loop-i g l = first_slot is_free 0 (g.Self.Slots.slots l.self) ≡ first_slot is_free l.i (drop l.i (g.Self.Slots.slots l.self))
