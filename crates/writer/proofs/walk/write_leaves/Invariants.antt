-- `writer::walk::write_leaves` meets its contract. The invariant: the rows not yet looked at give the same end.
use mathlib.Core.List.{[]}
use Prim.Native.Nat.{◌-◌}
use lib.ListN.{replicate}
use Rattle.value.specs.Read.{plain_item}
use Rattle.writer.proofs.Composites.{WritingItems}
use Rattle.writer.proofs.walk.write_leaves.Given as goal

abbrev pub invariant-loop : goal.invariant-loop
invariant-loop l = WritingItems l.rows l.depth (replicate l.n (plain_item l.elem)) l.start l.pos l.initial.out [] (replicate (l.n - l.counter) (plain_item l.elem)) l.here l.to l.out
