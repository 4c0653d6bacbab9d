-- `flat::elements::are_leaves` meets its contract. The invariant: the fields before i are scalars, strings or bytes.
use Prim.Native.Nat.{◌+◌, ◌≤◌}
use Rattle.schema.specs.File.{table_of}
use Rattle.flat.specs.Flat.{LeavesIn}
use Rattle.flat.proofs.elements.are_leaves.Given as goal

abbrev pub invariant-loop-i : goal.invariant-loop-i
invariant-loop-i l = (l.first ≤ l.i) × (l.i ≤ l.first + l.n) × LeavesIn (table_of l.s) l.first l.i
