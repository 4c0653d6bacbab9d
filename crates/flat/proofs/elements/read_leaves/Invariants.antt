-- `flat::elements::read_leaves` meets its contract. The invariant: what is left of the elements gives the same end, whatever is shown.
use Prim.Native.Nat.{◌-◌}
use lib.ListN.{replicate}
use Rattle.schema.specs.Table.{array}
use Rattle.value.specs.Read.{plain_item}
use Rattle.flat.proofs.Turns.{Any, ReadingItems}
use Rattle.flat.proofs.elements.read_leaves.Given as goal

abbrev pub invariant-loop : goal.invariant-loop
invariant-loop l = ReadingItems Any l.source.schema.bytes.now l.source.payload.now l.depth l.ty (array l.elem) l.start l.n l.start l.row l.source.judging l.initial.sheet (replicate (l.n - l.counter) (plain_item l.elem)) l.here 0 l.below l.sheet
