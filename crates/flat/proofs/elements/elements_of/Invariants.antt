-- `flat::elements::elements_of` meets its contract. The invariant: what is left of the elements gives the same end, whatever is shown.
use mathlib.Core.Path.{◌≡◌}
use Prim.Native.Nat.{◌-◌}
use lib.ListN.{replicate}
use Rattle.value.specs.Read.{plain_item}
use Rattle.schema.specs.Table.{array}
use Rattle.walks.specs.Shape.{shape_in}
use Rattle.flat.proofs.Turns.{ReadingItems}
use Rattle.flat.proofs.elements.elements_of.Given as goal

abbrev pub invariant-loop : goal.invariant-loop
invariant-loop l =
    ReadingItems (λ R. R l.elem ≡ shape_in l.source.schema.bytes.now l.elem) l.source.schema.bytes.now l.source.payload.now l.depth l.ty
    (array l.elem) l.start l.n l.start l.row l.source.judging l.initial.sheet (replicate (l.n - l.counter) (plain_item l.elem)) l.here l.sum l.below l.sheet
