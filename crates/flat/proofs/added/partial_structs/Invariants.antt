-- `flat::added::partial_structs` meets its contract. The invariant: what is left of the elements gives the same end, whatever else is shown.
use mathlib.Core.Path.{◌≡◌}
use Prim.Native.Nat.{◌-◌}
use lib.ListN.{replicate}
use Rattle.value.specs.Read.{plain_item}
use Rattle.schema.specs.Table.{array}
use Rattle.flat.specs.Flat.{first_shape}
use Rattle.flat.proofs.Turns.{ReadingItems}
use Rattle.flat.proofs.added.partial_structs.Given as goal

abbrev pub invariant-loop : goal.invariant-loop
invariant-loop l =
    ReadingItems (λ R. R l.first.elem ≡ first_shape l.source.schema.bytes.now l.first.elem l.first.m) l.source.schema.bytes.now l.source.payload.now l.depth l.ty
    (array l.first.elem) l.start l.n l.start l.row l.source.judging l.initial.sheet (replicate (l.n - l.counter) (plain_item l.first.elem)) l.here l.sum l.below l.sheet
