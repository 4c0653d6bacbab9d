-- The proof of the cycle of walkers. A composite is given the depth of what it holds, so the measure is eight times the depth, and so much more as each walker calls others at
-- the same depth: nothing for a field, one for a loop, two and more for what hands on to a loop, six for the choice between arrays, maps and structs.
use mathlib.Core.Path.{◌≡◌}
use Prim.Native.Nat.{◌+◌, ◌-◌, ◌*◌}
use lib.ListN.{length, replicate}
use Rattle.schema.specs.Table.{array}
use Rattle.value.specs.Read.{plain_item}
use Rattle.flat.proofs.Pairs.{Along}
use Rattle.flat.proofs.Turns.{ReadingItems}
use Rattle.reader.proofs.Calls.{By}
use Rattle.reader.proofs.Structs.{Passing}
use Rattle.reader.proofs.walk.+walk.Given as goal

abbrev pub decreases-read_added : goal.decreases-read_added
decreases-read_added l = 8 * l.depth + 2

abbrev pub decreases-read_array : goal.decreases-read_array
decreases-read_array l = 8 * l.depth + 5

abbrev pub decreases-read_composite : goal.decreases-read_composite
decreases-read_composite l = 8 * l.depth + 6

abbrev pub decreases-read_composites : goal.decreases-read_composites
decreases-read_composites l = 8 * l.depth + 1

abbrev pub decreases-read_field : goal.decreases-read_field
decreases-read_field l = 8 * l.depth

abbrev pub decreases-read_fields : goal.decreases-read_fields
decreases-read_fields l = 8 * l.depth + 1

abbrev pub decreases-read_map : goal.decreases-read_map
decreases-read_map l = 8 * l.depth + 5

abbrev pub decreases-read_more_pairs : goal.decreases-read_more_pairs
decreases-read_more_pairs l = 8 * l.depth + 2

abbrev pub decreases-read_pairs : goal.decreases-read_pairs
decreases-read_pairs l = 8 * l.depth + 1

abbrev pub decreases-read_shown_fields : goal.decreases-read_shown_fields
decreases-read_shown_fields l = 8 * l.depth + 3

abbrev pub decreases-read_struct : goal.decreases-read_struct
decreases-read_struct l = 8 * l.depth + 5

abbrev pub invariant-read_composites-loop : goal.invariant-read_composites-loop
invariant-read_composites-loop l =
    ReadingItems (By l.view.shown.now l.view.source.schema.bytes.now) l.view.source.schema.bytes.now l.view.source.payload.now l.depth l.ty (array l.elem) l.start l.n l.start l.row
    l.view.source.judging l.initial.sheet (replicate (l.n - l.counter) (plain_item l.elem)) l.here l.sum l.below l.sheet

abbrev pub invariant-read_fields-loop-i : goal.invariant-read_fields-loop-i
invariant-read_fields-loop-i l =
    Passing l.view.shown.now l.view.source.schema.bytes.now l.view.source.payload.now l.depth l.f l.row l.view.source.judging l.initial.sheet l.i (l.f.first + l.f.n - l.i) l.bits l.here l.sum l.below l.sheet

abbrev pub invariant-read_pairs-loop-i : goal.invariant-read_pairs-loop-i
invariant-read_pairs-loop-i l =
    Along (By l.view.shown.now l.view.source.schema.bytes.now) l.view.source.schema.bytes.now l.view.source.payload.now l.depth l.m.ty l.m.key l.m.val l.n l.start l.row
    l.view.source.judging l.initial.sheet l.keys l.i l.here l.sum l.below l.sheet × (length l.keys ≡ length l.initial.keys)
