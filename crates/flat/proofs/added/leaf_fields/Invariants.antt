-- `flat::added::leaf_fields` meets its contract. The invariant: what is left of the fields gives the same end, whatever is known.
use Rattle.flat.proofs.Turns.{Going}
use Rattle.flat.proofs.added.leaf_fields.Given as goal

abbrev pub invariant-loop-bits : goal.invariant-loop-bits
invariant-loop-bits l = Going l.source.schema.bytes.now l.source.payload.now l.depth l.f.ty l.f.row.a l.f.row.b l.place l.fn.head.known l.fn.head.start l.row l.source.judging l.initial.sheet l.i l.bits l.here l.below l.sheet

abbrev pub decreases-loop-bits : goal.decreases-loop-bits
decreases-loop-bits l = l.bits
