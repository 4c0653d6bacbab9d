-- `flat::maps::leaf_pairs` meets its contract. The invariant: what is left of the pairs gives the same end, whatever is shown, and where keys are
-- judged those behind are kept.
use mathlib.Core.Path.{◌≡◌}
use lib.ListN.{length}
use Rattle.flat.proofs.Pairs.{Along}
use Rattle.flat.proofs.Turns.{Any}
use Rattle.flat.proofs.maps.leaf_pairs.Given as goal

abbrev pub invariant-loop-i : goal.invariant-loop-i
invariant-loop-i l = Along Any l.source.schema.bytes.now l.source.payload.now l.depth l.m.ty l.m.key l.m.val l.n l.start l.row l.source.judging l.initial.sheet l.keys l.i l.here 0 l.below l.sheet × (length l.keys ≡ length l.initial.keys)
