-- `salvage::pieces::in_rest` meets its contract: what is left is as far as it is from the first place, less what was passed.
use mathlib.Core.Path.{◌≡◌}
use Prim.Native.Nat.{◌+◌}
use lib.ListN.{drop}
use Rattle.salvage.specs.Pieces.{span_length}
use Rattle.salvage.proofs.pieces.in_rest.Given as goal

abbrev pub invariant-loop-i : goal.invariant-loop-i
invariant-loop-i l = (l.i + span_length (drop l.i l.bytes) ≡ l.from + span_length (drop l.from l.bytes))
