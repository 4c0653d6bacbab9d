-- `salvage::pieces::has_magics` meets its contract. The invariant: what was found after the places looked at.
use mathlib.Core.Path.{◌≡◌}
use Rattle.salvage.specs.Pieces.{magic_among}
use Rattle.salvage.proofs.pieces.has_magics.Given as goal

abbrev pub invariant-loop-i : goal.invariant-loop-i
invariant-loop-i l = (l.found ≡ magic_among l.bytes l.at l.i)
