-- `reader::beside::known_fields` meets its contract. The invariant: the numbers of the types before i are there, and zeros after them.
use mathlib.Core.Path.{◌≡◌}
use lib.ListN.{length}
use Rattle.reader.proofs.Besides.{KnowsBelow}
use Rattle.reader.proofs.beside.known_fields.Given as goal

abbrev pub invariant-loop-i : goal.invariant-loop-i
invariant-loop-i l = (length l.shown ≡ 256) × KnowsBelow l.ours.bytes.now l.shown l.i
