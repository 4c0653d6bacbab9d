-- `utf8::row_of` meets its contract: the rows passed do not have the byte, and `row` is the one at k.
use mathlib.Core.Path.{◌≡◌}
use lib.ListN.{drop}
use Rattle.utf8.specs.Utf8.{lead_of, next, rows, row_at}
use Rattle.utf8.proofs.row_of.Given as goal

abbrev pub invariant-loop-k : goal.invariant-loop-k
invariant-loop-k l = (l.row ≡ row_at l.k) × (next l.b ≡ lead_of l.b (drop l.k rows))
