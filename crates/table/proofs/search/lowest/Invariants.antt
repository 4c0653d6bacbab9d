-- `table::search::lowest`: the test has failed at the numbers before.
use Rattle.std.proofs.Common.{ℕ, ◌<◌, false}
use Rattle.table.proofs.search.lowest.Given as goal

abbrev pub invariant-loop-i : goal.invariant-loop-i
invariant-loop-i g l = (k : ℕ) → k < l.i → goal.F-post g l.fn.test k false
