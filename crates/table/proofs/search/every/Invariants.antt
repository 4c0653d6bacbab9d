-- `table::search::every`: the test has passed the numbers before.
use Rattle.std.proofs.Common.{ℕ, ◌<◌, true}
use Rattle.table.proofs.search.every.Given as goal

abbrev pub invariant-loop-i : goal.invariant-loop-i
invariant-loop-i g l = (k : ℕ) → k < l.i → goal.F-post g l.fn.test k true
