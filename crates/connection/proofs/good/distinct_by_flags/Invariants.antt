-- `good::distinct_by_flags` meets its contract. The loop's invariant: the numbers from place i on differ, and their flags are seen.
use Rattle.std.proofs.Common.{◌≡◌}
use Rattle.connection.proofs.Distinct.{DistinctFrom}
use Rattle.connection.proofs.good.distinct_by_flags.Given as goal

abbrev pub invariant-loop-i : goal.invariant-loop-i
invariant-loop-i l = DistinctFrom l.ids l.mixing l.marks.taken l.i × (l.marks.mixing ≡ l.mixing)
