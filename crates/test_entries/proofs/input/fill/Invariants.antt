-- The turns of `fill` read one after another.
use Rattle.files.specs.Failures.{GivesSome}
use Rattle.test_entries.proofs.input.fill.Given as goal

abbrev pub invariant-loop-cell : goal.invariant-loop-cell
invariant-loop-cell g l = GivesSome (g.R.Read.remaining l.initial.from) (g.R.Read.remaining l.from)
