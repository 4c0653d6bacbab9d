-- `cells::records::are_good` meets its contract, by the 384 cells alone.
use Rattle.std.proofs.Common.{sym, ◌∙◌}
use native.Mathlib.Omega.{arith}
use Rattle.cells.proofs.Slots.{few-bad, good-counted, bad-counted}
use Rattle.cells.proofs.records.are_good.Goals as goal

pub returns-then-cells-lt-CELLS-clause-value : goal.returns-then-cells-lt-CELLS-clause-value
returns-then-cells-lt-CELLS-clause-value c = few-bad _ c.args.cells.now (omega arith)

pub returns-in-None-clause-value : goal.returns-in-None-clause-value
returns-in-None-clause-value c =
    rw c.of_good-schema.ensures at (bad-counted _ c.args.cells.now c.front.result.cells.now c.front.ensures (omega arith) (sym c.in-None.is ∙ c.good_count.ensures))

pub returns-in-Some-clause-value : goal.returns-in-Some-clause-value
returns-in-Some-clause-value c =
    rw c.of_good-schema.ensures at (good-counted _ c.args.cells.now c.front.result.cells.now c.front.ensures (omega arith) c.in-Some.n (sym c.in-Some.is ∙ c.good_count.ensures)).0

pub returns-in-Some-clause-counts_open : goal.returns-in-Some-clause-counts_open
returns-in-Some-clause-counts_open c =
    (good-counted _ c.args.cells.now c.front.result.cells.now c.front.ensures (omega arith) c.in-Some.n (sym c.in-Some.is ∙ c.good_count.ensures)).1
