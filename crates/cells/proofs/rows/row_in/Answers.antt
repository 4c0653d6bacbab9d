-- `cells::rows::row_in` meets its contract: five cells are a row, and past the last whole one it is zeros.
use Rattle.cells.proofs.Tallies.{row-there, row-past}
use Rattle.cells.proofs.rows.row_in.Goals as goal

pub returns-then-i-cells : goal.returns-then-i-cells
returns-then-i-cells c = row-there c.args.cells.now c.args.i c.if-i-cells.true

pub returns-else-i-cells : goal.returns-else-i-cells
returns-else-i-cells c = row-past c.args.cells.now c.args.i c.if-i-cells.false
