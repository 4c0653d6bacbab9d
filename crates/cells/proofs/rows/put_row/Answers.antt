-- `cells::rows::put_row` meets its contract, cell after cell.
use Rattle.cells.proofs.Tallies.{row-stored, row-lost}
use Rattle.cells.proofs.rows.put_row.Goals as goal

pub returns-then-i-cells : goal.returns-then-i-cells
returns-then-i-cells c = let a = c.args in row-stored a.cells.now a.i a.row c.if-i-cells.true

pub returns-else-i-cells : goal.returns-else-i-cells
returns-else-i-cells c = let a = c.args in row-lost a.cells.now a.i a.row c.if-i-cells.false
