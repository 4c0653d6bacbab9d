-- `writer::leaf::row_due` meets its contract.
use Rattle.writer.proofs.Leaves.{row-missing, row_other, row-found}
use Rattle.writer.proofs.leaf.row_due.Goals as goal

pub returns-then-sheet-row : goal.returns-then-sheet-row
returns-then-sheet-row c = rw c.at.ensures (row-missing _ _ _ c.if-sheet-row.true)

pub returns-then-sheet-k : goal.returns-then-sheet-k
returns-then-sheet-k c = rw c.at-then-sheet-k.ensures (row_other _ _ _ c.if-sheet-row.false c.if-sheet-k.true)

pub returns : goal.returns
returns c =
    let if1 = c.if-sheet-row in
    let if2 = c.if-sheet-k in
    row-found _ _ _ if1.false if2.false _ _ _ c.wide.ensures c.wide-2.ensures c.wide-3.ensures.0
