-- `index::print::put_rows` meets its contract: what is left of the rows gives the same end as all of them.
use Prim.Native.Nat.{◌+◌, ◌*◌, ◌≤◌}
use Rattle.text.specs.Text.{shown, put_on}
use Rattle.index.specs.Row.{of_call}
use Rattle.index.specs.IsIndex.{rows_in}
use Rattle.index.specs.Text.{lines_text}
use Rattle.index.proofs.Prints.{Rest}
use Rattle.index.proofs.print.put_rows.Given as goal

abbrev pub invariant-loop-i : goal.invariant-loop-i
invariant-loop-i l =
    (l.page.len ≤ 13 + 42 * l.i) × Rest l.index l.n l.correlation (put_on (shown l.initial.page) (lines_text (of_call l.correlation (rows_in l.n l.index)))) (shown l.page) l.i
