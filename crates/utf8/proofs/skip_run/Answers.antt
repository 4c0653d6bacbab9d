-- `utf8::skip_run` meets its contract: where the byte's own row has no character, there is none.
use native.Mathlib.Omega.{arith}
use Rattle.utf8.proofs.Utf8s.{row-stops}
use Rattle.utf8.proofs.skip_run.Goals as goal

pub returns-then-end-from : goal.returns-then-end-from
returns-then-end-from c = let w = c.skip_pairs-end.ensures in (w.0, w.1, λ e. absurd (c.if-end-from.true e))

pub returns : goal.returns
returns c =
    let a = c.args in
    let row = c.row_of.ensures in
    let w = c.skip_row.ensures in
    (w.0, w.1, λ e. row-stops a.s.now a.from a.to c.row_of.result row.0 (omega arith) (omega arith) row.1 (w.2 e))
