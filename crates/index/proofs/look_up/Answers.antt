-- `index::look_up` meets its contract: the text is measured first, and then put where it fits.
use mathlib.Core.Path.{◌≡◌, ap, ◌∙◌}
use lib.ListN.{length}
use Rattle.index.specs.Told.{stopped_of, judged_number, judged_rows}
use Rattle.index.proofs.Told.{err-number}
use Rattle.index.proofs.Shapes.{JudgedAs}
use Rattle.index.proofs.Prints.{no_room, printed}
use Rattle.index.proofs.look_up.Goals.{After-judge-judged}
use Rattle.index.proofs.look_up.Goals as goal

-- the judgement
judged : (c : After-judge-judged) → let a = c.args in let r = c.judge-judged.result in JudgedAs a.index.now (length a.entries.now) (judged_number r) (judged_rows r)
judged c =
    let e = c.judge-judged.ensures in
    record { number_is = e.number_value.0; rows_is = e.number_value.1; inside = e.rows_in_bounds.0; few = e.rows_in_bounds.1 }

pub returns-then-out-length : goal.returns-then-out-length
returns-then-out-length c =
    let at-judge = (goal.at.returns-then-out-length c).After-judge-judged in
    let a = at-judge.args in
    no_room a.index.now a.entries.now a.correlation a.out.now _ _ (judged at-judge) _ c.measure-length.ensures c.if-out-length.true

pub returns : goal.returns
returns c =
    let at-judge = (goal.at.returns c).After-judge-judged in
    let a = at-judge.args in
    let r = c.judge-judged.result in
    let stopped : stopped_of c.err.result ≡ judged_number r = ap stopped_of c.err.ensures.value ∙ err-number r in
    rw (stopped, c.print.ensures) (printed a.index.now a.entries.now a.correlation a.out.now _ _ (judged at-judge) _ c.measure-length.ensures c.if-out-length.false)
