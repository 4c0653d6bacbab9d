-- `exports::planning::plan_release` meets its contract: the verdicts on the two tables and the number of rows pick the case.
use Rattle.std.proofs.Common.{◌≡◌, refl, sym, ap, ◌∙◌, Bool, List, ℕ, Ok, Err}
use Rattle.std.proofs.lemmas.Result.{err_from_is_err_and, IfOk-at_ok}
use Rattle.constants.specs.Number.{number_of}
use Rattle.schema.specs.File.{table_of}
use Rattle.calls.specs.Told.{told_number}
use Rattle.table.specs.Told.{told}
use Rattle.receiver.specs.Planning.{call_plan, tables_fault}
use Rattle.receiver.specs.Told.{told_plan}
use Rattle.receiver.proofs.Halts.{refused-planned, faulty-planned, refused-number}
use Rattle.exports.proofs.Plans.{good_cells, cells-faulty, cells-stop, cells-call}
use Rattle.exports.proofs.planning.plan_release.Goals.{After-judge_tables}
use Rattle.exports.proofs.planning.plan_release.Goals as goal

-- the verdict on the call table and the number of rows, by this schema table
judged : (c : After-judge_tables) → let a = c.args in
    told_number number_of c.judge_tables.result ≡ tables_fault (good_cells a.cells.now a.schema.now a.rows) a.rows (table_of a.schema.now)
judged c =
    let a = c.args in
    let same : c.in-Ok.schema.bytes.now ≡ a.schema.now = ap (λ b. b.now) (IfOk-at_ok _ c.in-Ok.is c.check.ensures.same) in
    c.judge_tables.ensures
    ∙ ap (λ (b : Bool). tables_fault b a.rows (table_of c.in-Ok.schema.bytes.now)) c.are_good-good.ensures.value
    ∙ ap (λ (b : List ℕ). tables_fault (good_cells a.cells.now b a.rows) a.rows (table_of b)) same

pub returns-in-Err : goal.returns-in-Err
returns-in-Err c =
    let a = c.args in
    let e = c.in-Err.refused in
    let value = cells-faulty a.cells.now a.schema.now a.rows a.correlation (told c.check.result) c.check.ensures.verdict (told_plan (Err c.from.result))
    (number_of e.refusal) e.place (ap told c.in-Err.is) (refused-planned (Err c.from.result) c.from.result e refl c.from.ensures) in
    record { value = value; counts_open = c.open_count.ensures }

pub returns-in_err-judge_tables-in-Ok : goal.returns-in_err-judge_tables-in-Ok
returns-in_err-judge_tables-in-Ok c =
    let a = c.args in
    let r = c.from_residual.result in
    let e = c.in_err-judge_tables-in-Ok.field-0.0 in
    let (h, is, k) = err_from_is_err_and r c.from_residual.ensures.1 in
    let value = cells-stop a.cells.now a.schema.now a.rows a.correlation (told c.check.result) c.check.ensures.verdict (told_plan r)
    (ap told c.in-Ok.is) (number_of e) (sym (ap (told_number number_of) c.in_err-judge_tables-in-Ok.was) ∙ judged (goal.at.returns-in_err-judge_tables-in-Ok c).After-judge_tables)
    (refused-number e) (faulty-planned r h e is k) in
    record { value = value; counts_open = c.are_good-good.ensures.counts_open }

pub returns-in_ok-judge_tables-in-Ok : goal.returns-in_ok-judge_tables-in-Ok
returns-in_ok-judge_tables-in-Ok c =
    let a = c.args in
    let value = cells-call a.cells.now a.schema.now a.rows a.correlation (told c.check.result) c.check.ensures.verdict (told_plan (Ok c.plan_call.result))
    (ap told c.in-Ok.is) 0 (sym (ap (told_number number_of) c.in_ok-judge_tables-in-Ok.was) ∙ judged (goal.at.returns-in_ok-judge_tables-in-Ok c).After-judge_tables)
    refl (c.plan_call.ensures ∙ ap call_plan c.own_slot.ensures) in
    record { value = value; counts_open = c.are_good-good.ensures.counts_open }
