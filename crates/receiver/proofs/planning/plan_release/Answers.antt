-- `receiver::planning::plan_release` meets its contract: the verdicts on the two tables and the number of rows pick the case.
use Rattle.std.proofs.Common.{◌≡◌, refl, sym, ap, ◌∙◌, Bool, List, ℕ, Ok}
use Rattle.std.proofs.lemmas.Result.{err_from_is_err_and, IfOk-at_ok}
use Rattle.constants.specs.Number.{number_of}
use Rattle.schema.specs.File.{table_of}
use Rattle.calls.specs.Slots.{good_table}
use Rattle.calls.specs.Told.{told_number}
use Rattle.table.specs.Told.{told}
use Rattle.receiver.specs.Planning.{call_plan, tables_fault}
use Rattle.receiver.specs.Told.{told_plan}
use Rattle.receiver.proofs.Returns.{release-faulty, release-stops, release-goes}
use Rattle.receiver.proofs.Halts.{refused-planned, faulty-planned, refused-number}
use Rattle.receiver.proofs.planning.plan_release.Goals.{After-judge_tables}
use Rattle.receiver.proofs.planning.plan_release.Goals as goal

-- the verdict on the call table and the number of rows, by this schema table
judged : (c : After-judge_tables) → let a = c.args in let T = table_of a.schema.now in
    told_number number_of c.judge_tables.result ≡ tables_fault (good_table T a.table.slots) a.rows T
judged c =
    let a = c.args in
    let same : c.in_ok-schema.schema.bytes.now ≡ a.schema.now = ap (λ b. b.now) (IfOk-at_ok _ c.in_ok-schema.was c.check.ensures.same) in
    c.judge_tables.ensures
    ∙ ap (λ (b : Bool). tables_fault b a.rows (table_of c.in_ok-schema.schema.bytes.now)) c.is_good-good.ensures
    ∙ ap (λ (b : List ℕ). tables_fault (good_table (table_of b) a.table.slots) a.rows (table_of b)) same

pub returns-in_err-schema : goal.returns-in_err-schema
returns-in_err-schema c =
    let a = c.args in
    let r = c.from_residual.result in
    let e = c.in_err-schema.field-0.0 in
    let (h, is, k) = err_from_is_err_and r c.from_residual.ensures.1 in
    release-faulty a.schema.now a.table.slots a.correlation a.rows (told c.check.result) c.check.ensures.verdict (told_plan r)
    (number_of e.refusal) e.place (ap told c.in_err-schema.was) (refused-planned r h e is k)

pub returns-in_err-judge_tables : goal.returns-in_err-judge_tables
returns-in_err-judge_tables c =
    let a = c.args in
    let r = c.from_residual-in_err-judge_tables.result in
    let e = c.in_err-judge_tables.field-0.0 in
    let (h, is, k) = err_from_is_err_and r c.from_residual-in_err-judge_tables.ensures.1 in
    release-stops a.schema.now a.table.slots a.correlation a.rows (told c.check.result) c.check.ensures.verdict (told_plan r)
    (ap told c.in_ok-schema.was) (number_of e) (sym (ap (told_number number_of) c.in_err-judge_tables.was) ∙ judged (goal.at.returns-in_err-judge_tables c).After-judge_tables)
    (refused-number e) (faulty-planned r h e is k)

pub returns : goal.returns
returns c =
    let a = c.args in
    release-goes a.schema.now a.table.slots a.correlation a.rows (told c.check.result) c.check.ensures.verdict (told_plan (Ok c.plan_call.result))
    (ap told c.in_ok-schema.was) 0 (sym (ap (told_number number_of) c.in_ok-judge_tables.was) ∙ judged (goal.at.returns c).After-judge_tables)
    refl (c.plan_call.ensures ∙ ap call_plan c.own_slot.ensures)
