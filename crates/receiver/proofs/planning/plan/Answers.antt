-- `receiver::planning::plan` meets its contract: the verdict on the schema table picks the case.
use Rattle.std.proofs.Common.{◌≡◌, sym, ap, subst, ◌∙◌, ℕ, List}
use Rattle.std.proofs.lemmas.Result.{err_from_is_err_and, IfOk-at_ok}
use Rattle.constants.specs.Number.{number_of}
use Rattle.schema.specs.File.{table_of}
use Rattle.calls.specs.Slots.{good_table}
use Rattle.table.specs.Told.{told}
use Rattle.receiver.specs.Planning.{good_plan, plan_of, Fitted}
use Rattle.receiver.specs.Told.{told_plan, Fits}
use Rattle.receiver.proofs.Returns.{plan-faulty, plan-good, fitted-plan}
use Rattle.receiver.proofs.Halts.{refused-planned, fits-fitted}
use Rattle.receiver.proofs.planning.plan.Goals as goal

pub returns-in_err-schema : goal.returns-in_err-schema
returns-in_err-schema c =
    let a = c.args in
    let s = a.schema.now in
    let l = a.table.slots in
    let r = c.from_residual.result in
    let e = c.in_err-schema.field-0.0 in
    let (h, is, k) = err_from_is_err_and r c.from_residual.ensures.1 in
    let x = fitted-plan s a.side a.bytes.now a.rows l (told_plan r)
    (plan-faulty s (good_plan (good_table (table_of s) l) a.rows (table_of s) a.side a.bytes.now l) (told c.check.result) c.check.ensures.verdict (told_plan r)
    (number_of e.refusal) e.place (ap told c.in_err-schema.was) (refused-planned r h e is k)) in
    (x.0, x.1, fits-fitted s a.bytes.now r x.1)

pub returns : goal.returns
returns c =
    let a = c.args in
    let s = a.schema.now in
    let l = a.table.slots in
    let r = c.plan_good.result in
    let same : c.in_ok-schema.schema.bytes.now ≡ s = ap (λ b. b.now) (IfOk-at_ok _ c.in_ok-schema.was c.check.ensures.same) in
    let x = fitted-plan s a.side a.bytes.now a.rows l (told_plan r)
    (plan-good s (good_plan (good_table (table_of s) l) a.rows (table_of s) a.side a.bytes.now l) (told c.check.result) c.check.ensures.verdict (told_plan r)
    (ap told c.in_ok-schema.was) (c.plan_good.ensures ∙ ap (λ (b : List ℕ). good_plan (good_table (table_of b) l) a.rows (table_of b) a.side a.bytes.now l) same)) in
    (x.0, x.1, fits-fitted s a.bytes.now r x.1)
