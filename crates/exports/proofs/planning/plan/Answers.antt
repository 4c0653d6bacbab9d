-- `exports::planning::plan` meets its contract: the verdict on the schema table picks the case.
use Rattle.std.proofs.Common.{◌≡◌, refl, ap, ◌∙◌, List, ℕ, Err}
use Rattle.std.proofs.lemmas.Result.{IfOk-at_ok}
use Rattle.constants.specs.Number.{number_of}
use Rattle.schema.specs.File.{table_of}
use Rattle.table.specs.Told.{told}
use Rattle.receiver.specs.Planning.{good_plan}
use Rattle.receiver.specs.Told.{told_plan}
use Rattle.receiver.proofs.Returns.{plan-faulty, plan-good}
use Rattle.receiver.proofs.Halts.{refused-planned}
use Rattle.cells.specs.Records.{calls_of}
use Rattle.exports.proofs.Plans.{good_cells, cells-plan}
use Rattle.exports.proofs.planning.plan.Goals as goal

pub returns-in-Err : goal.returns-in-Err
returns-in-Err c =
    let a = c.args in
    let s = a.schema.now in
    let cells = a.cells.now in
    let e = c.in-Err.refused in
    let r = told_plan (Err c.from.result) in
    let x = cells-plan cells s a.rows a.side a.bytes.now r
    (plan-faulty s (good_plan (good_cells cells s a.rows) a.rows (table_of s) a.side a.bytes.now (calls_of cells)) (told c.check.result) c.check.ensures.verdict r
    (number_of e.refusal) e.place (ap told c.in-Err.is) (refused-planned (Err c.from.result) c.from.result e refl c.from.ensures))
    c.open_count.ensures in
    record { value = x.0; fitted = x.1.0; counts_open = x.1.1 }

pub returns-in-Ok : goal.returns-in-Ok
returns-in-Ok c =
    let a = c.args in
    let s = a.schema.now in
    let cells = a.cells.now in
    let l = calls_of cells in
    let r = told_plan c.plan_good.result in
    let same : c.in-Ok.schema.bytes.now ≡ s = ap (λ b. b.now) (IfOk-at_ok _ c.in-Ok.is c.check.ensures.same) in
    let x = cells-plan cells s a.rows a.side a.bytes.now r
    (plan-good s (good_plan (good_cells cells s a.rows) a.rows (table_of s) a.side a.bytes.now l) (told c.check.result) c.check.ensures.verdict r
    (ap told c.in-Ok.is)
    (c.plan_good.ensures.value ∙ ap (λ (b : List ℕ). good_plan (good_cells cells b a.rows) a.rows (table_of b) a.side a.bytes.now l) same))
    c.plan_good.ensures.counts_open in
    record { value = x.0; fitted = x.1.0; counts_open = x.1.1 }
