-- `receiver::fresh::receive_fresh` meets its contract: a row of zeros stands for each method.
use Rattle.std.proofs.Common.{◌≡◌, refl, ap, ◌∙◌, ℕ, List, length}
use Rattle.schema.specs.File.{table_of}
use Rattle.schema.specs.Check.{checked}
use Rattle.calls.specs.Counting.{no_tally}
use Rattle.calls.specs.Slots.{good_table}
use Rattle.receiver.specs.Answer.{RowEffect}
use Rattle.receiver.specs.Plan.{Plan}
use Rattle.receiver.specs.Planning.{Fitted, good_plan, plan_of}
use Rattle.receiver.specs.Told.{told, told_plan}
use Rattle.receiver.proofs.Returns.{plan-good, fitted-plan}
use Rattle.receiver.proofs.Halts.{fits-fitted}
use Rattle.receiver.proofs.Lent.{fresh-settled}
use Rattle.receiver.proofs.fresh.receive_fresh.Goals.{After-plan_good-plan}
use Rattle.receiver.proofs.fresh.receive_fresh.Goals as goal

-- the plan is that of a good schema table
planned : (c : After-plan_good-plan) → let a = c.args in let s = a.schema.now in let p = told_plan c.plan_good-plan.result in
    (p ≡ plan_of s a.side a.bytes.now (length (table_of s).methods) a.table.slots) × Fitted s a.bytes.now p.next
planned c =
    let a = c.args in
    let s = a.schema.now in
    let bytes = a.bytes.now in
    let l = a.table.slots in
    let rows = length (table_of s).methods in
    let plan : (schema : List ℕ) → ℕ → Plan = λ schema n. good_plan (good_table (table_of schema) l) n (table_of schema) a.side bytes l in
    let same : c.of_good-good.result.bytes.now ≡ s = ap (λ b. b.now) c.of_good-good.ensures in
    fitted-plan s a.side bytes rows l (told_plan c.plan_good-plan.result)
    (plan-good s (plan s rows) (checked s) refl (told_plan c.plan_good-plan.result) c.requires
    (c.plan_good-plan.ensures ∙ ap (plan c.of_good-good.result.bytes.now) c.method_count.ensures
    ∙ ap (λ (b : List ℕ). plan b (length (table_of b).methods)) same))

pub returns-clause-sheet_after : goal.returns-clause-sheet_after
returns-clause-sheet_after c =
    let a = c.args in
    let p = (goal.at.returns-clause-sheet_after c).After-plan_good-plan in
    let e = c.settle.ensures in
    fresh-settled a.schema.now a.side a.bytes.now a.sheet.now a.table.slots (told_plan p.plan_good-plan.result) (planned p).0 (told c.settle.result.answer) c.settle.new.sheet
    (ap (λ (x : RowEffect). x.answer) e, ap (λ (x : RowEffect). x.sheet) e)

pub settle-requires : goal.settle-requires
settle-requires c =
    let p = (goal.at.settle-requires c).After-plan_good-plan in
    fits-fitted c.args.schema.now c.args.bytes.now c.plan_good-plan.result (planned p).1
