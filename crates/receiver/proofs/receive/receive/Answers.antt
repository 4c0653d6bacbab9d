-- `receiver::receive::receive` meets its contract: a plan settled over the lent rows, within them and past their end.
use Rattle.std.proofs.Common.{◌≡◌, sym, ap, ◌∙◌, ℕ, ◌≤◌, length, subst}
use Rattle.calls.specs.declared.Tally.{Tally}
use Rattle.calls.specs.Counting.{no_tally}
use Rattle.receiver.specs.Answer.{RowEffect, effect, row_effect}
use Rattle.receiver.specs.Told.{told, told_plan, told_settled}
use Rattle.receiver.proofs.Lent.{within, beyond}
use Rattle.receiver.proofs.receive.receive.Goals as goal
use Rattle.receiver.specs.Receive.{settled}
use lib.ListN.{set, get_or}

pub returns-then-i-tallies : goal.returns-then-i-tallies
returns-then-i-tallies c =
    let a = c.args in
    let next = c.settle-next in
    let i = c.row_of-i in
    ap (λ (k : ℕ). effect (told next.result.answer) next.new.sheet (set a.tallies.now k next.result.row)) i.ensures
    ∙ within a.schema.now a.side a.bytes.now a.sheet.now a.tallies.now a.table.slots (told_plan c.plan-plan.result) c.plan-plan.ensures.0
    (told_settled next.result) next.new.sheet
    (next.ensures ∙ ap (λ (k : ℕ). settled a.schema.now a.bytes.now a.sheet.now a.table.slots (get_or a.tallies.now k no_tally) (told_plan c.plan-plan.result).next) i.ensures)

pub returns-else-i-tallies : goal.returns-else-i-tallies
returns-else-i-tallies c =
    let a = c.args in
    let e = c.settle.ensures in
    beyond a.schema.now a.side a.bytes.now a.sheet.now a.tallies.now a.table.slots (told_plan c.plan-plan.result) c.plan-plan.ensures.0
    (told c.settle.result.answer) c.settle.new.sheet (ap (λ (x : RowEffect). x.answer) e, ap (λ (x : RowEffect). x.sheet) e)
    (subst (λ (k : ℕ). length a.tallies.now ≤ k) c.row_of-i.ensures c.if-i-tallies.false)
