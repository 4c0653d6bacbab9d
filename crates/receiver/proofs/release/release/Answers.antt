-- `receiver::release::release` meets its contract: a release's plan settled over the lent rows, within them and past their end.
use Rattle.std.proofs.Common.{◌≡◌, sym, ap, ◌∙◌, ℕ, ◌≤◌, length, subst}
use Rattle.calls.specs.declared.Tally.{Tally}
use Rattle.receiver.specs.SettledRelease.{SettledRelease}
use Rattle.receiver.specs.Release.{release_effect, release_settled}
use Rattle.receiver.specs.Told.{told_released, told_plan, told_settled_release}
use Rattle.receiver.proofs.Lent.{release-within, release-beyond}
use Rattle.receiver.proofs.release.release.Goals as goal
use Rattle.calls.specs.Counting.{no_tally}
use lib.ListN.{set, get_or}

pub returns-then-i-tallies : goal.returns-then-i-tallies
returns-then-i-tallies c =
    let a = c.args in
    let next = c.settle_release-next in
    ap (λ (k : ℕ). release_effect (told_released next.result.answer) (set a.tallies.now k next.result.row)) c.row_of-i.ensures
    ∙ release-within a.schema.now a.table.slots a.correlation a.tallies.now (told_plan c.plan_release-plan.result) c.plan_release-plan.ensures
    (told_settled_release next.result)
    (next.ensures ∙ ap (λ (k : ℕ). release_settled a.table.slots (get_or a.tallies.now k no_tally) (told_plan c.plan_release-plan.result).next) c.row_of-i.ensures)

pub returns-else-i-tallies : goal.returns-else-i-tallies
returns-else-i-tallies c =
    let a = c.args in
    release-beyond a.schema.now a.table.slots a.correlation a.tallies.now (told_plan c.plan_release-plan.result) c.plan_release-plan.ensures
    (told_released c.settle_release.result.answer) (ap (λ (x : SettledRelease). x.answer) c.settle_release.ensures)
    (subst (λ (k : ℕ). length a.tallies.now ≤ k) c.row_of-i.ensures c.if-i-tallies.false)
