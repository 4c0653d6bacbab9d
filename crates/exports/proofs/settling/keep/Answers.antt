-- `exports::settling::keep` meets its contract: the numbers told, and the record that the answer changes.
use Rattle.std.proofs.Common.{◌≡◌, sym, ap, subst, ◌∙◌, ℕ}
use Rattle.calls.specs.Judged.{Judged}
use Rattle.calls.specs.Counting.{no_tally}
use Rattle.calls.specs.Step.{number_after, Changes}
use Rattle.calls.specs.Told.{told_number, number_of_stop}
use Rattle.receiver.specs.Answer.{used_of}
use Rattle.receiver.specs.Told.{told_done}
use Rattle.exports.proofs.Plans.{answer-kept, answer-table}
use Rattle.exports.proofs.settling.keep.Goals as goal

pub returns : goal.returns
returns c =
    let a = c.args in
    let cells = a.cells.now in
    let d = told_done no_tally a.done.now in
    let said = c.said-said in
    let payload = told_number number_of_stop said.result.payload in
    let change = c.change_of-change in
    let ch : Changes d.judged payload change.result = subst (λ (J : Judged). Changes J payload change.result) said.ensures.judged_as change.ensures in
    let num = c.number_in.ensures ∙ c.answer_after-verdict.ensures ∙ ap (λ (J : Judged). number_after J payload) said.ensures.judged_as in
    let used = c.used_of.ensures ∙ (λ i. used_of (told_number number_of_stop c.answer_after-verdict.result) (said.ensures.size_as i)) ∙ ap (λ (n : ℕ). used_of n d.size) (sym c.number_in.ensures) in record {
      value = answer-kept cells d payload c.number_in.result change.result said.ensures.payload_as num ch c.used_of.result c.open_after-open.result used c.open_after-open.ensures;
      cells_after = c.put_slot.ensures ∙ answer-table cells d payload c.number_in.result change.result said.ensures.payload_as num ch c.requires.1;
    }

pub open_after-open-requires : goal.open_after-open-requires
open_after-open-requires c = c.requires.0
