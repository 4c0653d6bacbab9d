-- `exports::receive::judge` meets its contract: a plan settled with the row that it asks for, which is put back into its cells.
use Rattle.std.proofs.Common.{sym, ap, ◌∙◌, ℕ}
use Rattle.constants.specs.Number.{number_of}
use Rattle.schema.specs.Check.{checked}
use Rattle.calls.specs.declared.Tally.{Tally}
use Rattle.calls.specs.Counting.{no_tally}
use Rattle.receiver.specs.Settled.{Settled}
use Rattle.receiver.specs.Answer.{Effect, answer_in}
use Rattle.receiver.specs.Receive.{settled}
use Rattle.receiver.specs.Told.{told_plan, told_done, number_of_halt, place_of_halt}
use Rattle.receiver.proofs.Halts.{fits-fitted}
use Rattle.cells.specs.Records.{calls_of, are_calls, rows_of, row_cells}
use Rattle.cells.proofs.Tallies.{rows_long}
use Rattle.exports.proofs.Judged.{judged-effect}
use Rattle.exports.proofs.Plans.{refused-stops}
use Rattle.exports.proofs.Settled.{same-judged, same-answer}
use Rattle.exports.proofs.receive.judge.Goals as goal
use lib.ListN.{get_or, set}

pub settle_plan-done-requires : goal.settle_plan-done-requires
settle_plan-done-requires c = fits-fitted c.args.schema.now c.args.bytes.now c.plan-plan.result c.plan-plan.ensures.fitted

pub returns : goal.returns
returns c =
    let a = c.args in
    let s = a.schema.now in
    let cells = a.table.now in
    let bytes = a.bytes.now in
    let sheet = a.sheet.now in
    let tallies = a.tallies.now in
    let ts = rows_of tallies in
    let l = calls_of cells in
    let p = told_plan c.plan-plan.result in
    let old = c.row_in-old.result in
    let r = c.settle_plan-done.result in
    let d = told_done old r in
    let ensured = c.settle_plan-done.ensures in
    let x : Settled = record { row = d.row; answer = answer_in d l } in
    let is = ensured.row_after number_of number_of_halt place_of_halt l
    ∙ ap (λ (t : Tally). settled s bytes sheet l t p.next) (c.row_in-old.ensures ∙ ap (λ (k : ℕ). get_or ts k no_tally) c.row_of-row.ensures) in
    let e = judged-effect s a.side bytes sheet ts l (are_calls cells) _ p (sym (rows_long tallies)) c.plan-plan.ensures.value x _ is in record {
      table_value = same-answer no_tally old r l ∙ ap (λ (y : Effect). y.answer) e;
      sheet_after = ap (λ (y : Effect). y.sheet) e;
      tallies_after = c.put_row.ensures ∙ (λ i. row_cells tallies (set ts (c.row_of-row.ensures i) (c.row_after.ensures i)))
          ∙ ap (λ (y : Effect). row_cells tallies y.tallies) e;
      counts_open = (
        c.plan-plan.ensures.counts_open,
        refused-stops (are_calls cells) _ p (checked s) (told_done no_tally r).judged c.plan-plan.ensures.value
            (λ m q h. same-judged no_tally old r ∙ ensured.by_index number_of number_of_halt place_of_halt m q h),
      );
    }
