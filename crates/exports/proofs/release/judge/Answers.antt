-- `exports::release::judge` meets its contract: a plan settled with the row that it asks for, which is put back into its cells.
use Rattle.std.proofs.Common.{sym, ap, ◌∙◌, ℕ}
use Rattle.constants.specs.Number.{number_of}
use Rattle.schema.specs.Check.{checked}
use Rattle.calls.specs.declared.Tally.{Tally}
use Rattle.calls.specs.Counting.{no_tally}
use Rattle.receiver.specs.Release.{ReleaseEffect, release_in, release_settled}
use Rattle.receiver.specs.Told.{told_plan, told_done, number_of_halt, place_of_halt}
use Rattle.cells.specs.Records.{calls_of, are_calls, rows_of, row_cells}
use Rattle.cells.proofs.Tallies.{rows_long}
use Rattle.exports.proofs.Judged.{judged-release}
use Rattle.exports.proofs.Plans.{refused-stops}
use Rattle.exports.proofs.Settled.{same-judged, same-release}
use Rattle.exports.proofs.release.judge.Goals as goal
use lib.ListN.{get_or, set}

pub returns : goal.returns
returns c =
    let a = c.args in
    let s = a.schema.now in
    let cells = a.table.now in
    let tallies = a.tallies.now in
    let ts = rows_of tallies in
    let l = calls_of cells in
    let p = told_plan c.plan_release-plan.result in
    let old = c.row_in-old.result in
    let r = c.settle_call-done.result in
    let d = told_done old r in
    let is = c.settle_call-done.ensures.l_value number_of number_of_halt place_of_halt l
    ∙ ap (λ (t : Tally). release_settled l t p.next) (c.row_in-old.ensures ∙ ap (λ (k : ℕ). get_or ts k no_tally) c.row_of-row.ensures) in
    let e = judged-release s l a.correlation ts (are_calls cells) _ p (sym (rows_long tallies)) c.plan_release-plan.ensures.value (release_in d l) is in record {
      table_value = same-release no_tally old r l ∙ ap (λ (x : ReleaseEffect). x.answer) e;
      tallies_after = c.put_row.ensures ∙ (λ i. row_cells tallies (set ts (c.row_of-row.ensures i) (c.row_after.ensures i)))
          ∙ ap (λ (x : ReleaseEffect). row_cells tallies x.tallies) e;
      counts_open = (
        c.plan_release-plan.ensures.counts_open,
        refused-stops (are_calls cells) _ p (checked s) (told_done no_tally r).judged c.plan_release-plan.ensures.value
            (λ m q h. same-judged no_tally old r ∙ c.settle_call-done.ensures.by_index number_of number_of_halt place_of_halt m q h),
      );
    }
