-- `exports::receive::arf_receive` meets its contract: the judgement, the record that it changes, and the numbers told.
use Rattle.std.proofs.Common.{ap, ◌∙◌, List, ℕ}
use Rattle.calls.specs.Counting.{no_tally}
use Rattle.receiver.specs.Received.{Received}
use Rattle.receiver.specs.Told.{told_done}
use Rattle.exports.specs.declared.Kept.{Kept}
use Rattle.cells.specs.Cells.{stored}
use Rattle.exports.specs.Answers.{kept_of, call_cells, received_cells, cells_by}
use Rattle.exports.proofs.receive.arf_receive.Goals as goal

pub returns : goal.returns
returns c =
    let a = c.args in
    let cells = a.table.now in
    let reading = (told_done no_tally c.judge-done.result).reading in
    let e = c.judge-done.ensures in
    let kept = c.keep-kept.ensures.value ∙ ap kept_of e.table_value in
    let list : Kept → List ℕ = λ k. cells_by k.used k.«open» reading in
    let cells_are = c.received_cells.ensures ∙ ap list c.keep-kept.ensures.value ∙ ap received_cells e.table_value in record {
      value = ap (λ (k : Kept). k.number) kept;
      table_after = c.keep-kept.ensures.cells_after ∙
          ap (λ (r : Received). call_cells cells r.table.slots) e.table_value;
      sheet_after = e.sheet_after;
      tallies_after = e.tallies_after;
      answer_after = c.store.ensures ∙ ap (stored a.answer.now) cells_are;
    }

pub keep-kept-requires : goal.keep-kept-requires
keep-kept-requires c = c.judge-done.ensures.counts_open
