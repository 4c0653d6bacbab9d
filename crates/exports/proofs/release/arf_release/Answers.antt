-- `exports::release::arf_release` meets its contract: the judgement, the record that it changes, and the numbers told.
use mathlib.Core.Path.{ap, ◌∙◌}
use mathlib.Core.List.{[], ◌∷◌}
use Rattle.receiver.specs.Released.{Released}
use Rattle.receiver.specs.Release.{release_answer}
use Rattle.exports.specs.declared.Kept.{Kept}
use Rattle.cells.specs.Cells.{stored}
use Rattle.exports.specs.Answers.{call_cells, released_cells}
use Rattle.exports.proofs.release.arf_release.Goals as goal

pub returns : goal.returns
unfolding release_answer
returns c =
    let a = c.args in
    let cells = a.table.now in
    let e = c.judge-done.ensures in
    let kept = c.keep-kept.ensures.value in
    let opened = ap (λ (k : Kept). k.«open») kept in
    let place = c.place_in.ensures in
    let cells_are = (λ i. place i ∷ opened i ∷ []) ∙ ap released_cells e.table_value in record {
      value = ap (λ (k : Kept). k.number) kept ∙ ap (λ (r : Released). r.number) e.table_value;
      table_after = c.keep-kept.ensures.cells_after ∙ ap (λ (r : Released). call_cells cells r.table.slots) e.table_value;
      tallies_after = e.tallies_after;
      answer_after = c.store.ensures ∙ ap (stored a.answer.now) cells_are;
    }

pub keep-kept-requires : goal.keep-kept-requires
keep-kept-requires c = c.judge-done.ensures.counts_open
