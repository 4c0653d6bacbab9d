-- `exports::indexes::arf_make_index` meets its contract.
use Rattle.std.proofs.Common.{ap, ◌∙◌, ℕ, [], ◌∷◌}
use Rattle.index.specs.Index.{Outcome, index_number}
use Rattle.exports.specs.Answers.{index_cells}
use Rattle.exports.proofs.Tellings.{index-number, index-cells}
use Rattle.cells.proofs.Stores.{told}
use Rattle.exports.proofs.indexes.arf_make_index.Goals as goal

pub returns : goal.returns
returns c =
    let a = c.make_index-a in
    let t = told index_number index_cells _ (ap (λ (o : Outcome). o.answer) a.ensures) (c.number.ensures ∙ index-number a.result)
    (c.length_cells.ensures ∙ index-cells a.result) c.store.ensures in
    record { value = t.0; out_after = ap (λ (o : Outcome). o.out) a.ensures; answer_after = t.1 }
