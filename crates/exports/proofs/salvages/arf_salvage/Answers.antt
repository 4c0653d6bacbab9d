-- `exports::salvages::arf_salvage` meets its contract.
use Rattle.std.proofs.Common.{ap, ◌∙◌, ℕ, [], ◌∷◌}
use Rattle.salvage.specs.Salvage.{Outcome, salvage_number}
use Rattle.exports.specs.Answers.{salvage_cells}
use Rattle.exports.proofs.Tellings.{salvage-number}
use Rattle.cells.proofs.Stores.{told}
use Rattle.exports.proofs.salvages.arf_salvage.Goals as goal

pub returns : goal.returns
returns c =
    let a = c.salvage-a in
    let e = a.ensures in
    let t = told salvage_number salvage_cells _ (ap (λ (o : Outcome). o.answer) e) (c.number.ensures ∙ salvage-number a.result) c.salvage_cells.ensures c.store.ensures in
    record { value = t.0; copy_after = ap (λ (o : Outcome). o.copy) e; spans_after = ap (λ (o : Outcome). o.spans) e; answer_after = t.1 }
