-- `exports::schemas::arf_check_table` meets its contract.
use Rattle.std.proofs.Common.{ap, ◌∙◌, ℕ, [], ◌∷◌}
use Rattle.arf.specs.Numbers.{check_number}
use Rattle.exports.specs.Answers.{check_cells}
use Rattle.exports.proofs.Tellings.{check-number, check-place}
use Rattle.cells.proofs.Stores.{told}
use Rattle.exports.proofs.schemas.arf_check_table.Goals as goal

pub returns : goal.returns
returns c =
    let a = c.check_table-a in
    let e = told check_number check_cells _ a.ensures (c.number.ensures ∙ check-number a.result) (ap (λ (n : ℕ). n ∷ []) c.place.ensures ∙ check-place a.result) c.store.ensures in
    record { value = e.0; answer_after = e.1 }
