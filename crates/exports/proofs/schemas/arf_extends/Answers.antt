-- `exports::schemas::arf_extends` meets its contract.
use Rattle.std.proofs.Common.{ap, ◌∙◌, ℕ, [], ◌∷◌}
use Rattle.arf.specs.Numbers.{extend_number}
use Rattle.exports.specs.Answers.{extend_cells}
use Rattle.exports.proofs.Tellings.{extend-number}
use Rattle.cells.proofs.Stores.{told}
use Rattle.exports.proofs.schemas.arf_extends.Goals as goal

pub returns : goal.returns
returns c =
    let a = c.extends-a in
    let e = told extend_number extend_cells _ a.ensures (c.number.ensures ∙ extend-number a.result) c.extend_cells.ensures c.store.ensures in
    record { value = e.0; answer_after = e.1 }
