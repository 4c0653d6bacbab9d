-- `exports::scalars::arf_scalar` meets its contract.
use Rattle.std.proofs.Common.{ap, ◌∙◌, ℕ, [], ◌∷◌}
use Rattle.constants.specs.Number.{number_of}
use Rattle.scalar.specs.Scalar.{scalar_number}
use Rattle.cells.specs.Scalars.{scalar_cells}
use Rattle.exports.proofs.Tellings.{scalar-number}
use Rattle.cells.proofs.ScalarTold.{told-by}
use Rattle.cells.proofs.Stores.{told}
use Rattle.exports.proofs.scalars.arf_scalar.Goals as goal

pub returns : goal.returns
returns c =
    let a = c.scalar-a in
    let cells = c.scalar_cells.ensures (λ e. number_of e.refusal) ∙ ap scalar_cells (told-by a.result) in
    let e = told scalar_number scalar_cells _ a.ensures (c.number.ensures ∙ scalar-number a.result) cells c.store.ensures in
    record { value = e.0; answer_after = e.1 }
