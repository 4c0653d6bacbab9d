-- `exports::payloads::arf_write_value_frame` meets its contract.
use Rattle.std.proofs.Common.{ap, ◌∙◌, ℕ, [], ◌∷◌}
use Rattle.arf.specs.Numbers.{write_number}
use Rattle.exports.specs.Answers.{writing_of, output_of, write_cells}
use Rattle.exports.proofs.Tellings.{write-number, write-cells}
use Rattle.cells.proofs.Stores.{told}
use Rattle.exports.proofs.payloads.arf_write_value_frame.Goals as goal

pub returns : goal.returns
returns c =
    let a = c.write_value_frame-a in
    let t = told write_number write_cells _ (ap writing_of a.ensures) (c.number.ensures ∙ write-number a.result) (c.length_cells.ensures ∙ write-cells a.result) c.store.ensures in
    record { value = t.0; out_after = ap output_of a.ensures; answer_after = t.1 }
