-- `exports::payloads::arf_read` meets its contract.
use Rattle.std.proofs.Common.{ap, ◌∙◌, ℕ, [], ◌∷◌}
use Rattle.reader.specs.Entry.{reading_in, sheet_in}
use Rattle.exports.specs.Answers.{read_number, read_cells}
use Rattle.exports.proofs.Tellings.{read-number}
use Rattle.cells.proofs.Stores.{told}
use Rattle.exports.proofs.payloads.arf_read.Goals as goal

pub returns : goal.returns
returns c =
    let a = c.read-a in
    let t = told read_number read_cells _ (ap reading_in a.ensures) (c.number.ensures ∙ read-number a.result) c.read_cells.ensures c.store.ensures in
    record { value = t.0; sheet_after = ap sheet_in a.ensures; answer_after = t.1 }
