-- `exports::frames::arf_read_frame` meets its contract.
use Rattle.std.proofs.Common.{ap, ◌∙◌, ℕ, [], ◌∷◌}
use Rattle.frame.specs.Frame.{read_number}
use Rattle.exports.specs.Answers.{frame_cells}
use Rattle.cells.proofs.Stores.{told}
use Rattle.exports.proofs.frames.arf_read_frame.Goals as goal

pub returns : goal.returns
returns c =
    let e = told read_number frame_cells _ c.read_frame-a.ensures c.read_number.ensures c.frame_cells.ensures c.store.ensures in
    record { value = e.0; answer_after = e.1 }
