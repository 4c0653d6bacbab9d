-- `exports::frames::arf_write_frame` meets its contract.
use Rattle.std.proofs.Common.{ap, ◌∙◌, ℕ, [], ◌∷◌}
use Rattle.frame.specs.FrameWritten.{FrameWritten}
use Rattle.frame.specs.Written.{write_number, output_of}
use Rattle.exports.specs.Answers.{header_of, written_cells}
use Rattle.exports.proofs.Tellings.{written-number}
use Rattle.cells.proofs.Stores.{told}
use Rattle.exports.proofs.frames.arf_write_frame.Goals as goal

pub returns : goal.returns
returns c =
    let a = c.args in
    let h = header_of a.kind a.«package» a.service a.method a.correlation in
    let e = c.write_frame-a.ensures in
    let t = told write_number written_cells _ e.0 (c.number.ensures ∙ written-number c.write_frame-a.result) (ap (λ (n : ℕ). n ∷ []) c.written_length.ensures) c.store.ensures in
    record { value = t.0; out_after = e.1 ∙ ap (λ (r : FrameWritten). output_of r h a.payload.now a.out.now) e.0; answer_after = t.1 }
