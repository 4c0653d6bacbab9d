-- `exports::indexes::arf_look_up` meets its contract.
use Rattle.std.proofs.Common.{ap, ◌∙◌, ℕ, [], ◌∷◌}
use Rattle.index.specs.LookUp.{Outcome, find_number}
use Rattle.exports.specs.Answers.{find_cells}
use Rattle.cells.proofs.Stores.{told}
use Rattle.exports.proofs.indexes.arf_look_up.Goals as goal

pub returns : goal.returns
returns c =
    let e = c.look_up-a.ensures in
    let t = told find_number find_cells _ (ap (λ (o : Outcome). o.answer) e) c.find_number.ensures (ap (λ (n : ℕ). n ∷ []) c.printed_length.ensures) c.store.ensures in
    record { value = t.0; out_after = ap (λ (o : Outcome). o.out) e; answer_after = t.1 }
