-- `cursor::item::varuint_at` meets its contract.
use mathlib.Core.Path.{sym, ap, ◌∙◌}
use Rattle.std.proofs.Common.{Err}
use Rattle.wire.specs.Varuint.{told}
use Rattle.parse.proofs.Places.{var_here}
use Rattle.cursor.specs.Item.{number_step_of}
use Rattle.cursor.specs.Told.{told_number_step}
use Rattle.cursor.proofs.Items.{no-varuint}
use Rattle.cursor.proofs.item.varuint_at.Goals as goal

pub returns-in-Ok : goal.returns-in-Ok
returns-in-Ok c = let a = c.args in ap (number_step_of a.at) (sym (var_here a.payload.now a.at _ _ (sym c.read.ensures ∙ ap told c.in-Ok.is)))

pub returns-in-Err : goal.returns-in-Err
returns-in-Err c =
    let a = c.args in
    ap (told_number_step a.at) (c.at.ensures ∙ ap (λ r. Err (record { place = a.at; refusal = r })) c.from.ensures)
    ∙ no-varuint a.payload.now a.at c.in-Err.error (sym c.read.ensures ∙ ap told c.in-Err.is)
