-- `cursor::item::number_at` meets its contract.
use mathlib.Core.Path.{sym, ap, ◌∙◌}
use native.Mathlib.Omega.{arith}
use Rattle.cursor.specs.Item.{number_step_of}
use Rattle.cursor.specs.Told.{told_number_step}
use Rattle.cursor.proofs.Items.{number_step, number_cut}
use Rattle.cursor.proofs.item.number_at.Goals as goal

pub returns-then-n-left_from : goal.returns-then-n-left_from
returns-then-n-left_from c = number_step c.args.payload.now c.args.at _ _ _ c.bytes-n.ensures.0 (omega arith) c.number.ensures

pub returns : goal.returns
returns c =
    let a = c.args in
    ap (told_number_step a.at) c.at.ensures ∙ ap (number_step_of a.at) (sym (number_cut a.payload.now a.at _ (omega arith)))
