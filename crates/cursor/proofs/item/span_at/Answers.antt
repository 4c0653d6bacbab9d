-- `cursor::item::span_at` meets its contract.
use mathlib.Core.Path.{refl, sym, ap, ◌∙◌}
use native.Mathlib.Omega.{arith}
use Rattle.std.proofs.lemmas.Result.{err_from_is_err_and}
use Rattle.cursor.specs.Item.{span_step}
use Rattle.cursor.specs.Told.{told_number_step, told_span_step}
use Rattle.cursor.proofs.Items.{refused-span, long-span, whole-span}
use Rattle.cursor.proofs.item.span_at.Goals as goal

pub returns-in_err-size : goal.returns-in_err-size
returns-in_err-size c =
    let a = c.args in
    let (_, is, same) = err_from_is_err_and c.from_residual.result c.from_residual.ensures.1 in
    rw (is, same) (ap (span_step a.at) (sym (refused-span a.payload.now a.at _ (sym (ap (told_number_step a.at) c.in_err-size.was) ∙ c.varuint_at.ensures) _ _ refl)))

pub returns-then-left_from-size : goal.returns-then-left_from-size
returns-then-left_from-size c =
    let a = c.args in
    ap (told_span_step a.at) c.at.ensures
    ∙ ap (span_step a.at) (sym (long-span a.payload.now a.at _ (sym (ap (told_number_step a.at) c.in_ok-size.was) ∙ c.varuint_at.ensures) _ refl (omega arith)))

pub returns : goal.returns
returns c =
    let a = c.args in
    ap (span_step a.at) (sym (whole-span a.payload.now a.at _ (sym (ap (told_number_step a.at) c.in_ok-size.was) ∙ c.varuint_at.ensures) _ refl (omega arith)))
