-- `cursor::text_from` meets its contract.
use mathlib.Core.Path.{ap, ◌∙◌}
use mathlib.Core.Bool.{not}
use native.Mathlib.Omega.{arith}
use Rattle.std.proofs.lemmas.Result.{err_from_is_err_and}
use Rattle.cursor.specs.Told.{told_span}
use Rattle.cursor.proofs.Texts.{text-none, span-inside, text_bad, text-good}
use Rattle.cursor.proofs.text_from.Goals as goal

pub returns-in_err-content : goal.returns-in_err-content
returns-in_err-content c =
    let (_, is, same) = err_from_is_err_and c.from_residual.result c.from_residual.ensures.1 in
    rw (is, same) (text-none c.args.payload.now c.args.at _ c.span_from.ensures _ _ (ap told_span c.in_err-content.was))

pub overflow_add-content : goal.overflow_add-content
overflow_add-content c =
    let i = span-inside c.args.payload.now c.args.at _ c.span_from.ensures _ _ (ap told_span c.in_ok-content.was) in
    omega arith

pub valid-requires : goal.valid-requires
valid-requires c =
    let i = span-inside c.args.payload.now c.args.at _ c.span_from.ensures _ _ (ap told_span c.in_ok-content.was) in
    omega arith

pub returns-then-not-valid : goal.returns-then-not-valid
returns-then-not-valid c =
    ap told_span c.at.ensures
    ∙ text_bad c.args.payload.now c.args.at _ c.span_from.ensures _ _ (ap told_span c.in_ok-content.was) _ c.valid.ensures (ap not c.if-not-valid.true)

pub returns : goal.returns
returns c =
    text-good c.args.payload.now c.args.at _ c.span_from.ensures _ _ (ap told_span c.in_ok-content.was) _ c.valid.ensures (ap not c.if-not-valid.false)
