-- `cursor::Reader::span` meets its contract: the content lies within the payload.
use mathlib.Core.Path.{refl, ap}
use native.Mathlib.Omega.{arith}
use Rattle.cursor.specs.Span.{SpanStep}
use Rattle.cursor.proofs.Texts.{span-inside}
use Rattle.cursor.proofs.Reader.span.Goals as goal

pub overflow_add-self : goal.overflow_add-self
overflow_add-self c =
    let r = c.args.self.now in
    let i = span-inside r.payload.now r.at _ (ap (λ (s : SpanStep). s.item) c.in_ok-content.ensures) _ _ refl in
    omega arith
