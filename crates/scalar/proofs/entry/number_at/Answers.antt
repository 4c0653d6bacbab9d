-- `scalar::entry::number_at` meets its contract, by the tests that led to each answer.
use mathlib.Core.Bool.{true}
use mathlib.Core.Path.{◌≡◌, sym, ap, ◌∙◌}
use Prim.Native.Nat.{◌+◌, ◌≤◌}
use borrow.Author.Tests.{leb-true}
use lib.ListN.{length}
use Rattle.schema.specs.Table.{width}
use Rattle.scalar.specs.Answer.{Is}
use Rattle.scalar.specs.Told.{told}
use Rattle.scalar.proofs.Answers.{wrong-length, outside, no_truth, number_is}
use Rattle.buffer.specs.Span.{inside}
use Rattle.scalar.proofs.entry.number_at.Goals.{Else-length-width_of, Else-not-is_inside, else-kind, then-kind+else-bytes-place-gt1}
use Rattle.scalar.proofs.entry.number_at.Goals as goal

-- The length is the width.
wide : (c : Else-length-width_of) → c.args.length ≡ width c.args.kind
wide c = c.if-length-width_of.false ∙ c.width_of.ensures.0

pub returns-then-length-width_of : goal.returns-then-length-width_of
returns-then-length-width_of c =
    let a = c.args in
    ap told c.at.ensures ∙ sym (wrong-length a.kind a.place a.length a.bytes.now (λ e. c.if-length-width_of.true (e ∙ sym c.width_of.ensures.0)))

pub returns-then-not-is_inside : goal.returns-then-not-is_inside
returns-then-not-is_inside c =
    let a = c.args in
    ap told c.at-then-not-is_inside.ensures
    ∙ sym (outside a.kind a.place a.length a.bytes.now (wide (goal.at.returns-then-not-is_inside c).Else-length-width_of) (sym c.is_inside.ensures ∙ c.if-not-is_inside.true))

-- The span is inside.
within : (c : Else-not-is_inside) → let a = c.args in inside a.bytes.now a.place a.length ≡ true
within c = sym c.is_inside.ensures ∙ c.if-not-is_inside.false

room : (c : Else-not-is_inside) → let a = c.args in a.place + a.length ≤ length a.bytes.now
room c = leb-true _ _ (within c)

pub returns-then-bytes-place-gt1 : goal.returns-then-bytes-place-gt1
returns-then-bytes-place-gt1 c =
    let t = (goal.at.returns-then-bytes-place-gt1 c).Else-not-is_inside in
    let a = t.args in
    ap told c.at-then-bytes-place-gt1.ensures ∙ sym (no_truth a.kind a.place a.length a.bytes.now (wide (goal.at.returns-then-bytes-place-gt1 c).Else-length-width_of) (within t) c.if-kind.true c.if-bytes-place-gt1.true)

pub returns : goal.returns
returns c =
    let a = c.args in
    ap Is c.value.ensures
    ∙ sym (number_is a.kind a.place a.length a.bytes.now (wide (goal.at.returns c).Else-length-width_of) (within (goal.at.returns c).Else-not-is_inside)
    (λ e. (elim c.if-kind.branch [
      | then-kind+else-bytes-place-gt1 w ↦ w.if-bytes-place-gt1.false
      | else-kind w ↦ absurd (w.if-kind.false e)
    ])))
