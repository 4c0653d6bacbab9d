-- `scalar::entry::text_at` meets its contract, by the tests that led to each answer.
use mathlib.Core.Bool.{true}
use mathlib.Core.Path.{◌≡◌, sym, ap, ◌∙◌}
use Rattle.utf8.specs.Utf8.{utf8}
use Rattle.scalar.specs.Told.{told}
use Rattle.scalar.proofs.Answers.{text-outside, no-utf8, text-is}
use Rattle.buffer.specs.Span.{span, inside}
use Rattle.buffer.proofs.Spans.{slice-span}
use Rattle.scalar.proofs.entry.text_at.Goals.{After-valid, Else-not-is_inside}
use Rattle.scalar.proofs.entry.text_at.Goals as goal

-- The span is inside.
within : (c : Else-not-is_inside) → let a = c.args in inside a.bytes.now a.place a.length ≡ true
within c = sym c.is_inside.ensures ∙ c.if-not-is_inside.false

-- The verdict is on its bytes.
judged : (c : After-valid) → let a = c.args in c.valid.result ≡ utf8 (span a.bytes.now a.place a.length)
judged c = let a = c.args in c.valid.ensures ∙ ap utf8 (slice-span a.bytes.now a.place a.length)

pub returns-then-not-is_inside : goal.returns-then-not-is_inside
returns-then-not-is_inside c =
    let a = c.args in
    ap told c.at.ensures
    ∙ sym (text-outside a.kind a.place a.length a.bytes.now (sym c.is_inside.ensures ∙ c.if-not-is_inside.true))

pub returns-then-not-valid : goal.returns-then-not-valid
returns-then-not-valid c =
    let a = c.args in
    ap told c.at-then-not-valid.ensures
    ∙ sym (no-utf8 a.kind a.place a.length a.bytes.now (within (goal.at.returns-then-not-valid c).Else-not-is_inside) c.if-kind.true (sym (judged (goal.at.returns-then-not-valid c).After-valid) ∙ c.if-not-valid.true))

pub returns-else-not-valid : goal.returns-else-not-valid
returns-else-not-valid c =
    let a = c.args in
    sym (text-is a.kind a.place a.length a.bytes.now (within (goal.at.returns-else-not-valid c).Else-not-is_inside) (λ e. sym (judged (goal.at.returns-else-not-valid c).After-valid) ∙ c.if-not-valid.false))

pub returns-else-kind : goal.returns-else-kind
returns-else-kind c =
    let a = c.args in
    sym (text-is a.kind a.place a.length a.bytes.now (within (goal.at.returns-else-kind c).Else-not-is_inside) (λ e. absurd (c.if-kind.false e)))
