-- `utf8::skip_row` meets its contract: what is passed are characters of the row.
use mathlib.Core.Path.{refl, sym, ◌∙◌}
use native.Mathlib.Omega.{arith}
use Rattle.utf8.proofs.Utf8s.{row-size, row-pass, row-none, row-short}
use Rattle.utf8.proofs.skip_row.Goals as goal

pub returns-then-not-is_char : goal.returns-then-not-is_char
returns-then-not-is_char c =
    let l = c in
    let a = l.args in
    let w = c.is_char in (
      l.loop-i.invariant.0,
      l.loop-i.invariant.1,
      λ e. row-none a.s.now l.loop-i.i a.from a.to a.row e (omega arith) (sym w.ensures ∙ c.if-not-is_char.true),
    )

pub loop-i-preserved : goal.loop-i-preserved
loop-i-preserved c =
    let l = c in
    let p = l.before in
    let a = p.args in
    let w = c.is_char in (
      omega arith,
      row-pass a.s.now l.loop-i.i a.to a.row p.requires.1 (omega arith) (sym w.ensures ∙ c.if-not-is_char.false) ∙ l.loop-i.invariant.1,
    )

pub returns : goal.returns
returns c =
    let l = c in
    let p = l.before in
    let a = p.args in
    (l.loop-i.invariant.0, l.loop-i.invariant.1, λ e. row-short a.s.now a.from a.to a.row p.requires.1 p.requires.0.1 (omega arith))

pub loop-i-init : goal.loop-i-init
loop-i-init c = (omega arith, refl)

pub is_char-requires : goal.is_char-requires
is_char-requires c = (row-size _ c.requires.1, omega arith)

pub loop-i-smaller : goal.loop-i-smaller
loop-i-smaller c = omega (arith, row-size _ c.requires.1)
