-- `utf8::skip_ascii` meets its contract: each byte passed is a character of the row UTF8-1.
use mathlib.Core.Path.{sym, ◌∙◌}
use native.Mathlib.Omega.{arith}
use Rattle.utf8.specs.Utf8.{rows}
use Rattle.utf8.proofs.Asciis.{byte-pass}
use Rattle.utf8.proofs.skip_ascii.Goals as goal

pub loop-i-init : goal.loop-i-init
loop-i-init c = (omega arith, c.skip-i-3.ensures.1 ∙ c.skip-i-2.ensures.1 ∙ c.skip-i.ensures.1)

pub loop-i-preserved : goal.loop-i-preserved
unfolding rows
loop-i-preserved c =
    let w = c.within in
    let l = c in
    let a = l.args in
    (omega arith, byte-pass a.s.now l.loop-i.i a.to (omega arith) (omega arith) (sym w.ensures ∙ c.if-not-within.false) ∙ l.loop-i.invariant.1)

pub returns-then-not-within : goal.returns-then-not-within
returns-then-not-within c = c.loop-i.invariant

pub returns : goal.returns
returns c = c.loop-i.invariant
