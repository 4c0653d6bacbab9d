-- `utf8::skip_pairs` meets its contract: each pair passed is a character of the row UTF8-2.
use mathlib.Core.Path.{◌∙◌}
use native.Mathlib.Omega.{arith}
use Rattle.utf8.specs.Utf8.{rows}
use Rattle.utf8.proofs.Utf8s.{pair-pass}
use mathlib.Core.Bool.{not}
use mathlib.Core.Path.{ap}
use Rattle.utf8.proofs.skip_pairs.Goals as goal

pub loop-i-preserved : goal.loop-i-preserved
unfolding rows
loop-i-preserved c =
    let one = c.within in
    let two = c.within-in-loop-i in
    let l = c in
    let a = l.args in
    (omega arith, pair-pass a.s.now l.loop-i.i a.to one.result two.result (omega arith) (omega arith) one.ensures two.ensures (ap not c.if-not-within.false) ∙ l.loop-i.invariant.1)

pub loop-i-init : goal.loop-i-init
loop-i-init c = c.skip-i.ensures

pub returns-then-not-within : goal.returns-then-not-within
returns-then-not-within c = c.loop-i.invariant

pub returns : goal.returns
returns c = c.loop-i.invariant
