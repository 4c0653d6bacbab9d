-- `salvage::pieces::in_rest` meets its contract: what is left is as far as it is from the first place, less what was passed.
use mathlib.Core.Path.{sym, ◌∙◌}
use native.Mathlib.Omega.{arith}
use Rattle.salvage.proofs.Turns.{forward-on, forward-found, forward-over}
use Rattle.salvage.proofs.pieces.in_rest.Goals as goal

pub returns-then-is_some : goal.returns-then-is_some
returns-then-is_some c =
    let l = c.loop-i in
    let e = c.entry_length in
    forward-found c.args.bytes.now l.i _ l.invariant e.result e.ensures (sym c.is_some.ensures ∙ c.if-is_some.true)

pub loop-i-preserved : goal.loop-i-preserved
loop-i-preserved c =
    let l = c.loop-i in
    let e = c.entry_length in
    forward-on c.args.bytes.now l.i _ l.invariant e.result e.ensures c.loop-i-test.true (sym c.is_some.ensures ∙ c.if-is_some.false)

pub returns : goal.returns
returns c = omega (arith, forward-over c.args.bytes.now c.loop-i.i _ c.loop-i.invariant c.loop-i-test.false)
