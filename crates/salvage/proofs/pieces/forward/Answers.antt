-- `salvage::pieces::forward` meets its contract: what is left is as far as it is from the start, less the blocks that were passed.
use mathlib.Core.Path.{◌∙◌}
use native.Mathlib.Omega.{arith}
use Rattle.salvage.proofs.Turns.{forward-past}
use Rattle.salvage.proofs.pieces.forward.Goals as goal

pub loop-i-preserved : goal.loop-i-preserved
loop-i-preserved c =
    let l = c.loop-i in
    let a = c.args in
    (omega arith, forward-past a.bytes.now l.i _ l.invariant.1 32 (omega (arith, c.within_block-next.ensures, c.if-next-i.false)))

pub loop-i-init : goal.loop-i-init
loop-i-init c = (omega arith, omega arith)

pub returns-then-next-i : goal.returns-then-next-i
returns-then-next-i c = omega (arith, c.within_block-next.ensures, c.if-next-i.true, c.loop-i.invariant.1)

pub returns : goal.returns
returns c = c.in_rest.ensures ∙ c.loop-i.invariant.1
