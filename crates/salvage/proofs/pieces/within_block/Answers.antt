-- `salvage::pieces::within_block` meets its contract: what is left is as far as it is from the first place, less what was passed.
use mathlib.Core.Path.{sym, ◌∙◌}
use native.Mathlib.Omega.{arith}
use Rattle.salvage.proofs.Magics.{block-passed, start-found, start-passed}
use Rattle.salvage.proofs.pieces.within_block.Goals as goal

pub returns-then-not-has_magics : goal.returns-then-not-has_magics
returns-then-not-has_magics c =
    let m = c.has_magics in
    let a = c.args in
    block-passed a.bytes.now a.from 32 (sym m.ensures ∙ c.if-not-has_magics.true) (omega arith)

pub returns-then-starts : goal.returns-then-starts
returns-then-starts c =
    let l = c.loop-i in
    let r = c.starts in
    omega (arith, start-found c.args.bytes.now l.i _ l.invariant r.result r.ensures c.if-starts.true)

pub loop-i-preserved : goal.loop-i-preserved
loop-i-preserved c =
    let l = c.loop-i in
    let r = c.starts in
    start-passed c.args.bytes.now l.i _ l.invariant r.result r.ensures (omega arith) c.if-starts.false
