-- `buffer::put_span` meets its contract: the bytes still to be put give what all of them give.
use mathlib.Core.Path.{refl, sym, ◌∙◌}
use native.Mathlib.Omega.{arith}
use lib.ListN.{length-set}
use Rattle.buffer.proofs.Stores.{span-first, span-turn, span-done, put-past}
use Rattle.buffer.proofs.put_span.Goals as goal

pub loop-i-init : goal.loop-i-init
loop-i-init c = let args = c.args in (span-first args.out.now args.pos args.source.now args.from c.min-m.result, refl)

pub loop-i-preserved : goal.loop-i-preserved
loop-i-preserved c =
    let args = c.args in
    let loop = c.loop-i in
    (span-turn loop.out args.pos args.source.now args.from _ loop.i (omega arith) (omega arith) ∙ loop.invariant.0, simp length-set loop.invariant.1)

pub returns-after-loop-i : goal.returns-after-loop-i
returns-after-loop-i c =
    let args = c.args in
    span-done _ args.pos args.source.now args.from _ _ _ _ c.loop-i.invariant.0 (omega arith) (omega arith) c.requires (λ q. omega arith)

pub returns-else-pos-out : goal.returns-else-pos-out
returns-else-pos-out c = sym (put-past _ _ _ c.if-pos-out.false)
