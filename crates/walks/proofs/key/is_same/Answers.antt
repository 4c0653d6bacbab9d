-- `walks::key::is_same` meets its contract. The invariant: what is left of the two spans decides.
use Rattle.std.proofs.Common.{arith}
use Rattle.walks.proofs.Keys.{same-short, same-other, same_more}
use Rattle.walks.proofs.key.is_same.Goals as goal

pub returns-then-n-m : goal.returns-then-n-m
returns-then-n-m c = same-short c.args.s.now c.args.a c.args.n c.args.b c.args.m c.requires.0 c.requires.1 c.if-n-m.true

pub returns-then-s-a : goal.returns-then-s-a
returns-then-s-a c =
    let args = c.args in
    let asked = c.requires in
    let if1 = c.if-n-m in
    same-other args.s.now args.a args.n args.b args.m asked.0 asked.1 if1.false _ _ c.loop-i.invariant.0
    c.loop-i-test.true c.if-s-a.true

pub loop-i-preserved : goal.loop-i-preserved
loop-i-preserved c =
    let args = c.args in
    let asked = c.requires in
    let if1 = c.if-n-m in
    (same_more args.s.now args.a args.n args.b args.m asked.0 asked.1 if1.false _ _ c.loop-i.invariant.0 c.loop-i-test.true c.if-s-a.false, omega arith)
