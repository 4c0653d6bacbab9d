-- `index::judge::is_rising` meets its contract: what is left rises exactly where all rows do.
use mathlib.Core.Path.{◌≡◌}
use Prim.Native.Nat.{◌+◌, ◌-◌}
use native.Mathlib.Omega.{arith}
use Rattle.index.proofs.Shapes.{rising-first, rising-turn, rising-fault, rising-end}
use Rattle.index.proofs.judge.is_rising.Goals as goal

pub loop-next-init : goal.loop-next-init
loop-next-init c = rising-first c.args.n c.args.index.now

pub returns-then-not-is_before : goal.returns-then-not-is_before
returns-then-not-is_before c =
    let l = c.loop-next in
    let a = c.args in
    rising-fault a.n (l.next - 1) a.index.now l.invariant (omega arith) c.is_before.result c.is_before.ensures c.if-not-is_before.true

pub loop-next-preserved : goal.loop-next-preserved
loop-next-preserved c =
    let l = c.loop-next in
    let a = c.args in
    let next : l.next + 1 - 1 ≡ l.next - 1 + 1 = omega arith in
    rw next (rising-turn a.n (l.next - 1) a.index.now l.invariant (omega arith) c.is_before.result c.is_before.ensures c.if-not-is_before.false)

pub returns : goal.returns
returns c = let l = c.loop-next in rising-end c.args.n (l.next - 1) c.args.index.now l.invariant (omega (arith, c.loop-next-test.false))
