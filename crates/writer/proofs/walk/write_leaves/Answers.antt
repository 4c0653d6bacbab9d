-- `writer::walk::write_leaves` meets its contract. The invariant: the rows not yet looked at give the same end.
use mathlib.Core.Path.{refl}
use Prim.Native.Nat.{◌-◌}
use native.Mathlib.Omega.{arith}
use Rattle.walks.proofs.Items.{elements-none, elements-more}
use Rattle.writer.proofs.Steps.{handed, shown-refused, show-deep}
use Rattle.writer.proofs.Composites.{writing-done, writing-ready, writing-stop, writing-on}
use Rattle.writer.proofs.walk.write_leaves.Goals as goal

pub returns-then-depth-eq0 : goal.returns-then-depth-eq0
returns-then-depth-eq0 c =
    let deep = shown-refused _ _ _ _ refl (show-deep _ _ _ _ _ c.if-depth-eq0.true) in
    writing-stop c.loop.invariant (elements-more _ c.loop-test.true) {mid = c.loop.out} deep refl c.at.ensures

pub write_leaf-requires-clause-ready : goal.write_leaf-requires-clause-ready
write_leaf-requires-clause-ready c = writing-ready c.loop.invariant (elements-more _ c.loop-test.true)

pub returns-in_err-past : goal.returns-in_err-past
returns-in_err-past c = writing-stop c.loop.invariant (elements-more _ c.loop-test.true) c.write_leaf.ensures c.in_err-past.was (handed c.from_residual.ensures.1)

pub loop-preserved : goal.loop-preserved
loop-preserved c = writing-on c.loop.invariant (elements-more _ c.loop-test.true) c.write_leaf.ensures c.in_ok-past.was c.write_leaf.auto.out

pub returns : goal.returns
returns c = writing-done c.loop.invariant (elements-none _ (c.args.n - c.loop.counter) (omega (arith, c.loop-test.false)))
