-- `flat::leaf::scalar` meets its contract.
use Prim.Native.Nat.{◌+◌, ◌≤◌}
use native.Mathlib.Omega.{arith}
use lib.ListN.{length}
use Rattle.value.proofs.Spans.{scalar-truth, scalar-other}
use Rattle.flat.proofs.Leaves.{scalar-cut, scalar-at, scalar_bad}
use Rattle.flat.proofs.leaf.scalar.Goals.{else-kind, then-kind+else-p-at-gt1}
use Rattle.flat.proofs.leaf.scalar.Goals as goal

pub returns-then-p-at : goal.returns-then-p-at
returns-then-p-at c = rw c.at.ensures (scalar-cut _ c.args.kind _ _ c.width_of-w.ensures.0 c.if-p-at.true)

pub returns-then-p-at-gt1 : goal.returns-then-p-at-gt1
returns-then-p-at-gt1 c = rw c.at-then-p-at-gt1.ensures (scalar_bad _ c.args.kind _ _ c.width_of-w.ensures.0 (omega arith) c.if-kind.true c.if-p-at-gt1.true)

pub returns : goal.returns
returns c =
    let args = c.args in
    let wide = c.width_of-w in
    let room : args.at + wide.result ≤ length args.p.now = omega arith in
    scalar-at args.p.now args.kind args.at wide.result wide.ensures.0 room
    ((elim c.if-kind.branch [
      | then-kind+else-p-at-gt1 w ↦ scalar-truth args.p.now args.kind args.at wide.result wide.ensures.0 room w.if-kind.true w.if-p-at-gt1.false
      | else-kind w ↦ scalar-other args.p.now args.kind args.at wide.result w.if-kind.false
    ]))
    wide.ensures.1
