-- `wire::varuint::size` meets its contract.
use mathlib.Core.Path.{refl}
use Prim.Native.Nat.{◌+◌}
use native.Mathlib.Omega.{arith}
use Rattle.wire.specs.Varuint.{varuint_bytes}
use Rattle.wire.proofs.Varuints.{rest_more, rest-done, shortest-le}
use Rattle.wire.proofs.varuint.size.Invariants.{Same}
use Rattle.wire.proofs.varuint.size.Goals as goal

pub loop-y-init : goal.loop-y-init
loop-y-init c = (9, omega arith, refl)

pub loop-y-preserved : goal.loop-y-preserved
loop-y-preserved c =
    let x = c.args.x in
    let l = c.loop-y in
    rest_more (Same x l.n) (Same x (l.n + 1)) l.y (λ r p. omega arith) c.loop-y-test.true l.invariant

pub returns : goal.returns
unfolding varuint_bytes
returns c =
    let l = c.loop-y in
    let last = rest-done (Same c.args.x l.n) l.y (omega arith) l.invariant in
    omega arith

pub overflow_add-n : goal.overflow_add-n
overflow_add-n c = omega (arith, shortest-le 9 c.args.x (omega arith))
