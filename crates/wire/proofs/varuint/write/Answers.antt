-- `wire::varuint::write` meets its contract: the groups still to be stored, stored, give what all of them give.
use mathlib.Core.Path.{refl, ◌∙◌}
use Prim.Native.Nat.{◌+◌, ◌%◌, ◌<◌}
use native.Mathlib.Numerals.{add-one}
use native.Mathlib.Omega.{arith}
use lib.ListN.{length, set, length-set}
use Rattle.buffer.proofs.Stores.{sets-written}
use Rattle.wire.specs.Varuint.{shortest, varuint_bytes}
use Rattle.wire.proofs.Varuints.{rest_more, rest-done, shortest-pos}
use Rattle.wire.proofs.varuint.write.Invariants.{Same}
use Rattle.wire.proofs.varuint.write.Goals.{At-loop-y}
use Rattle.wire.proofs.varuint.write.Goals as goal

-- a group is left, and there is room for it
inside : (c : At-loop-y) → c.loop-y.i < length c.loop-y.d
unfolding varuint_bytes
inside c =
    let r = c.loop-y.invariant.1 in
    omega (arith, shortest-pos r.0 c.loop-y.y r.1)

pub loop-y-init : goal.loop-y-init
loop-y-init c = (refl, (9, omega arith, (refl, refl)))

pub bounds-d-i : goal.bounds-d-i
bounds-d-i c = inside (goal.at.bounds-d-i c).At-loop-y

pub loop-y-preserved : goal.loop-y-preserved
loop-y-preserved c =
    let a = c.args in
    let l = c.loop-y in (
      length-set l.d l.i (l.y % 128 + 128) ∙ l.invariant.0,
      rest_more (Same a.d.now a.at a.x l.d l.i) (Same a.d.now a.at a.x (set l.d l.i (l.y % 128 + 128)) (l.i + 1)) l.y
          (λ r p. (omega arith, rw add-one p.1))
          c.loop-y-test.true
          l.invariant.1,
    )

pub bounds-d-i-2 : goal.bounds-d-i-2
bounds-d-i-2 c = inside (goal.at.bounds-d-i-2 c).At-loop-y

pub returns : goal.returns
unfolding varuint_bytes
returns c =
    let a = c.args in
    let l = c.loop-y in
    let last = rest-done (Same a.d.now a.at a.x l.d l.i) l.y (omega arith) l.invariant.1 in
    (omega arith, last.1 ∙ sets-written a.d.now a.at (shortest 9 a.x) (omega arith))

pub overflow_add-i : goal.overflow_add-i
overflow_add-i c = let i = inside (goal.at.overflow_add-i c).At-loop-y in omega arith

pub overflow_add-result : goal.overflow_add-result
overflow_add-result c = let i = inside (goal.at.overflow_add-result c).At-loop-y in omega arith
