-- `frame::payload_place` meets its contract: a VarUInt has ten bytes at most.
use mathlib.Core.Path.{ap}
use Prim.Native.Nat.{ℕ, ◌+◌, ◌≤◌}
use native.Mathlib.Omega.{arith}
use Rattle.wire.proofs.Varuints.{shortest-ten}
use Rattle.frame.proofs.payload_place.Goals.{After-size}
use Rattle.frame.proofs.payload_place.Goals as goal

small : (c : After-size) → c.size.result ≤ 10
small c = rw c.size.ensures (shortest-ten _ (omega arith))

pub overflow_add-result : goal.overflow_add-result
overflow_add-result c = omega (arith, small c)

pub returns : goal.returns
returns c = (ap (λ (n : ℕ). 25 + n) c.size.ensures, omega (arith, small c))
