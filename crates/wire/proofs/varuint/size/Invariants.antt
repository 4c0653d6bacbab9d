-- `wire::varuint::size` meets its contract.
use mathlib.Core.Path.{◌≡◌}
use mathlib.Core.List.{List}
use Prim.Native.Nat.{ℕ, ◌+◌}
use lib.ListN.{length}
use Rattle.wire.specs.Varuint.{shortest}
use Rattle.wire.proofs.Varuints.{Rest}
use Rattle.wire.proofs.varuint.size.Given as goal

abbrev pub Same : ℕ → ℕ → List ℕ → Type 0
Same x n l = n + length l ≡ 1 + length (shortest 9 x)

abbrev pub invariant-loop-y : goal.invariant-loop-y
invariant-loop-y l = Rest (Same l.x l.n) l.y

abbrev pub decreases-loop-y : goal.decreases-loop-y
decreases-loop-y l = l.y
