-- `wire::varuint::write` meets its contract: the groups still to be stored, stored, give what all of them give.
use mathlib.Core.Path.{◌≡◌}
use mathlib.Core.List.{List}
use Prim.Native.Nat.{ℕ, ◌+◌}
use lib.ListN.{length}
use lib.Seq.{sets}
use Rattle.wire.specs.Varuint.{shortest}
use Rattle.wire.proofs.Varuints.{Rest}
use Rattle.wire.proofs.varuint.write.Given as goal

-- storing l from i on gives the length and the list that storing all of them from at on gives
abbrev pub Same : List ℕ → ℕ → ℕ → List ℕ → ℕ → List ℕ → Type 0
Same d₀ at x d i l = (i + length l ≡ at + length (shortest 9 x)) × (sets d i l ≡ sets d₀ at (shortest 9 x))

abbrev pub invariant-loop-y : goal.invariant-loop-y
invariant-loop-y l = (length l.d ≡ length l.initial.d) × Rest (Same l.initial.d l.at l.x l.d l.i) l.y

abbrev pub decreases-loop-y : goal.decreases-loop-y
decreases-loop-y l = l.y
