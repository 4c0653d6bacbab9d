-- `wire::little::signed` meets its contract. A signed local holds bits: `to_z` reads them, and `of_z` writes them.
use mathlib.Core.Path.{◌≡◌, refl, ap, ◌∙◌}
use Prim.Native.Nat.{ℕ, zero, suc, ◌-◌, ◌^◌, ◌<◌}
use native.Mathlib.Nat.{zero-add}
use native.Mathlib.Omega.{arith}
use borrow.Author.Tests.{lt-ltb, le-ltb}
use lib.IntN.{pos, negsuc, ◌-ℤ◌}
use mir.Syntax.{w64}
use mir.Val.{to_z}
use mir.Facts.{to_z_pos, to_z-of_z}
use Rattle.wire.specs.Little.{twos}
use Rattle.wire.proofs.little.signed.Goals.{Else-x-half}
use Rattle.wire.proofs.little.signed.Goals as goal

down : (m : ℕ) → negsuc 0 -ℤ pos m ≡ negsuc m
down zero = refl
down (suc m) = ap (λ (k : ℕ). negsuc (suc k)) (zero-add m)

down-bits : (m : ℕ) → m < 2 ^ 63 → negsuc 0 -ℤ to_z w64 m ≡ negsuc m
down-bits m h = rw (to_z_pos w64 {n = m} h) (down m)

-- the bits that are taken from -1
abbrev gap : Else-x-half → ℕ
gap c = c.args.half - 1 - (c.args.x - c.args.half)

small : (c : Else-x-half) → gap c < 2 ^ 63
small c = omega arith

pub returns-then-x-half : goal.returns-then-x-half
unfolding twos
returns-then-x-half c = to_z_pos w64 {n = c.args.x} (omega arith) ∙ rw (lt-ltb _ _ c.if-x-half.true)

pub returns-else-x-half : goal.returns-else-x-half
unfolding twos
returns-else-x-half c =
    rw (down-bits (gap c) (small c), le-ltb _ _ c.if-x-half.false)
    (to_z-of_z {w = w64} {z = negsuc (gap c)} (record { sfits = small c }) ∙ ap negsuc (omega arith))
