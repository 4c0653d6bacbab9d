-- A signed number by its sign: below zero, -1 less the number; else the number itself.
use mathlib.Core.Path.{◌≡◌, refl, ap}
use mathlib.Core.Bool.{true, false}
use Prim.Native.Nat.{suc}
use native.Mathlib.Omega.{arith}
use borrow.Author.Tests.{le-ltb, ltb-true}
use lib.IntN.{ℤ, pos, negsuc, ◌-ℤ◌}
use lib.Signed.{mag, lt_z}

pub below-zero : (z : ℤ) → lt_z z (pos 0) ≡ true → negsuc 0 -ℤ z ≡ pos (mag z)
below-zero (pos n) e = absurd (omega (arith, ltb-true n 0 e))
below-zero (negsuc n) e = rw (le-ltb (suc n) 1 (omega arith)) (ap pos (omega arith))

pub from_zero : (z : ℤ) → lt_z z (pos 0) ≡ false → z ≡ pos (mag z)
from_zero (pos n) e = refl
from_zero (negsuc n) e = cc
