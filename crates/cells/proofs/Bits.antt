-- The bits of a float, by the tests that the code makes.
use mathlib.Core.Path.{◌≡◌, refl}
use mathlib.Core.Bool.{true, false}
use lib.Ieee.{Float, nan, inf, fin, Format, is_nan, ne, to_bits}
use lib.Ieee.Compare.{differs_from_itself, nan_differs}
use Rattle.cells.specs.Scalars.{float_bits}

is-nan : (x : Float) → ne x x ≡ true → x ≡ nan
is-nan x e = differs_from_itself x (rw e tt)

pub no_nan : (x : Float) → ne x x ≡ false → is_nan x ≡ false
unfolding is_nan
no_nan nan e = cc nan_differs
no_nan (inf s) e = refl
no_nan (fin s m e) q = refl

pub bits-nan : (f : Format) (x : Float) → ne x x ≡ true → 0 ≡ float_bits f x
unfolding float_bits is_nan
bits-nan f x e = rw (is-nan x e)

pub bits-own : (f : Format) (x : Float) → ne x x ≡ false → to_bits f x ≡ float_bits f x
unfolding float_bits
bits-own f x e = rw (no_nan x e)
