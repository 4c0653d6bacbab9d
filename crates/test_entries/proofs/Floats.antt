-- A float that equals itself is no NaN.
use mathlib.Core.Path.{◌≡◌, sym, subst}
use mathlib.Core.Bool.{true, not}
use lib.Dec.{T}
use lib.Ieee.{Float, nan, inf, fin, eq, is_nan}

pub equal-number : (x : Float) → eq x x ≡ true → T (not (is_nan x))
unfolding eq is_nan
equal-number nan e = subst T (sym e) tt
equal-number (inf s) e = tt
equal-number (fin s m e) h = tt
