-- `scalar::float::float64` meets its contract, by the laws over the format.
use mathlib.Core.Path.{sym, ◌∙◌}
use lib.Ieee.{binary64}
use Rattle.scalar.proofs.Floats.{at-nan, no_nan, zero_by_zero}
use Rattle.scalar.proofs.float.float64.Goals as goal

pub returns-then-n-gt-INFINITY_64 : goal.returns-then-n-gt-INFINITY_64
returns-then-n-gt-INFINITY_64 c = zero_by_zero binary64 ∙ sym (at-nan binary64 c.args.n c.if-n-gt-INFINITY_64.true)

pub float_from_bits-result : goal.float_from_bits-result
float_from_bits-result c = no_nan binary64 c.args.n c.if-n-gt-INFINITY_64.false
