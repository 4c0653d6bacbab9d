-- `scalar::float::float32` meets its contract, by the laws over the format.
use mathlib.Core.Path.{sym, ◌∙◌}
use lib.Ieee.{binary32}
use Rattle.scalar.proofs.Floats.{at-nan, no_nan, zero_by_zero}
use Rattle.scalar.proofs.float.float32.Goals as goal

pub returns-then-n-gt-INFINITY_32 : goal.returns-then-n-gt-INFINITY_32
returns-then-n-gt-INFINITY_32 c = zero_by_zero binary32 ∙ sym (at-nan binary32 c.args.n c.if-n-gt-INFINITY_32.true)

pub float_from_bits-result : goal.float_from_bits-result
float_from_bits-result c = no_nan binary32 c.args.n c.if-n-gt-INFINITY_32.false
