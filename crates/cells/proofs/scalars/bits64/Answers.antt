-- `cells::scalars::bits64` meets its contract, by the laws over the format.
use lib.Ieee.{binary64}
use Rattle.cells.proofs.Bits.{no_nan, bits-nan, bits-own}
use Rattle.cells.proofs.scalars.bits64.Goals as goal

pub returns-then-x : goal.returns-then-x
returns-then-x c = bits-nan binary64 c.args.x c.if-x.true

pub float_to_bits-result : goal.float_to_bits-result
float_to_bits-result c = rw (no_nan c.args.x c.if-x.false) tt

pub returns : goal.returns
returns c = bits-own binary64 c.args.x c.if-x.false
