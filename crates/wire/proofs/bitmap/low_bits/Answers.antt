-- `wire::bitmap::low_bits` meets its contract: a mask of n set digits keeps the remainder by 2 ^ n.
use mathlib.Core.Path.{sym}
use Prim.Native.Nat.{◌<◌}
use native.Mathlib.Nat.{mod-eq_of_lt}
use native.Mathlib.Omega.{arith}
use lib.Bits.{and_mask}
use Rattle.wire.proofs.Numbers.{one_at}
use Rattle.wire.proofs.bitmap.low_bits.Goals.{Else-n-eq-WORD_BITS}
use Rattle.wire.proofs.bitmap.low_bits.Goals as goal

below : (c : Else-n-eq-WORD_BITS) → c.args.n < 64
below c = omega arith

pub returns-then-n-eq-WORD_BITS : goal.returns-then-n-eq-WORD_BITS
returns-then-n-eq-WORD_BITS c = rw c.if-n-eq-WORD_BITS.true (sym (mod-eq_of_lt c.ranges.x.fits))

pub returns : goal.returns
returns c = rw (one_at c.args.n (below c)) (and_mask c.args.x c.args.n)
