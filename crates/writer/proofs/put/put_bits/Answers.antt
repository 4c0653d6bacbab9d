-- `writer::put::put_bits` meets its contract: the bytes still to be put give what all of them give.
use mathlib.Core.Path.{◌∙◌}
use native.Mathlib.Omega.{arith}
use Rattle.writer.proofs.Puts.{bits-turn, bits-done}
use Rattle.writer.proofs.put.put_bits.Goals as goal

pub loop-i-preserved : goal.loop-i-preserved
loop-i-preserved c =
    let loop = c.loop-i in
    let loop-test = c.loop-i-test in
    let put_byte = c.put_byte in
    (bits-turn _ _ _ _ _ _ _ loop.invariant.0 loop-test.true _ put_byte.ensures, omega arith, put_byte.auto.out ∙ loop.invariant.2)

pub returns : goal.returns
returns c = bits-done _ _ _ _ _ _ _ c.loop-i.invariant.0 c.loop-i-test.false _ c.further.ensures
