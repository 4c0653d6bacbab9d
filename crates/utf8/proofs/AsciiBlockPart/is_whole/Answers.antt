-- `utf8::AsciiBlockPart::is_whole` meets its contract: ASCII is passed.
use mathlib.Core.Path.{refl, ap}
use mathlib.Core.Bool.{not}
use Prim.Native.Nat.{◌+◌}
use native.Mathlib.Omega.{arith}
use Rattle.utf8.proofs.Asciis.{ascii-pass}
use Rattle.utf8.proofs.AsciiBlockPart.is_whole.Goals as goal

pub returns : goal.returns
returns c =
    let a = c.args in
    (omega arith, λ e to h. ascii-pass 64 a.s.now a.at (a.at + 64) to c.ascii_block.result refl h c.ascii_block.ensures (ap not e))
