-- `utf8::AsciiHalfPart::is_whole` meets its contract: ASCII is passed.
use mathlib.Core.Path.{refl, ap}
use mathlib.Core.Bool.{not}
use Prim.Native.Nat.{◌+◌}
use native.Mathlib.Omega.{arith}
use Rattle.utf8.proofs.Asciis.{ascii-pass}
use Rattle.utf8.proofs.AsciiHalfPart.is_whole.Goals as goal

pub returns : goal.returns
returns c =
    let a = c.args in
    (omega arith, λ e to h. ascii-pass 4 a.s.now a.at (a.at + 4) to c.ascii_half.result refl h c.ascii_half.ensures (ap not e))
