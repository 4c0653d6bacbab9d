-- `utf8::ascii_half` meets its contract: the mask holds the top bits of four bytes.
use native.Mathlib.Omega.{arith}
use Rattle.utf8.proofs.Asciis.{tops-at}
use Rattle.utf8.proofs.ascii_half.Goals as goal

pub returns : goal.returns
returns c =
    let a = c.args in
    tops-at 4 a.s.now a.at c.number.result (λ i. omega (arith, c.type_inv.s i)) (omega arith) c.number.ensures
