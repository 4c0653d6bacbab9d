-- `utf8::pair_word` meets its contract: the masks are the row's test, four times.
use mathlib.Core.Path.{ap, ◌∙◌}
use mathlib.Core.Bool.{◌&&◌}
use Prim.Native.Nat.{ℕ}
use native.Mathlib.Omega.{arith}
use lib.Bits.{and_le_r}
use lib.ListN.{take, drop, length-drop}
use lib.Seq.{length-take-le}
use Rattle.wire.proofs.Numbers.{bytes_drop, bytes_take}
use Rattle.utf8.proofs.Pairs.{shapes, carries, word-pairs}
use Rattle.utf8.proofs.pair_word.Goals as goal

pub returns : goal.returns
returns c =
    let a = c.args in
    let rest = drop a.at a.s.now in
    ap (λ (w : ℕ). shapes 4 w && carries 4 w) c.number-w.ensures
    ∙ word-pairs 4 (take 8 rest) (bytes_take 8 rest (bytes_drop a.s.now a.at (λ i. omega (arith, c.type_inv.s i))))
    (length-take-le 8 rest (rw length-drop (omega arith)))

pub overflow_add-low : goal.overflow_add-low
overflow_add-low c = omega (arith, and_le_r c.number-w.result 0x001E001E001E001E)
