-- `salvage::put_span` meets its contract.
use mathlib.Core.Path.{◌≡◌, ap}
use Prim.Native.Nat.{ℕ, suc, ◌+◌}
use native.Mathlib.Omega.{arith}
use lib.ListN.{set, length-set}
use Rattle.salvage.proofs.put_span.Goals as goal

pub returns : goal.returns
returns c =
    let a = c.args in
    let next : a.row + 1 ≡ suc a.row = omega arith in
    ap (λ (k : ℕ). set (set a.spans.now a.row a.place) k a.size) next

pub bounds-spans-row-2 : goal.bounds-spans-row-2
bounds-spans-row-2 c = rw length-set (omega arith)
