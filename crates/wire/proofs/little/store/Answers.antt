-- `wire::little::store` meets its contract: the bytes still to be stored, stored, give what all of them give.
use mathlib.Core.Path.{◌≡◌, refl, ◌∙◌}
use mathlib.Core.List.{List}
use Prim.Native.Nat.{ℕ, suc, ◌+◌, ◌-◌, ◌/◌, ◌%◌, ◌<◌}
use native.Mathlib.Nat.{sub-zero, add-zero}
use native.Mathlib.Omega.{arith}
use lib.ListN.{set, length-set}
use lib.Seq.{sets}
use Rattle.buffer.proofs.Stores.{sets-written}
use Rattle.wire.specs.Little.{bytes}
use Rattle.wire.proofs.Numbers.{length-bytes}
use Rattle.wire.proofs.little.store.Goals as goal

-- the first byte of those left, stored
turn : (d : List ℕ) (at n i y : ℕ) → i < n
    → sets (set d (at + i) (y % 256)) (at + (i + 1)) (bytes (n - (i + 1)) (y / 256)) ≡ sets d (at + i) (bytes (n - i) y)
unfolding bytes
turn d at n i y h =
    let one : n - i ≡ suc (n - (i + 1)) = omega arith in
    let next : at + (i + 1) ≡ suc (at + i) = omega arith in
    rw (one, next)

pub loop-i-init : goal.loop-i-init
loop-i-init c = (refl, rw (add-zero, sub-zero))

pub loop-i-preserved : goal.loop-i-preserved
loop-i-preserved c =
    let a = c.args in
    let l = c.loop-i in
    (length-set l.d (a.at + l.i) (l.rest % 256) ∙ l.invariant.0, turn l.d a.at a.n l.i l.rest (omega arith) ∙ l.invariant.1)

pub returns : goal.returns
unfolding bytes
returns c =
    let a = c.args in
    let l = c.loop-i in
    let done : a.n - l.i ≡ 0 = omega arith in
    rw done at l.invariant.1 ∙ sets-written a.d.now a.at (bytes a.n a.x) (rw length-bytes (omega arith))
