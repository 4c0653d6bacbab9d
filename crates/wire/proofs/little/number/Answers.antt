-- `wire::little::number` meets its contract. The loop goes from the last byte down to the first: `r` is the number of the bytes passed.
use mathlib.Core.Path.{◌≡◌, ap, ◌∙◌}
use mathlib.Core.List.{List}
use Prim.Native.Nat.{ℕ, suc, ◌+◌, ◌*◌, ◌-◌, ◌^◌, ◌≤◌, ◌<◌}
use native.Mathlib.Nat.{sub_self, sub-zero, add-zero}
use native.Mathlib.Omega.{arith}
use lib.ListN.{length, get_or, take, drop}
use Rattle.wire.specs.Little.{little}
use Rattle.wire.proofs.Numbers.{little_step, little-le}
use Rattle.wire.proofs.little.number.Goals.{In-loop-i}
use Rattle.wire.proofs.little.number.Goals as goal

-- one byte more, before those passed
turn : (s : List ℕ) (at n i r : ℕ) → 0 < i → i ≤ n → at + n ≤ length s → r ≡ little (take (n - i) (drop (at + i) s))
    → r * 256 + get_or s (at + (i - 1)) 0 ≡ little (take (n - (i - 1)) (drop (at + (i - 1)) s))
turn s at n i r p q h e =
    let one : n - (i - 1) ≡ suc (n - i) = omega arith in
    let next : suc (at + (i - 1)) ≡ at + i = omega arith in
    let inside : at + (i - 1) < length s = omega arith in
    rw (one, little_step s (at + (i - 1)) (n - i) inside, next, e) (omega arith)

-- what stands passed by before the turn fits with one byte more
room : (c : In-loop-i) → c.loop-i.r < 256 ^ 7
room c =
    let a = c.args in
    let l = c.loop-i in
    rw l.invariant (little-le a.s.now (a.at + l.i) (a.n - l.i) 7 (λ k. omega (arith, c.type_inv.s k)) (omega arith))

pub loop-i-init : goal.loop-i-init
unfolding little
loop-i-init c = rw (sub_self c.args.n)

pub loop-i-preserved : goal.loop-i-preserved
loop-i-preserved c =
    let a = c.args in
    let l = c.loop-i in
    ap (λ (x : ℕ). l.r * 256 + x) c.wide.ensures.0 ∙ turn a.s.now a.at a.n l.i l.r (omega arith) (omega arith) (omega arith) l.invariant

pub returns : goal.returns
returns c =
    let a = c.args in
    let z : c.loop-i.i ≡ 0 = omega arith in
    c.loop-i.invariant ∙ rw (z, sub-zero, add-zero)

pub overflow_mul-r : goal.overflow_mul-r
overflow_mul-r c = omega (arith, room c)

pub overflow_add-r : goal.overflow_add-r
overflow_add-r c = omega (arith, room (goal.at.overflow_add-r c).In-loop-i)
