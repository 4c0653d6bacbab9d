-- `wire::varuint::read_more` meets its contract: `value` holds the groups passed, and the next one weighs `weight`.
use mathlib.Core.Path.{◌≡◌, refl, sym, ap, ◌∙◌}
use Prim.Native.Nat.{ℕ, suc, ◌+◌, ◌-◌, ◌*◌, ◌^◌, ◌≤◌, ◌<◌}
use native.Mathlib.Nat.{add-zero, pow-le-pow_right, pow-suc, mul-le-mul_right, lt_of_lt_of_le}
use native.Mathlib.Omega.{arith}
use borrow.Author.Tests.{eq-eqb, ne_eqb}
use lib.Dec.{lit<}
use lib.ListN.{length, drop}
use Rattle.wire.specs.Varuint.{VarUInt, Cut, before, groups}
use Rattle.wire.proofs.Varuints.{with_low, with-low-first, with-low-more, full, groups-cut, last_bad, last-good, one-group, tenth-group, tenth-above, more-groups}
use Rattle.wire.proofs.varuint.read_more.Goals.{At-loop-i}
use Rattle.wire.proofs.varuint.read_more.Goals as goal

-- a group below n fits
fits : (c : At-loop-i) (n b k : ℕ) → b < n → 10 ≤ (9 - c.loop-i.i) + k → c.loop-i.value + c.loop-i.weight * b < 128 ^ k * n
fits c n b k h le =
    let low : 128 ^ (1 + c.loop-i.i) ≤ 128 ^ k = pow-le-pow_right (lit< tt) (omega arith) in
    let up : c.loop-i.weight * n ≤ 128 ^ k * n = rw c.loop-i.invariant.1.1 (mul-le-mul_right n low) in
    lt_of_lt_of_le (full n c.loop-i.value c.loop-i.weight b c.loop-i.invariant.1.0 h) up

-- r is what is read from the first group on
abbrev Read : At-loop-i → VarUInt → Type 0
Read c r = let a = c.args in r ≡ before a.first (groups 9 (drop a.at a.s.now) a.at)

-- from what is read at a place of the loop
at : (c : At-loop-i) (r : VarUInt) → r ≡ groups (9 - c.loop-i.i) (drop (c.args.at + c.loop-i.i) c.args.s.now) (c.args.at + c.loop-i.i)
    → Read c (with_low c.loop-i.value c.loop-i.weight r)
at c r e = ap (with_low c.loop-i.value c.loop-i.weight) e ∙ c.loop-i.invariant.2

cut : (c : At-loop-i) → length c.args.s.now ≤ (c.args.at + c.loop-i.i) → Read c Cut
cut c h =
    let s = c.args.s.now in
    let one : (9 - c.loop-i.i) ≡ suc ((9 - c.loop-i.i) - 1) = omega arith in
    at c Cut (sym (ap (λ (k : ℕ). groups k (drop (c.args.at + c.loop-i.i) s) (c.args.at + c.loop-i.i)) one ∙ groups-cut ((9 - c.loop-i.i) - 1) s (c.args.at + c.loop-i.i) h))

-- behind the loop eight groups are passed
at_end : (c : At-loop-i) (r : VarUInt) → c.loop-i.i ≡ 8 → r ≡ groups 1 (drop (c.args.at + 8) c.args.s.now) (c.args.at + 8) → Read c (with_low c.loop-i.value c.loop-i.weight r)
at_end c r z e = at c r (rw z e)

pub loop-i-init : goal.loop-i-init
loop-i-init c = let a = c.args in (λ z. absurd (omega arith), (omega arith, refl), rw add-zero (with-low-first a.first (groups 9 (drop a.at a.s.now) a.at)))

pub loop-i-preserved : goal.loop-i-preserved
loop-i-preserved c =
    let l = (goal.at.loop-i-preserved c).At-loop-i in
    let a = l.args in
    let i = l.loop-i.i in
    let v = l.loop-i.value in
    let w = c.wide-b in
    let weight : 1 + (i + 1) ≡ suc (1 + i) = omega arith in
    let left : 9 - (i + 1) ≡ 9 - i - 1 = omega arith in
    let place : a.at + (i + 1) ≡ a.at + i + 1 = omega arith in (
      λ _. omega arith,
      (full 128 v l.loop-i.weight (w.result - 128) l.loop-i.invariant.1.0 (omega arith), rw (weight, l.loop-i.invariant.1.1) (sym (pow-suc 128 (1 + i)))),
      rw (left, place)
          (with-low-more v l.loop-i.weight (w.result - 128) (groups (9 - i - 1) (drop (a.at + i + 1) a.s.now) (a.at + i + 1))
          ∙ at l _ (more-groups a.s.now (a.at + i) w.result (omega arith) w.ensures.0 (9 - i) (omega arith) (omega arith))),
    )

pub returns-then-b-eq0 : goal.returns-then-b-eq0
returns-then-b-eq0 c =
    let l = (goal.at.returns-then-b-eq0 c).At-loop-i in
    let w = c.wide-b in
    at l _ (last_bad w.result (l.args.at + l.loop-i.i) (eq-eqb w.result _ c.if-b-eq0.true) ∙ one-group l.args.s.now (l.args.at + l.loop-i.i) w.result (omega arith) w.ensures.0 (9 - l.loop-i.i) (omega arith) (omega arith))

pub returns-then-b-lt-CONTINUATION : goal.returns-then-b-lt-CONTINUATION
returns-then-b-lt-CONTINUATION c =
    let l = (goal.at.returns-then-b-lt-CONTINUATION c).At-loop-i in
    let w = c.wide-b in
    at l _ (last-good w.result (l.args.at + l.loop-i.i) (ne_eqb w.result _ c.if-b-eq0.false) ∙ one-group l.args.s.now (l.args.at + l.loop-i.i) w.result (omega arith) w.ensures.0 (9 - l.loop-i.i) (omega arith) (omega arith))

pub returns-then-b-eq0-2 : goal.returns-then-b-eq0-2
returns-then-b-eq0-2 c =
    let l = (goal.at.returns-then-b-eq0-2 c).At-loop-i in
    let w = c.wide-b-2 in
    at_end l _ (omega arith) (last_bad w.result (l.args.at + 8) (eq-eqb w.result _ c.if-b-eq0-2.true) ∙ tenth-group l.args.s.now (l.args.at + 8) w.result (omega arith) w.ensures.0 1 refl (omega arith))

pub returns-then-b-lt-TENTH_LIMIT : goal.returns-then-b-lt-TENTH_LIMIT
returns-then-b-lt-TENTH_LIMIT c =
    let l = (goal.at.returns-then-b-lt-TENTH_LIMIT c).At-loop-i in
    let w = c.wide-b-2 in
    at_end l _ (omega arith) (last-good w.result (l.args.at + 8) (ne_eqb w.result _ c.if-b-eq0-2.false) ∙ tenth-group l.args.s.now (l.args.at + 8) w.result (omega arith) w.ensures.0 1 refl (omega arith))

pub returns : goal.returns
returns c =
    let l = (goal.at.returns c).At-loop-i in
    let w = c.wide-b-2 in
    at_end l _ (omega arith) (tenth-above l.args.s.now (l.args.at + 8) w.result (omega arith) w.ensures.0 1 refl (omega arith))

pub returns-then-s-at : goal.returns-then-s-at
returns-then-s-at c = cut (goal.at.returns-then-s-at c).At-loop-i c.if-s-at.true

pub overflow_mul-result : goal.overflow_mul-result
overflow_mul-result c = omega (arith, fits (goal.at.overflow_mul-result c).At-loop-i 128 c.wide-b.result 8 (omega arith) (omega arith))

pub overflow_add-result : goal.overflow_add-result
overflow_add-result c = omega (arith, fits (goal.at.overflow_add-result c).At-loop-i 128 c.wide-b.result 8 (omega arith) (omega arith))

pub overflow_mul-value : goal.overflow_mul-value
overflow_mul-value c = omega (arith, fits (goal.at.overflow_mul-value c).At-loop-i 128 (c.wide-b.result - 128) 8 (omega arith) (omega arith))

pub overflow_add-value : goal.overflow_add-value
overflow_add-value c = omega (arith, fits (goal.at.overflow_add-value c).At-loop-i 128 (c.wide-b.result - 128) 8 (omega arith) (omega arith))

pub overflow_mul-weight : goal.overflow_mul-weight
overflow_mul-weight c = omega (arith, fits (goal.at.overflow_mul-weight c).At-loop-i 128 127 8 (omega arith) (omega arith))

pub returns-then-s-last : goal.returns-then-s-last
returns-then-s-last c = let z : c.loop-i.i ≡ 8 = omega arith in cut (goal.at.returns-then-s-last c).At-loop-i (rw z c.if-s-last.true)

pub overflow_mul-result-then-b-lt-TENTH_LIMIT : goal.overflow_mul-result-then-b-lt-TENTH_LIMIT
overflow_mul-result-then-b-lt-TENTH_LIMIT c = omega (arith, fits (goal.at.overflow_mul-result-then-b-lt-TENTH_LIMIT c).At-loop-i 2 c.wide-b-2.result 9 (omega arith) (omega arith))

pub overflow_add-result-then-b-lt-TENTH_LIMIT : goal.overflow_add-result-then-b-lt-TENTH_LIMIT
overflow_add-result-then-b-lt-TENTH_LIMIT c = omega (arith, fits (goal.at.overflow_add-result-then-b-lt-TENTH_LIMIT c).At-loop-i 2 c.wide-b-2.result 9 (omega arith) (omega arith))
