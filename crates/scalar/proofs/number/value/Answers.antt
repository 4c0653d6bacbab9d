-- `scalar::number::value` meets its contract, by the tests that led to each answer.
use mathlib.Core.Path.{◌≡◌, sym, ap, ap₂, subst, ◌∙◌}
use mathlib.Core.List.{List}
use Prim.Native.Nat.{ℕ, ◌+◌, ◌-◌, ◌*◌, ◌^◌, ◌<◌, ◌≤◌}
use native.Mathlib.Omega.{arith}
use borrow.Author.Tests.{eq-eqb, ne_eqb, le-leb, lt-leb}
use lib.Ieee.{binary32, binary64, of_bits}
use lib.ListN.{length, take, drop, length-drop}
use lib.Seq.{length-take-le}
use mir.Syntax.{w64}
use mir.Facts.{to_z-of_z}
use Rattle.wire.specs.Little.{little, twos}
use Rattle.scalar.specs.declared.Scalar.TheVariants.{Signed, Unsigned, Float32, Float64}
use Rattle.schema.specs.Table.{width}
use Rattle.scalar.specs.Scalar.{value_of}
use Rattle.wire.proofs.Numbers.{little-le, one_at, sign-weight}
use Rattle.scalar.proofs.number.value.Goals.{After-number-x}
use Rattle.scalar.proofs.number.value.Goals as goal

-- The cases of a kind.
module _ (k : ℕ) (s : List ℕ) where
  signed_is : (k ≡ 1 → ⊥) → k ≤ 5 → value_of k s ≡ Signed (twos (2 ^ (8 * length s - 1)) (little s))
  unfolding value_of
  signed_is n h = rw (ne_eqb k 1 n, le-leb k 5 h)

  unsigned_is : 5 < k → k ≤ 9 → value_of k s ≡ Unsigned (little s)
  unfolding value_of
  unsigned_is n h = rw (ne_eqb k 1 (λ e. omega arith), lt-leb k 5 n, le-leb k 9 h)

  float32-is : k ≡ 10 → value_of k s ≡ Float32 (of_bits binary32 (little s)) (little s)
  unfolding value_of
  float32-is e = rw e

  float64-is : 9 < k → (k ≡ 10 → ⊥) → value_of k s ≡ Float64 (of_bits binary64 (little s)) (little s)
  unfolding value_of
  float64-is h n = rw (ne_eqb k 1 (λ e. omega arith), lt-leb k 5 (omega arith), lt-leb k 9 h, ne_eqb k 10 n)

-- The bytes of the number; what it is; how many they are; and its bound.
abbrev part : (c : After-number-x) → List ℕ
part c = let a = c.args in take (width a.kind) (drop a.place a.s.now)

is : (c : After-number-x) → c.number-x.result ≡ little (part c)
is c = let a = c.args in c.number-x.ensures ∙ ap (λ (w : ℕ). little (take w (drop a.place a.s.now))) c.width_of-w.ensures.0

long : (c : After-number-x) → length (part c) ≡ c.width_of-w.result
long c = let a = c.args in
    length-take-le (width a.kind) (drop a.place a.s.now) (rw length-drop (omega arith)) ∙ sym c.width_of-w.ensures.0

fits : (c : After-number-x) → c.number-x.result < 256 ^ c.width_of-w.result
fits c = let a = c.args in
    rw c.number-x.ensures (little-le a.s.now a.place c.width_of-w.result c.width_of-w.result (λ i. omega (arith, c.type_inv.s i)) (omega arith))

pub returns-then-kind : goal.returns-then-kind
unfolding value_of
returns-then-kind c = rw (is (goal.at.returns-then-kind c).After-number-x, eq-eqb _ _ c.if-kind.true)

pub signed-requires : goal.signed-requires
signed-requires c =
    let w = c.width_of-w.result in
    let x = c.number-x.result in
    subst (λ (half : ℕ). (x < half + half) × (half ≤ 2 ^ 63)) (sym (one_at (8 * w - 1) (omega arith))) (sign-weight w x (omega arith) (omega arith) (fits (goal.at.signed-requires c).After-number-x))

pub returns-then-kind-2 : goal.returns-then-kind-2
returns-then-kind-2 c =
    let n = (goal.at.returns-then-kind-2 c).After-number-x in
    let w = n.width_of-w.result in
    let weight = one_at (8 * w - 1) (omega arith) ∙ ap (λ (k : ℕ). 2 ^ (8 * k - 1)) (sym (long n)) in
    ap Signed (to_z-of_z {w = w64} (record { sfits = c.signed.type_inv }) ∙ c.signed.ensures ∙ ap₂ twos weight (is n))
    ∙ sym (signed_is n.args.kind (part n) c.if-kind.false c.if-kind-2.true)

pub returns-then-kind-3 : goal.returns-then-kind-3
returns-then-kind-3 c =
    let n = (goal.at.returns-then-kind-3 c).After-number-x in
    ap Unsigned (is n) ∙ sym (unsigned_is n.args.kind (part n) (omega arith) (omega arith))

pub overflow_cast-n : goal.overflow_cast-n
overflow_cast-n c =
    let four : c.width_of-w.result ≡ 4 = c.width_of-w.ensures.0 ∙ ap width c.if-kind-4.true in
    record { fits = rw four at (fits (goal.at.overflow_cast-n c).After-number-x) }

pub returns-then-kind-4 : goal.returns-then-kind-4
returns-then-kind-4 c =
    let n = (goal.at.returns-then-kind-4 c).After-number-x in
    ap₂ Float32 (c.float32.ensures ∙ ap (of_bits binary32) (is n)) (is n) ∙ sym (float32-is n.args.kind (part n) c.if-kind-4.true)

pub returns : goal.returns
returns c =
    let n = (goal.at.returns c).After-number-x in
    ap₂ Float64 (c.float64.ensures ∙ ap (of_bits binary64) (is n)) (is n) ∙ sym (float64-is n.args.kind (part n) (omega arith) c.if-kind-4.false)
