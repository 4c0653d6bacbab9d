-- Two's complement: a number in the range of its width, and the same number modulo the power of the width.
use mathlib.Core.Path.{◌≡◌, ap}
use mathlib.Core.List.{List}
use Prim.Native.Nat.{ℕ, zero, suc, ◌+◌, ◌-◌, ◌*◌, ◌^◌, ◌≤◌, ◌<◌}
use native.Mathlib.Decide.{dec_lt}
use native.Mathlib.Nat.{pow-succ'}
use native.Mathlib.Omega.{arith}
use borrow.Author.Tests.{lt-ltb, le-ltb, le-leb, ne_eqb}
use lib.Dec.{ltb, le→leb, lt→ltb}
use lib.IntN.{ℤ, pos, negsuc}
use lib.Signed.{le_z_yes, lt_z_yes}
use Rattle.wire.specs.Little.{little, twos}
use Rattle.wire.proofs.Numbers.{little-below, sign-weight}
use Rattle.schema.specs.Table.{width}
use Rattle.scalar.specs.declared.Scalar.TheVariants.{Signed}
use Rattle.scalar.specs.Scalar.{value_of, Content}
use Rattle.scalar.specs.Range.{InRange, IsModulo}
use Rattle.scalar.proofs.Widths.{width-bounds}

-- The sign bit is clear, or it is set.
clear : (half x : ℕ) → x < half → InRange half (pos x) × IsModulo (half + half) (pos x) x
clear zero x h = absurd (omega arith)
clear (suc k) x h = ((le_z_yes tt, lt_z_yes (lt→ltb x (suc k) h)), (0, ap pos (omega arith)))

set : (half x : ℕ) → half ≤ x → x < half + half → InRange half (negsuc (half + half - suc x)) × IsModulo (half + half) (negsuc (half + half - suc x)) x
set zero x h l = absurd (omega arith)
set (suc k) x h l =
    let n = suc k + suc k in
    let e : ltb (1 * n) (suc (n - suc x)) ≡ _ = le-ltb (1 * n) (suc (n - suc x)) (omega arith) in
    ((le_z_yes (le→leb (n - suc x) k (omega arith)), lt_z_yes tt), (1, rw e (ap pos (omega arith))))

-- What x stands for, below twice the weight half of the sign bit.
pub twos-is : (half x : ℕ) → x < half + half → InRange half (twos half x) × IsModulo (half + half) (twos half x) x
unfolding twos
twos-is half x h = elim (dec_lt x half) [
  | yes l ↦ rw (lt-ltb x half l) (clear half x l)
  | no l ↦ rw (le-ltb x half (omega arith)) (set half x (omega arith) h)
]

doubled : (n : ℕ) → 0 < n → 2 ^ n ≡ 2 ^ (n - 1) + 2 ^ (n - 1)
doubled zero h = absurd (omega arith)
doubled (suc n) h =
    let e : suc n - 1 ≡ n = omega arith in
    rw (e, pow-succ' 2 n) (omega arith)

-- An integer of a signed kind, 2 to 5: in the range of its width, and its bytes' number modulo the power of the width.
pub signed_is : (kind : ℕ) → 2 ≤ kind → kind ≤ 5 → (x : List ℕ) → Content kind x
    → (z : ℤ) × (value_of kind x ≡ Signed z) × InRange (2 ^ (8 * width kind - 1)) z × IsModulo (2 ^ (8 * width kind)) z (little x)
unfolding value_of
signed_is kind l h x c =
    let b = width-bounds kind (omega arith) (omega arith) in
    let w = twos-is (2 ^ (8 * width kind - 1)) (little x) (sign-weight (width kind) (little x) b.0 b.1 (little-below x (width kind) c.bytes (omega (arith, c.wide)))).0 in
    (twos (2 ^ (8 * width kind - 1)) (little x), rw (c.wide, ne_eqb kind 1 (omega arith), le-leb kind 5 h), w.0, rw (doubled (8 * width kind) (omega (arith, b.0))) w.1)
