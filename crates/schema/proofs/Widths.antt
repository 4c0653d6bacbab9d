-- The width of each scalar kind is that of its bits, and a bitmap has the fewest bytes that hold a bit for each field.
use mathlib.Core.Path.{◌≡◌, refl, subst}
use mathlib.Core.Logic.{◌↔◌}
use Prim.Native.Nat.{ℕ, zero, suc, ◌*◌, ◌≤◌}
use native.Mathlib.Omega.{arith}
use Rattle.schema.specs.Table.{width, bitmap_bytes}
use Rattle.schema.specs.Widths.{ScalarBits, bool, int8, int16, int32, int64, uint8, uint16, uint32, uint64, float32, float64, WholeBytes}

width_of : (kind bits : ℕ) → ScalarBits kind bits → (1 ≤ kind) × (kind ≤ 11) × (8 * width kind ≡ bits)
width_of kind bits bool = (omega arith, omega arith, refl)
width_of kind bits int8 = (omega arith, omega arith, refl)
width_of kind bits int16 = (omega arith, omega arith, refl)
width_of kind bits int32 = (omega arith, omega arith, refl)
width_of kind bits int64 = (omega arith, omega arith, refl)
width_of kind bits uint8 = (omega arith, omega arith, refl)
width_of kind bits uint16 = (omega arith, omega arith, refl)
width_of kind bits uint32 = (omega arith, omega arith, refl)
width_of kind bits uint64 = (omega arith, omega arith, refl)
width_of kind bits float32 = (omega arith, omega arith, refl)
width_of kind bits float64 = (omega arith, omega arith, refl)

of_width : (kind : ℕ) → 1 ≤ kind → kind ≤ 11 → ScalarBits kind (8 * width kind)
of_width zero p q = absurd (omega arith)
of_width (suc zero) p q = bool
of_width (suc (suc zero)) p q = int8
of_width (suc (suc (suc zero))) p q = int16
of_width (suc (suc (suc (suc zero)))) p q = int32
of_width (suc (suc (suc (suc (suc zero))))) p q = int64
of_width (suc (suc (suc (suc (suc (suc zero)))))) p q = uint8
of_width (suc (suc (suc (suc (suc (suc (suc zero))))))) p q = uint16
of_width (suc (suc (suc (suc (suc (suc (suc (suc zero)))))))) p q = uint32
of_width (suc (suc (suc (suc (suc (suc (suc (suc (suc zero))))))))) p q = uint64
of_width (suc (suc (suc (suc (suc (suc (suc (suc (suc (suc zero)))))))))) p q = float32
of_width (suc (suc (suc (suc (suc (suc (suc (suc (suc (suc (suc zero))))))))))) p q = float64
of_width (suc (suc (suc (suc (suc (suc (suc (suc (suc (suc (suc (suc k)))))))))))) p q = absurd (omega arith)

-- A scalar of kind 1 to 11 has the bits that 01 lists, in whole bytes.
pub width-iff : (kind bits : ℕ) → ScalarBits kind bits ↔ ((1 ≤ kind) × (kind ≤ 11) × (8 * width kind ≡ bits))
width-iff kind bits = (width_of kind bits, λ (p, q, e). subst (ScalarBits kind) e (of_width kind p q))

-- A bitmap is in whole bytes, with a bit for each field.
pub bitmap-iff : (n size : ℕ) → (bitmap_bytes n ≡ size) ↔ WholeBytes n size
bitmap-iff n size = (
  λ e. record { enough = omega arith; fewest = λ k h. omega arith },
  λ w. omega (arith, w.enough, w.fewest (bitmap_bytes n) (omega arith)),
)
