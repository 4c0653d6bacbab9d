-- A scalar and the answer to a row as numbers in cells, and read back from them.
use Rattle.std.specs.Prelude.{cond, List, [], ◌∷◌, ℕ, zero, suc, ◌-◌, ◌^◌, eqb, ℤ, pos, negsuc, Float, get_or, Result, Ok, Err}
use Rattle.std.specs.Float.{Format, binary32, binary64}
use Rattle.std.specs.Float.Ieee.{is_nan, to_bits, of_bits}
use Rattle.wire.specs.Little.{twos}
use Rattle.scalar.specs.declared.Scalar.{Scalar}
use Rattle.scalar.specs.declared.Scalar.TheVariants.{Truth, Signed, Unsigned, Float32, Float64, Span}
use Rattle.scalar.specs.Answer.{Answer}
use Rattle.scalar.specs.Answer.{Is, Refused}

-- ---- as cells

-- A whole number as the 64 bits of its two's complement. `negsuc n` is -(n + 1).
abbrev pub bits_of : ℤ → ℕ
bits_of (pos n) = n
bits_of (negsuc n) = 2 ^ 64 - suc n

-- A float's own bits, and 0 for a NaN, whose bits are not fixed.
unfoldable pub float_bits : Format → Float → ℕ
float_bits f x = cond (is_nan x) 0 (to_bits f x)

-- Which case it is, and its two numbers. The bits beside a float come first.
abbrev pub value_cells : Scalar → List ℕ
value_cells (Truth b) = 1 ∷ cond b 1 0 ∷ 0 ∷ []
value_cells (Signed z) = 2 ∷ bits_of z ∷ 0 ∷ []
value_cells (Unsigned n) = 3 ∷ n ∷ 0 ∷ []
value_cells (Float32 x bits) = 4 ∷ bits ∷ float_bits binary32 x ∷ []
value_cells (Float64 x bits) = 5 ∷ bits ∷ float_bits binary64 x ∷ []
value_cells (Span place n) = 6 ∷ place ∷ n ∷ []

-- What an answer tells, where what is refused has a number and a place, which may be any.
abbrev pub told_by : {E : Type 0} → (number place : E → ℕ) → Result Scalar E → Answer
told_by number place (Ok x) = Is x
told_by number place (Err e) = Refused (number e) (place e)

-- A scalar: place, then its case and two numbers.
abbrev pub scalar_cells : Answer → List ℕ
scalar_cells (Is x) = 0 ∷ value_cells x
scalar_cells (Refused number place) = place ∷ 0 ∷ 0 ∷ 0 ∷ []

-- ---- read back

-- A scalar, from its case and its two numbers. A whole number is told by the 64 bits of its two's complement, a float by the bits beside it.
abbrev pub value_told : (kind first second : ℕ) → Scalar
value_told kind a b =
    cond (eqb kind 1) (Truth (eqb a 1))
    (cond (eqb kind 2) (Signed (twos (2 ^ 63) a))
    (cond (eqb kind 3) (Unsigned a)
    (cond (eqb kind 4) (Float32 (of_bits binary32 a) a)
    (cond (eqb kind 5) (Float64 (of_bits binary64 a) a)
    (Span a b)))))

abbrev pub scalar_told : (number : ℕ) → List ℕ → Answer
scalar_told zero cells = Is (value_told (get_or cells 1 0) (get_or cells 2 0) (get_or cells 3 0))
scalar_told (suc n) cells = Refused (suc n) (get_or cells 0 0)
