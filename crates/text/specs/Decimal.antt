-- Numbers in decimal, as ASCII codes; and what it means that a text is a number in decimal.
use Rattle.std.specs.Prelude.{◌≡◌, cond, List, [], ◌∷◌, ◌++◌, ℕ, zero, suc, ◌+◌, ◌*◌, ◌-◌, ◌/◌, ◌%◌, ◌≤◌, ◌<◌, ltb, length, get_or}

-- The digits of n, the most significant first, where at most so many are needed.
unfoldable pub digits : (most n : ℕ) → List ℕ
digits zero n = []
digits (suc k) n = cond (ltb n 10) [] (digits k (n / 10)) ++ ((48 + n % 10) ∷ [])

-- The number n in decimal: it never needs more than n + 1 digits.
unfoldable pub decimal : ℕ → List ℕ
decimal n = digits (suc n) n

-- ---- read back

-- The number that digits stand for, after those that gave x.
unfoldable pub decimal_value : (x : ℕ) → List ℕ → ℕ
decimal_value x [] = x
decimal_value x (d ∷ ds) = decimal_value (10 * x + (d - 48)) ds

abbrev pub Digits : List ℕ → Type 0
Digits [] = Unit {0}
Digits (d ∷ ds) = (48 ≤ d) × (d ≤ 57) × Digits ds

-- The text is n in decimal: it has digits only, they give n, and a first digit 0 stands alone.
pub record IsDecimal (n : ℕ) (text : List ℕ) : Type 0 where
  pub value : decimal_value 0 text ≡ n
  pub some : 0 < length text
  pub all : Digits text
  pub first : get_or text 0 0 ≡ 48 → length text ≡ 1
