-- A product modulo 2^64, by the halves of its factors; and the top bits of a number.
use Rattle.std.proofs.Common.{◌≡◌, ℕ, ◌+◌, ◌*◌, ◌/◌, ◌%◌, ◌^◌, ◌<◌, ap, ◌∙◌, lt_of_le_of_lt, le_of_lt, mod-lt, mul-le-mul_left, mul-lt-mul_of_pos_right, div-add-mod', arith, pow_pos, shr_lt}

-- the product of two halves has 64 bits
pub halves_fit : (a b : ℕ) → a < 4294967296 → b < 4294967296 → a * b < 2 ^ 64
halves_fit a b ha hb = lt_of_le_of_lt (mul-le-mul_left a (le_of_lt hb)) (mul-lt-mul_of_pos_right ha (omega arith))

of-halves : (a₁ a₀ b₁ b₀ : ℕ) → ((a₁ * b₀ + a₀ * b₁) % 2 ^ 64 * 2 ^ 32 % 2 ^ 64 + a₀ * b₀) % 2 ^ 64 ≡ (a₁ * 4294967296 + a₀) * (b₁ * 4294967296 + b₀) % 2 ^ 64
of-halves a₁ a₀ b₁ b₀ = omega arith

-- the product, as the code adds it up
pub by_halves : (a b : ℕ) {across : ℕ} → across ≡ (a / 4294967296 * (b % 4294967296) + a % 4294967296 * (b / 4294967296)) % 2 ^ 64
    → (across * 2 ^ 32 % 2 ^ 64 + a % 4294967296 * (b % 4294967296)) % 2 ^ 64 ≡ a * b % 2 ^ 64
by_halves a b e =
    ap (λ (n : ℕ). (n * 2 ^ 32 % 2 ^ 64 + a % 4294967296 * (b % 4294967296)) % 2 ^ 64) e
    ∙ of-halves (a / 4294967296) (a % 4294967296) (b / 4294967296) (b % 4294967296)
    ∙ (λ i. div-add-mod' a 4294967296 i * div-add-mod' b 4294967296 i % 2 ^ 64)

-- the top j of j + k bits
pub top_below : (j k x : ℕ) → x % 2 ^ (j + k) / 2 ^ k < 2 ^ j
top_below j k x = shr_lt j k (mod-lt x (pow_pos (j + k)))
