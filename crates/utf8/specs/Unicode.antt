-- Unicode scalar values and their encoding by section 3 of RFC 3629: a second statement of UTF-8, beside the table of its section 4.
use Rattle.std.specs.Prelude.{ℕ, zero, suc, ◌+◌, ◌/◌, ◌%◌, ◌^◌, List, [], ◌∷◌, ◌++◌, Bool, ◌&&◌, ◌||◌, cond, T, ltb, leb, get_or}

-- The number x is a scalar value: at most 10FFFF, and no surrogate (D800 to DFFF).
unfoldable pub is_scalar : ℕ → Bool
is_scalar x = ltb x 0xD800 || (leb 0xE000 x && leb x 0x10FFFF)

-- How many of the limits, which rise, x is above.
unfoldable pub limits_below : List ℕ → ℕ → ℕ
limits_below [] x = 0
limits_below (l ∷ ls) x = cond (leb x l) 0 (suc (limits_below ls x))

-- How many bytes follow the first: no more than are needed.
abbrev pub following : ℕ → ℕ
following x = limits_below (0x7F ∷ 0x7FF ∷ 0xFFFF ∷ []) x

-- The fixed bits of the first byte, by how many follow: 0xxxxxxx, 110xxxxx, 1110xxxx, 11110xxx.
abbrev pub mark : ℕ → ℕ
mark n = get_or (0x00 ∷ 0xC0 ∷ 0xE0 ∷ 0xF0 ∷ []) n 0

-- The n lowest groups of six bits, the highest first, each as 10xxxxxx.
unfoldable pub sixes : ℕ → ℕ → List ℕ
sixes zero x = []
sixes (suc n) x = (0x80 + x / 64 ^ n % 64) ∷ sixes n x

-- The bytes of x, with n after the first.
unfoldable pub encode_in : ℕ → ℕ → List ℕ
unfolding sixes
encode_in n x = (mark n + x / 64 ^ n) ∷ sixes n x

abbrev pub encode : ℕ → List ℕ
encode x = encode_in (following x) x

-- The bytes s are the scalar values xs, encoded one after the other.
pub data Encoded : List ℕ → List ℕ → Type 0 where
  none : Encoded [] []
  scalar : (x : ℕ) (xs s : List ℕ) → T (is_scalar x) → Encoded xs s → Encoded (x ∷ xs) (encode x ++ s)
