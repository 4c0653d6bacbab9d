-- A number in decimal, read from ASCII codes.
use Rattle.std.specs.Prelude.{Bool, Option, Some, None, cond, ◌&&◌, List, [], ◌∷◌, ℕ, ◌+◌, ◌*◌, ◌-◌, leb}

abbrev pub is_digit : ℕ → Bool
is_digit b = leb 48 b && leb b 57

-- The number that digits stand for, after those that gave x; none where a byte is no digit, or where the number has more than 64 bits.
unfoldable pub number_from : (x : ℕ) → List ℕ → Option ℕ
number_from x [] = Some x
number_from x (d ∷ ds) =
    cond (is_digit d) (cond (leb (10 * x + (d - 48)) 18446744073709551615) (number_from (10 * x + (d - 48)) ds) None) None

-- The number that a word stands for; an empty word stands for none.
unfoldable pub parsed_of : List ℕ → Option ℕ
parsed_of [] = None
parsed_of (d ∷ ds) = number_from 0 (d ∷ ds)
