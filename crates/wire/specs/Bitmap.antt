-- The presence bitmap: the bits of its bytes, least bit first.
use Rattle.std.specs.Prelude.{◌≡◌, ℕ, zero, suc, ◌+◌, ◌/◌, ◌%◌, ◌^◌, ◌≤◌, List, [], ◌∷◌, ◌++◌, take, drop}
use Rattle.wire.specs.Little.{little}

-- The k lowest binary digits of x, the lowest first.
unfoldable pub bits : ℕ → ℕ → List ℕ
bits zero x = []
bits (suc k) x = x % 2 ∷ bits k (x / 2)

-- The bits of each byte in turn.
unfoldable pub bit_list : List ℕ → List ℕ
unfolding bits
bit_list [] = []
bit_list (b ∷ s) = bits 8 b ++ bit_list s

-- How many bits of a list are set.
unfoldable pub total : List ℕ → ℕ
total [] = 0
total (b ∷ l) = b + total l

-- What is read of the bitmap s of a struct with n known fields: all bits as a number, the known ones of it, how many of these are set, and how many beyond.
pub record Present (s : List ℕ) (n word known ones unknown : ℕ) : Type 0 where
  pub word-is : word ≡ little s
  pub known_is : known ≡ word % 2 ^ n
  pub ones-are : ones ≡ total (take n (bit_list s))
  pub ones-few : ones ≤ n
  pub unknown-is : unknown ≡ total (drop n (bit_list s))
