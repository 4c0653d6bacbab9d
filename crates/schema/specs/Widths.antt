-- 01's scalar kinds, each with its bits, and the whole bytes of a bitmap: apart from the list and the sum that compute them.
use Rattle.std.specs.Prelude.{ℕ, ◌*◌, ◌≤◌}

-- A bool has a byte.
pub data ScalarBits : (kind bits : ℕ) → Type 0 where
  bool : ScalarBits 1 8
  int8 : ScalarBits 2 8
  int16 : ScalarBits 3 16
  int32 : ScalarBits 4 32
  int64 : ScalarBits 5 64
  uint8 : ScalarBits 6 8
  uint16 : ScalarBits 7 16
  uint32 : ScalarBits 8 32
  uint64 : ScalarBits 9 64
  float32 : ScalarBits 10 32
  float64 : ScalarBits 11 64

-- So many bytes have a bit for each of n fields, and no fewer have.
pub record WholeBytes (n size : ℕ) : Type 0 where
  pub enough : n ≤ 8 * size
  pub fewest : (k : ℕ) → n ≤ 8 * k → size ≤ k
