-- What the number that is answered to a frame means for its call and for its bytes. Definitions and laws ask these two tests and no range of numbers.
use Rattle.std.specs.Prelude.{ℕ, ◌≤◌, Bool, ◌&&◌, ◌||◌, eqb, leb}

-- Payload refusals 20 to 29 and 31 end the open call; 30 does not.
unfoldable pub ends_call : ℕ → Bool
ends_call n = (leb 20 n && leb n 29) || eqb n 31

-- Bytes used: the frame's length for 0, 8 to 14, 16, 20 to 29 and 31; otherwise 0.
unfoldable pub uses_frame : ℕ → Bool
uses_frame n = eqb n 0 || ((leb 8 n && leb n 14) || (eqb n 16 || ends_call n))

-- The numbers of the two sentences, without a test.
pub data EndsCall : ℕ → Type 0 where
  payload : {n : ℕ} → 20 ≤ n → n ≤ 29 → EndsCall n
  many-pairs : EndsCall 31

pub data UsesFrame : ℕ → Type 0 where
  accepted : UsesFrame 0
  call : {n : ℕ} → 8 ≤ n → n ≤ 14 → UsesFrame n
  dropped : UsesFrame 16
  refused : {n : ℕ} → 20 ≤ n → n ≤ 29 → UsesFrame n
  refused-pairs : UsesFrame 31
