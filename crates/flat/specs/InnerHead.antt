-- What is answered of an inner struct's bitmap: its bits, all of known fields, and the place after it; or a refusal at the bitmap's own place.
use Rattle.std.specs.Prelude.{ℕ}

pub data InnerHead : Type 0 where
  Bits : (known start : ℕ) → InnerHead
  Refused : (number : ℕ) → InnerHead
