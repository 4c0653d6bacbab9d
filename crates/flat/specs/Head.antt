-- What a leaf answers of a struct's bitmap: its word, the known fields' bits of it and their count, the number of unknown bits set, and the place after it; or
-- a refusal at the bitmap's own place.
use Rattle.std.specs.Prelude.{ℕ}

pub data Head : Type 0 where
  Bits : (word known ones unknown start : ℕ) → Head
  Refused : (number : ℕ) → Head
