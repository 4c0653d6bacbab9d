-- What a leaf answers of a count: the count and where what it counts starts, or a refusal at the count's own place.
use Rattle.std.specs.Prelude.{ℕ}

pub data Count : Type 0 where
  Is : (n start : ℕ) → Count
  Refused : (number : ℕ) → Count
