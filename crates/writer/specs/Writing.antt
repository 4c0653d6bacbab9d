-- The answer of a writer: the length of what was written, or the refusal's number and place.
use Rattle.std.specs.Prelude.{ℕ}

pub data Writing : Type 0 where
  Written : (length : ℕ) → Writing
  Refused : (number place : ℕ) → Writing
