-- What a row gives: a scalar, or the refusal's number and place.
use Rattle.std.specs.Prelude.{ℕ}
use Rattle.scalar.specs.declared.Scalar.{Scalar}

pub data Answer : Type 0 where
  Is : Scalar → Answer
  Refused : (number place : ℕ) → Answer
