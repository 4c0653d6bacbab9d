-- What reading a payload answers: the number of rows, the tail's place and length, and the key comparisons due; or the refusal's number and place.
use Rattle.std.specs.Prelude.{ℕ}

pub data Reading : Type 0 where
  Shown : (rows tail_place tail_length comparisons : ℕ) → Reading
  Refused : (number place : ℕ) → Reading
