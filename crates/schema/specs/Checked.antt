-- The verdict on a file: good, or the refusal's number and place.
use Rattle.std.specs.Prelude.{ℕ}

pub data Checked : Type 0 where
  Good : Checked
  Refused : (number place : ℕ) → Checked
