-- Whether one table extends another: yes, no, or the refusal of the first that is not good, the old one first.
use Rattle.std.specs.Prelude.{ℕ}

pub data Extended : Type 0 where
  Yes : Extended
  No : Extended
  Refused : (number place : ℕ) → Extended
