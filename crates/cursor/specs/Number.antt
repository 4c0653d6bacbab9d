-- What stands at a place where a number is read: the number, or a refusal's number and its place.
use Rattle.std.specs.Prelude.{ℕ}

pub data Number : Type 0 where
  Is : (value : ℕ) → Number
  Refused : (number place : ℕ) → Number

-- The number, and the place to go on at; a refusal does not move.
pub record NumberStep : Type 0 where
  pub item : Number
  pub next : ℕ
