-- The numbers that come back for each case of the writers' answer: number, place and the length written.
use Rattle.std.specs.Prelude.{ℕ, List}
use Rattle.writer.specs.Writing.{Writing}
use Rattle.writer.specs.Writing.{Written, Refused}
use Rattle.writer.specs.Entry.{Outcome, outcome}

abbrev pub write_number : Writing → ℕ
write_number (Written length) = 0
write_number (Refused number place) = number

abbrev pub write_place : Writing → ℕ
write_place (Written length) = 0
write_place (Refused number place) = place

abbrev pub write_length : Writing → ℕ
write_length (Written length) = length
write_length (Refused number place) = 0

-- All that an entry gives: these numbers, and the output as it is left.
pub record Numbers : Type 0 where
  pub number : ℕ
  pub place : ℕ
  pub length : ℕ
  pub out : List ℕ

abbrev pub numbers : Outcome → Numbers
numbers (outcome r out) = record { number = write_number r; place = write_place r; length = write_length r; out = out }
