-- The number and the place of an answer that is refused, and 0 of one that is not.
use Rattle.std.specs.Prelude.{ℕ, Result, Ok, Err}
use Rattle.constants.specs.declared.refusal.Refused as error

abbrev pub number_or_0 : {A E : Type 0} → (E → ℕ) → Result A E → ℕ
number_or_0 number (Ok x) = 0
number_or_0 number (Err e) = number e

abbrev pub place_or_0 : {A : Type 0} → Result A error.Refused → ℕ
place_or_0 (Ok x) = 0
place_or_0 (Err e) = e.place

-- The length of what was written.
abbrev pub length_or_0 : {E : Type 0} → Result ℕ E → ℕ
length_or_0 (Ok n) = n
length_or_0 (Err e) = 0
