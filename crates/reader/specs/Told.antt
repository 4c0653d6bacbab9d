-- What the answers tell, by the numbers of the refusals.
use Rattle.std.specs.Prelude.{ℕ, Result, Ok, Err, ⊤}
use Rattle.constants.specs.declared.refusal.Refusal.{Refusal}
use Rattle.constants.specs.declared.refusal.Refused as error
use Rattle.constants.specs.Number.{number_of}
use Rattle.reader.specs.declared.Shown as shown
use Rattle.reader.specs.Reading.{Reading, Shown, Refused}

abbrev pub told : Result shown.Shown error.Refused → Reading
told (Ok r) = Shown r.rows r.tail_place r.tail_length r.comparisons
told (Err e) = Refused (number_of e.refusal) e.place

-- The number alone, 0 for a payload that is shown.
abbrev pub told_number : Result ⊤ Refusal → ℕ
told_number (Ok x) = 0
told_number (Err e) = number_of e
