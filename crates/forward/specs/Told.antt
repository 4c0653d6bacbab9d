-- What the test of the tail tells, by the numbers of the refusals.
use Rattle.std.specs.Prelude.{ℕ, Result, Ok, Err, ⊤}
use Rattle.constants.specs.declared.refusal.Refused.{Refused}
use Rattle.constants.specs.Number.{number_of}

abbrev pub told_fault : Result ⊤ Refused → ℕ
told_fault (Ok x) = 0
told_fault (Err e) = number_of e.refusal
