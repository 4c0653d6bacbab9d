-- What the answers tell, by the numbers of the refusals.
use Rattle.std.specs.Prelude.{ℕ, Result, Ok, Err}
use Rattle.constants.specs.declared.refusal.Refused as error
use Rattle.constants.specs.Number.{number_of}
use Rattle.writer.specs.Writing.{Writing, Written, Refused}

abbrev pub told : Result ℕ error.Refused → Writing
told (Ok n) = Written n
told (Err e) = Refused (number_of e.refusal) e.place
