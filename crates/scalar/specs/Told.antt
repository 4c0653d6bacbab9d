-- What the code's answer tells, by the numbers of the refusals.
use Rattle.std.specs.Prelude.{Result, Ok, Err}
use Rattle.constants.specs.declared.refusal.Refused as error
use Rattle.constants.specs.Number.{number_of}
use Rattle.scalar.specs.declared.Scalar.{Scalar}
use Rattle.scalar.specs.Answer.{Answer, Is, Refused}

abbrev pub told : Result Scalar error.Refused → Answer
told (Ok x) = Is x
told (Err e) = Refused (number_of e.refusal) e.place
