-- What the answers tell, by the numbers of the refusals.
use Rattle.std.specs.Prelude.{Bool, true, false, Result, Ok, Err}
use Rattle.constants.specs.declared.refusal.Refused as error
use Rattle.constants.specs.Number.{number_of}
use Rattle.schema.specs.Checked.{Checked, Good, Refused}
use Rattle.schema.specs.Extended as extended

abbrev pub told : {T : Type 0} → Result T error.Refused → Checked
told (Ok x) = Good
told (Err e) = Refused (number_of e.refusal) e.place

abbrev pub told_extends : Result Bool error.Refused → extended.Extended
told_extends (Ok true) = extended.Yes
told_extends (Ok false) = extended.No
told_extends (Err e) = extended.Refused (number_of e.refusal) e.place
