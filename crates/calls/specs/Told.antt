-- What the answers tell, by the numbers of the refusals; what a refusal is, is a parameter.
use Rattle.std.specs.Prelude.{ℕ, Result, Ok, Err, ⊤}
use Rattle.constants.specs.Number.{number_of}
use Rattle.calls.specs.declared.Allowed.{Allowed}
use Rattle.calls.specs.declared.Allowed.TheVariants as allowed
use Rattle.calls.specs.declared.Stop.{Stop}
use Rattle.calls.specs.declared.Stop.TheVariants as stop
use Rattle.calls.specs.Judged.{Judged, Refused, Opens, Goes}

abbrev pub number_of_stop : Stop → ℕ
number_of_stop stop.More = 1
number_of_stop (stop.Refused refusal) = number_of refusal

-- A judgement.
abbrev pub told : {E : Type 0} → (number : E → ℕ) → Result Allowed E → Judged
told number (Ok (allowed.Opens i c due)) = Opens i c due
told number (Ok (allowed.Goes i c due)) = Goes i c due
told number (Err e) = Refused (number e)

-- An answer that is 0 where nothing is refused.
abbrev pub told_number : {E : Type 0} → (number : E → ℕ) → Result ⊤ E → ℕ
told_number number (Ok x) = 0
told_number number (Err e) = number e
