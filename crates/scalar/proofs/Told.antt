-- No two answers tell the same.
use Rattle.std.proofs.Common.{◌≡◌, refl, sym, ap, ◌∙◌, Result, Ok, Err}
use Rattle.constants.specs.declared.refusal.Refused as error
use Rattle.constants.proofs.Number.{named, named-number_of}
use Rattle.scalar.specs.declared.Scalar.{Scalar}
use Rattle.scalar.specs.Answer.{Answer, Is, Refused}
use Rattle.scalar.specs.Told.{told}

abbrev back : Answer → Result Scalar error.Refused
back (Is x) = Ok x
back (Refused n q) = Err (record { place = q; refusal = named n })

back-told : (r : Result Scalar error.Refused) → back (told r) ≡ r
back-told (Ok x) = refl
back-told (Err e) = ap (λ r. Err (record { place = e.place; refusal = r })) (named-number_of e.refusal)

pub told-injective : (a b : Result Scalar error.Refused) → told a ≡ told b → a ≡ b
told-injective a b e = sym (back-told a) ∙ ap back e ∙ back-told b
