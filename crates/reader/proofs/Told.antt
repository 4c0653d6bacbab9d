-- No two answers tell the same, and what a `?` hands on.
use Rattle.std.proofs.Common.{◌≡◌, refl, sym, ap, ◌∙◌, Result, Ok, Err, IsErrAnd}
use Rattle.constants.specs.declared.refusal.Refused as error
use Rattle.constants.proofs.Number.{named, named-number_of}
use Rattle.reader.specs.declared.Shown as shown
use Rattle.reader.specs.Reading.{Reading, Shown, Refused}
use Rattle.reader.specs.Told.{told}

abbrev back : Reading → Result shown.Shown error.Refused
back (Shown rows place size comparisons) = Ok (record { rows = rows; tail_place = place; tail_length = size; comparisons = comparisons })
back (Refused n q) = Err (record { place = q; refusal = named n })

back-told : (r : Result shown.Shown error.Refused) → back (told r) ≡ r
back-told (Ok r) = refl
back-told (Err e) = ap (λ r. Err (record { place = e.place; refusal = r })) (named-number_of e.refusal)

pub told-injective : (a b : Result shown.Shown error.Refused) → told a ≡ told b → a ≡ b
told-injective a b e = sym (back-told a) ∙ ap back e ∙ back-told b

-- What a `?` hands on is the refusal that it met.
pub exit : {T : Type 0} {e : error.Refused} (r : Result T error.Refused) → IsErrAnd r (λ b. b ≡ e) → r ≡ Err e
exit (Ok x) h = absurd h
exit (Err b) h = ap (λ b. Err b) h
