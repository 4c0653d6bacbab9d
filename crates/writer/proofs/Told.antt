-- No two answers tell the same.
use Rattle.std.proofs.Common.{◌≡◌, refl, sym, ap, ◌∙◌, ℕ, Result, Ok, Err}
use Rattle.constants.specs.declared.refusal.Refusal.{Refusal}
use Rattle.constants.specs.declared.refusal.Refused as error
use Rattle.constants.proofs.Number.{named, named-number_of}
use Rattle.writer.specs.Writing.{Writing, Written, Refused}
use Rattle.writer.specs.Told.{told}

abbrev back : Writing → Result ℕ error.Refused
back (Written n) = Ok n
back (Refused n q) = Err (record { place = q; refusal = named n })

back-told : (r : Result ℕ error.Refused) → back (told r) ≡ r
back-told (Ok n) = refl
back-told (Err e) = ap (λ (r : Refusal). Err (record { place = e.place; refusal = r })) (named-number_of e.refusal)

pub told-injective : (a b : Result ℕ error.Refused) → told a ≡ told b → a ≡ b
told-injective a b e = sym (back-told a) ∙ ap back e ∙ back-told b
