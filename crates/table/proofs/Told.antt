-- No two answers tell the same.
use Rattle.std.specs.Prelude.{⊤}
use Rattle.std.proofs.Common.{◌≡◌, refl, sym, ap, ◌∙◌, Bool, true, false, Result, Ok, Err}
use Rattle.constants.specs.declared.refusal.Refused as error
use Rattle.constants.proofs.Number.{named, named-number_of}
use Rattle.schema.specs.Checked.{Checked, Good, Refused}
use Rattle.schema.specs.Extended as extended
use Rattle.table.specs.Told.{told, told_extends}

-- the answer that tells a verdict
abbrev back : Checked → Result ⊤ error.Refused
back Good = Ok tt
back (Refused n q) = Err (record { place = q; refusal = named n })

back-told : (r : Result ⊤ error.Refused) → back (told r) ≡ r
back-told (Ok tt) = refl
back-told (Err e) = ap (λ r. Err (record { place = e.place; refusal = r })) (named-number_of e.refusal)

pub told-injective : (a b : Result ⊤ error.Refused) → told a ≡ told b → a ≡ b
told-injective a b e = sym (back-told a) ∙ ap back e ∙ back-told b

abbrev back_extends : extended.Extended → Result Bool error.Refused
back_extends extended.Yes = Ok true
back_extends extended.No = Ok false
back_extends (extended.Refused n q) = Err (record { place = q; refusal = named n })

back_extends-told : (r : Result Bool error.Refused) → back_extends (told_extends r) ≡ r
back_extends-told (Ok true) = refl
back_extends-told (Ok false) = refl
back_extends-told (Err e) = ap (λ r. Err (record { place = e.place; refusal = r })) (named-number_of e.refusal)

pub told_extends-injective : (a b : Result Bool error.Refused) → told_extends a ≡ told_extends b → a ≡ b
told_extends-injective a b e = sym (back_extends-told a) ∙ ap back_extends e ∙ back_extends-told b
