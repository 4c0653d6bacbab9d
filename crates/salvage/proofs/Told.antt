-- What the answers tell: no refusal has the number 0, and two answers that tell the same are the same.
use Rattle.std.proofs.Common.{◌≡◌, refl, sym, ap, ◌∙◌, Result, Ok, Err, arith}
use Rattle.constants.specs.declared.refusal.Refusal.{Refusal}
use Rattle.constants.specs.Number.{number_of}
use Rattle.constants.proofs.Number.{named, named-number_of}
use Rattle.salvage.specs.declared.Salvaged as taken
use Rattle.salvage.specs.Salvaging.{Salvaging, Salvaged, Refused}
use Rattle.salvage.specs.Told.{told}

pub some-number : (r : Refusal) → number_of r ≡ 0 → ⊥
some-number r z =
    let e : 2 ≡ number_of r = ap number_of (ap named (sym z) ∙ named-number_of r) in
    absurd (omega (arith, e, z))

abbrev back : Salvaging → Result taken.Salvaged Refusal
back (Salvaged n b m) = Ok (record { entries = n; bytes = b; spans = m })
back (Refused n) = Err (named n)

back-told : (r : Result taken.Salvaged Refusal) → back (told r) ≡ r
back-told (Ok m) = refl
back-told (Err r) = ap Err (named-number_of r)

pub told-injective : (a b : Result taken.Salvaged Refusal) → told a ≡ told b → a ≡ b
told-injective a b e = sym (back-told a) ∙ ap back e ∙ back-told b
