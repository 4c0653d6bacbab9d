-- No two answers tell the same.
use Rattle.std.proofs.Common.{◌≡◌, refl, sym, ap, ◌∙◌, ℕ, Result, Ok, Err}
use Rattle.constants.specs.declared.refusal.Refused as error
use Rattle.constants.proofs.Number.{named, named-number_of}
use Rattle.cursor.specs.declared.item.Content.{Content}
use Rattle.cursor.specs.Number as number
use Rattle.cursor.specs.Span as span
use Rattle.cursor.specs.Told.{told_number, told_span}

abbrev back_number : number.Number → Result ℕ error.Refused
back_number (number.Is v) = Ok v
back_number (number.Refused n q) = Err (record { place = q; refusal = named n })

back-told-number : (r : Result ℕ error.Refused) → back_number (told_number r) ≡ r
back-told-number (Ok v) = refl
back-told-number (Err e) = ap (λ r. Err (record { place = e.place; refusal = r })) (named-number_of e.refusal)

pub told-number-injective : (a b : Result ℕ error.Refused) → told_number a ≡ told_number b → a ≡ b
told-number-injective a b e = sym (back-told-number a) ∙ ap back_number e ∙ back-told-number b

abbrev back_span : span.Span → Result Content error.Refused
back_span (span.At p n) = Ok (record { place = p; length = n })
back_span (span.Refused n q) = Err (record { place = q; refusal = named n })

back-told-span : (r : Result Content error.Refused) → back_span (told_span r) ≡ r
back-told-span (Ok c) = refl
back-told-span (Err e) = ap (λ r. Err (record { place = e.place; refusal = r })) (named-number_of e.refusal)

pub told-span-injective : (a b : Result Content error.Refused) → told_span a ≡ told_span b → a ≡ b
told-span-injective a b e = sym (back-told-span a) ∙ ap back_span e ∙ back-told-span b
