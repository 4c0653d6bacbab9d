-- What the answers tell: the number of what was judged, and that two answers that tell the same are the same.
use Rattle.std.proofs.Common.{◌≡◌, refl, sym, ap, ◌∙◌, ℕ, zero, suc, Result, Ok, Err, Option, Some, None, arith}
use Rattle.std.specs.Result.{result_err}
use Rattle.constants.specs.declared.refusal.Refusal.{Refusal}
use Rattle.constants.specs.declared.refusal.Refused as error
use Rattle.constants.specs.Number.{number_of}
use Rattle.constants.proofs.Number.{named, named-number_of}
use Rattle.index.specs.declared.Printed as printed
use Rattle.index.specs.Indexing as make
use Rattle.index.specs.Finding as find
use Rattle.index.specs.Told.{told, told_find, stopped_of, judged_number}

pub err-number : (r : Result ℕ Refusal) → stopped_of (result_err r) ≡ judged_number r
err-number (Ok n) = refl
err-number (Err r) = refl

-- ---- making an index

abbrev back : make.Indexing → Result ℕ error.Refused
back (make.Made n) = Ok n
back (make.Refused n q) = Err (record { place = q; refusal = named n })

back-told : (r : Result ℕ error.Refused) → back (told r) ≡ r
back-told (Ok n) = refl
back-told (Err e) = ap (λ (r : Refusal). Err (record { place = e.place; refusal = r })) (named-number_of e.refusal)

pub told-injective : (a b : Result ℕ error.Refused) → told a ≡ told b → a ≡ b
told-injective a b e = sym (back-told a) ∙ ap back e ∙ back-told b

-- ---- looking a call up

abbrev named_some : ℕ → Option Refusal
named_some zero = None
named_some (suc n) = Some (named (suc n))

some-named : (r : Refusal) (n : ℕ) → number_of r ≡ n → named_some n ≡ Some r
some-named r zero e =
    let two : 2 ≡ number_of r = ap number_of (ap named (sym e) ∙ named-number_of r) in
    absurd (omega (arith, e, two))
some-named r (suc n) e = ap Some (ap named (sym e) ∙ named-number_of r)

named-stopped : (s : Option Refusal) → named_some (stopped_of s) ≡ s
named-stopped None = refl
named-stopped (Some r) = some-named r (number_of r) refl

abbrev back_find : find.Finding → Result printed.Printed Refusal
back_find (find.Printed n size) = Ok (record { stopped = named_some n; length = size })
back_find (find.Refused n) = Err (named n)

back-told_find : (r : Result printed.Printed Refusal) → back_find (told_find r) ≡ r
back-told_find (Ok p) = ap (λ (s : Option Refusal). Ok (record { stopped = s; length = p.length })) (named-stopped p.stopped)
back-told_find (Err r) = ap Err (named-number_of r)

pub told_find-injective : (a b : Result printed.Printed Refusal) → told_find a ≡ told_find b → a ≡ b
told_find-injective a b e = sym (back-told_find a) ∙ ap back_find e ∙ back-told_find b
