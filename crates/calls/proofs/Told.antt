-- No two answers tell the same.
use Rattle.std.proofs.Common.{◌≡◌, refl, sym, ap, ◌∙◌, ℕ, cond, ◌==◌, Result, Ok, Err}
use Rattle.std.specs.Prelude.{Bool, true, false}
use native.Mathlib.Omega.{arith}
use borrow.Author.Tests.{eqb-true}
use Rattle.constants.specs.declared.refusal.Refusal.{Refusal}
use Rattle.constants.specs.Number.{number_of}
use Rattle.constants.proofs.Number.{named, named-number_of}
use Rattle.calls.specs.declared.Allowed.{Allowed}
use Rattle.calls.specs.declared.Allowed.TheVariants as allowed
use Rattle.calls.specs.declared.Stop.{Stop}
use Rattle.calls.specs.declared.Stop.TheVariants as stop
use Rattle.calls.specs.Judged.{Judged, Refused, Opens, Goes}
use Rattle.calls.specs.Told.{number_of_stop, told}

-- 1 is no refusal's number.
one-refusal : (r : Refusal) → number_of r ≡ 1 → ⊥
one-refusal r e =
    let two : number_of r ≡ 2 = ap number_of (sym (named-number_of r) ∙ ap named e) in
    omega (arith, two, e)

abbrev named_stop : ℕ → Stop
named_stop n = cond (n == 1) stop.More (stop.Refused (named n))

pub named-number_of_stop : (s : Stop) → named_stop (number_of_stop s) ≡ s
named-number_of_stop stop.More = refl
named-number_of_stop (stop.Refused r) = go (number_of r == 1) refl
  where
    go : (b : Bool) → (number_of r == 1) ≡ b → cond b stop.More (stop.Refused (named (number_of r))) ≡ stop.Refused r
    go true e = absurd (one-refusal r (eqb-true (number_of r) 1 e))
    go false e = ap stop.Refused (named-number_of r)

-- What is refused is told by a number with a left inverse, as those of refusals and stops are.
module _ {E : Type 0} (number : E → ℕ) (back : ℕ → E) (back-number : (e : E) → back (number e) ≡ e) where
  abbrev judged : Judged → Result Allowed E
  judged (Refused n) = Err (back n)
  judged (Opens i c due) = Ok (allowed.Opens i c due)
  judged (Goes i c due) = Ok (allowed.Goes i c due)

  judged-told : (r : Result Allowed E) → judged (told number r) ≡ r
  judged-told (Ok (allowed.Opens i c due)) = refl
  judged-told (Ok (allowed.Goes i c due)) = refl
  judged-told (Err e) = ap Err (back-number e)

  pub told-injective : (a b : Result Allowed E) → told number a ≡ told number b → a ≡ b
  told-injective a b e = sym (judged-told a) ∙ ap judged e ∙ judged-told b
