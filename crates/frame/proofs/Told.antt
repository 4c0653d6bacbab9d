-- No two answers tell the same.
use Rattle.std.proofs.Common.{◌≡◌, refl, sym, ap, ◌∙◌, ℕ, Result, Ok, Err}
use Rattle.constants.specs.declared.refusal.Refusal.{Refusal as Code}
use Rattle.constants.proofs.Number.{named, named-number_of}
use Rattle.frame.specs.declared.FrameRead as reading
use Rattle.frame.specs.FrameRead.{FrameRead, More, Frame, Refused}
use Rattle.frame.specs.FrameWritten as writing
use Rattle.frame.specs.Told.{told, told_written}

abbrev back : FrameRead → Result reading.FrameRead Code
back More = Ok reading.TheVariants.More
back (Frame h place n) = Ok (reading.TheVariants.Whole (record { header = h; place = place; length = n }))
back (Refused n) = Err (named n)

back-told : (r : Result reading.FrameRead Code) → back (told r) ≡ r
back-told (Ok reading.TheVariants.More) = refl
back-told (Ok (reading.TheVariants.Whole f)) = refl
back-told (Err e) = ap Err (named-number_of e)

pub told-injective : (a b : Result reading.FrameRead Code) → told a ≡ told b → a ≡ b
told-injective a b e = sym (back-told a) ∙ ap back e ∙ back-told b

abbrev back_written : writing.FrameWritten → Result ℕ Code
back_written (writing.Written n) = Ok n
back_written (writing.Refused n) = Err (named n)

back-told-written : (r : Result ℕ Code) → back_written (told_written r) ≡ r
back-told-written (Ok n) = refl
back-told-written (Err e) = ap Err (named-number_of e)

pub told-written-injective : (a b : Result ℕ Code) → told_written a ≡ told_written b → a ≡ b
told-written-injective a b e = sym (back-told-written a) ∙ ap back_written e ∙ back-told-written b
