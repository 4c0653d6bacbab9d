-- No two answers tell the same of what stands at a place.
use Rattle.std.proofs.Common.{◌≡◌, refl, sym, ap, ◌∙◌, Result, Ok, Err}
use Rattle.wire.specs.declared.varuint.Past as past
use Rattle.wire.specs.declared.varuint.VarUIntError.{VarUIntError}
use Rattle.wire.specs.declared.varuint.VarUIntError.TheVariants.{Cut as CutError, Malformed as MalformedError}
use Rattle.wire.specs.Varuint.{VarUInt, Number, Cut, Malformed, told}

abbrev back : VarUInt → Result past.Past VarUIntError
back (Number v next) = Ok (record { value = v; next = next })
back Cut = Err CutError
back Malformed = Err MalformedError

back-told : (r : Result past.Past VarUIntError) → back (told r) ≡ r
back-told (Ok r) = refl
back-told (Err CutError) = refl
back-told (Err MalformedError) = refl

pub told-injective : (a b : Result past.Past VarUIntError) → told a ≡ told b → a ≡ b
told-injective a b e = sym (back-told a) ∙ ap back e ∙ back-told b
