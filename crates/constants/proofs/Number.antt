-- No two refusals have one number.
use Rattle.std.proofs.Common.{◌≡◌, refl, sym, ap, ◌∙◌, ℕ, cond, ◌==◌}
use Rattle.constants.specs.declared.refusal.Refusal.{Refusal}
use Rattle.constants.specs.declared.refusal.Refusal.TheVariants.{Magic, Version, Kind, Flags, Length, PayloadTooLong, WrongSide, UnknownMethod, CallOpen, CallNotOpen, OtherMethod, TooManyCalls}
use Rattle.constants.specs.declared.refusal.Refusal.TheVariants.{NotNow, CallTable, Dropped, TooManyElements, TallyFull, TallyRows, Cut, Varuint, Bool, Utf8, RepeatedKey, AbsentField, UnknownBit}
use Rattle.constants.specs.declared.refusal.Refusal.TheVariants.{Surplus, TooDeep, UnduePayload, SheetTooShort, MapTooLong, SchemaShape, TooManyRows, TypeRow, Field, Method, FileTooLong, NoStruct}
use Rattle.constants.specs.declared.refusal.Refusal.TheVariants.{NoExtension, Sheet, Outside, OutputTooShort, ListTooShort, Index, OtherRecord}
use Rattle.constants.specs.Number.{number_of}

-- The refusal with a number; of a number that none has, the first.
abbrev pub named : ℕ → Refusal
named n =
    cond (n == 3) Version (
    cond (n == 4) Kind (
    cond (n == 5) Flags (
    cond (n == 6) Length (
    cond (n == 7) PayloadTooLong (
    cond (n == 8) WrongSide (
    cond (n == 9) UnknownMethod (
    cond (n == 10) CallOpen (
    cond (n == 11) CallNotOpen (
    cond (n == 12) OtherMethod (
    cond (n == 13) TooManyCalls (
    cond (n == 14) NotNow (
    cond (n == 15) CallTable (
    cond (n == 16) Dropped (
    cond (n == 17) TooManyElements (
    cond (n == 18) TallyFull (
    cond (n == 19) TallyRows (
    cond (n == 20) Cut (
    cond (n == 21) Varuint (
    cond (n == 22) Bool (
    cond (n == 23) Utf8 (
    cond (n == 24) RepeatedKey (
    cond (n == 25) AbsentField (
    cond (n == 26) UnknownBit (
    cond (n == 27) Surplus (
    cond (n == 28) TooDeep (
    cond (n == 29) UnduePayload (
    cond (n == 30) SheetTooShort (
    cond (n == 31) MapTooLong (
    cond (n == 40) SchemaShape (
    cond (n == 41) TooManyRows (
    cond (n == 42) TypeRow (
    cond (n == 43) Field (
    cond (n == 44) Method (
    cond (n == 45) FileTooLong (
    cond (n == 46) NoStruct (
    cond (n == 47) NoExtension (
    cond (n == 50) Sheet (
    cond (n == 51) Outside (
    cond (n == 52) OutputTooShort (
    cond (n == 53) ListTooShort (
    cond (n == 65) Index (
    cond (n == 66) OtherRecord (
    Magic)))))))))))))))))))))))))))))))))))))))))))

pub named-number_of : (r : Refusal) → named (number_of r) ≡ r
named-number_of Magic = refl
named-number_of Version = refl
named-number_of Kind = refl
named-number_of Flags = refl
named-number_of Length = refl
named-number_of PayloadTooLong = refl
named-number_of WrongSide = refl
named-number_of UnknownMethod = refl
named-number_of CallOpen = refl
named-number_of CallNotOpen = refl
named-number_of OtherMethod = refl
named-number_of TooManyCalls = refl
named-number_of NotNow = refl
named-number_of CallTable = refl
named-number_of Dropped = refl
named-number_of TooManyElements = refl
named-number_of TallyFull = refl
named-number_of TallyRows = refl
named-number_of Cut = refl
named-number_of Varuint = refl
named-number_of Bool = refl
named-number_of Utf8 = refl
named-number_of RepeatedKey = refl
named-number_of AbsentField = refl
named-number_of UnknownBit = refl
named-number_of Surplus = refl
named-number_of TooDeep = refl
named-number_of UnduePayload = refl
named-number_of SheetTooShort = refl
named-number_of MapTooLong = refl
named-number_of SchemaShape = refl
named-number_of TooManyRows = refl
named-number_of TypeRow = refl
named-number_of Field = refl
named-number_of Method = refl
named-number_of FileTooLong = refl
named-number_of NoStruct = refl
named-number_of NoExtension = refl
named-number_of Sheet = refl
named-number_of Outside = refl
named-number_of OutputTooShort = refl
named-number_of ListTooShort = refl
named-number_of Index = refl
named-number_of OtherRecord = refl

pub number_of-injective : (a b : Refusal) → number_of a ≡ number_of b → a ≡ b
number_of-injective a b e = sym (named-number_of a) ∙ ap named e ∙ named-number_of b
