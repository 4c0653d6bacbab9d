-- Plans that end before their call is judged.
use Rattle.std.proofs.Common.{◌≡◌, refl, sym, ap, ◌∙◌, arith, ◌≤◌, ℕ, List, length, Result, Ok, Err}
use Rattle.constants.specs.Number.{number_of}
use Rattle.constants.proofs.Number.{named, named-number_of}
use Rattle.constants.specs.declared.refusal.Refusal.{Refusal}
use Rattle.constants.specs.declared.refusal.Refused as error
use Rattle.schema.specs.Check.{IsGood}
use Rattle.calls.specs.declared.Stop.{Stop}
use Rattle.calls.specs.declared.Stop.TheVariants as stop
use Rattle.calls.specs.Told.{number_of_stop}
use Rattle.receiver.specs.declared.Settle.{Settle}
use Rattle.receiver.specs.declared.Halt.{Halt}
use Rattle.receiver.specs.declared.Halt.TheVariants as halt
use Rattle.receiver.specs.Planning.{stop_plan, Fitted, stops, settles}
use Rattle.receiver.specs.Told.{told_plan, halted, Fits}

stopped-plan : (s : Stop) → told_plan (Err (halted s)) ≡ stop_plan (number_of_stop s) 0
stopped-plan stop.More = refl
stopped-plan (stop.Refused refusal) = refl

-- A stop, a refusal with its place and one without, handed on.
pub stop-planned : (p : Result (Settle Refusal) Halt) (h : Halt) (s : Stop) → p ≡ Err h → h ≡ halted s → told_plan p ≡ stop_plan (number_of_stop s) 0
stop-planned p h s e k = ap told_plan (e ∙ ap Err k) ∙ stopped-plan s

pub refused-planned : (p : Result (Settle Refusal) Halt) (h : Halt) (e : error.Refused) → p ≡ Err h → h ≡ halt.Refused e
    → told_plan p ≡ stop_plan (number_of e.refusal) e.place
refused-planned p h e is k = ap told_plan (is ∙ ap Err k)

pub faulty-planned : (p : Result (Settle Refusal) Halt) (h : Halt) (e : Refusal) → p ≡ Err h → h ≡ halt.Refused (record { place = 0; refusal = e })
    → told_plan p ≡ stop_plan (number_of e) 0
faulty-planned p h e is k = ap told_plan (is ∙ ap Err k)

-- No refusal has the number of what is accepted.
pub refused-number : (e : Refusal) → number_of e ≡ 0 → ⊥
refused-number e is =
    let two : 2 ≡ number_of e = ap number_of (ap named (sym is) ∙ named-number_of e) in
    absurd (omega (arith, two, is))

-- What goes on lies in the bytes, as its plan says.
pub fits-fitted : (schema bytes : List ℕ) (p : Result (Settle Refusal) Halt) → Fitted schema bytes (told_plan p).next → Fits schema bytes p
fits-fitted schema bytes (Err h) w = tt
fits-fitted schema bytes (Ok s) (settles g a b) = (g, a, b)
