-- A settled plan says the same of the call table, whatever the tally row was.
use Rattle.std.proofs.Common.{◌≡◌, refl, List, Result, Ok, Err}
use Rattle.constants.specs.declared.refusal.Refusal.{Refusal}
use Rattle.constants.specs.declared.refusal.Refused.{Refused}
use Rattle.calls.specs.declared.Call.{Call}
use Rattle.calls.specs.declared.Tally.{Tally}
use Rattle.receiver.specs.declared.Done.{Done}
use Rattle.receiver.specs.declared.Halt.{Halt}
use Rattle.receiver.specs.Answer.{answer_in}
use Rattle.receiver.specs.Release.{release_in}
use Rattle.receiver.specs.Told.{told_done}

module _ (t u : Tally) where
  pub same-judged : (r : Result (Done Refusal Refused) Halt) → (told_done t r).judged ≡ (told_done u r).judged
  same-judged (Ok d) = refl
  same-judged (Err h) = refl

  pub same-answer : (r : Result (Done Refusal Refused) Halt) (l : List Call) → answer_in (told_done t r) l ≡ answer_in (told_done u r) l
  same-answer (Ok d) l = refl
  same-answer (Err h) l = refl

  pub same-release : (r : Result (Done Refusal Refused) Halt) (l : List Call) → (release_in (told_done t r) l).answer ≡ (release_in (told_done u r) l).answer
  same-release (Ok d) l = refl
  same-release (Err h) l = refl
