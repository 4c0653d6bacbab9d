-- No two answers tell the same.
use Rattle.std.proofs.Common.{◌≡◌, refl, sym, ap, ◌∙◌, ℕ, cond, ◌==◌, Result, Ok, Err}
use Rattle.std.specs.Prelude.{Bool, true, false, ⊤}
use borrow.Author.Tests.{eqb-true}
use Rattle.constants.specs.declared.refusal.Refusal.{Refusal}
use Rattle.constants.specs.Number.{number_of}
use Rattle.constants.proofs.Number.{named}
use Rattle.calls.specs.declared.Stop.{Stop}
use Rattle.calls.specs.declared.Stop.TheVariants as stop
use Rattle.calls.specs.Told.{number_of_stop, told_number}
use Rattle.calls.proofs.Told.{named-number_of_stop}
use Rattle.receiver.specs.declared.Received as received
use Rattle.receiver.specs.declared.Released as released
use Rattle.receiver.specs.Received.{Received}
use Rattle.receiver.specs.Released.{Released}
use Rattle.receiver.specs.Told.{told, told_released}
use Rattle.receiver.proofs.Halts.{refused-number}

-- The verdict with a number.
abbrev refused : ℕ → Result ⊤ Stop
refused n = Err (cond (n == 1) stop.More (stop.Refused (named n)))

abbrev verdict : ℕ → Result ⊤ Stop
verdict n = cond (n == 0) (Ok tt) (refused n)

verdict-refused : (r : Refusal) (b : Bool) → (number_of r == 0) ≡ b → ◌≡◌ {A = Result ⊤ Stop} (cond b (Ok tt) (refused (number_of r))) (Err (stop.Refused r))
verdict-refused r true e = absurd (refused-number r (eqb-true (number_of r) 0 e))
verdict-refused r false e = ap Err (named-number_of_stop (stop.Refused r))

verdict-told : (v : Result ⊤ Stop) → verdict (told_number number_of_stop v) ≡ v
verdict-told (Ok x) = refl
verdict-told (Err stop.More) = refl
verdict-told (Err (stop.Refused r)) = verdict-refused r (number_of r == 0) refl

pub verdict-injective : (a b : Result ⊤ Stop) → told_number number_of_stop a ≡ told_number number_of_stop b → a ≡ b
verdict-injective a b e = sym (verdict-told a) ∙ ap verdict e ∙ verdict-told b

pub told-injective : (a b : received.Received Stop) → told a ≡ told b → a ≡ b
told-injective a b e =
    let v = verdict-injective a.verdict b.verdict (ap (λ (r : Received). r.number) e) in
    λ i.
    record {
      verdict = v i;
      place = (e i).place;
      used = (e i).used;
      rows = (e i).rows;
      tail_place = (e i).tail_place;
      tail_length = (e i).tail_length;
      «open» = (e i).«open»;
      comparisons = (e i).comparisons;
      table = (e i).table;
    }

pub told-released-injective : (a b : released.Released Stop) → told_released a ≡ told_released b → a ≡ b
told-released-injective a b e =
    let v = verdict-injective a.verdict b.verdict (ap (λ (r : Released). r.number) e) in
    λ i. record { verdict = v i; place = (e i).place; «open» = (e i).«open»; table = (e i).table }
