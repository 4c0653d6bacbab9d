-- The writers' answers are known by their numbers.
use mathlib.Core.Path.{◌≡◌, refl, ap}
use mathlib.Core.Logic.{◌↔◌}
use mathlib.Core.List.{List}
use Prim.Native.Nat.{ℕ, ◌<◌}
use native.Mathlib.Omega.{arith}
use Rattle.writer.specs.Writing.{Written, Refused}
use Rattle.writer.specs.Entry.{Outcome, outcome}
use Rattle.writer.specs.Numbers.{Numbers, numbers}

-- A number above 0 is that of a refusal.
pub refused-told : (o : Outcome) (n q : ℕ) (out : List ℕ) → 0 < n
    → (numbers o ≡ record { number = n; place = q; length = 0; out = out }) ↔ (o ≡ outcome (Refused n q) out)
refused-told o n q out h = (go o, λ e. ap numbers e)
  where
    go : (o : Outcome) → numbers o ≡ record { number = n; place = q; length = 0; out = out } → o ≡ outcome (Refused n q) out
    go (outcome (Written m) out') e = absurd (omega (arith, h, ap (λ (x : Numbers). x.number) e))
    go (outcome (Refused m p) out') e = cc (ap (λ (x : Numbers). x.number) e, ap (λ (x : Numbers). x.place) e, ap (λ (x : Numbers). x.out) e)

-- 0 is that of what is written, where no refusal has it.
pub written-told : (o : Outcome) → ((n q : ℕ) (out : List ℕ) → o ≡ outcome (Refused n q) out → 0 < n) → (m : ℕ) (out : List ℕ)
    → (numbers o ≡ record { number = 0; place = 0; length = m; out = out }) ↔ (o ≡ outcome (Written m) out)
written-told o above m out = (go o above, λ e. ap numbers e)
  where
    go : (o : Outcome) → ((n q : ℕ) (out : List ℕ) → o ≡ outcome (Refused n q) out → 0 < n)
        → numbers o ≡ record { number = 0; place = 0; length = m; out = out } → o ≡ outcome (Written m) out
    go (outcome (Written n) out') above e = cc (ap (λ (x : Numbers). x.length) e, ap (λ (x : Numbers). x.out) e)
    go (outcome (Refused n q) out') above e = absurd (omega (arith, above n q out' refl, ap (λ (x : Numbers). x.number) e))
