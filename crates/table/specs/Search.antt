-- Searches among the numbers below n, told by what the calls of their test answer.
use Rattle.std.specs.Prelude.{ℕ, ◌<◌, Bool, true, false, Option, MatchOption, MatchBool}

-- The lowest number below n that passes: the test fails below it. Where there is none, the test fails below n.
unfoldable pub Lowest : (ℕ → Bool → Type 0) → ℕ → Option ℕ → Type 0
Lowest tests n r = MatchOption r ((k : ℕ) → k < n → tests k false) (λ i. (i < n) × tests i true × ((k : ℕ) → k < i → tests k false))

-- Whether all numbers below n pass: else there is one that fails.
unfoldable pub Every : (ℕ → Bool → Type 0) → ℕ → Bool → Type 0
Every tests n r = MatchBool r ((k : ℕ) → k < n → tests k true) ((k : ℕ) × (k < n) × tests k false)
