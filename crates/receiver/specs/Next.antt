-- What is left to do once the tables, the frame and its call are judged.
use Rattle.std.specs.Prelude.{ℕ}
use Rattle.calls.specs.Judged.{Judged}
use Rattle.calls.specs.declared.Rise.{Rise}

-- The answer is this refusal, or 1; or the payload stands between two places of the bytes, and a release has none.
pub data Next : Type 0 where
  Refused : (number place : ℕ) → Next
  Settle : (judged : Judged) (rise : Rise) (place end : ℕ) → Next
