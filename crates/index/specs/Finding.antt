-- What a look-up answers, in its numbers: what follows `stopped` in the text and the text's length, or a refusal.
use Rattle.std.specs.Prelude.{ℕ}

pub data Finding : Type 0 where
  Printed : (number length : ℕ) → Finding
  Refused : (number : ℕ) → Finding
