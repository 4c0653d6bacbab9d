-- What a salvage answers, in its numbers: the entries kept, bytes copied and spans listed, or a refusal.
use Rattle.std.specs.Prelude.{ℕ}

pub data Salvaging : Type 0 where
  Salvaged : (entries bytes spans : ℕ) → Salvaging
  Refused : (number : ℕ) → Salvaging
