-- What a leaf answers of a content: where it starts and ends, or a refusal.
use Rattle.std.specs.Prelude.{ℕ}

pub data Span : Type 0 where
  At : (from to : ℕ) → Span
  Refused : (place number : ℕ) → Span
