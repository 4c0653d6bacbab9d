-- What making an index answers, in its numbers: its length, or a refusal and its place.
use Rattle.std.specs.Prelude.{ℕ}

pub data Indexing : Type 0 where
  Made : (length : ℕ) → Indexing
  Refused : (number place : ℕ) → Indexing
