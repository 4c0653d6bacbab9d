-- What stands at a place where a span is read: where its content stands and how long it is, or a refusal's number and its place.
use Rattle.std.specs.Prelude.{ℕ}

pub data Span : Type 0 where
  At : (place length : ℕ) → Span
  Refused : (number place : ℕ) → Span

-- The span, and the place to go on at; a refusal does not move.
pub record SpanStep : Type 0 where
  pub item : Span
  pub next : ℕ
