-- What the answers tell, by the numbers of the refusals.
use Rattle.std.specs.Prelude.{ℕ, ◌+◌, Result, Ok, Err}
use Rattle.constants.specs.declared.refusal.Refused as error
use Rattle.constants.specs.Number.{number_of}
use Rattle.wire.specs.declared.varuint.Past.{Past}
use Rattle.cursor.specs.declared.item.Content.{Content}
use Rattle.cursor.specs.Number as number
use Rattle.cursor.specs.Span as span

abbrev pub told_number : Result ℕ error.Refused → number.Number
told_number (Ok v) = number.Is v
told_number (Err e) = number.Refused (number_of e.refusal) e.place

abbrev pub told_span : Result Content error.Refused → span.Span
told_span (Ok c) = span.At c.place c.length
told_span (Err e) = span.Refused (number_of e.refusal) e.place

-- The steps from a place: a refusal stays there, and a span ends where its content does.
abbrev pub told_number_step : (from : ℕ) → Result Past error.Refused → number.NumberStep
told_number_step from (Ok p) = record { item = number.Is p.value; next = p.next }
told_number_step from (Err e) = record { item = number.Refused (number_of e.refusal) e.place; next = from }

abbrev pub told_span_step : (from : ℕ) → Result Content error.Refused → span.SpanStep
told_span_step from (Ok c) = record { item = span.At c.place c.length; next = c.place + c.length }
told_span_step from (Err e) = record { item = span.Refused (number_of e.refusal) e.place; next = from }
