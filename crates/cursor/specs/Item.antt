-- The items of a payload, each by a reader of the crate `value`, and the steps that the code answers with.
use Rattle.std.specs.Prelude.{List, [], Bool, not, ◌||◌, ℕ, ◌-◌, ◌≤◌, ◌<◌, eqb, length, take, drop}
use Rattle.wire.specs.Little.{little}
use Rattle.utf8.specs.Utf8.{utf8}
use Rattle.parse.specs.Reader.{Answer, refused, seen, Reader, and_then, ◌>>=◌, return, at, check, cursor_at, block, var_u_int, count}
use Rattle.schema.specs.Table.{text}
use Rattle.value.specs.Read.{Own, plain, parts, own}
use Rattle.cursor.specs.declared.item.Width.{Width}
use Rattle.cursor.specs.declared.item.Width.TheVariants.{One, Two, Four, Eight}
use Rattle.cursor.specs.Number as Number
use Rattle.cursor.specs.Span.{Span}
use Rattle.cursor.specs.Span as Span'
use Rattle.cursor.specs.Number.{NumberStep}
use Rattle.cursor.specs.Span.{SpanStep}

-- How many bytes a width has.
abbrev pub width_bytes : Width → ℕ
width_bytes One = 1
width_bytes Two = 2
width_bytes Four = 4
width_bytes Eight = 8

-- A number of n bytes, the lowest first.
unfoldable pub fixed_number : ℕ → Reader ℕ
fixed_number n = do
  x ← block n
  return (little x)

-- Where a content stands, and how many bytes it has.
pub record ContentSpan : Type 0 where
  pub place : ℕ
  pub size : ℕ

-- Its bytes, in a payload.
abbrev pub content_bytes : List ℕ → ContentSpan → List ℕ
content_bytes p s = take s.size (drop s.place p)

-- A span, as strings and bytes have it: a length, and a content of that many bytes.
unfoldable pub span_item : Reader ContentSpan
span_item = do
  n ← count 1
  at λ start. do
    x ← block n
    return (record { place = start.at; size = n })

-- The step from a place: what was read, and the place after it; or a refusal's number and place, and the place from which the step began.
abbrev pub number_step_of : ℕ → Answer ℕ → NumberStep
number_step_of from (refused n p) = record { item = Number.Refused n p; next = from }
number_step_of from (seen v c) = record { item = Number.Is v; next = c.at }

abbrev pub span_step : ℕ → Answer ContentSpan → SpanStep
span_step from (refused n p) = record { item = Span'.Refused n p; next = from }
span_step from (seen s c) = record { item = Span'.At s.place s.size; next = c.at }

-- The steps at a place of a payload.
abbrev pub varuint_at : List ℕ → ℕ → NumberStep
varuint_at p from = number_step_of from (var_u_int (cursor_at p from))

abbrev pub fixed_number_at : Width → List ℕ → ℕ → NumberStep
fixed_number_at width p from = number_step_of from (fixed_number (width_bytes width) (cursor_at p from))

abbrev pub span_at : List ℕ → ℕ → SpanStep
span_at p from = span_step from (span_item (cursor_at p from))

-- The answer to an item at a place: 20 or 21 at the place itself, or what was read, with the cursor at a later place of the payload.
pub data Fair {A : Type 0} (p : List ℕ) (from : ℕ) : Answer A → Type 0 where
  cut : Fair p from (refused 20 from)
  malformed : Fair p from (refused 21 from)
  past : {a : A} {next : ℕ} → from < next → next ≤ length p → Fair p from (seen a (cursor_at p next))

-- A content x at a place, refused with 23 where the test fails; for a string the test is that it is UTF-8.
abbrev pub content_checked : Bool → (place : ℕ) → List ℕ → Reader Own
content_checked good place x c = and_then (check good 23 place c) (λ _ c. seen (plain x) c)

abbrev pub content_judged : (payload : List ℕ) (kind : ℕ) → ContentSpan → Reader Own
content_judged p kind s c = content_checked (not (eqb kind 12) || utf8 (content_bytes p s)) s.place (content_bytes p s) c

-- The content of a leaf. The second case, a composite's own bytes, does not come up for one.
abbrev pub content_of : Own → List ℕ
content_of (plain x) = x
content_of (parts start head) = []

-- Where a leaf's content stands, by its end, or its refusal. The last case does not come up for a string.
abbrev pub text_span : Answer Own → Span
text_span (refused n p) = Span'.Refused n p
text_span (seen (plain x) c) = Span'.At (c.at - length x) (length x)
text_span (seen (parts start head) c) = Span'.At start 0

-- The string at a place, by the payload reader's own rule.
abbrev pub text_from : List ℕ → ℕ → Span
text_from p from = text_span (own (text 12) (cursor_at p from))
