-- What the leaves of the reader answer: a count, a content, a bitmap.
use Rattle.std.specs.Prelude.{◌≡◌, List, ℕ, ◌+◌, ◌-◌, ◌*◌, ◌^◌, ◌≤◌, ◌<◌, eqb, ltb, length, take, drop}
use Rattle.parse.specs.Reader.{Answer, refused, seen, cursor_at}
use Rattle.schema.specs.declared.Field.{Field}
use Rattle.value.specs.Read.{Own, plain, present, known_bits, unknown_bits}
use Rattle.flat.specs.Count.{Count, Is, Refused as CountRefused}
use Rattle.flat.specs.Span.{Span, At, Refused as SpanRefused}
use Rattle.flat.specs.Head.{Head, Bits, Refused as HeadRefused}

-- The bytes from one place up to another.
abbrev pub between : List ℕ → ℕ → ℕ → List ℕ
between p from to = take (to - from) (drop from p)

-- ---- counts

-- A count's answer as the answer of a reader at `at`.
abbrev pub count_of : List ℕ → ℕ → Count → Answer ℕ
count_of p at (Is n start) = seen n (cursor_at p start)
count_of p at (CountRefused number) = refused number at

abbrev pub CountIn : (size at least : ℕ) → Count → Type 0
CountIn size at least (Is n start) = (at < start) × (start + least * n ≤ size)
CountIn size at least (CountRefused number) = Unit {0}

pub record CountRead (p : List ℕ) (at least : ℕ) (o : Answer ℕ) (r : Count) : Type 0 where
  pub same : count_of p at r ≡ o
  pub within : CountIn (length p) at least r

-- That a map's count at `at`, of pairs of at least two bytes, is 0.
abbrev pub Uncounted : (p : List ℕ) (at : ℕ) → Answer ℕ → Type 0
Uncounted p at o = CountRead p at 2 o (Is 0 (at + 1))

-- ---- contents

abbrev pub span_of : List ℕ → Span → Answer Own
span_of p (At from to) = seen (plain (between p from to)) (cursor_at p to)
span_of p (SpanRefused place number) = refused number place

abbrev pub SpanIn : (size at : ℕ) → Span → Type 0
SpanIn size at (At from to) = (from ≤ to) × (to ≤ size) × (at < to)
SpanIn size at (SpanRefused place number) = Unit {0}

pub record Spanned (p : List ℕ) (at : ℕ) (o : Answer Own) (r : Span) : Type 0 where
  pub same : span_of p r ≡ o
  pub within : SpanIn (length p) at r

-- ---- presence bits

abbrev pub head_of : List ℕ → ℕ → Head → Answer ℕ
head_of p at (Bits word known ones unknown start) = seen word (cursor_at p start)
head_of p at (HeadRefused number) = refused number at

-- The known bits and their count, the number of unknown ones, and that there is none exactly where the word is below 2 ^ fields.
abbrev pub HeadIn : (size at : ℕ) → List Field → Head → Type 0
HeadIn size at fs (Bits word known ones unknown start) =
    (known ≡ known_bits fs word)
    × (ones ≡ length (present fs known))
    × (unknown ≡ unknown_bits fs word)
    × (ltb word (2 ^ length fs) ≡ eqb unknown 0)
    × (at < start)
    × (start ≤ size)
    × (ones ≤ 64)
HeadIn size at fs (HeadRefused number) = Unit {0}

pub record Headed (p : List ℕ) (at : ℕ) (fs : List Field) (o : Answer ℕ) (r : Head) : Type 0 where
  pub same : head_of p at r ≡ o
  pub within : HeadIn (length p) at fs r
