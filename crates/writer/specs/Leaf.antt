-- What the leaves of the writer answer: a row, a content, a bitmap.
use Rattle.std.specs.Prelude.{◌≡◌, Bool, true, false, List, ℕ, ◌+◌, ◌*◌, ◌/◌, ◌^◌, ◌≤◌, ◌<◌, eqb, length, get_or, drop, Result, Ok, Err, ⊤}
use Rattle.buffer.specs.Span.{span}
use Rattle.parse.specs.Reader.{CursorOf, AnswerOf, refused, seen, ◌>>=◌, ◌>>◌, return, at, check}
use Rattle.schema.specs.declared.Field.{Field}
use Rattle.schema.specs.Table.{Shape, struct}
use Rattle.value.specs.declared.Row.{Row}
use Rattle.value.specs.Sheet.{rows_of}
use Rattle.value.specs.Read.{Own, plain, parts, row_count, known_bits}
use Rattle.value.specs.Write.{RowReader, row_due, bits_at, says}
use Rattle.walks.specs.Shape.{leaf_shape}
use Rattle.walks.specs.Required.{Requires}
use Rattle.constants.specs.Number.{number_of}
use Rattle.constants.specs.declared.refusal.Refused.{Refused}
use Rattle.writer.specs.declared.leaf.RowSays.{RowSays}
use Rattle.writer.specs.declared.leaf.Placed.{Placed}

-- The cursor at a row of a sheet's cells.
abbrev pub rows_at : List ℕ → ℕ → CursorOf Row
rows_at cells k = record { left = drop k (rows_of cells); at = k }

-- ---- rows

-- The second and third cell of row k: its place and its length.
abbrev pub place_at : List ℕ → ℕ → ℕ
place_at cells k = get_or cells (4 * k + 1) 0

abbrev pub length_at : List ℕ → ℕ → ℕ
length_at cells k = get_or cells (4 * k + 2) 0

-- The answer for row k, of type t, as the answer of a reader there.
abbrev pub due_answer : List ℕ → (k t : ℕ) → Result RowSays Refused → AnswerOf Row Row
due_answer cells k t (Ok r) = seen (record { ty = t; place = r.place; length = r.length; count = r.count }) (rows_at cells (k + 1))
due_answer cells k t (Err e) = refused (number_of e.refusal) e.place

abbrev pub DueIn : List ℕ → ℕ → Result RowSays Refused → Type 0
DueIn cells k (Ok r) = (k < length cells / 4) × (r.place ≡ place_at cells k) × (r.length ≡ length_at cells k) × (r.place < 4294967296) × (r.length < 4294967296)
DueIn cells k (Err e) = Unit {0}

pub record DueRow (cells : List ℕ) (k t : ℕ) (r : Result RowSays Refused) : Type 0 where
  pub same : due_answer cells k t r ≡ row_due t (rows_at cells k)
  pub within : DueIn cells k r

-- ---- contents

-- A verdict on row k with the n bytes at place p, as the answer of a reader.
abbrev pub said_of : (B : List ℕ) (p n : ℕ) → CursorOf Row → Result ⊤ Refused → AnswerOf Row Own
said_of B p n cur (Ok x) = seen (plain (span B p n)) cur
said_of B p n cur (Err e) = refused (number_of e.refusal) e.place

abbrev pub VerdictIn : (size p n : ℕ) → Result ⊤ Refused → Type 0
VerdictIn size p n (Ok x) = p + n ≤ size
VerdictIn size p n (Err e) = Unit {0}

-- It is what row k says.
pub record Judged (B : List ℕ) (kind p n c k : ℕ) (r : Result ⊤ Refused) : Type 0 where
  pub same : (cur : CursorOf Row) → said_of B p n cur r ≡ says B k (leaf_shape kind) p n c cur
  pub within : VerdictIn (length B) p n r

-- What the next row, of type t and shape s, says.
unfoldable pub row_says : List ℕ → (t : ℕ) → Shape → RowReader Own
row_says B t s = at λ here. do
  r ← row_due t
  says B here.at s r.place r.length r.count

abbrev pub leaf_of : (cells B : List ℕ) (k : ℕ) → Result Placed Refused → AnswerOf Row Own
leaf_of cells B k (Ok x) = seen (plain (span B x.place x.length)) (rows_at cells (k + 1))
leaf_of cells B k (Err e) = refused (number_of e.refusal) e.place

abbrev pub LeafIn : (cells B : List ℕ) (k : ℕ) → Result Placed Refused → Type 0
LeafIn cells B k (Ok x) = (k < length cells / 4) × (x.place ≡ place_at cells k) × (x.length ≡ length_at cells k) × (x.place + x.length ≤ length B) × (x.place < 4294967296) × (x.length < 4294967296)
LeafIn cells B k (Err e) = Unit {0}

pub record LeafRow (cells B : List ℕ) (kind t k : ℕ) (r : Result Placed Refused) : Type 0 where
  pub same : leaf_of cells B k r ≡ row_says B t (leaf_shape kind) (rows_at cells k)
  pub within : LeafIn cells B k r

-- ---- presence bits

-- What row k of a struct with the fields fs says. One inside another value is judged as any value is; the root's unknown bits are left out.
abbrev pub head_says : (inner : Bool) → (B : List ℕ) (k : ℕ) → List Field → (place count : ℕ) → RowReader Own
head_says true B k fs p c = says B k (struct fs) p 0 c
head_says false B k fs p c = do
  m ← bits_at B k fs p
  check (eqb c (row_count (struct fs) (known_bits fs m))) 50 k
  return (parts 0 (known_bits fs m))

abbrev pub head_of : CursorOf Row → Result ℕ Refused → AnswerOf Row Own
head_of cur (Ok known) = seen (parts 0 known) cur
head_of cur (Err e) = refused (number_of e.refusal) e.place

abbrev pub HeadIn : (n : ℕ) → Result ℕ Refused → Type 0
HeadIn n (Ok known) = known < 2 ^ n
HeadIn n (Err e) = Unit {0}

-- It is what row k says.
abbrev pub Headed : (inner : Bool) → List ℕ → List Field → (place count row : ℕ) → Result ℕ Refused → Type 0
Headed inner B fs p c k r = (cur : CursorOf Row) → head_of cur r ≡ head_says inner B k fs p c cur

-- The same for whatever struct of n fields asks for these bits.
pub record HeadedBy (B : List ℕ) (required n p c k : ℕ) (inner : Bool) (r : Result ℕ Refused) : Type 0 where
  pub same : (fs : List Field) → length fs ≡ n → Requires required fs → Headed inner B fs p c k r
  pub within : HeadIn n r
