-- What the entries answer.
use Rattle.std.specs.Prelude.{List, ℕ, ◌/◌, length}
use Rattle.schema.specs.Checked.{Checked}
use Rattle.schema.specs.Checked.{Good, Refused as Faulty}
use Rattle.schema.specs.File.{table_of}
use Rattle.schema.specs.Check.{checked}
use Rattle.value.specs.Read as value
use Rattle.reader.specs.Reading.{Reading, Shown, Refused}
use Rattle.flat.specs.Sheet.{shown_in}

-- An answer with the sheet as it is left.
pub data Outcome : Type 0 where
  outcome : Reading → (sheet : List ℕ) → Outcome

abbrev pub reading_in : Outcome → Reading
reading_in (outcome r sheet) = r

abbrev pub sheet_in : Outcome → List ℕ
sheet_in (outcome r sheet) = sheet

-- A refusal leaves the sheet as it was; rows are written from the first on.
abbrev pub outcome_of : List ℕ → value.Reading → Outcome
outcome_of sheet (value.refusal n q) = outcome (Refused n q) sheet
outcome_of sheet (value.accepted rs place size comparisons) = outcome (Shown (length rs) place size comparisons) (shown_in sheet rs)

-- The whole rows that a sheet has.
abbrev pub room : List ℕ → ℕ
room sheet = length sheet / 4

-- A payload read by a good table.
unfoldable pub payload_outcome : (schema : List ℕ) (ty : ℕ) (payload sheet : List ℕ) → Outcome
payload_outcome schema ty payload sheet = outcome_of sheet (value.read (table_of schema) ty payload (room sheet))

-- After a table with this verdict: its fault comes first, and leaves the sheet as it was.
abbrev pub after_table : Checked → (sheet : List ℕ) → Outcome → Outcome
after_table Good sheet next = next
after_table (Faulty n q) sheet next = outcome (Refused n q) sheet

-- By a table with this verdict.
abbrev pub by_table : Checked → (schema : List ℕ) (ty : ℕ) (payload sheet : List ℕ) → Outcome
by_table verdict schema ty payload sheet = after_table verdict sheet (payload_outcome schema ty payload sheet)

-- A payload read by any table.
unfoldable pub read_outcome : (schema : List ℕ) (ty : ℕ) (payload sheet : List ℕ) → Outcome
read_outcome schema ty payload sheet = by_table (checked schema) schema ty payload sheet

-- The numbers for each case of the answer: number, place, rows, the tail's place and length, and the key comparisons due.
pub record Numbers : Type 0 where
  pub number : ℕ
  pub place : ℕ
  pub rows : ℕ
  pub tail_place_of : ℕ
  pub tail_length_of : ℕ
  pub comparisons : ℕ

abbrev pub numbers : Reading → Numbers
numbers (Shown rows place size comparisons) = record { number = 0; place = 0; rows = rows; tail_place_of = place; tail_length_of = size; comparisons = comparisons }
numbers (Refused n q) = record { number = n; place = q; rows = 0; tail_place_of = 0; tail_length_of = 0; comparisons = 0 }

-- The number of an outcome.
abbrev pub number_in : Outcome → ℕ
number_in o = (numbers (reading_in o)).number

-- The number that reading a payload by a good table answers.
abbrev pub payload_number : (schema : List ℕ) (ty : ℕ) (payload sheet : List ℕ) → ℕ
payload_number schema ty payload sheet = number_in (payload_outcome schema ty payload sheet)
