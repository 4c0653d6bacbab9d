-- What a look-up prints and answers: 65 for bytes that are no index, then 66 for a record of another length; else the rows of the call.
use Rattle.std.specs.Prelude.{cond, List, ◌++◌, ℕ, eqb, ltb, length, drop}
use Rattle.index.specs.Finding.{Finding}
use Rattle.index.specs.Finding.{Printed, Refused}
use Rattle.index.specs.Row.{of_call}
use Rattle.index.specs.IsIndex.{rows_in, count_in, is_index, size_in}
use Rattle.index.specs.Text.{text_of}

-- The number that follows `stopped`, for a record of so many bytes.
unfoldable pub stopped_number : (index : List ℕ) (size : ℕ) → ℕ
stopped_number index size = cond (is_index index) (cond (eqb (size_in index) size) 0 66) 65

-- How many rows are looked at: none at a refusal.
unfoldable pub looked : (index : List ℕ) (size : ℕ) → ℕ
looked index size = cond (eqb (stopped_number index size) 0) (count_in index) 0

-- The text of a look-up.
unfoldable pub look_text : (index : List ℕ) (size correlation : ℕ) → List ℕ
look_text index size c = text_of (of_call c (rows_in (looked index size) index)) (stopped_number index size)

-- An answer, with the output as it is left.
pub record Outcome : Type 0 where
  pub answer : Finding
  pub out : List ℕ

abbrev pub outcome : Finding → List ℕ → Outcome
outcome r out = record { answer = r; out = out }

-- The text at the start of the output, or 52 where it does not fit.
unfoldable pub printed_text : (number : ℕ) (text out : List ℕ) → Outcome
printed_text number text out =
    cond (ltb (length out) (length text)) (outcome (Refused 52) out) (outcome (Printed number (length text)) (text ++ drop (length text) out))

unfoldable pub look_up : (index entries : List ℕ) (correlation : ℕ) (out : List ℕ) → Outcome
look_up index entries c out = printed_text (stopped_number index (length entries)) (look_text index (length entries) c) out

-- ---- what the answers stand for

-- The number that follows `stopped` in the text, and the text's length; 52 and 0 where the text does not fit.
abbrev pub find_number : Finding → ℕ
find_number (Printed number size) = number
find_number (Refused number) = number

abbrev pub find_length : Finding → ℕ
find_length (Printed number size) = size
find_length (Refused number) = 0
