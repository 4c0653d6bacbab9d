-- Which entries an index has rows for; what making an index answers, and what a look-up judges, prints and answers, all without an order of tests.
use Rattle.std.specs.Prelude.{◌≡◌, ℕ, ◌+◌, ◌*◌, ◌≤◌, ◌<◌, length, drop}
use mathlib.Core.List.{List, [], ◌++◌, Memᴰ}
use Rattle.schema.specs.Check.{IsGood}
use Rattle.schema.specs.Faults.{TableFault}
use Rattle.replay.specs.Run.{Entry}
use Rattle.index.specs.Finding.{Printed, Refused}
use Rattle.index.specs.Row.{Row, of_call}
use Rattle.index.specs.Index.{index_bytes, rows_for}
use Rattle.index.specs.IsIndex.{IsIndex}
use Rattle.index.specs.Text.{text_of}
use Rattle.index.specs.LookUp.{Outcome, outcome}

-- Among these entries is one with this correlation, place and answer.
pub record Has (es : List Entry) (correlation place answer : ℕ) : Type 0 where
  pub entry : Entry
  pub there : Memᴰ entry es
  pub correlation-is : entry.header.correlation ≡ correlation
  pub place_is : entry.place ≡ place
  pub answer-is : entry.answer.number ≡ answer

-- An index that is made: n bytes, 16 a row and 16 for the trailer, at the start of the output; past them it is as it was.
pub record Accepted (schema entries out : List ℕ) (n : ℕ) (after : List ℕ) : Type 0 where
  pub good : IsGood schema
  pub small : length entries ≤ 65536
  pub size : n ≡ 16 * length (rows_for schema entries) + 16
  pub fits : n ≤ length out
  pub after_is : after ≡ index_bytes (rows_for schema entries) (length entries) ++ drop n out

-- What is refused: a schema table for its fault; a record that is too long; an output that is too small.
pub data Refuses (schema entries out : List ℕ) : (number place : ℕ) → Type 0 where
  bad_table : {number place : ℕ} → TableFault schema number place → Refuses schema entries out number place
  too_long : IsGood schema → 65536 < length entries → Refuses schema entries out 45 0
  no_room : IsGood schema → length entries ≤ 65536 → length out < 16 * length (rows_for schema entries) + 16 → Refuses schema entries out 52 0

-- What a look-up judges of an index for a record of so many bytes, with the rows that it looks at: 65 for bytes that are no index, then 66 for the index of
-- a record of another length, both without rows.
pub data Judges (index : List ℕ) (size : ℕ) : (number : ℕ) → List Row → Type 0 where
  right : {rows : List Row} → IsIndex index rows size → Judges index size 0 rows
  other_record : {rows : List Row} {n : ℕ} → IsIndex index rows n → (n ≡ size → ⊥) → Judges index size 66 []
  no_index : ((rows : List Row) (n : ℕ) → IsIndex index rows n → ⊥) → Judges index size 65 []

-- What a look-up of a call answers and leaves: at the start of the output the lines of the call's rows, and last what was judged; or 52 where that does not
-- fit, and the output as it was.
pub data Finds (index : List ℕ) (size correlation : ℕ) (out : List ℕ) : Outcome → Type 0 where
  prints : {number : ℕ} {rows : List Row} (text : List ℕ) → Judges index size number rows → text ≡ text_of (of_call correlation rows) number
      → length text ≤ length out → Finds index size correlation out (outcome (Printed number (length text)) (text ++ drop (length text) out))
  no_space : {number : ℕ} {rows : List Row} → Judges index size number rows → length out < length (text_of (of_call correlation rows) number)
      → Finds index size correlation out (outcome (Refused 52) out)
