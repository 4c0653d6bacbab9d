-- The answer to a frame: its numbers by the step of the call table and the reading of the payload.
use Rattle.std.specs.Prelude.{ℕ, cond, List, eqb, length, set}
use Rattle.calls.specs.declared.Call.{Call}
use Rattle.calls.specs.declared.Tally.{Tally}
use Rattle.calls.specs.declared.Rise.{Rise}
use Rattle.calls.specs.declared.Payload.{Payload}
use Rattle.calls.specs.declared.Payload.TheVariants.{Struct, Empty, Unread}
use Rattle.connection.specs.Step.{Stepped}
use Rattle.calls.specs.Numbers.{uses_frame}
use Rattle.calls.specs.Slots.{count_open}
use Rattle.calls.specs.Counting.{figure_by, full_at}
use Rattle.reader.specs.Reading.{Reading}
use Rattle.reader.specs.Reading.{Shown, Refused}
use Rattle.reader.specs.Entry.{Outcome, outcome, payload_outcome, Numbers, numbers}
pub use Rattle.reader.specs.Entry.{number_in}
use Rattle.connection.specs.Step.{step_of}
use Rattle.receiver.specs.Received.{Received}
use Rattle.receiver.specs.Done.{Done}

-- An answer with the sheet, the cells that show a read value, and the tally rows as they are left.
pub record Effect : Type 0 where
  pub answer : Received
  pub sheet : List ℕ
  pub tallies : List Tally

abbrev pub effect : Received → List ℕ → List Tally → Effect
effect r sheet ts = record { answer = r; sheet = sheet; tallies = ts }

-- The same with the one tally row that is asked for.
pub record RowEffect : Type 0 where
  pub answer : Received
  pub sheet : List ℕ
  pub row : Tally

abbrev pub row_effect : Received → List ℕ → Tally → RowEffect
row_effect r sheet t = record { answer = r; sheet = sheet; row = t }

-- That row is put back among the rows lent.
abbrev pub in_row : List Tally → (row : ℕ) → RowEffect → Effect
in_row ts i x = effect x.answer x.sheet (set ts i x.row)

-- The numbers of an answer that a payload's reading has too: number, place, rows, the tail's place and length, comparisons.
abbrev pub numbers_of : Received → Numbers
numbers_of r =
    record {
      number = r.number;
      place = r.place;
      rows = r.rows;
      tail_place_of = r.tail_place;
      tail_length_of = r.tail_length;
      comparisons = r.comparisons;
    }

-- ---- a refusal before the frame is known, and 1

-- It uses no bytes, has no rows, no tail and no comparisons, and changes no call.
unfoldable pub stopped : List Call → (number place : ℕ) → Received
stopped l number place =
    record {
      number = number;
      place = place;
      used = 0;
      rows = 0;
      tail_place = 0;
      tail_length = 0;
      «open» = count_open l;
      comparisons = 0;
      table = record { slots = l };
    }

-- ---- the payload of a whole frame

-- Nothing belongs there: any byte is 29.
abbrev pub empty_read : (payload : List ℕ) → Reading
empty_read payload = cond (eqb (length payload) 0) (Shown 0 0 0 0) (Refused 29 0)

-- By what the payload holds. Without a value there are no rows and no comparisons, and the tail is 0, 0.
unfoldable pub payload_read : (schema : List ℕ) → Payload → (payload sheet : List ℕ) → Outcome
payload_read schema (Struct t) payload sheet = payload_outcome schema t payload sheet
payload_read schema Empty payload sheet = outcome (empty_read payload) sheet
payload_read schema Unread payload sheet = outcome (Shown 0 0 0 0) sheet

-- Where the figure that would rise is full, 18 stands in the outcome's place, and nothing is written.
abbrev pub tallied : Tally → Rise → (sheet : List ℕ) → Outcome → Outcome
tallied t r sheet o = cond (full_at t (figure_by r (number_in o))) (outcome (Refused 18 0) sheet) o

-- A release reads nothing.
abbrev pub counted_read : Tally → Rise → Reading
counted_read t r = cond (full_at t (figure_by r 0)) (Refused 18 0) (Shown 0 0 0 0)

-- ---- the answer to a whole frame

-- Bytes used: the frame's length, or 0, by the number.
abbrev pub used_of : (number size : ℕ) → ℕ
used_of number size = cond (uses_frame number) size 0

-- By the step of the call table and the reading of the payload; the calls open are those of the next table.
abbrev pub answer_of : (size : ℕ) → Stepped → Reading → Received
answer_of size stepped reading =
    record {
      number = stepped.number;
      place = (numbers reading).place;
      used = used_of stepped.number size;
      rows = (numbers reading).rows;
      tail_place = (numbers reading).tail_place_of;
      tail_length = (numbers reading).tail_length_of;
      «open» = count_open stepped.table.slots;
      comparisons = (numbers reading).comparisons;
      table = stepped.table;
    }

-- A plan settled up to the call table, as an answer over the call table l.
abbrev pub answer_in : Done → List Call → Received
answer_in d l = answer_of d.size (step_of d.judged (numbers d.reading).number l) d.reading
