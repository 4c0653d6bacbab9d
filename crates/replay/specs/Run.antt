-- The run of a record (entries: the byte C or S, then a frame) by a schema file: the entries in turn from the fresh call table, each with its answer, and
-- where the run stopped.
use Rattle.std.specs.Prelude.{Bool, cond, not, ◌&&◌, ◌||◌, List, [], ◌∷◌, ℕ, zero, suc, ◌+◌, eqb, length, drop, replicate, Result, Ok, Err}
use Rattle.frame.specs.declared.Header.{Header}
use Rattle.frame.specs.declared.FrameRead as reading
use Rattle.frame.specs.FrameRead.{FrameRead, More, Frame, Refused}
use Rattle.frame.specs.Frame.{frame_of}
use Rattle.frame.specs.Numbers.{numbers}
use Rattle.calls.specs.declared.Call.{Call}
use Rattle.connection.specs.Step.{fresh_table}
use Rattle.receiver.specs.Received.{Received}
use Rattle.receiver.specs.Fresh.{received_fresh}

-- The sheet has 4,096 rows of four cells. What it holds before an entry does not show.
abbrev pub sheet : List ℕ
sheet = replicate 16384 0

-- The calls at the start: none is open.
unfoldable pub fresh_calls : List Call
fresh_calls = fresh_table.slots

-- The answer to an entry's frame, on these calls, with fresh tallies.
unfoldable pub answer_to : (schema : List ℕ) (side : ℕ) (bytes : List ℕ) → List Call → Received
answer_to schema side bytes l = (received_fresh schema side bytes sheet l).answer

-- What was read at the front of the bytes, by the numbers of the refusals; what a refusal is, is a parameter.
abbrev pub told_read : {E : Type 0} → (number : E → ℕ) → Result reading.FrameRead E → FrameRead
told_read number (Ok reading.TheVariants.More) = More
told_read number (Ok (reading.TheVariants.Whole f)) = Frame f.header f.place f.length
told_read number (Err e) = Refused (number e)

-- The header of a frame that was read; an answer that uses bytes has one.
unfoldable pub header_in : FrameRead → Header
header_in v = (numbers v).header

-- Answers using no bytes, or 8 for a side byte not C (67) or S (83), stop the run; such an entry is not part of it.
abbrev pub stops : (side number used : ℕ) → Bool
stops side number used = eqb used 0 || (eqb number 8 && not (eqb side 67 || eqb side 83))

-- An entry of a run: the place of its side byte in the record, its side, its frame's header, and the answer.
pub record Entry : Type 0 where
  pub place : ℕ
  pub side : ℕ
  pub header : Header
  pub answer : Received

abbrev pub entry_of : (place side : ℕ) (bytes : List ℕ) → Received → Entry
entry_of place side bytes a = record { place = place; side = side; header = header_in (frame_of bytes); answer = a }

-- A run: its entries in order; then the number that stopped it and the bytes left from that entry on, both 0 at the record's end.
pub record Run : Type 0 where
  pub entries : List Entry
  pub number : ℕ
  pub left : ℕ

abbrev pub halted : (number left : ℕ) → Run
halted number left = record { entries = []; number = number; left = left }

abbrev pub onward : Entry → Run → Run
onward e r = record { entries = e ∷ r.entries; number = r.number; left = r.left }

-- The run from a place on. An entry takes a byte at least, so that a record has at most as many entries as bytes.
unfoldable pub run_from : (schema : List ℕ) → (most place : ℕ) → (left : List ℕ) → List Call → Run
run_from schema zero place left l = halted 0 0
run_from schema (suc n) place [] l = halted 0 0
run_from schema (suc n) place (side ∷ bytes) l =
    let a = answer_to schema side bytes l in
    cond (stops side a.number a.used) (halted a.number (length (side ∷ bytes)))
    (onward (entry_of place side bytes a) (run_from schema n (place + 1 + a.used) (drop a.used bytes) a.table.slots))

-- The run of a whole record.
unfoldable pub run_of : (schema entries : List ℕ) → Run
run_of schema entries = run_from schema (length entries) 0 entries fresh_calls
