-- A history of events from a call table and tally rows: frames that come in and releases; and what was heard in it.
use Rattle.std.specs.Prelude.{Bool, List, [], ◌∷◌, ℕ, eqb, length, replicate}
use Rattle.schema.specs.Table.{Table}
use Rattle.schema.specs.File.{table_of}
use Rattle.frame.specs.FrameRead.{FrameRead, More, Frame as Whole, Refused}
use Rattle.frame.specs.Frame.{frame_of}
use Rattle.calls.specs.declared.Call.{Call}
use Rattle.calls.specs.declared.Frame.{Frame}
use Rattle.calls.specs.declared.Tally.{Tally}
use Rattle.calls.specs.Slots.{count_open}
use Rattle.connection.specs.Step.{fresh_table}
use Rattle.calls.specs.Counting.{no_tally}
use Rattle.calls.specs.Event as calls
use Rattle.calls.specs.Order.{Past, Heard, past_of}
use Rattle.receiver.specs.Answer.{Effect}
use Rattle.receiver.specs.Planning.{frame_from}
use Rattle.receiver.specs.Receive.{received}
use Rattle.receiver.specs.Release.{released}
use Rattle.receiver.specs.Claims.{Front}
use Rattle.receiver.specs.Order.{HasRoom}

-- What comes in: a side, bytes, and the sheet that is lent.
pub record Input : Type 0 where
  pub side : ℕ
  pub bytes : List ℕ
  pub sheet : List ℕ

pub data Event : Type 0 where
  input : Input → Event
  release : (correlation : ℕ) → Event

-- The calls and the tally rows between two events.
pub record State : Type 0 where
  pub calls : List Call
  pub tallies : List Tally

-- ---- one event

-- The state after it, and the number that is answered.
abbrev pub state_after : (schema : List ℕ) → Event → State → State
state_after schema (input i) st =
    let a = received schema i.side i.bytes i.sheet st.tallies st.calls in
    record { calls = a.answer.table.slots; tallies = a.tallies }
state_after schema (release id) st =
    let a = released schema st.calls id st.tallies in
    record { calls = a.answer.table.slots; tallies = a.tallies }

abbrev pub event_number : (schema : List ℕ) → Event → State → ℕ
event_number schema (input i) st = (received schema i.side i.bytes i.sheet st.tallies st.calls).answer.number
event_number schema (release id) st = (released schema st.calls id st.tallies).answer.number

-- What happens to the calls: the whole frame at the front of an input, or the release.
pub data Happens : Event → calls.Event → Type 0 where
  frame : (i : Input) (f : Frame) → Front i.side i.bytes f → Happens (input i) (calls.frame f)
  releases : (id : ℕ) → Happens (release id) (calls.release id)

-- The same as a list: without a whole frame nothing happens.
abbrev pub frame_heard : (side : ℕ) → FrameRead → (number : ℕ) → List Heard → List Heard
frame_heard side More number es = es
frame_heard side (Refused fault) number es = es
frame_heard side (Whole h place n) number es = record { event = calls.frame (frame_from side h); number = number } ∷ es

abbrev pub heard_in : Event → (number : ℕ) → List Heard → List Heard
heard_in (input i) number es = frame_heard i.side (frame_of i.bytes) number es
heard_in (release id) number es = record { event = calls.release id; number = number } ∷ es

-- ---- a history, its last event first

-- The state after it.
unfoldable pub state_from : (schema : List ℕ) → State → List Event → State
state_from schema st [] = st
state_from schema st (e ∷ es) = state_after schema e (state_from schema st es)

-- Its frames and releases, each with the number that was answered.
unfoldable pub heard_from : (schema : List ℕ) → State → List Event → List Heard
heard_from schema st [] = []
heard_from schema st (e ∷ es) = heard_in e (event_number schema e (state_from schema st es)) (heard_from schema st es)

-- The calls and the tally rows after it, and the answer to the frame that comes next.
abbrev pub calls_after : (schema : List ℕ) → State → List Event → List Call
calls_after schema st es = (state_from schema st es).calls

abbrev pub rows_after : (schema : List ℕ) → State → List Event → List Tally
rows_after schema st es = (state_from schema st es).tallies

abbrev pub answer_after : (schema : List ℕ) → State → List Event → Input → Effect
answer_after schema st es i = received schema i.side i.bytes i.sheet (rows_after schema st es) (calls_after schema st es)

-- Whether 128 calls are open after it.
abbrev pub full_after : (schema : List ℕ) → State → List Event → Bool
full_after schema st es = eqb (count_open (calls_after schema st es)) 128

-- The past of an identifier after it, by what was answered in it; `past` has the pasts at its start.
abbrev pub past_in : (schema : List ℕ) → State → (past : ℕ → Past) → List Event → (correlation : ℕ) → Past
past_in schema st past es id = past_of (table_of schema) id (past id) (heard_from schema st es)

-- After it the figure that a frame would raise with this number is not full.
abbrev pub RoomAfter : (schema : List ℕ) → State → (past : ℕ → Past) → List Event → Frame → (number : ℕ) → Type 0
RoomAfter schema st past es f n = HasRoom (table_of schema) f (past_in schema st past es f.correlation) (rows_after schema st es) n

-- A fresh start under a schema table: no calls, and a row of zeros for each method.
unfoldable pub fresh_tallies : Table → List Tally
fresh_tallies T = replicate (length T.methods) no_tally

abbrev pub fresh_state : Table → State
fresh_state T = record { calls = fresh_table.slots; tallies = fresh_tallies T }
