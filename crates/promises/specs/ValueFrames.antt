-- What is claimed of a frame that `write_value_frame` wrote, beside the sheet that it was handed.
use Rattle.std.specs.Prelude.{◌≡◌, List, [], ℕ, eqb, length}
use Rattle.schema.specs.declared.Field.{Field}
use Rattle.schema.specs.Table.{struct}
use Rattle.schema.specs.File.{table_of}
use Rattle.frame.specs.declared.Header.{Header}
use Rattle.value.specs.Value.{Value}
use Rattle.value.specs.Sheet.{rows_of}
use Rattle.value.specs.Fits.{Shows}
use Rattle.reader.specs.Reading.{Shown}
use Rattle.reader.specs.Entry.{outcome, read_outcome}
use Rattle.calls.specs.declared.Payload.TheVariants.{Struct, Empty, Unread}
use Rattle.calls.specs.Slots.{count_open}
use Rattle.calls.specs.Order.{Past, Ruling, comes, past_of, Ruled}
use Rattle.receiver.specs.Answer.{Effect, used_of}
use Rattle.receiver.specs.Planning.{frame_from}
use Rattle.receiver.specs.Receive.{received}
use Rattle.receiver.specs.Order.{Said, said, said_by, Counted}
use Rattle.receiver.specs.Run.{Event, State, state_from, heard_from}
use Rattle.promises.specs.Claims.{shapes, ReadsAs}

-- The payload holds what the sheet shows over the bytes B: `read` shows it in the sheet after, whole and with no tail. Without a value it is empty.
pub data Carries (schema : List ℕ) (ty : ℕ) (sheet B after : List ℕ) : (payload : List ℕ) → Type 0 where
  value : (payload : List ℕ) (fs : List Field) (v : Value) → shapes schema ty ≡ struct fs → Shows (shapes schema) B ty fs (rows_of sheet) v
      → ReadsAs schema ty fs payload after v (length payload) 0 → Carries schema ty sheet B after payload
  none : ty ≡ 4294967295 → Carries schema ty sheet B after []

-- The past of the header's call after a history from a start whose calls had these pasts before.
abbrev pub past_next : (schema : List ℕ) → State → (ℕ → Past) → List Event → Header → Past
past_next schema st past is h = past_of (table_of schema) h.correlation (past h.correlation) (heard_from schema st is)

-- What the rules say of the header's frame from this side, next after that history.
abbrev pub RuledNext : (schema : List ℕ) → State → (ℕ → Past) → List Event → (side : ℕ) → Header → Ruling → Type 0
RuledNext schema st past is side h ruling =
    Ruled (table_of schema) (frame_from side h) (eqb (count_open (state_from schema st is).calls) 128) (past_next schema st past is h) ruling

-- The answer x in place of y, by the tally rows of that history: y itself, or 18 where the tally that would rise is full.
abbrev pub CountedNext : (schema : List ℕ) → State → (ℕ → Past) → List Event → (side : ℕ) → Header → (after : List ℕ) → (y x : Said) → Type 0
CountedNext schema st past is side h after y x =
    Counted (table_of schema) (frame_from side h) (past_next schema st past is h) (state_from schema st is).tallies after y x

-- The next answer.
abbrev pub received_next : (schema : List ℕ) → State → List Event → (side : ℕ) (bytes after : List ℕ) → Effect
received_next schema st is side bytes after = let now = state_from schema st is in received schema side bytes after now.tallies now.calls

-- `receive` answers such a frame, the first m of the bytes: a value that belongs as `read` answers it; with 0 an empty payload where nothing belongs, and any
-- payload of an ERROR; each unless a tally is full. Bytes used are m or 0, by the number.
pub record ReceivedBack (schema : List ℕ) (ty : ℕ) (payload after : List ℕ) (st : State) (past : ℕ → Past) (is : List Event) (side : ℕ) (h : Header)
    (m : ℕ) (bytes : List ℕ) : Type 0 where
  pub value : RuledNext schema st past is side h (comes (Struct ty)) → (x : Said) → CountedNext schema st past is side h after (said_by (read_outcome schema ty payload after)) x
      → said (received_next schema st is side bytes after) ≡ x
  pub none : payload ≡ [] → RuledNext schema st past is side h (comes Empty) → (x : Said) → CountedNext schema st past is side h after (said_by (outcome (Shown 0 0 0 0) after)) x
      → said (received_next schema st is side bytes after) ≡ x
  pub error : RuledNext schema st past is side h (comes Unread) → (x : Said) → CountedNext schema st past is side h after (said_by (outcome (Shown 0 0 0 0) after)) x
      → said (received_next schema st is side bytes after) ≡ x
  pub used : let a = received_next schema st is side bytes after in a.answer.used ≡ used_of a.answer.number m
