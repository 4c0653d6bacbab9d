-- The answer to a frame and to a release by the rules: by the past of its call, by what belongs in its payload, and by the tally row of its method.
use Rattle.std.specs.Prelude.{◌≡◌, Bool, List, [], ℕ, length, Some}
use Rattle.schema.specs.Table.{Table}
use Rattle.schema.specs.File.{table_of}
use Rattle.calls.specs.declared.Call.{Call}
use Rattle.calls.specs.declared.Frame.{Frame}
use Rattle.calls.specs.declared.Tally.{Tally}
use Rattle.calls.specs.declared.Payload.TheVariants.{Struct, Empty, Unread}
use Rattle.calls.specs.Slots.{own_of}
use Rattle.calls.specs.Good.{GoodCalls}
use Rattle.calls.specs.Event.{frame}
use Rattle.calls.specs.Order.{Elements, Past, since, Ruling, comes, Ruled, Releases, Reflects}
use Rattle.calls.specs.Order as rules
use Rattle.calls.specs.Figures.{event_as, method_in, Full}
use Rattle.reader.specs.Reading.{Shown, Refused}
use Rattle.reader.specs.Entry.{Outcome, outcome, reading_in, sheet_in, read_outcome, Numbers, numbers}
use Rattle.receiver.specs.Answer.{Effect, numbers_of}
use Rattle.receiver.specs.Claims.{row_for}

-- What an answer says of the payload: number, place, rows, the tail's place and length, comparisons; and the sheet as it is left.
pub record Said : Type 0 where
  pub numbers : Numbers
  pub sheet : List ℕ

abbrev pub said : Effect → Said
said a = record { numbers = numbers_of a.answer; sheet = a.sheet }

abbrev pub said_by : Outcome → Said
said_by o = record { numbers = numbers (reading_in o); sheet = sheet_in o }

-- What is answered to a frame with this payload, by what the rules say of the frame. Without a value there are no rows, the tail is 0, 0, and no comparisons are due.
pub data Answered (schema payload sheet : List ℕ) : Ruling → Said → Type 0 where
  stops : (n : ℕ) → Answered schema payload sheet (rules.refused n) (said_by (outcome (Refused n 0) sheet))
  -- A value belongs: as the entry `read` answers for its type.
  value : (t : ℕ) → Answered schema payload sheet (comes (Struct t)) (said_by (read_outcome schema t payload sheet))
  -- Nothing belongs: accepted without a byte, and else 29.
  empty : payload ≡ [] → Answered schema payload sheet (comes Empty) (said_by (outcome (Shown 0 0 0 0) sheet))
  surplus : (payload ≡ [] → ⊥) → Answered schema payload sheet (comes Empty) (said_by (outcome (Refused 29 0) sheet))
  -- ERROR carries any bytes.
  error : Answered schema payload sheet (comes Unread) (said_by (outcome (Shown 0 0 0 0) sheet))

-- The figure that the frame raises for the call's method, by its past and where this number is answered, is not full.
abbrev pub HasRoom : Table → Frame → Past → List Tally → (number : ℕ) → Type 0
HasRoom T f past ts n = (m : ℕ) → method_in T (frame f) past ≡ Some m → Full (row_for ts m) (event_as T (frame f) n past) → ⊥

-- The tally rows, last: where the figure that this answer would raise for the call's method, by its past, is full, 18 stands in its place and nothing is
-- written.
pub data Counted (T : Table) (f : Frame) (past : Past) (ts : List Tally) (sheet : List ℕ) (x : Said) : Said → Type 0 where
  full_tally : (m : ℕ) → method_in T (frame f) past ≡ Some m → Full (row_for ts m) (event_as T (frame f) x.numbers.number past)
      → Counted T f past ts sheet x (said_by (outcome (Refused 18 0) sheet))
  rises : HasRoom T f past ts x.numbers.number → Counted T f past ts sheet x x

-- By the rules x is the answer to the frame f with this payload, for this past of its call; `full` says that 128 calls are open.
pub record ByRules (schema payload sheet : List ℕ) (f : Frame) (full : Bool) (past : Past) (ts : List Tally) (x : Said) : Type 0 where
  pub ruling : Ruling
  pub ruled : Ruled (table_of schema) f full past ruling
  pub payload_said : Said
  pub answered : Answered schema payload sheet ruling payload_said
  pub counted : Counted (table_of schema) f past ts sheet payload_said x

-- By the rules n is the answer to the release of the call with this past.
pub data ReleasedAs (ts : List Tally) (past : Past) : (number : ℕ) → Type 0 where
  refused_release : {n : ℕ} → Releases past n → (n ≡ 0 → ⊥) → ReleasedAs ts past n
  full_release : (m : ℕ) (b : Elements) (h : List ℕ) → past ≡ since m b h → Releases past 0 → (row_for ts m).cancelled ≡ 4294967295 → ReleasedAs ts past 18
  released_now : (m : ℕ) (b : Elements) (h : List ℕ) → past ≡ since m b h → Releases past 0 → ((row_for ts m).cancelled ≡ 4294967295 → ⊥) → ReleasedAs ts past 0

-- A good call table of 128 slots, and for each identifier a past that it reflects; as many tally rows as methods.
pub record Reflected (T : Table) (l : List Call) (ts : List Tally) (past : ℕ → Past) : Type 0 where
  pub slots : length l ≡ 128
  pub good : GoodCalls T l
  pub reflects : (id : ℕ) → Reflects (past id) (own_of id l)
  pub rows : length ts ≡ length T.methods
