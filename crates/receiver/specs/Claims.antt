-- What the theorems about a whole frame speak of.
use Rattle.std.specs.Prelude.{◌≡◌, true, List, ◌⊎◌, ℕ, ◌≤◌, length, take, drop, get_or, Option, Some}
use Rattle.schema.specs.Table.{Table}
use Rattle.schema.specs.File.{table_of}
use Rattle.schema.specs.Check.{IsGood}
use Rattle.schema.specs.Faults.{TableFault}
use Rattle.frame.specs.declared.Header.{Header}
use Rattle.frame.specs.FrameRead.{Frame as Whole}
use Rattle.frame.specs.Frame.{frame_of}
use Rattle.frame.specs.Faults.{FrameFault, CutFrame}
use Rattle.calls.specs.declared.Call.{Call}
use Rattle.calls.specs.declared.Frame.{Frame}
use Rattle.calls.specs.declared.Tally.{Tally}
use Rattle.calls.specs.declared.Figure.{Figure}
use Rattle.calls.specs.Counting.{no_tally}
use Rattle.calls.specs.Figures.{Full}
use Rattle.calls.specs.Record.{at_limit}
use Rattle.calls.specs.Apart.{call_method}
use Rattle.calls.specs.Slots.{good_table, own_of, full}
use Rattle.calls.specs.Good.{GoodCalls}
use Rattle.calls.specs.Order.{times, no_elements, Past, since}
use Rattle.value.specs.declared.Row.{Row}
use Rattle.flat.specs.Sheet.{shown_in}
use Rattle.reader.specs.Entry.{Numbers}
use Rattle.receiver.specs.Received.{Received}
use Rattle.receiver.specs.Released.{Released}
use Rattle.receiver.specs.Answer.{Effect, numbers_of}

-- What a step sees of a frame with this header: the side that it comes from, and each number of the header.
pub record SeenAs (from : ℕ) (h : Header) (f : Frame) : Type 0 where
  pub side : f.side ≡ from
  pub kind : f.kind ≡ h.kind
  pub «package» : f.«package» ≡ h.«package»
  pub service : f.service ≡ h.service
  pub method : f.method ≡ h.method
  pub correlation : f.correlation ≡ h.correlation

-- The bytes start with a whole frame; f is what a step sees of it. Its payload is the last `size` bytes, from the place on.
pub record Front (side : ℕ) (bytes : List ℕ) (f : Frame) : Type 0 where
  pub header : Header
  pub place : ℕ
  pub size : ℕ
  pub whole : frame_of bytes ≡ Whole header place size
  pub seen : SeenAs side header f

abbrev pub payload_in : {side : ℕ} {bytes : List ℕ} {f : Frame} → Front side bytes f → List ℕ
payload_in {bytes = bytes} w = take w.size (drop w.place bytes)

-- Good tables, with as many tally rows as methods.
pub record TablesReady (schema : List ℕ) (l : List Call) (rows : ℕ) : Type 0 where
  pub schema_good : IsGood schema
  pub calls_good : GoodCalls (table_of schema) l
  pub rows_right_of : rows ≡ length (table_of schema).methods

-- A fault of the tables, with its number and place, in the order of docs/FORMAT.md: of the schema table; a call table that is not good; a wrong number of tally rows.
pub data Unready (schema : List ℕ) (l : List Call) (rows : ℕ) : (number place : ℕ) → Type 0 where
  schema_fault : {n row : ℕ} → TableFault schema n row → Unready schema l rows n row
  calls_bad : IsGood schema → (GoodCalls (table_of schema) l → ⊥) → Unready schema l rows 15 0
  rows_wrong : IsGood schema → GoodCalls (table_of schema) l → (rows ≡ length (table_of schema).methods → ⊥) → Unready schema l rows 19 0

-- Why an answer comes before a frame is judged, in the order of docs/FORMAT.md: a fault of the tables; a field of the frame itself at fault; a frame that is cut.
pub data Stops (schema bytes : List ℕ) (l : List Call) (rows : ℕ) : (number place : ℕ) → Type 0 where
  tables : {n row : ℕ} → Unready schema l rows n row → Stops schema bytes l rows n row
  frame_fault : {n : ℕ} → TablesReady schema l rows → FrameFault bytes n → Stops schema bytes l rows n 0
  needs_more : TablesReady schema l rows → CutFrame bytes → Stops schema bytes l rows 1 0

-- The numbers of such an answer: 1 to 7 for the frame itself, 15 and 19, and from 40 on those of the schema file.
pub data Stopping : (number : ℕ) → Type 0 where
  of_frame : {n : ℕ} → 1 ≤ n → n ≤ 7 → Stopping n
  of_calls : Stopping 15
  of_rows : Stopping 19
  of_schema : {n : ℕ} → 40 ≤ n → Stopping n

-- The answer without the calls.
pub record Reply : Type 0 where
  pub numbers : Numbers
  pub used : ℕ

abbrev pub reply_of : Received → Reply
reply_of r = record { numbers = numbers_of r; used = r.used }

-- The sheet shows these rows from the first on, as many as the answer says, and is otherwise as it was.
pub record ShowsRows (rs : List Row) (sheet : List ℕ) (a : Effect) : Type 0 where
  pub rows : a.answer.rows ≡ length rs
  pub cells : a.sheet ≡ shown_in sheet rs

-- No rows, tail 0, 0, no comparisons, and the sheet untouched.
pub record Nothing (sheet : List ℕ) (a : Effect) : Type 0 where
  pub rows : a.answer.rows ≡ 0
  pub tail_place_of : a.answer.tail_place ≡ 0
  pub tail_length_of : a.answer.tail_length ≡ 0
  pub comparisons : a.answer.comparisons ≡ 0
  pub same : a.sheet ≡ sheet

-- The numbers for a frame, with their places (docs/PROMISES.md, "Numbers that come back"). A value's fault is placed in the payload, and 42 to 44 name the row; all else has place 0.
pub data AnswerNumber : (number place : ℕ) → Type 0 where
  accepted : AnswerNumber 0 0
  -- More bytes needed; the frame's own faults.
  frame : {n : ℕ} → 1 ≤ n → n ≤ 7 → AnswerNumber n 0
  -- The side and the call; the call table; a frame that crosses our cancel; the element limit; a full tally; the number of tally rows.
  call : {n : ℕ} → 8 ≤ n → n ≤ 19 → AnswerNumber n 0
  value : {n : ℕ} (place : ℕ) → 20 ≤ n → n ≤ 28 → AnswerNumber n place
  pairs : (place : ℕ) → AnswerNumber 31 place
  -- A payload where none belongs; too few rows.
  payload : {n : ℕ} → 29 ≤ n → n ≤ 30 → AnswerNumber n 0
  shape : {n : ℕ} → 40 ≤ n → n ≤ 41 → AnswerNumber n 0
  row : {n : ℕ} (place : ℕ) → 42 ≤ n → n ≤ 44 → AnswerNumber n place

-- The row of method m among the rows lent.
abbrev pub row_for : List Tally → (method : ℕ) → Tally
row_for ts m = get_or ts m no_tally

-- The numbers that keep a whole frame under good tables, so that it can come again: its own call is at the element limit, a lent tally is full, or the
-- sheet has too few rows.
pub data Keeps (kind : ℕ) (own : Option Call) (ts : List Tally) : (number : ℕ) → Type 0 where
  limit : (c : Call) → own ≡ Some c → at_limit kind c ≡ true → Keeps kind own ts 17
  tally : (m : ℕ) (x : Figure) → Full (row_for ts m) x → Keeps kind own ts 18
  few_rows : Keeps kind own ts 30

-- The numbers that keep a frame, and 19, which comes before it is judged.
pub data Keeping : (number : ℕ) → Type 0 where
  element_limit : Keeping 17
  tally_full : Keeping 18
  rows_miscounted : Keeping 19
  sheet_small : Keeping 30

-- Nothing is changed, and no bytes are used: no rows, tail or comparisons, and sheet, calls and tally rows as they were.
pub record KeptWhole (sheet : List ℕ) (ts : List Tally) (l : List Call) (a : Effect) : Type 0 where
  pub used : a.answer.used ≡ 0
  pub nothing : Nothing sheet a
  pub slots : a.answer.table.slots ≡ l
  pub tallies : a.tallies ≡ ts

-- The method m is that of the call that the frame at the front is about, by its own record: the call's, or for INVOKE the one that its identifiers name.
pub record About (T : Table) (side : ℕ) (bytes : List ℕ) (l : List Call) (m : ℕ) : Type 0 where
  pub frame : Frame
  pub front : Front side bytes frame
  pub is_method : call_method T frame (own_of frame.correlation l) ≡ Some m

-- Two answers that are the same but for the calls: equal replies, and sheets that show the same rows.
pub record SameAnswer (sheet₁ sheet₂ : List ℕ) (a₁ a₂ : Effect) : Type 0 where
  pub reply : reply_of a₁.answer ≡ reply_of a₂.answer
  pub rows : List Row
  pub first : ShowsRows rows sheet₁ a₁
  pub second : ShowsRows rows sheet₂ a₂

-- Two call tables and lists of tally rows alike for the frame at the front of the bytes: both good or both not, with the same record of its own call
-- and as many rows, that of the call's method the same; for INVOKE both with 128 calls open, or both with fewer.
pub record Alike (T : Table) (side : ℕ) (bytes : List ℕ) (l₁ l₂ : List Call) (ts₁ ts₂ : List Tally) : Type 0 where
  pub good : good_table T l₁ ≡ good_table T l₂
  pub own : (f : Frame) → Front side bytes f → own_of f.correlation l₁ ≡ own_of f.correlation l₂
  pub fullness : (f : Frame) → Front side bytes f → f.kind ≡ 1 → full l₁ ≡ full l₂
  pub rows : length ts₁ ≡ length ts₂
  pub row : (m : ℕ) → About T side bytes l₁ m → row_for ts₁ m ≡ row_for ts₂ m

-- ---- a release

-- The numbers of a release, with their places.
pub data ReleaseNumber : (number place : ℕ) → Type 0 where
  released : ReleaseNumber 0 0
  not_open : ReleaseNumber 11 0
  not_cancelled : ReleaseNumber 14 0
  full_tally : ReleaseNumber 18 0
  unready : {n place : ℕ} → (n ≡ 15) ⊎ ((n ≡ 19) ⊎ (40 ≤ n)) → AnswerNumber n place → ReleaseNumber n place

-- What the answer to a release says beside the calls.
pub record ReleaseReply : Type 0 where
  pub number : ℕ
  pub place : ℕ

abbrev pub release_reply : Released → ReleaseReply
release_reply r = record { number = r.number; place = r.place }

-- ---- stream elements

-- The record's counts are those of the elements accepted each way since the INVOKE of its call.
pub data CountedSince (c : Call) : Past → Type 0 where
  counts : (m : ℕ) (h : List ℕ) → c.input_elements ≡ times 2 h → c.output_elements ≡ times 4 h → CountedSince c (since m no_elements h)
