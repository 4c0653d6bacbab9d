-- Demand 1, sentence by sentence: below each the theorems that state it, cited from the crate that proves them.
use Rattle.std.specs.Prelude.{None}
use mathlib.Core.List.{List, ◌++◌}
use Prim.Native.Nat.{ℕ, ◌≤◌}
use mathlib.Core.Path.{◌≡◌}
use mathlib.Core.Logic.{◌↔◌}
use lib.ListN.{length}
use mathlib.Core.Bool.{false, true}
use Rattle.schema.specs.Check.{IsGood, checked}
use Rattle.schema.specs.Checked.{Refused as schema-Refused}
use Rattle.schema.specs.Faults.{TableFault}
use Rattle.schema.specs.Numbered.{TableNumber}
use Rattle.schema.specs.File.{table_of}
use Rattle.schema.specs.Table.{Table, shape, struct}
use Rattle.schema.specs.Good.{GoodSchema}
use Rattle.schema.specs.declared.Field.{Field}
use Rattle.frame.specs.Frame.{frame_of, read_number}
use Rattle.frame.specs.FrameRead.{Refused as frame-Refused, More}
use Rattle.frame.specs.Faults.{FrameFault, CutFrame, Faulty, FrameNumber}
use Rattle.calls.specs.declared.Tally.{Tally}
use Rattle.calls.specs.declared.Call.{Call}
use Rattle.calls.specs.Numbers.{ends_call, EndsCall}
use Rattle.calls.specs.declared.Frame.{Frame as calls-Frame}
use Rattle.calls.specs.Slots.{own_of, slot}
use Rattle.calls.specs.Event.{Event as calls-Event}
use Rattle.calls.specs.Apart.{Freed}
use Rattle.value.specs.declared.Row.{Row as value-Row}
use Rattle.value.specs.Read.{read, refusal as read-refusal}
use Rattle.value.specs.Reasons.{Reason as value-Reason, RootFault, Settles}
use Rattle.value.specs.Write.{write, refusal as write-refusal}
use Rattle.value.specs.SheetReasons.{SheetReason}
use Rattle.value.specs.Sheet.{rows_of}
use Rattle.value.specs.Numbered.{ReadNumber, WriteNumber}
use Rattle.reader.specs.Entry.{read_outcome, outcome as reader-outcome, room}
use Rattle.reader.specs.Reading.{Refused as reader-Refused}
use Rattle.scalar.specs.Scalar.{scalar_by}
use Rattle.scalar.specs.Answer.{Refused as scalar-Refused}
use Rattle.scalar.specs.Reasons.{Reason as scalar-Reason}
use Rattle.writer.specs.Entry.{file_outcome, outcome as writer-outcome}
use Rattle.writer.specs.Writing.{Refused as writer-Refused}
use Rattle.receiver.specs.Receive.{received}
use Rattle.receiver.specs.Claims.{AnswerNumber, ReleaseNumber, Stopping, Stops, Unready, Nothing, Front}
use Rattle.receiver.specs.Release.{released}
use Rattle.receiver.specs.Run.{State, Event as receiver-Event, state_after, Happens, event_number}
use Rattle.promises.specs.Claims.{ReadReason, WriteReason, shapes}
use Rattle.schema.proofs.Faults as schema-Faults
use Rattle.schema.proofs.Numbered as schema-Numbered
use Rattle.frame.proofs.Faults as frame-Faults
use Rattle.frame.proofs.Answers as frame-Answers
use Rattle.calls.proofs.Used as calls-Used
use Rattle.value.proofs.Statements as value-Statements
use Rattle.scalar.proofs.Reasons as scalar-Reasons
use Rattle.receiver.proofs.Numbered as receiver-Numbered
use Rattle.receiver.proofs.Answers as receiver-Answers
use Rattle.receiver.proofs.Records as receiver-Records
use Rattle.receiver.proofs.Runs as receiver-Runs
use Rattle.receiver.proofs.Releases as receiver-Releases
use Rattle.promises.proofs.Reading as promises-Reading
use Rattle.promises.proofs.Refusals as promises-Refusals
use Rattle.promises.proofs.ReadBack as promises-ReadBack

-- "Every public entry takes any schema table, call table, bytes and buffer, ends, and answers."
-- Met by contracts: no public entry has a `requires`, and a contract holds only of a function that ends. docs/PROMISES.md, "The entries", names the
-- contract of each.

-- "Bad input gets the refusal number and place that document 01 lists."
-- The contract of each entry is an equation with a definition that gives number and place; the theorems say what these are.

-- Every answer to a frame has one of 01's numbers for it, or 16 to 19, with its place.
pub receiver-listed : (s : List ℕ) (side : ℕ) (bytes sheet : List ℕ) (ts : List Tally) (l : List Call)
    → let a = received s side bytes sheet ts l in AnswerNumber a.answer.number a.answer.place
receiver-listed = receiver-Numbered.listed

-- Every answer to a release has one of the request's numbers for it, with its place.
pub release-listed : (s : List ℕ) (l : List Call) (id : ℕ) (ts : List Tally) → let a = (released s l id ts).answer in ReleaseNumber a.number a.place
release-listed = receiver-Numbered.release-listed

-- The answer has one of the numbers that come before a frame is judged, at a place, exactly for that reason.
pub stopped-iff : (s : List ℕ) (side : ℕ) (bytes sheet : List ℕ) (ts : List Tally) (l : List Call) (n q : ℕ) → Stopping n
    → let a = (received s side bytes sheet ts l).answer in ((a.number ≡ n) × (a.place ≡ q)) ↔ Stops s bytes l (length ts) n q
stopped-iff = receiver-Numbered.stopped-iff

-- The answer to a release has one of the numbers that come before the call is judged, at a place, exactly for that fault of the tables.
pub release-stopped-iff : (s : List ℕ) (l : List Call) (id : ℕ) (ts : List Tally) (n q : ℕ) → Stopping n
    → let a = (released s l id ts).answer in ((a.number ≡ n) × (a.place ≡ q)) ↔ Unready s l (length ts) n q
release-stopped-iff = receiver-Numbered.release-stopped-iff

-- Bytes are refused with a number exactly where they start with the field at fault that has it, all before it right,
pub frame-refused-iff : (s : List ℕ) (n : ℕ) → (frame_of s ≡ frame-Refused n) ↔ FrameFault s n
frame-refused-iff = frame-Faults.refused-iff

-- and ask for more exactly where they are cut.
pub more-iff : (s : List ℕ) → (frame_of s ≡ More) ↔ CutFrame s
more-iff = frame-Faults.more-iff

-- The bytes up to the end of the field at fault decide.
pub faulty-refused : {f : List ℕ} {n : ℕ} → Faulty f n → (t : List ℕ) → frame_of (f ++ t) ≡ frame-Refused n
faulty-refused = frame-Faults.faulty-refused

-- The reader's number for any bytes is the one that they have by the relation: there is one, and no other.
pub number-iff : (s : List ℕ) (n : ℕ) → (read_number (frame_of s) ≡ n) ↔ FrameNumber s n
number-iff = frame-Faults.number-iff

-- Bytes have one number.
pub number-once : (s : List ℕ) {n m : ℕ} → FrameNumber s n → FrameNumber s m → n ≡ m
number-once = frame-Faults.number-once

-- A refusal has one of the frame reader's numbers, 2 to 7.
pub refused-numbers : (s : List ℕ) {number : ℕ} → frame_of s ≡ frame-Refused number → (2 ≤ number) × (number ≤ 7)
refused-numbers = frame-Answers.refused-numbers

-- By a good file a refusal's place lies within the payload or at its end.
pub refused-within : (s : List ℕ) → IsGood s → (ty : ℕ) (payload sheet : List ℕ) (n q : ℕ) (after : List ℕ)
    → read_outcome s ty payload sheet ≡ reader-outcome (reader-Refused n q) after → q ≤ length payload
refused-within = promises-Reading.refused-within

-- A schema file is refused with a number at a row exactly for its reason: 40 for its shape, 41 for a count above its limit, and 42, 43 and 44 name the first
-- type row, field or method that is not good, with every section before it good.
pub schema-refused-iff : (s : List ℕ) (n q : ℕ) → (checked s ≡ schema-Refused n q) ↔ TableFault s n q
schema-refused-iff = schema-Faults.refused-iff

-- A refusal is 40 or 41 at 0, or 42, 43 or 44 at a row that its section has.
pub schema-listed : (s : List ℕ) (n q : ℕ) → checked s ≡ schema-Refused n q → TableNumber (table_of s) n q
schema-listed = schema-Numbered.listed

-- A row is refused with a number at a place exactly for its reason.
pub scalar-refused-iff : (schema : List ℕ) (r : value-Row) (bytes : List ℕ) (n q : ℕ) → (scalar_by schema r bytes ≡ scalar-Refused n q) ↔ scalar-Reason schema bytes r n q
scalar-refused-iff = scalar-Reasons.refused-iff

-- The reader refuses with a number at a place exactly for its reason, which says what stands there and what before it.
pub value-refused-iff : (T : Table) (good : GoodSchema T) (t : ℕ)
    (payload : List ℕ) (room n p : ℕ) → (read T t payload room ≡ read-refusal n p) ↔ value-Reason (shape T) t payload room n p
value-refused-iff = value-Statements.refused-iff

-- The writer refuses with a number at a row exactly for its reason, which says what that row shows and what the rows before it show.
pub value-write-refused-iff : (T : Table) (good : GoodSchema T) (t : ℕ)
    (rs : List value-Row) (B : List ℕ) (room n k : ℕ) → (write T t rs B room ≡ write-refusal n k) ↔ SheetReason (shape T) t rs B room n k
value-write-refused-iff = value-Statements.write-refused-iff

-- The reader refuses with a number at a place exactly for its reason: the schema file's own refusal, or what stands at that place of the payload and
-- before it. The sheet stays untouched.
pub read-refused-iff : (s : List ℕ) (ty : ℕ) (payload sheet : List ℕ) (n q : ℕ) (after : List ℕ)
    → (read_outcome s ty payload sheet ≡ reader-outcome (reader-Refused n q) after) ↔ ((after ≡ sheet) × ReadReason s ty payload (room sheet) n q)
read-refused-iff = promises-Refusals.read-refused-iff

-- The writer refuses with a number at a row exactly for its reason: the schema file's own refusal, or what that row shows and the rows before it. The
-- output stays untouched.
pub write-refused-iff : (s : List ℕ) (ty : ℕ) (sheet B out : List ℕ) (n q : ℕ) (out' : List ℕ)
    → (file_outcome s ty sheet B out ≡ writer-outcome (writer-Refused n q) out') ↔ ((out' ≡ out) × WriteReason s ty (rows_of sheet) B (length out) n q)
write-refused-iff = promises-Refusals.write-refused-iff

-- Where the number is 21 to 26, 28 or 31, what follows the faulty bytes does not matter: with any other bytes there, as many or more, the payload is
-- refused alike.
pub value-after-free : (T : Table) (good : GoodSchema T) (t : ℕ)
    (fs : List Field) (u x rest : List ℕ) (n : ℕ) → shape T t ≡ struct fs → RootFault (shape T) fs u x rest n → Settles n
    → (more : List ℕ) (room : ℕ) → length rest ≤ length more → length (u ++ (x ++ more)) ≤ 16384 → read T t (u ++ (x ++ more)) room ≡ read-refusal n (length u)
value-after-free = value-Statements.after_free

-- Where the number is 21 to 26, 28 or 31, what follows the faulty bytes does not matter: with any other bytes there, as many or more, the payload is
-- refused alike.
pub after_free : (s : List ℕ) → IsGood s → (ty : ℕ) (fs : List Field) (u x rest : List ℕ) (n : ℕ) → shapes s ty ≡ struct fs
    → RootFault (shapes s) fs u x rest n → Settles n → (more sheet : List ℕ) → length rest ≤ length more → length (u ++ (x ++ more)) ≤ 16384
    → read_outcome s ty (u ++ (x ++ more)) sheet ≡ reader-outcome (reader-Refused n (length u)) sheet
after_free = promises-Refusals.after_free

-- A refusal has one of 01's numbers: 46, 7, 30, or 20 to 28 and 31 for a value's fault.
pub refused-number : (T : Table) (good : GoodSchema T) (t : ℕ) (payload : List ℕ) (room n p : ℕ) → read T t payload room ≡ read-refusal n p → ReadNumber n
refused-number = value-Statements.refused-number

-- A refusal has one of 01's numbers: 46, 7, 52, or a row's fault.
pub write-refused-number : (T : Table) (good : GoodSchema T) (t : ℕ)
    (rs : List value-Row) (B : List ℕ) (room n k : ℕ) → write T t rs B room ≡ write-refusal n k → WriteNumber n
write-refused-number = value-Statements.write-refused-number

-- A refusal names a row that is there, or the number of rows.
pub write-refused-within : (T : Table) (good : GoodSchema T) (t : ℕ)
    (rs : List value-Row) (B : List ℕ) (room n k : ℕ) → write T t rs B room ≡ write-refusal n k → k ≤ length rs
write-refused-within = value-Statements.write-refused-within

-- Stated in another file: `Demand2.by_order`.

-- "A refusal leaves sheets and output untouched;"
-- The frame writer's is its contract: the output afterwards is `frame/specs/Written.output_of`.

-- At every refusal, the schema file's too, the sheet stays untouched.
pub reader-refused-untouched : (s : List ℕ) (ty : ℕ) (payload sheet : List ℕ) (n q : ℕ) (after : List ℕ)
    → read_outcome s ty payload sheet ≡ reader-outcome (reader-Refused n q) after → after ≡ sheet
reader-refused-untouched = promises-Reading.refused-untouched

-- At every refusal, the schema file's too, the output stays untouched.
pub writer-refused-untouched : (s : List ℕ) (ty : ℕ) (sheet B out : List ℕ) (n q : ℕ) (out' : List ℕ)
    → file_outcome s ty sheet B out ≡ writer-outcome (writer-Refused n q) out' → out' ≡ out
writer-refused-untouched = promises-ReadBack.refused-untouched

-- A refusal, and 1, have no rows, tail 0, 0 and no comparisons, and leave the sheet untouched.
pub receiver-refused-untouched : (s : List ℕ) (side : ℕ) (bytes sheet : List ℕ) (ts : List Tally) (l : List Call)
    → ((received s side bytes sheet ts l).answer.number ≡ 0 → ⊥) → Nothing sheet (received s side bytes sheet ts l)
receiver-refused-untouched = receiver-Answers.refused-untouched

-- Stated in other files: `Request11.refused-iff`, `Request06.refused-iff-unwritten`.

-- "only a bad payload ends a call, and then its own."

-- A refusal that is no payload refusal changes no call, 30 among them.
pub refused-kept : (s : List ℕ) (side : ℕ) (bytes sheet : List ℕ) (ts : List Tally) (l : List Call) →
    let slots = (received s side bytes sheet ts l).answer.table.slots in let number = (received s side bytes sheet ts l).answer.number in
    (number ≡ 0 → ⊥) → ends_call number ≡ false → slots ≡ l
refused-kept = receiver-Records.refused-kept

-- Payload refusals end the open call.
pub refused-ends : (s : List ℕ) (side : ℕ) (bytes sheet : List ℕ) (ts : List Tally) (l : List Call) (f : calls-Frame) (w : Front side bytes f) →
    let slots = (received s side bytes sheet ts l).answer.table.slots in let number = (received s side bytes sheet ts l).answer.number in
    (f.kind ≡ 1 → ⊥) → ends_call number ≡ true → own_of f.correlation slots ≡ None
refused-ends = receiver-Records.refused-ends

-- Payload refusals 20 to 29 and 31 end the open call, and no other number does.
pub ends-iff : (n : ℕ) → (ends_call n ≡ true) ↔ EndsCall n
ends-iff = calls-Used.ends-iff

-- The record of every other identifier is unchanged.
pub others-kept : (s : List ℕ) (side : ℕ) (bytes sheet : List ℕ) (ts : List Tally) (l : List Call) →
    let slots = (received s side bytes sheet ts l).answer.table.slots in
    (k : ℕ) → ((f : calls-Frame) → Front side bytes f → k ≡ f.correlation → ⊥) → own_of k slots ≡ own_of k l
others-kept = receiver-Records.others-kept

-- An open slot under another correlation than the frame's is unchanged.
pub open_kept : (s : List ℕ) (side : ℕ) (bytes sheet : List ℕ) (ts : List Tally) (l : List Call) →
    let slots = (received s side bytes sheet ts l).answer.table.slots in
    (i : ℕ) → (slot l i).«open» ≡ true → ((f : calls-Frame) → Front side bytes f → (slot l i).correlation ≡ f.correlation → ⊥)
    → slot slots i ≡ slot l i
open_kept = receiver-Records.open_kept

-- A slot is freed only by a payload refusal, the completion of the call, ERROR, or the release of a cancelled call, each its own.
pub freed : (s : List ℕ) (st : State) (e : receiver-Event) (i : ℕ) → (slot st.calls i).«open» ≡ true → (slot (state_after s e st).calls i).«open» ≡ false
    → (x : calls-Event) × Happens e x × Freed (table_of s) x (event_number s e st) (slot st.calls i)
freed = receiver-Runs.freed

-- A release that is refused changes no call,
pub release-refused-kept : (s : List ℕ) (l : List Call) (id : ℕ) (ts : List Tally) →
    let slots = (released s l id ts).answer.table.slots in let number = (released s l id ts).answer.number in
    (number ≡ 0 → ⊥) → slots ≡ l
release-refused-kept = receiver-Releases.refused-kept

-- and every tally row stays as it was.
pub refused-rows : (s : List ℕ) (l : List Call) (id : ℕ) (ts : List Tally) →
    let number = (released s l id ts).answer.number in
    (number ≡ 0 → ⊥) → (released s l id ts).tallies ≡ ts
refused-rows = receiver-Releases.refused-rows
