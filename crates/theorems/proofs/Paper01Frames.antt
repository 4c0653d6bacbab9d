-- Paper 01, frames and calls: its sentences, and below each the theorems that state it, cited from the crate that proves them. What a definition or a
-- contract alone states is in docs/PROMISES.md.
use Rattle.std.specs.Prelude.{Some}
use mathlib.Core.List.{List, ◌++◌, map, ◌∷◌, []}
use Prim.Native.Nat.{ℕ, ◌<◌}
use lib.ListN.{length, take}
use mathlib.Core.Path.{◌≡◌}
use mathlib.Core.Bool.{false, true}
use lib.Dec.{eqb}
use Rattle.schema.specs.File.{table_of}
use Rattle.schema.specs.declared.Method.{Method}
use Rattle.schema.specs.Table.{Table}
use Rattle.frame.specs.declared.Header.{Header}
use Rattle.frame.specs.IsFrame.{IsFrame}
use Rattle.frame.specs.Frame.{frame_of}
use Rattle.frame.specs.FrameRead.{More}
use Rattle.calls.specs.Judge.{right_side, verdict_of, payload_of, typed, judge_of}
use Rattle.calls.specs.declared.Tally.{Tally}
use Rattle.calls.specs.declared.Call.{Call}
use Rattle.calls.specs.declared.Frame.{Frame as calls-Frame}
use Rattle.calls.specs.Slots.{own_of, full, good_table, slot, count_open}
use Rattle.connection.specs.Step.{fresh_table}
use Rattle.calls.specs.Apart.{verdict_own, verdict, touched}
use Rattle.calls.specs.declared.Payload.TheVariants.{Empty, Unread}
use Rattle.reader.specs.Entry.{room}
use Rattle.receiver.specs.Claims.{Front, Nothing, Alike}
use Rattle.receiver.specs.Receive.{received}
use Rattle.receiver.specs.Run.{State, Event as receiver-Event, state_from}
use Rattle.receiver.specs.Release.{released}
use Rattle.frame.proofs.Theorems as frame-Theorems
use Rattle.frame.proofs.Settled as frame-Settled
use Rattle.calls.proofs.Sides as calls-Sides
use Rattle.calls.proofs.Goodness as calls-Goodness
use Rattle.calls.proofs.Apart as calls-Apart
use Rattle.receiver.proofs.Records as receiver-Records
use Rattle.receiver.proofs.Answers as receiver-Answers
use Rattle.receiver.proofs.Runs as receiver-Runs
use Rattle.receiver.proofs.Kept as receiver-Kept

-- "A frame is AF 01, version 1, kind, flags 0, package, service and method (4 bytes each), correlation (8), VarUInt payload length, payload: 25 bytes
-- before the length."

-- Computed: `frame/Examples.invoke-written`.

-- Stated in another file: `Demand2.read-iff-frame`.

-- "A field is judged once it is whole."

-- Every proper prefix of a frame asks for more.
pub prefix_more : {h : Header} {p f : List ℕ} → IsFrame h p f → (i : ℕ) → i < length f → frame_of (take i f) ≡ More
prefix_more = frame-Theorems.prefix_more

-- Any other answer than that more is needed stays, whatever bytes follow.
pub settled : (s t : List ℕ) → (frame_of s ≡ More → ⊥) → frame_of (s ++ t) ≡ frame_of s
settled = frame-Settled.settled

-- Stated in other files: `Demand1.faulty-refused`, `Demand1.more-iff`.

-- "Client kinds: 1 INVOKE, 2 IN_STREAM, 3 IN_CLOSE, 8 CANCEL. Server kinds: 4 OUT_STREAM, 5 OUT_CLOSE, 6 RESPONSE, 7 ERROR."

-- The client (C) sends INVOKE, IN_STREAM, IN_CLOSE and CANCEL.
pub client-sends : let numbers : List ℕ = 0 ∷ 1 ∷ 2 ∷ 3 ∷ 4 ∷ 5 ∷ 6 ∷ 7 ∷ 8 ∷ 9 ∷ [] in
    map (right_side 67) numbers ≡ false ∷ true ∷ true ∷ true ∷ false ∷ false ∷ false ∷ false ∷ true ∷ false ∷ []
client-sends = calls-Sides.client-sends

-- The server (S) sends OUT_STREAM, OUT_CLOSE, RESPONSE and ERROR.
pub server-sends : let numbers : List ℕ = 0 ∷ 1 ∷ 2 ∷ 3 ∷ 4 ∷ 5 ∷ 6 ∷ 7 ∷ 8 ∷ 9 ∷ [] in
    map (right_side 83) numbers ≡ false ∷ false ∷ false ∷ false ∷ true ∷ true ∷ true ∷ true ∷ false ∷ false ∷ []
server-sends = calls-Sides.server-sends

-- Nobody else sends anything.
pub no-side : (side kind : ℕ) → (side ≡ 67 → ⊥) → (side ≡ 83 → ⊥) → right_side side kind ≡ false
no-side = calls-Sides.no-side

-- "INVOKE opens a call."

-- The own record afterwards, by the judgement without a slot and the answer's number.
pub own-after : (s : List ℕ) (side : ℕ) (bytes sheet : List ℕ) (ts : List Tally) (l : List Call) (f : calls-Frame) (w : Front side bytes f) →
    let slots = (received s side bytes sheet ts l).answer.table.slots in let T = table_of s in
    let number = (received s side bytes sheet ts l).answer.number in
    let own = own_of f.correlation l in own_of f.correlation slots ≡ verdict_own (verdict_of T f own (full l)) number own
own-after = receiver-Records.own-after

-- Stated in another file: `Request01.reflected`.

-- "RESPONSE comes once, for every form, empty without unary output, and may precede IN_CLOSE."

-- Stated in another file: `Demand2.by_order`.

-- "Output frames follow RESPONSE. Stream frames need their stream in the form and not closed."

-- Stated in another file: `Demand2.by_order`.

-- "Closes and CANCEL are empty; ERROR carries any bytes."

-- The payloads of the kinds from 1 to 8: input, input stream's element, nothing, output stream's element, nothing, output, any bytes, nothing.
pub payloads : (m : Method) → map (payload_of m) (1 ∷ 2 ∷ 3 ∷ 4 ∷ 5 ∷ 6 ∷ 7 ∷ 8 ∷ []) ≡
    typed m.input ∷ typed m.input_stream ∷ Empty ∷ typed m.output_stream ∷ Empty ∷ typed m.output ∷ Unread ∷ Empty ∷ []
payloads = calls-Sides.payloads

-- An ERROR, whatever its payload, has no rows, tail 0, 0 and no comparisons, and leaves the sheet untouched.
pub error-untouched : (s : List ℕ) (side : ℕ) (bytes sheet : List ℕ) (ts : List Tally) (l : List Call)
    (f : calls-Frame) → Front side bytes f → f.kind ≡ 7 → Nothing sheet (received s side bytes sheet ts l)
error-untouched = receiver-Answers.error-untouched

-- Stated in another file: `Request01.nothing-belongs`.

-- "A call is complete after RESPONSE and the close of each stream it has. ERROR and CANCEL end it at once." (02, 2026-01: CANCEL marks it, and it
-- stays open)

-- Stated in another file: `Request01.reflected`.

-- "An ended identifier may be used again."

-- Stated in another file: `Demand2.by_order`.

-- "The call table has 128 slots, all free and zero at the start;"

-- The fresh table is good, by any schema table.
pub fresh-good : (T : Table) → good_table T fresh_table.slots ≡ true
fresh-good = calls-Goodness.fresh-good

-- A history keeps the number of slots.
pub run_long : (s : List ℕ) (st : State) (es : List receiver-Event) → length (state_from s st es).calls ≡ length st.calls
run_long = receiver-Runs.run_long

-- "a new call takes the lowest free slot, an ended one is zeroed."

-- A new call takes the lowest free slot.
pub opened-lowest : (s : List ℕ) (side : ℕ) (bytes sheet : List ℕ) (ts : List Tally) (l : List Call) →
    let slots = (received s side bytes sheet ts l).answer.table.slots in
    (i : ℕ) → (slot l i).«open» ≡ false → (slot slots i).«open» ≡ true → (k : ℕ) → k < i → (slot l k).«open» ≡ true
opened-lowest = receiver-Records.opened-lowest

-- A good call table stays good after a frame: free slots stay zero.
pub stays-good : (s : List ℕ) (side : ℕ) (bytes sheet : List ℕ) (ts : List Tally) (l : List Call)
    → good_table (table_of s) l ≡ true → good_table (table_of s) (received s side bytes sheet ts l).answer.table.slots ≡ true
stays-good = receiver-Kept.stays-good

-- So it does after a release.
pub release-good : (s : List ℕ) (l : List Call) (id : ℕ) (ts : List Tally)
    → good_table (table_of s) l ≡ true → good_table (table_of s) (released s l id ts).answer.table.slots ≡ true
release-good = receiver-Kept.release-good

-- "The table is good when free slots are zero, open identifiers differ, method numbers exist, a closed mark stands only where the form has that
-- stream, output isn't ended before RESPONSE, and no open call is complete."

-- A good call table stays good over any history: 15 never comes.
pub run-good : (s : List ℕ) (st : State) → good_table (table_of s) st.calls ≡ true → (es : List receiver-Event)
    → good_table (table_of s) (state_from s st es).calls ≡ true
run-good = receiver-Runs.run-good

-- Stated above: `stays-good`, `release-good`. Stated in other files: `Request05.good-test`, `Request05.good-clauses`, `Demand2.good-iff-reached`.

-- "The open count aside, the answer to a frame depends on the schema table, on whether the call table is good, on the frame, its side, the sheet's
-- room and its own call's record; INVOKE also on whether 128 calls are open."

-- No slot is free exactly where all are open.
pub full_is : (l : List Call) → full l ≡ eqb (count_open l) (length l)
full_is = calls-Apart.full_is

-- Stated in another file: `Request05.same_answer`.

-- "Only the slot a new call gets depends on which others are free."

-- The judgement without its slot depends on the own record alone, and for INVOKE on whether a slot is free.
pub same-judgement : (T : Table) (f : calls-Frame) (l₁ l₂ : List Call) (same : own_of f.correlation l₁ ≡ own_of f.correlation l₂)
    (room : f.kind ≡ 1 → full l₁ ≡ full l₂)
    → verdict (judge_of T f l₁) ≡ verdict (judge_of T f l₂)
same-judgement = calls-Apart.same-judgement

-- Two call tables and lists of tally rows alike for a frame leave its own call with the same record. So only the slot that a new call gets depends on
-- which others are free.
pub same-own : (s : List ℕ) (side : ℕ) (bytes sheet₁ sheet₂ : List ℕ) (ts₁ ts₂ : List Tally) (l₁ l₂ : List Call) → room sheet₁ ≡ room sheet₂
    → Alike (table_of s) side bytes l₁ l₂ ts₁ ts₂ → (f : calls-Frame) → Front side bytes f
    → let a₁ = received s side bytes sheet₁ ts₁ l₁ in
    let a₂ = received s side bytes sheet₂ ts₂ l₂ in
    own_of f.correlation a₁.answer.table.slots ≡ own_of f.correlation a₂.answer.table.slots
same-own = receiver-Records.same-own

-- "Other records are unchanged."

-- No slot is changed but that of the frame's own call, or the one where INVOKE opens a call.
pub slots_kept : (s : List ℕ) (side : ℕ) (bytes sheet : List ℕ) (ts : List Tally) (l : List Call) →
    let T = table_of s in let slots = (received s side bytes sheet ts l).answer.table.slots in
    (j : ℕ) → ((f : calls-Frame) → Front side bytes f → touched (judge_of T f l) ≡ Some j → ⊥) → slot slots j ≡ slot l j
slots_kept = receiver-Records.slots_kept

-- Bytes after the frame change nothing.
pub rest-ignored : (s : List ℕ) (side : ℕ) (bytes sheet : List ℕ) (ts : List Tally) (l : List Call)
    (f : calls-Frame) → Front side bytes f → (rest : List ℕ) → received s side (bytes ++ rest) sheet ts l ≡ received s side bytes sheet ts l
rest-ignored = receiver-Answers.rest-ignored

-- Stated in other files: `Demand1.others-kept`, `Demand1.open_kept`.
