-- Paper 01, numbers that come back: its sentences, and below each the theorems that state it, cited from the crate that proves them. What a definition
-- or a contract alone states is in docs/PROMISES.md.
use mathlib.Core.List.{List}
use Prim.Native.Nat.{ℕ, ◌+◌, ◌<◌}
use mathlib.Core.Path.{◌≡◌}
use mathlib.Core.Logic.{◌↔◌}
use lib.ListN.{length}
use Rattle.wire.specs.Little.{Bytes}
use Rattle.frame.specs.declared.Header.{Header}
use Rattle.frame.specs.Numbers.{numbers as frame-numbers, no_frame}
use Rattle.frame.specs.Frame.{frame_of, read_used}
use Rattle.frame.specs.IsFrame.{Starts as frame-Starts}
use Rattle.frame.specs.Faults.{CutFrame}
use Rattle.frame.specs.Written.{written_of, Unwritten as frame-Unwritten}
use Rattle.frame.specs.FrameWritten.{Refused as frame-Refused}
use Rattle.calls.specs.declared.Tally.{Tally}
use Rattle.calls.specs.declared.Call.{Call}
use Rattle.calls.specs.declared.Frame.{Frame as calls-Frame}
use Rattle.value.specs.declared.Row.{Row as value-Row}
use Rattle.receiver.specs.Claims.{Stops, Front, ShowsRows}
use Rattle.receiver.specs.Receive.{received}
use Rattle.receiver.specs.Answer.{effect, stopped, used_of}
use Rattle.index.specs.Index.{index_number, make_index, index_place, index_length}
use Rattle.index.specs.Claims.{Refuses as index-Refuses, Finds}
use Rattle.index.specs.LookUp.{find_number, look_up, find_length, outcome as look-up-outcome}
use Rattle.index.specs.Finding.{Refused as look-up-Refused, Printed}
use Rattle.frame.proofs.Numbers as frame-Numbers
use Rattle.frame.proofs.ReadBack as frame-ReadBack
use Rattle.receiver.proofs.Ways as receiver-Ways
use Rattle.receiver.proofs.Answers as receiver-Answers
use Rattle.receiver.proofs.Records as receiver-Records
use Rattle.index.proofs.Numbers as index-Numbers

-- 0, 1: accepted; more bytes needed.

-- The frame reader: 0 comes back with a header, the payload's place and length and the bytes used exactly where the bytes start with that frame.
pub zero-iff-frame : (s : List ℕ) (h : Header) (place n : ℕ)
    → (frame-numbers (frame_of s) ≡ record { number = 0; header = h; place = place; size = n; used = place + n }) ↔ frame-Starts s h place n
zero-iff-frame = frame-Numbers.zero-iff-frame

-- The frame reader: 1 and zeros come back exactly where the bytes are cut.
pub one-iff-cut : (s : List ℕ) → (frame-numbers (frame_of s) ≡ no_frame 1) ↔ CutFrame s
one-iff-cut = frame-Numbers.one-iff-cut

-- 2 3 4 5: magic; version; kind; flags.

-- Stated in another file: `Demand1.frame-refused-iff`.

-- 6, 7: frame length malformed; payload above 16,384.

-- Stated in another file: `Demand1.frame-refused-iff`.

-- 8: wrong side for this kind, or no side.

-- Stated in another file: `Demand2.by_order`.

-- 9, 10, 11: method unknown; call already open; call not open.

-- Stated in other files: `Demand2.by_order`, `Demand2.release-by-order`.

-- 12, 13, 14: identifiers differ from the call's; 128 open; not allowed now.

-- Stated in other files: `Demand2.by_order`, `Demand2.release-by-order`.

-- 15: call table not good.

-- Stated in other files: `Demand1.stopped-iff`, `Demand1.release-stopped-iff`.

-- 16: a frame of the server that crosses our cancel (02, 2026-01).

-- Stated in another file: `Demand2.by_order`.

-- 17, 18, 19: element limit; a tally that is full; wrong number of tally rows (02, 2026-05).

-- Stated in other files: `Demand2.by_order`, `Demand1.stopped-iff`.

-- 20, 21: item (a cut VarUInt too), count or tail exceeds what remains; VarUInt malformed.

-- Stated in another file: `Demand1.value-refused-iff`.

-- 22 23 24 25: bool; UTF-8; duplicate key; required field absent.

-- Stated in other files: `Paper01Values.repeated-iff`, `Demand1.value-refused-iff`, `Demand1.value-write-refused-iff`, `Demand1.scalar-refused-iff`.

-- 26, 27: unknown bit in an inner struct; surplus bytes.

-- Stated in another file: `Demand1.value-refused-iff`.

-- 28, 29, 30: depth 17; payload where none belongs; sheet has too few rows.

-- Stated in other files: `Demand1.value-refused-iff`, `Demand1.value-write-refused-iff`, `Request01.nothing-belongs`.

-- 31: map above 64 pairs (02, 2026-10).

-- Computed: `value/Examples.read-limits`, `value/Examples.read-full`, `value/Examples.write-cases`.

-- Stated in other files: `Request10.pairs-refused`, `Request10.count-refused`, `Request10.row-refused`, `Request10.maps-small`,
-- `Request10.shown-small`.

-- 40, 41: schema file shape; too many rows.

-- Stated in another file: `Demand1.schema-refused-iff`.

-- 42, 43, 44: type row; field; method at fault.

-- Computed: `schema/Examples.T_damaged`.

-- Stated in another file: `Demand1.schema-refused-iff`.

-- 45: record, or the listing's schema file, above 65,536 bytes.

-- Stated in other files: `Request09.refused-iff`, `Request12.refused-iff`.

-- 46: type asked for is no struct.

-- Stated in other files: `Demand1.value-refused-iff`, `Demand1.value-write-refused-iff`.

-- 47: their table does not extend ours, bitmaps aside (02, 2026-08).

-- Stated in another file: `Request08.unextended-iff`.

-- 50, 51, 52: sheet doesn't fit; span outside the bytes; output too small (02, 2026-11: 50 and 51 also for a tail).

-- Making an index: a number above 0 comes back with a place and length 0 exactly for its fault, and leaves the output as it was.
pub index-number-iff-refused : (schema entries out after : List ℕ) →
    let made = make_index schema entries out in
    (number place : ℕ) → 0 < number
    → ((index_number made.answer ≡ number) × (index_place made.answer ≡ place) × (index_length made.answer ≡ 0) × (made.out ≡ after))
    ↔ (index-Refuses schema entries out number place × (after ≡ out))
index-number-iff-refused = index-Numbers.number-iff-refused

-- A look-up: 52 comes back with length 0 exactly where the text does not fit, and the output is as it was.
pub full-iff-no_space : (index entries : List ℕ) (c : ℕ) (out after : List ℕ) (b : Bytes index) →
    let found = look_up index entries c out in let Found = Finds index (length entries) c out in
    ((find_number found.answer ≡ 52) × (find_length found.answer ≡ 0) × (found.out ≡ after)) ↔ Found (look-up-outcome (look-up-Refused 52) after)
full-iff-no_space = index-Numbers.full-iff-no_space

-- Stated in another file: `Demand1.value-write-refused-iff`.

-- 53: list of spans too small (02, 2026-09).

-- Stated in another file: `Request09.refused-iff`.

-- 65, 66: index shape or order; record of another length (02, 2026-12).

-- A look-up: a number other than 52 comes back with a length exactly where it was judged of the index, and the text, which has that length, fits and
-- is put.
pub number-iff-printed : (index entries : List ℕ) (c : ℕ) (out after : List ℕ) (b : Bytes index) →
    let found = look_up index entries c out in let Found = Finds index (length entries) c out in
    (number n : ℕ) → (number ≡ 52 → ⊥)
    → ((find_number found.answer ≡ number) × (find_length found.answer ≡ n) × (found.out ≡ after)) ↔ Found (look-up-outcome (Printed number n) after)
number-iff-printed = index-Numbers.number-iff-printed

-- Stated in another file: `Request12.judged`.

-- "Order for a frame: 40 to 44, 15, 2 to 7 by wire order, 1, 8. Then INVOKE: 9, 10, 13, payload. Others: 11, 12, 14, payload." (02, 2026-01: 16 stands
-- where 14 would; 2026-05: 19 after 15, 17 before the payload, 18 last)

-- An answer that comes before the frame is judged has this number and place, and nothing else: no bytes used, no rows, no tail, and the calls, the
-- sheet and the tally rows as they were.
pub stops-early : (s : List ℕ) (side : ℕ) (bytes sheet : List ℕ) (ts : List Tally) (l : List Call)
    {n q : ℕ} → Stops s bytes l (length ts) n q → received s side bytes sheet ts l ≡ effect (stopped l n q) sheet ts
stops-early = receiver-Ways.stops-early

-- Stated in other files: `Demand1.stopped-iff`, `Demand2.by_order`.

-- "Reader alone: table, 46, 7, payload."

-- Stated in another file: `Demand1.read-refused-iff`.

-- "Within a value: 28, then its own bytes; a bitmap 20, 25, 26; a count above what remains (twice the count for maps) is 20; 24 once the later key is
-- whole." (02, 2026-10: 31 at the count, after 20)

-- Computed: `value/Examples.read-faults`.

-- Stated in another file: `Demand1.value-refused-iff`.

-- "29, then 30 only for a payload otherwise right."

-- Stated in other files: `Request01.nothing-belongs`, `Demand1.read-refused-iff`, `Paper01Sheet.too_few-rows`.

-- "Writer: table, 46, then row by row 28, 50 for what the row alone shows, 51, 22, 23, 25, 50 for what the bitmap shows, 24 at a later key's row; then
-- leftover rows 50, 7, 52." (02, 2026-10: 31 at the map's row, after 50 for what the row alone shows)

-- Computed: `value/Examples.write-cases`.

-- Stated in other files: `Demand1.value-write-refused-iff`, `Demand1.write-refused-iff`.

-- "Frame writer: 4, 7, 52."

-- The frame writer refuses with 4, 7 and 52 exactly for these faults.
pub frame-write-refused-iff : (h : Header) (p : List ℕ) (room number : ℕ) → (written_of h p room ≡ frame-Refused number) ↔ frame-Unwritten h p room number
frame-write-refused-iff = frame-ReadBack.refused-iff

-- Stated in another file: `Demand2.written-iff`.

-- "Bytes used: the frame's length for 0, 8 to 14 and 20 to 29; otherwise 0." (02, 2026-10: 31 too; 2026-01: 16 too)

-- The bytes used are the frame's length for 0, 8 to 14, 16, 20 to 29 and 31, and otherwise 0.
pub used-by-number : (s : List ℕ) (side : ℕ) (bytes sheet : List ℕ) (ts : List Tally) (l : List Call)
    → (received s side bytes sheet ts l).answer.used ≡ used_of (received s side bytes sheet ts l).answer.number (read_used (frame_of bytes))
used-by-number = receiver-Answers.used-by-number

-- Stated in another file: `Request10.uses-iff`.

-- "A refusal, 1 and an ERROR have no rows and tail 0, 0."

-- Stated in other files: `Demand1.receiver-refused-untouched`, `Paper01Frames.error-untouched`.

-- "At a refusal sheet and output stay untouched."

-- Stated in other files: `Demand1.reader-refused-untouched`, `Demand1.writer-refused-untouched`, `Request11.refused-iff`,
-- `Demand1.receiver-refused-untouched`, `Request06.refused-iff-unwritten`.

-- "Payload refusals 20 to 29 end the open call, and an INVOKE so refused opens none; 30 and all others change no call." (02, 2026-10: 31 ends it too)

-- An INVOKE that is refused opens no call.
pub opens-none : (s : List ℕ) (side : ℕ) (bytes sheet : List ℕ) (ts : List Tally) (l : List Call) (f : calls-Frame) (w : Front side bytes f) →
    let number = (received s side bytes sheet ts l).answer.number in let slots = (received s side bytes sheet ts l).answer.table.slots in
    f.kind ≡ 1 → (number ≡ 0 → ⊥) → slots ≡ l
opens-none = receiver-Records.opens-none

-- Stated in other files: `Demand1.refused-ends`, `Demand1.refused-kept`, `Demand1.ends-iff`.

-- "Past what an accepted answer writes, buffers are unchanged."

-- The sheet shows as many rows as the answer says, and its other cells are as they were.
pub shown : (s : List ℕ) (side : ℕ) (bytes sheet : List ℕ) (ts : List Tally) (l : List Call)
    → (rs : List value-Row) × ShowsRows rs sheet (received s side bytes sheet ts l)
shown = receiver-Answers.shown

-- Stated in other files: `Demand2.shown-iff-spelled`, `Demand2.written-iff-shown`.

-- "A faulty or cut VarUInt, bitmap or scalar: its first byte. A length or count above what remains: its VarUInt. 23: the content's start. 24: the
-- later key. 28: the child. A missing value, short tail or surplus: its start."

-- Computed: `value/Examples.read-faults`.

-- Stated in another file: `Demand1.value-refused-iff`.

-- "All else, 0, 29 and 30 included: 0, except that 42 to 44 and the writer's row faults name the row (a missing one: the number of rows)."

-- Computed: `schema/Examples.T_damaged`, `value/Examples.write-cases`.

-- Stated in other files: `Demand1.receiver-listed`, `Demand1.schema-refused-iff`, `Demand1.value-write-refused-iff`, `Demand1.write-refused-within`.
