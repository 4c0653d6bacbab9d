-- The entries: what is promised of them on the whole, cited from the crate that proves it. The statement of each entry is its contract, which
-- docs/PROMISES.md names.
use Prim.Native.Nat.{ℕ, ◌<◌, ◌^◌, ◌≤◌, ◌/◌}
use mathlib.Core.Path.{◌≡◌}
use mathlib.Core.List.{List}
use lib.ListN.{length, get_or, replicate}
use mathlib.Core.Bool.{true, false}
use mathlib.Core.Logic.{◌↔◌}
use Rattle.schema.specs.Numbers.{check_number, extend_number}
use Rattle.schema.specs.Check.{checked}
use Rattle.schema.specs.Extend.{extension}
use Rattle.frame.specs.Frame.{read_number as frame-readNumber, frame_of}
use Rattle.frame.specs.declared.Header.{Header}
use Rattle.frame.specs.Written.{written_of, write_number as frame-writeNumber}
use Rattle.text.specs.Decimal.{decimal, Digits, decimal_value}
use Rattle.salvage.specs.Salvage.{salvage_of, salvage_number}
use Rattle.calls.specs.Numbers.{ends_call}
use Rattle.calls.specs.declared.Tally.{Tally}
use Rattle.calls.specs.declared.Call.{Call}
use Rattle.connection.specs.Step.{fresh_table}
use Rattle.value.specs.declared.Row.{Row as value-Row}
use Rattle.reader.specs.Reading.{Reading}
use Rattle.reader.specs.Reading.{Refused as reader-Refused}
use Rattle.reader.specs.Entry.{read_outcome, outcome as reader-outcome}
use Rattle.reader.specs.Beside.{beside_outcome}
use Rattle.scalar.specs.Scalar.{scalar_by, scalar_number}
use Rattle.writer.specs.Writing.{Writing}
use Rattle.writer.specs.Writing.{Refused as writer-Refused}
use Rattle.writer.specs.Numbers.{write_number as writer-writeNumber}
use Rattle.writer.specs.Entry.{file_outcome, outcome as writer-outcome}
use Rattle.forward.specs.Entry.{forward_outcome}
use Rattle.receiver.specs.Answer.{effect}
use Rattle.receiver.specs.Release.{release_effect, released}
use Rattle.receiver.specs.Run.{Event as receiver-Event, state_from}
use Rattle.receiver.specs.Receive.{received}
use Rattle.index.specs.Index.{make_index, index_number}
use Rattle.index.specs.LookUp.{look_up, find_number}
use Rattle.cells.specs.Cells.{stored}
use Rattle.cells.specs.Records.{are_calls, AreCalls, calls_of, CallsFit, rows_of, row_cells, cells_of}
use Rattle.cells.specs.Scalars.{scalar_cells, scalar_told}
use Rattle.exports.specs.Told.{check_told, extend_told, frame_told, written_told, salvage_told, index_told, find_told, read_told_of, write_told, received_told, released_told}
use Rattle.exports.specs.Answers.{check_cells, extend_cells, frame_cells, written_cells, salvage_cells, index_cells, find_cells, read_number as reader-readNumber, read_cells, write_cells, receiving}
use Rattle.exports.specs.Answers.{received_cells, call_cells, releasing, released_cells, not_calls, not_released}
use Rattle.exports.specs.Run.{Cells, state_of, run_cells}
use Rattle.words.specs.Number.{parsed_of}
use Rattle.std.specs.Prelude.{Some}
use Rattle.promises.proofs.Refusals as promises-Refusals
use Rattle.promises.proofs.Beside as promises-Beside
use Rattle.promises.proofs.Forwarding as promises-Forwarding
use Rattle.cells.proofs.RoundTrip as cells-RoundTrip
use Rattle.cells.proofs.ScalarTold as cells-ScalarTold
use Rattle.cells.proofs.Tallies as cells-Tallies
use Rattle.exports.proofs.Told as exports-Told
use Rattle.exports.proofs.Held as exports-Held
use Rattle.words.proofs.Numbers as words-Numbers

-- `words::number::number_of`: the answer is `words/specs/Number.parsed_of` of the word.

-- What is written in decimal is read as the same number, below 2^64.
pub decimal-read : (n : ℕ) → n < 2 ^ 64 → parsed_of (decimal n) ≡ Some n
decimal-read = words-Numbers.decimal-read

-- What is read has digits alone, at least one, and they give the number.
pub read-decimal : (n : ℕ) (word : List ℕ) → parsed_of word ≡ Some n → (0 < length word) × Digits word × (decimal_value 0 word ≡ n)
read-decimal = words-Numbers.read-decimal

-- For programs in other languages, of each entry: number and cells determine the answer.

-- Those of the table check.
pub check-entry : (s : List ℕ) → check_told (check_number (checked s)) (check_cells (checked s)) ≡ checked s
check-entry = exports-Told.check-entry

-- Those of the extension test.
pub extends-entry : (old new : List ℕ) → extend_told (extend_number (extension old new)) (extend_cells (extension old new)) ≡ extension old new
extends-entry = exports-Told.extends-entry

-- Those of the frame reader.
pub read-frame-entry : (s : List ℕ) → frame_told (frame-readNumber (frame_of s)) (frame_cells (frame_of s)) ≡ frame_of s
read-frame-entry = exports-Told.read-frame-entry

-- Those of the frame writer.
pub write-frame-entry : (h : Header) (p : List ℕ) (room : ℕ) → let a = written_of h p room in written_told (frame-writeNumber a) (written_cells a) ≡ a
write-frame-entry = exports-Told.write-frame-entry

-- Those of a salvage.
pub salvage_entry : (torn copy spans : List ℕ) → let a = (salvage_of torn copy spans).answer in salvage_told (salvage_number a) (salvage_cells a) ≡ a
salvage_entry = exports-Told.salvage_entry

-- Those of making an index.
pub make-index-entry : (schema entries out : List ℕ) → let a = (make_index schema entries out).answer in index_told (index_number a) (index_cells a) ≡ a
make-index-entry = exports-Told.make-index-entry

-- Those of a look-up.
pub look-up-entry : (index entries : List ℕ) (c : ℕ) (out : List ℕ) → let a = (look_up index entries c out).answer in find_told (find_number a) (find_cells a) ≡ a
look-up-entry = exports-Told.look-up-entry

-- Of a payload read, written or forwarded, and of a frame written from a value, since no refusal has the number 0:

-- Those of a payload reader, where no refusal has the number 0.
pub read_told : (a : Reading) → ((n q : ℕ) → a ≡ reader-Refused n q → 1 ≤ n) → read_told_of (reader-readNumber a) (read_cells a) ≡ a
read_told = exports-Told.read_told

-- Those of a payload writer, where no refusal has the number 0.
pub write-told : (a : Writing) → ((n q : ℕ) → a ≡ writer-Refused n q → 1 ≤ n) → write_told (writer-writeNumber a) (write_cells a) ≡ a
write-told = exports-Told.write-told

-- No refusal of the reader has the number 0.
pub read-refused-above : (s : List ℕ) (ty : ℕ) (payload sheet : List ℕ) (n q : ℕ) (after : List ℕ)
    → read_outcome s ty payload sheet ≡ reader-outcome (reader-Refused n q) after → 0 < n
read-refused-above = promises-Refusals.read-refused-above

-- No refusal of the writer has the number 0.
pub write-refused-above : (s : List ℕ) (ty : ℕ) (sheet B out : List ℕ) (n q : ℕ) (out' : List ℕ)
    → file_outcome s ty sheet B out ≡ writer-outcome (writer-Refused n q) out' → 0 < n
write-refused-above = promises-Refusals.write-refused-above

-- No refusal of the reader beside another's table has the number 0: all are 7 to 47.
pub beside-refused-numbers : (ours theirs : List ℕ) (ty : ℕ) (payload sheet : List ℕ)
    (n q : ℕ) (after : List ℕ) → beside_outcome ours theirs ty payload sheet ≡ reader-outcome (reader-Refused n q) after → (7 ≤ n) × (n ≤ 47)
beside-refused-numbers = promises-Beside.refused-numbers

-- No refusal of the forwarding writer has the number 0.
pub forward-refused-above : (s : List ℕ) (ty : ℕ) (sheet B : List ℕ) (place n : ℕ) (out : List ℕ) (k q : ℕ) (out' : List ℕ)
    → forward_outcome s ty sheet B place n out ≡ writer-outcome (writer-Refused k q) out' → 0 < k
forward-refused-above = promises-Forwarding.refused-above

-- Stated in another file: `Request06.refused-iff-unwritten`.

-- Of a frame received and of a release, with the call table's cells:

-- Those of a frame received, whatever was lent.
pub receive-entry : (table schema : List ℕ) (side : ℕ) (bytes sheet tallies : List ℕ) → let a = (receiving table schema side bytes sheet tallies).answer in
    received_told a.number (received_cells a) (call_cells table a.table.slots) ≡ a
receive-entry = exports-Told.receive-entry

-- Those of a release, whatever was lent.
pub release-entry : (table schema : List ℕ) (id : ℕ) (tallies : List ℕ) → let a = (releasing table schema id tallies).answer in
    released_told a.number (released_cells a) (call_cells table a.table.slots) ≡ a
release-entry = exports-Told.release-entry

-- Of a scalar:

-- Those of a scalar, for bytes below 256.
pub scalar-entry : (schema : List ℕ) (r : value-Row) (bytes : List ℕ) (h : (i : ℕ) → get_or bytes i 0 < 256)
    → let a = scalar_by schema r bytes in scalar_told (scalar_number a) (scalar_cells a) ≡ a
scalar-entry = cells-ScalarTold.scalar-entry

-- Cells are a call table exactly where there are 384 of them or more, each method number has 32 bits, and the marks with the elements have 37.

-- The test passes exactly for the cells that are a call table.
pub are-calls-iff : (cells : List ℕ) → (are_calls cells ≡ true) ↔ AreCalls cells
are-calls-iff = cells-RoundTrip.are-calls-iff

-- Computed: `cells/Examples.marks-alone`, `cells/Examples.marks-read`.

-- Any other cells are refused with 15, in 01's order, and stay as they are.

-- A frame with such cells is refused with 15, after the schema's faults.
pub cells-refused : (cells schema : List ℕ) (side : ℕ) (bytes sheet tallies : List ℕ) (bad : are_calls cells ≡ false) →
    let answer = receiving cells schema side bytes sheet tallies in let rows = rows_of tallies in
    answer ≡ effect (not_calls (checked schema) (calls_of cells)) sheet rows
cells-refused = exports-Held.cells-refused

-- A release with such cells is refused with 15, after the schema's faults.
pub release-refused : (cells schema : List ℕ) (id : ℕ) (tallies : List ℕ) →
    let reply = releasing cells schema id tallies in let lent = rows_of tallies in
    are_calls cells ≡ false → reply ≡ release_effect (not_released (checked schema) (calls_of cells)) lent
release-refused = exports-Held.release-refused

-- At every refusal the sheet stays as it was, and the cells of the call table and of the tally rows too unless the refusal ends the call.

-- After a frame that is refused.
pub refused-untouched : (cells schema : List ℕ) (side : ℕ) (bytes sheet tallies : List ℕ) →
    let answer = receiving cells schema side bytes sheet tallies in let after = call_cells cells answer.answer.table.slots in
    let rows_left = row_cells tallies answer.tallies in
    (answer.answer.number ≡ 0 → ⊥)
    → (answer.sheet ≡ sheet) × (ends_call answer.answer.number ≡ false → (after ≡ cells) × (rows_left ≡ tallies))
refused-untouched = exports-Held.refused-untouched

-- After a release that is refused, which ends no call.
pub release-untouched : (cells schema : List ℕ) (id : ℕ) (tallies : List ℕ) →
    let reply = releasing cells schema id tallies in let left = call_cells cells reply.answer.table.slots in
    let left_rows = row_cells tallies reply.tallies in
    (reply.answer.number ≡ 0 → ⊥) → (left ≡ cells) × (left_rows ≡ tallies)
release-untouched = exports-Held.release-untouched

-- Tally rows are five cells a method, whatever is left over, and come back from the cells.

-- As many rows as there are cells for come back.
pub rows_back : (cells : List ℕ) (ts : List Tally) → length ts ≡ length cells / 5 → rows_of (row_cells cells ts) ≡ ts
rows_back = cells-Tallies.rows_back

-- Rows that are read and stored again leave the cells as they were.
pub rows_same : (cells : List ℕ) → row_cells cells (rows_of cells) ≡ cells
rows_same = cells-Tallies.rows_same

-- There are as many rows as five cells each.
pub rows_long : (cells : List ℕ) → length (rows_of cells) ≡ length cells / 5
rows_long = cells-Tallies.rows_long

-- The rows after a frame come back from the cells.
pub rows-held : (cells schema : List ℕ) (side : ℕ) (bytes sheet tallies : List ℕ) →
    let answer = receiving cells schema side bytes sheet tallies in let rows_left = row_cells tallies answer.tallies in
    rows_of rows_left ≡ answer.tallies
rows-held = exports-Held.rows-held

-- The rows after a release come back from the cells.
pub left-rows-held : (cells schema : List ℕ) (id : ℕ) (tallies : List ℕ) →
    let reply = releasing cells schema id tallies in let left_rows = row_cells tallies reply.tallies in
    rows_of left_rows ≡ reply.tallies
left-rows-held = exports-Held.left-rows-held

-- Computed: `cells/Examples.rows-read`, `cells/Examples.rows_told`.

-- A call table survives being stored in cells and read back, cells of 0 are the fresh table, and a history over lent cells is the history of
-- `arf::receive` and `arf::release`.

-- A call table survives being stored and read back, in as many cells as it needs.
pub table-back : (cells : List ℕ) (l : List Call) → length l ≡ 128 → CallsFit l → 384 ≤ length cells → calls_of (stored cells (cells_of l)) ≡ l
table-back = cells-RoundTrip.table-back

-- Cells of 0 are the fresh table.
pub zeros-fresh : (n : ℕ) → calls_of (replicate n 0) ≡ fresh_table.slots
zeros-fresh = cells-RoundTrip.zeros-fresh

-- A history over lent cells is the history over the table and the rows that they hold.
pub run-held : (s : List ℕ) (start : Cells) (w : AreCalls start.table)
    (es : List receiver-Event) → state_of (run_cells s start es) ≡ state_from s (state_of start) es
run-held = exports-Held.run-held

-- Each answer to a frame in it is the one that `arf::receive` gives over them.
pub answer-held : (s : List ℕ) (start : Cells) (w : AreCalls start.table)
    (es : List receiver-Event) (side : ℕ) (bytes sheet : List ℕ) → let c = run_cells s start es in let st = state_from s (state_of start) es in
    receiving c.table s side bytes sheet c.tallies ≡ received s side bytes sheet st.tallies st.calls
answer-held = exports-Held.answer-held

-- Each answer to a release in it is the one that `arf::release` gives over them.
pub reply-held : (s : List ℕ) (start : Cells) (w : AreCalls start.table)
    (es : List receiver-Event) (id : ℕ) → let c = run_cells s start es in let st = state_from s (state_of start) es in
    releasing c.table s id c.tallies ≡ released s st.calls id st.tallies
reply-held = exports-Held.reply-held
