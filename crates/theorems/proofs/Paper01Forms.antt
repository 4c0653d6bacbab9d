-- Paper 01, the forms we expect: its sentences, and below each the theorems that state it, cited from the crate that proves them. What a definition or
-- a contract alone states is in docs/PROMISES.md.
use mathlib.Core.List.{List, ◌++◌}
use Prim.Native.Nat.{ℕ, ◌<◌, ◌≤◌}
use mathlib.Core.Path.{◌≡◌}
use mathlib.Core.Logic.{◌↔◌}
use lib.ListN.{length, drop}
use Rattle.wire.specs.Little.{Bytes}
use Rattle.schema.specs.Check.{IsGood, checked}
use Rattle.schema.specs.declared.Field.{Field}
use Rattle.schema.specs.Table.{struct}
use Rattle.schema.specs.Extend.{Widens}
use Rattle.schema.specs.File.{table_of}
use Rattle.schema.specs.Numbers.{check_number, check_place}
use Rattle.schema.specs.Good.{GoodFile}
use Rattle.schema.specs.Faults.{TableFault}
use Rattle.frame.specs.declared.Header.{Header}
use Rattle.frame.specs.Numbers.{numbers as frame-numbers, no_frame}
use Rattle.frame.specs.Frame.{frame_of}
use Rattle.frame.specs.Faults.{FrameFault}
use Rattle.frame.specs.Written.{write_number as frame-writeNumber, written_of, write_length as frame-writeLength, Accepted as frame-Accepted, Unwritten as frame-Unwritten}
use Rattle.salvage.specs.Salvage.{salvage_number, salvage_of, salvage_entries, salvage_bytes, salvage_spans}
use Rattle.salvage.specs.Cover.{Accepted as salvage-Accepted, Refuses as salvage-Refuses}
use Rattle.value.specs.Value.{Value}
use Rattle.value.specs.Claims.{Rightful, Writes}
use Rattle.value.specs.declared.Row.{Row as value-Row}
use Rattle.value.specs.Beside.{DelimitedBeside}
use Rattle.value.specs.Sheet.{rows_of}
use Rattle.reader.specs.Entry.{room, numbers as reader-numbers, reading_in, read_outcome, outcome as reader-outcome, sheet_in}
use Rattle.reader.specs.Reading.{Refused as reader-Refused, Shown}
use Rattle.reader.specs.Beside.{beside_outcome}
use Rattle.flat.specs.Sheet.{shown_in}
use Rattle.reader.specs.Reading.{Reading}
use Rattle.writer.specs.Numbers.{numbers as writer-numbers}
use Rattle.writer.specs.Entry.{file_outcome, Outcome as writer-Outcome, outcome as writer-outcome}
use Rattle.writer.specs.Writing.{Refused as writer-Refused, Written as writer-Written}
use Rattle.forward.specs.Entry.{forward_outcome}
use Rattle.forward.specs.Claims.{Forwards}
use Rattle.index.specs.Index.{index_number, make_index, index_place, index_length}
use Rattle.index.specs.Claims.{Accepted as index-Accepted}
use Rattle.valueframe.specs.Entry.{frame_outcome}
use Rattle.valueframe.specs.Claims.{InTurn, Unwritten}
use Rattle.promises.specs.Claims.{shapes, AnswersAs, WriteReason, ForwardReason}
use Rattle.promises.specs.Beside.{RefusedBeside}
use Rattle.schema.proofs.Numbers as schema-Numbers
use Rattle.frame.proofs.Numbers as frame-Numbers
use Rattle.salvage.proofs.Numbers as salvage-Numbers
use Rattle.writer.proofs.Numbers as writer-Numbers
use Rattle.index.proofs.Numbers as index-Numbers
use Rattle.promises.proofs.Reading as promises-Reading
use Rattle.promises.proofs.Numbers as promises-Numbers

-- "If an answer is an enum, a definition states this paper's number and values for each case of the enum. The promises use that definition."

-- The reader: 0 comes back with the numbers of v, and v is shown, exactly when the payload spells v within the limits and the rows fit into the sheet.
pub zero-iff-spelled : (s : List ℕ) → IsGood s → (ty : ℕ) (fs : List Field) → shapes s ty ≡ struct fs → (payload sheet : List ℕ) (v : Value) (place n : ℕ)
    → AnswersAs s ty fs payload sheet v place n ↔ Rightful (shapes s) ty fs payload (room sheet) v place n
zero-iff-spelled = promises-Reading.zero-iff-spelled

-- The reader: a number above 0 comes back with a place exactly for that refusal, which leaves the sheet as it was.
pub reader-number-iff-refused : (s : List ℕ) (ty : ℕ) (payload sheet : List ℕ) (m q : ℕ) → 0 < m
    → (let told = reader-numbers (reading_in (read_outcome s ty payload sheet)) in (told.number ≡ m) × (told.place ≡ q))
    ↔ (read_outcome s ty payload sheet ≡ reader-outcome (reader-Refused m q) sheet)
reader-number-iff-refused = promises-Reading.number-iff-refused

-- Beside another's table: by good files, of which theirs extends ours but for the bitmaps, and for a struct of ours, 0 comes back with rows, tail and
-- comparisons exactly for the rows of the tree that delimits the payload by theirs, without the added fields.
pub zero-iff-beside : (ours theirs : List ℕ) (ty : ℕ) (payload sheet after : List ℕ) →
    let answered = beside_outcome ours theirs ty payload sheet in
    IsGood ours → IsGood theirs → Widens (table_of ours) (table_of theirs) → (fs : List Field) → shapes ours ty ≡ struct fs → (k place n comparisons : ℕ)
    → ((reader-numbers (reading_in answered) ≡ record { number = 0; place = 0; rows = k; tail_place_of = place; tail_length_of = n; comparisons = comparisons })
    × (sheet_in answered ≡ after))
    ↔ ((rs : List value-Row) × DelimitedBeside (shapes ours) (shapes theirs) ty payload (room sheet) rs place n comparisons × (length rs ≡ k)
    × (after ≡ shown_in sheet rs))
zero-iff-beside = promises-Numbers.zero-iff-beside

-- Beside another's table: any other number comes back with a place only for a reason of the list, and leaves the sheet untouched.
pub number-refused-beside : (ours theirs : List ℕ) (ty : ℕ) (payload sheet after : List ℕ) →
    let answered = beside_outcome ours theirs ty payload sheet in
    (n q : ℕ) → 0 < n
    → (((reader-numbers (reading_in answered)).number ≡ n) × ((reader-numbers (reading_in answered)).place ≡ q) × (sheet_in answered ≡ after))
    → RefusedBeside ours theirs ty payload (room sheet) n q × (after ≡ sheet)
number-refused-beside = promises-Numbers.number-refused-beside

-- The writer: by a good file 0 comes back with a length exactly when the sheet shows a value whose encoding has that length, is a payload and fits
-- into the output. It stands at the output's front, and past it nothing changes.
pub zero-iff-shown : (s : List ℕ) (ty : ℕ) (sheet B out : List ℕ)
    → IsGood s → (n : ℕ) (out' : List ℕ) → (writer-numbers (file_outcome s ty sheet B out) ≡ record { number = 0; place = 0; length = n; out = out' })
    ↔ ((bs : List ℕ) × Writes (shapes s) ty (rows_of sheet) B (length out) bs × (length bs ≡ n) × (out' ≡ bs ++ drop n out))
zero-iff-shown = promises-Numbers.zero-iff-shown

-- The writer: any other number comes back with a place exactly for its reason, and leaves the output untouched.
pub writer-number-iff-refused : (s : List ℕ) (ty : ℕ) (sheet B out : List ℕ) (n q : ℕ) (out' : List ℕ) → 0 < n
    → (writer-numbers (file_outcome s ty sheet B out) ≡ record { number = n; place = q; length = 0; out = out' })
    ↔ ((out' ≡ out) × WriteReason s ty (rows_of sheet) B (length out) n q)
writer-number-iff-refused = promises-Numbers.number-iff-refused

-- The forwarding writer: 0 comes back with a length exactly when the file is good and bytes of that length spell the value that the sheet shows, end
-- in the tail, and keep the root's presence bytes. They stand at the output's front, and past them nothing changes.
pub zero-iff-forwarded : (s : List ℕ) (ty : ℕ) (sheet B : List ℕ) (place m : ℕ) (out : List ℕ) (n : ℕ) (out' : List ℕ) → Bytes out'
    → (writer-numbers (forward_outcome s ty sheet B place m out) ≡ record { number = 0; place = 0; length = n; out = out' })
    ↔ (IsGood s × ((bs : List ℕ) × Forwards (shapes s) ty (rows_of sheet) B place m (length out) bs × (length bs ≡ n) × (out' ≡ bs ++ drop n out)))
zero-iff-forwarded = promises-Numbers.zero-iff-forwarded

-- The forwarding writer: any other number comes back with a place exactly for its reason, and leaves the output untouched.
pub number-iff_unforwarded : (s : List ℕ) (ty : ℕ) (sheet B : List ℕ) (place m : ℕ) (out : List ℕ) (n q : ℕ) (out' : List ℕ) → 0 < n
    → (writer-numbers (forward_outcome s ty sheet B place m out) ≡ record { number = n; place = q; length = 0; out = out' })
    ↔ ((out' ≡ out) × ForwardReason s ty (rows_of sheet) B place m (length out) n q)
number-iff_unforwarded = promises-Numbers.number-iff_unforwarded

-- The writer of a whole frame: 0 comes back with a length exactly where `write`, with room for every payload, and then `write_frame` accept, and the
-- output is theirs.
pub zero-iff_in_turn : (h : Header) (s : List ℕ) (ty : ℕ) (cells B out mid : List ℕ) (room : 16384 ≤ length mid) (n : ℕ) (out' : List ℕ)
    → (writer-numbers (frame_outcome h s ty cells B out) ≡ record { number = 0; place = 0; length = n; out = out' }) ↔ InTurn h s ty cells B mid out n out'
zero-iff_in_turn = promises-Numbers.zero-iff_in_turn

-- The writer of a whole frame: any other number comes back with a place exactly for its reason, and leaves the output untouched.
pub number-iff-unwritten : (h : Header) (s : List ℕ) (ty : ℕ) (cells B out mid : List ℕ) (room : 16384 ≤ length mid)
    (n q : ℕ) (out' : List ℕ) → 0 < n
    → (writer-numbers (frame_outcome h s ty cells B out) ≡ record { number = n; place = q; length = 0; out = out' })
    ↔ (Unwritten h s ty cells B mid (length out) n q × (out' ≡ out))
number-iff-unwritten = promises-Numbers.number-iff-unwritten

-- The table check: 0 comes back exactly for a good file.
pub zero-iff-good : (s : List ℕ) → (check_number (checked s) ≡ 0) ↔ GoodFile s
zero-iff-good = schema-Numbers.zero-iff-good

-- The table check: any other number comes back with a row exactly for its reason.
pub schema-number-iff-fault : (s : List ℕ)
    (n q : ℕ) → 0 < n → ((check_number (checked s) ≡ n) × (check_place (checked s) ≡ q)) ↔ TableFault s n q
schema-number-iff-fault = schema-Numbers.number-iff-fault

-- The frame reader: any other number comes back with zeros exactly where the bytes start with the field at fault that has it, 2 to 7.
pub number-iff-fault : (s : List ℕ) (number : ℕ) → 1 < number → (frame-numbers (frame_of s) ≡ no_frame number) ↔ FrameFault s number
number-iff-fault = frame-Numbers.number-iff-fault

-- The frame writer: 0 comes back with a length exactly where it may write that many bytes.
pub zero-iff-written : (h : Header) (p : List ℕ) (room : ℕ)
    (n : ℕ) → ((frame-writeNumber (written_of h p room) ≡ 0) × (frame-writeLength (written_of h p room) ≡ n)) ↔ frame-Accepted h p room n
zero-iff-written = frame-Numbers.zero-iff-written

-- The frame writer: any other number comes back exactly for its fault.
pub frame-number-iff-unwritten : (h : Header) (p : List ℕ) (room : ℕ)
    (number : ℕ) → 0 < number → (frame-writeNumber (written_of h p room) ≡ number) ↔ frame-Unwritten h p room number
frame-number-iff-unwritten = frame-Numbers.number-iff-unwritten

-- A salvage: 0 comes back with the entries kept, bytes copied and spans listed exactly for that cover of the record, where both buffers have room.
pub zero-iff_salvaged : (torn copy spans copied listed : List ℕ) →
    let after = salvage_of torn copy spans in
    (n b m : ℕ)
    → ((salvage_number after.answer ≡ 0) × (salvage_entries after.answer ≡ n) × (salvage_bytes after.answer ≡ b) × (salvage_spans after.answer ≡ m)
    × (after.copy ≡ copied) × (after.spans ≡ listed))
    ↔ salvage-Accepted torn copy spans n b m copied listed
zero-iff_salvaged = salvage-Numbers.zero-iff_salvaged

-- A salvage: any other number comes back exactly for its fault, and leaves both buffers as they were.
pub number-iff-refused : (torn copy spans copied listed : List ℕ) →
    let after = salvage_of torn copy spans in
    (number : ℕ) → 0 < number → ((salvage_number after.answer ≡ number) × (after.copy ≡ copied) × (after.spans ≡ listed))
    ↔ (salvage-Refuses torn copy spans number × ((copied ≡ copy) × (listed ≡ spans)))
number-iff-refused = salvage-Numbers.number-iff-refused

-- Making an index: 0 comes back with place 0 and a length exactly for the index of the record's rows, where the schema table is good, the record short
-- enough and the output large enough.
pub zero-iff-made : (schema entries out after : List ℕ) →
    let made = make_index schema entries out in
    (n : ℕ)
    → ((index_number made.answer ≡ 0) × (index_place made.answer ≡ 0) × (index_length made.answer ≡ n) × (made.out ≡ after))
    ↔ index-Accepted schema entries out n after
zero-iff-made = index-Numbers.zero-iff-made

-- The reader's answers are known by 01's numbers: rows come only where a value is shown.
pub shown-by-numbers : (r : Reading) (k place n c : ℕ) → 0 < k → reader-numbers r ≡ reader-numbers (Shown k place n c) → r ≡ Shown k place n c
shown-by-numbers = promises-Reading.shown-by-numbers

-- A number above 0 is that of a refusal.
pub refused-by-numbers : (r : Reading) (m q : ℕ) → 0 < m → reader-numbers r ≡ reader-numbers (reader-Refused m q) → r ≡ reader-Refused m q
refused-by-numbers = promises-Reading.refused-by-numbers

-- A writer's 0 is that of what is written, where no refusal has it.
pub written-told : (o : writer-Outcome) → ((n q : ℕ) (out : List ℕ) → o ≡ writer-outcome (writer-Refused n q) out → 0 < n) → (m : ℕ) (out : List ℕ)
    → (writer-numbers o ≡ record { number = 0; place = 0; length = m; out = out }) ↔ (o ≡ writer-outcome (writer-Written m) out)
written-told = writer-Numbers.written-told

-- A writer's number above 0 is that of a refusal.
pub refused-told : (o : writer-Outcome) (n q : ℕ) (out : List ℕ) → 0 < n
    → (writer-numbers o ≡ record { number = n; place = q; length = 0; out = out }) ↔ (o ≡ writer-outcome (writer-Refused n q) out)
refused-told = writer-Numbers.refused-told

-- Stated in other files: `Paper01Schema.one-iff-extends`, `Paper01Schema.zero-iff-other`, `Paper01Schema.number-iff-either`,
-- `Paper01Sheet.zero-iff-shown`, `Paper01Sheet.number-iff-reason`, `Paper01Numbers.zero-iff-frame`, `Paper01Numbers.one-iff-cut`,
-- `Paper01Numbers.index-number-iff-refused`, `Paper01Numbers.number-iff-printed`, `Paper01Numbers.full-iff-no_space`, `Entries.read_told`.
