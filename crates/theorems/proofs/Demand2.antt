-- Demand 2, sentence by sentence: below each the theorems that state it, cited from the crate that proves them.
use mathlib.Core.List.{List, ◌++◌, []}
use Prim.Native.Nat.{ℕ, ◌/◌, ◌≤◌, ◌*◌, ◌+◌}
use mathlib.Core.Path.{◌≡◌}
use mathlib.Core.Logic.{◌↔◌}
use lib.ListN.{length, drop, take}
use mathlib.Core.Bool.{Bool}
use Rattle.wire.specs.Little.{Bytes}
use Rattle.schema.specs.Check.{IsGood}
use Rattle.schema.specs.declared.Field.{Field}
use Rattle.schema.specs.Table.{struct, Table, shape}
use Rattle.schema.specs.File.{table_of}
use Rattle.schema.specs.Good.{GoodSchema}
use Rattle.frame.specs.declared.Header.{Header}
use Rattle.frame.specs.Frame.{frame_of}
use Rattle.frame.specs.FrameRead.{Frame as frame-Frame}
use Rattle.frame.specs.IsFrame.{Starts as frame-Starts, HeaderFits, IsFrame}
use Rattle.frame.specs.Written.{written_of, Accepted as frame-Accepted, ReadBack, output_of, frame_bytes}
use Rattle.frame.specs.FrameWritten.{Written as frame-Written}
use Rattle.calls.specs.Order.{Past, Ruling, Ruled, Releases, closed, Lawful, LawfulRecord}
use Rattle.calls.specs.declared.Frame.{Frame as calls-Frame}
use Rattle.connection.specs.Step.{fresh_table}
use Rattle.calls.specs.declared.Call.{Call}
use Rattle.calls.specs.declared.Tally.{Tally}
use Rattle.calls.specs.Good.{GoodCalls, GoodCall}
use Rattle.value.specs.Value.{Value}
use Rattle.value.specs.Claims.{Rightful, Writes}
use Rattle.value.specs.Sheet.{rows_of}
use Rattle.value.specs.Fits.{Shows}
use Rattle.value.specs.Read.{unknown_bits, root_bits}
use Rattle.value.specs.Spell.{Spells, encode, RootSpells}
use Rattle.reader.specs.Entry.{room, read_outcome, outcome as reader-outcome}
use Rattle.reader.specs.Reading.{Shown}
use Rattle.writer.specs.Entry.{file_outcome, outcome as writer-outcome}
use Rattle.writer.specs.Writing.{Written as writer-Written}
use Rattle.receiver.specs.Run.{State, Event as receiver-Event, Input, answer_after, full_after, past_in, rows_after, calls_after, fresh_tallies}
use Rattle.receiver.specs.Order.{Reflected, Said, said, ByRules, ReleasedAs}
use Rattle.receiver.specs.Claims.{Front, payload_in}
use Rattle.receiver.specs.Release.{released}
use Rattle.valueframe.specs.Entry.{frame_outcome}
use Rattle.promises.specs.Claims.{shapes, ReadsAs, first_rows}
use Rattle.promises.specs.ValueFrames.{Carries, ReceivedBack}
use Rattle.frame.proofs.Theorems as frame-Theorems
use Rattle.frame.proofs.ReadBack as frame-ReadBack
use Rattle.calls.proofs.Once as calls-Once
use Rattle.calls.proofs.Pasts as calls-Pasts
use Rattle.value.proofs.Statements as value-Statements
use Rattle.receiver.proofs.Runs as receiver-Runs
use Rattle.promises.proofs.Reading as promises-Reading
use Rattle.promises.proofs.ReadBack as promises-ReadBack
use Rattle.promises.proofs.ValueFrames as promises-ValueFrames

-- "Values, frames and call order follow the arf draft of November 2025, sections 6 and 7, as 01 fixes them: accepted exactly when the rules allow."
-- Values:

-- A payload is accepted and shown as v exactly when it spells v within the limits and the rows fit into the sheet; the tail is what follows the known
-- fields. This rules out a reader that refuses all (every rightful payload is accepted) and invented rows (they show the value that is spelled).
pub shown-iff-spelled : (s : List ℕ) → IsGood s → (ty : ℕ) (fs : List Field) → shapes s ty ≡ struct fs → (payload sheet : List ℕ) (v : Value) (place n : ℕ)
    → ReadsAs s ty fs payload sheet v place n ↔ Rightful (shapes s) ty fs payload (room sheet) v place n
shown-iff-spelled = promises-Reading.shown-iff-spelled

-- By a good file a sheet over its bytes is accepted exactly when it shows a value whose encoding is a payload and fits into the output. The encoding
-- stands at the output's front, and past it nothing changes. This rules out a writer that refuses all or writes nothing.
pub written-iff-shown : (s : List ℕ) → IsGood s → (ty : ℕ) (sheet B out : List ℕ) (n : ℕ) (out' : List ℕ)
    → (file_outcome s ty sheet B out ≡ writer-outcome (writer-Written n) out')
    ↔ ((bs : List ℕ) × Writes (shapes s) ty (rows_of sheet) B (length out) bs × (length bs ≡ n) × (out' ≡ bs ++ drop n out))
written-iff-shown = promises-ReadBack.written-iff-shown

-- Frames:

-- A frame is read exactly where the bytes start with one.
pub read-iff-frame : (s : List ℕ) (h : Header) (place n : ℕ) → (frame_of s ≡ frame-Frame h place n) ↔ frame-Starts s h place n
read-iff-frame = frame-Theorems.read-iff-frame

-- No frame is read in two ways: bytes start with at most one frame, and it has one header and one payload.
pub one-reading : {h h' : Header} {p p' f f' : List ℕ} (r r' : List ℕ) → IsFrame h p f → IsFrame h' p' f' → f ++ r ≡ f' ++ r'
    → (h ≡ h') × ((p ≡ p') × (f ≡ f'))
one-reading = frame-Theorems.one-reading

-- The frame writer accepts a known kind, a payload within the limit and an output with room, and answers the frame's length.
pub written-iff : (h : Header) (p : List ℕ) (room n : ℕ) → (written_of h p room ≡ frame-Written n) ↔ frame-Accepted h p room n
written-iff = frame-ReadBack.written-iff

-- Call order, with the step of 02, 2026-01 ("Demand 2 reads this step in place of 01's"):

-- The answer to the next frame is the one by the rules, and no other: number, place, rows, tail, comparisons and sheet.
pub by_order : (s : List ℕ) (g : IsGood s) (start : State) (past : ℕ → Past) (st : Reflected (table_of s) start.calls start.tallies past)
    (es : List receiver-Event) (i : Input) (f : calls-Frame) (w : Front i.side i.bytes f) (x : Said) →
    (said (answer_after s start es i) ≡ x)
    ↔ ByRules s (payload_in w) i.sheet f (full_after s start es) (past_in s start past es f.correlation) (rows_after s start es) x
by_order = receiver-Runs.by_order

-- The answer to a release is the one by the rules, and no other.
pub release-by-order : (s : List ℕ) (g : IsGood s) (start : State) (past : ℕ → Past) (st : Reflected (table_of s) start.calls start.tallies past)
    (es : List receiver-Event) (id n : ℕ) → ((released s (calls_after s start es) id (rows_after s start es)).answer.number ≡ n)
    ↔ ReleasedAs (rows_after s start es) (past_in s start past es id) n
release-by-order = receiver-Runs.release-by-order

-- A frame has one ruling by the past of its identifier.
pub ruled-once : (T : Table) (f : calls-Frame) (full : Bool) (past : Past) (q r : Ruling) → Ruled T f full past q → Ruled T f full past r → q ≡ r
ruled-once = calls-Once.ruled-once

-- So has a release.
pub release-once : (past : Past) (m n : ℕ) → Releases past m → Releases past n → m ≡ n
release-once = calls-Once.release-once

-- A fresh start stands with no call open.
pub fresh-stands : (T : Table) → Reflected T fresh_table.slots (fresh_tallies T) (λ _. closed)
fresh-stands = receiver-Runs.fresh-stands

-- So does every good table of 128 slots with as many tally rows as methods, with pasts that the rules allow.
pub good-stands : (s : List ℕ) → IsGood s → (l : List Call) (ts : List Tally) → length l ≡ 128 → GoodCalls (table_of s) l → length ts ≡ length (table_of s).methods →
    (past : ℕ → Past) × ((id : ℕ) → Lawful (table_of s) (past id)) × Reflected (table_of s) l ts past
good-stands = receiver-Runs.good-stands

-- The record of an open call is good exactly where the rules allow kinds that leave its marks.
pub good-iff-reached : (T : Table) (g : GoodSchema T) (c : Call) → GoodCall T c ↔ LawfulRecord T c
good-iff-reached = calls-Pasts.good-iff-reached

-- "With room enough, what our writer accepts reads back as the same value,"

-- What is written is read back, by the same file and type and into a sheet with rows enough, as the value that the writer's sheet shows over its
-- bytes, with no tail. This rules out one fixed answer, a writer that writes nothing, and invented rows.
pub read_back : (s : List ℕ) (ty : ℕ) (sheet B out : List ℕ) (n : ℕ) (out' : List ℕ)
    → file_outcome s ty sheet B out ≡ writer-outcome (writer-Written n) out' → (sheet' : List ℕ) → length sheet / 4 ≤ room sheet'
    → (fs : List Field) × (v : Value)
    × (shapes s ty ≡ struct fs)
    × Shows (shapes s) B ty fs (rows_of sheet) v
    × ReadsAs s ty fs (take n out') sheet' v n 0
read_back = promises-ReadBack.read_back

-- What the frame writer writes is read back.
pub output-read-back : (h : Header) (p out : List ℕ) {n : ℕ} → HeaderFits h → written_of h p (length out) ≡ frame-Written n → ReadBack h p (output_of (frame-Written n) h p out) n
output-read-back = frame-ReadBack.output-read-back

-- What was written, followed by anything, is read as a frame with the same header, and `read` shows its payload as the value that the sheet shows over
-- its bytes, in a sheet with rows enough. Every header of the entry fits its fields.
pub frame-read-back : (h : Header) (fits : HeaderFits h) (s : List ℕ) (ty : ℕ) (sheet B out : List ℕ) (m : ℕ) (out' : List ℕ)
    (e : frame_outcome h s ty sheet B out ≡ writer-outcome (writer-Written m) out')
    (after : List ℕ) → length sheet / 4 ≤ room after
    → (p : List ℕ) × Carries s ty sheet B after p × ((rest : List ℕ) → ReadBack h p (take m out' ++ rest) m)
frame-read-back = promises-ValueFrames.frame-read-back

-- The same by `receive`, in any history from a good call table of 128 slots with as many tally rows as methods, for a frame that may come next.
pub received-back : (h : Header) (fits : HeaderFits h) (s : List ℕ) (ty : ℕ) (sheet B out : List ℕ) (m : ℕ) (out' : List ℕ)
    (e : frame_outcome h s ty sheet B out ≡ writer-outcome (writer-Written m) out')
    (st : State) (past : ℕ → Past) → Reflected (table_of s) st.calls st.tallies past → (is : List receiver-Event) (side : ℕ)
    → (after : List ℕ) → length sheet / 4 ≤ room after → (rest : List ℕ)
    → (p : List ℕ) × Carries s ty sheet B after p × ReceivedBack s ty p after st past is side h m (take m out' ++ rest)
received-back = promises-ValueFrames.received-back

-- "and what we read and write again has the same known fields."

-- What is read, given to the writer as just the rows shown over the payload, is accepted where the output is as long as the payload, and written in
-- no more bytes. These are read as the same value, the root's unknown bits and tail gone. Every lent slice of bytes meets `Bytes`.
pub read-then-write : (s : List ℕ) (ty : ℕ) (payload sheet : List ℕ) (k place n c : ℕ) (after : List ℕ) → Bytes payload
    → read_outcome s ty payload sheet ≡ reader-outcome (Shown k place n c) after
    → (out : List ℕ) → length payload ≤ length out → (sheet' : List ℕ) → k ≤ room sheet'
    → (m : ℕ) × (out' : List ℕ) × (file_outcome s ty (take (4 * k) after) payload out ≡ writer-outcome (writer-Written m) out')
    × (m ≤ length payload)
    × ((fs : List Field) × (v : Value)
    × (shapes s ty ≡ struct fs)
    × Shows (shapes s) payload ty fs (first_rows k after) v
    × ReadsAs s ty fs (take m out') sheet' v m 0)
read-then-write = promises-ReadBack.read-then-write

-- 02, 2026-03: "A read value without unknown bits then writes back to the same bytes, which demand 2 says from here on."

-- What is read without unknown bits has no tail, and is written back to the same bytes where the output is as long. Every lent slice of bytes meets
-- `Bytes`.
pub same_bytes : (s : List ℕ) (ty : ℕ) (fs : List Field) → shapes s ty ≡ struct fs
    → (payload sheet : List ℕ) (k place n c : ℕ) (after : List ℕ) → Bytes payload
    → read_outcome s ty payload sheet ≡ reader-outcome (Shown k place n c) after
    → unknown_bits fs (root_bits fs payload) ≡ 0
    → (out : List ℕ) → length payload ≤ length out
    → (n ≡ 0) × (file_outcome s ty (take (4 * k) after) payload out ≡ writer-outcome (writer-Written (length payload)) (payload ++ drop (length payload) out))
same_bytes = promises-ReadBack.same_bytes

-- What is read has no tail exactly where no unknown bit of its root is set.
pub tail-iff-unknown : (s : List ℕ) (ty : ℕ) (fs : List Field) → shapes s ty ≡ struct fs → (payload sheet : List ℕ) (k place n c : ℕ) (after : List ℕ)
    → read_outcome s ty payload sheet ≡ reader-outcome (Shown k place n c) after → (n ≡ 0) ↔ (unknown_bits fs (root_bits fs payload) ≡ 0)
tail-iff-unknown = promises-Reading.tail-iff-unknown

-- What spells a value is its encoding: a value has one spelling.
pub spelled-is_encoding : (T : Table) (good : GoodSchema T) (t : ℕ)
    (d : ℕ) (v : Value) (u : List ℕ) → Bytes u → Spells (shape T) d t v u → u ≡ encode (shape T) v t
spelled-is_encoding = value-Statements.spelled-is_encoding

-- A payload without a tail is the encoding of its value.
pub payload-is_encoding : (T : Table) (good : GoodSchema T) (t : ℕ) (fs : List Field) (st : shape T t ≡ struct fs)
    (payload : List ℕ) (v : Value) → Bytes payload → RootSpells (shape T) fs v payload [] → payload ≡ encode (shape T) v t
payload-is_encoding = value-Statements.payload-is_encoding

-- A frame that was read, written from its header and its payload, is the same bytes.
pub written-again : (s : List ℕ) {h : Header} {place n : ℕ} → Bytes s → frame_of s ≡ frame-Frame h place n → (out : List ℕ) → place + n ≤ length out
    → let p = take n (drop place s) in
    (written_of h p (length out) ≡ frame-Written (place + n)) × (output_of (frame-Written (place + n)) h p out ≡ take (place + n) s ++ drop (place + n) out)
written-again = frame-ReadBack.written-again

-- A header and a payload have one frame.
pub one-frame : {h : Header} {p f : List ℕ} → IsFrame h p f → Bytes f → f ≡ frame_bytes h p
one-frame = frame-ReadBack.one-frame
