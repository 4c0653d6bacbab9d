-- The numbers that each answer is stored as beside its own number (docs/FORMAT.md), case by case; 0 where there is no value.
use Rattle.std.specs.Prelude.{◌≡◌, Bool, false, cond, List, [], ◌∷◌, ℕ, length, replicate}
use Rattle.schema.specs.Checked.{Checked}
use Rattle.schema.specs.Checked as check
use Rattle.schema.specs.Extended.{Extended}
use Rattle.schema.specs.Check.{checked}
use Rattle.arf.specs.Numbers.{check_place, extend_place, extend_answer}
use Rattle.frame.specs.declared.Header.{Header}
use Rattle.frame.specs.FrameRead.{FrameRead}
use Rattle.frame.specs.FrameRead as frame
use Rattle.frame.specs.FrameWritten.{FrameWritten}
use Rattle.frame.specs.Written.{written_of, write_length}
use Rattle.value.specs.declared.Row.{Row}
use Rattle.reader.specs.Reading.{Reading}
use Rattle.reader.specs.Beside.{beside_outcome}
use Rattle.reader.specs.Entry.{reading_in, sheet_in, read_outcome, numbers}
use Rattle.writer.specs.Writing.{Writing}
use Rattle.writer.specs.Writing.{Written, Refused as Unwritten}
use Rattle.writer.specs.Entry as writer
use Rattle.valueframe.specs.Entry.{frame_outcome}
use Rattle.forward.specs.Entry.{forward_outcome}
use Rattle.index.specs.Indexing.{Indexing}
use Rattle.index.specs.Finding.{Finding}
use Rattle.index.specs.Index.{index_place, index_length}
use Rattle.index.specs.LookUp.{find_length}
use Rattle.salvage.specs.Salvaging.{Salvaging}
use Rattle.salvage.specs.Salvage.{salvage_entries, salvage_bytes, salvage_spans}
use Rattle.calls.specs.declared.Call.{Call}
use Rattle.calls.specs.declared.Tally.{Tally}
use Rattle.calls.specs.Judged.{Judged}
use Rattle.calls.specs.Judged.{Refused as JudgedRefused}
use Rattle.receiver.specs.Received.{Received}
use Rattle.receiver.specs.Answer.{Effect, effect, stopped}
use Rattle.receiver.specs.Plan.{Plan}
use Rattle.receiver.specs.Planning.{stop_plan}
use Rattle.receiver.specs.Receive.{received}
use Rattle.receiver.specs.Released.{Released}
use Rattle.receiver.specs.Release.{ReleaseEffect, release_effect, release_answer, released}
use Rattle.exports.specs.declared.Kept.{Kept}
use Rattle.cells.specs.Cells.{stored}
use Rattle.cells.specs.Records.{calls_of, cells_of, are_calls, rows_of}

-- ---- tables

-- The table check: place.
abbrev pub check_cells : Checked → List ℕ
check_cells a = check_place a ∷ []

-- The extension test: place, 1 for yes or 0.
abbrev pub extend_cells : Extended → List ℕ
extend_cells a = extend_place a ∷ extend_answer a ∷ []

-- ---- frames

abbrev pub header_of : (kind «package» service method correlation : ℕ) → Header
header_of k p s m c = record { kind = k; «package» = p; service = s; method = m; correlation = c }

-- A frame with this header and payload, written into this output.
abbrev pub wrote : Header → (payload out : List ℕ) → FrameWritten
wrote h payload out = written_of h payload (length out)

-- A frame read: kind, package, service, method, correlation, the payload's place and length.
abbrev pub frame_cells : FrameRead → List ℕ
frame_cells frame.More = replicate 7 0
frame_cells (frame.Frame h place n) =
    h.kind ∷ h.«package» ∷ h.service ∷ h.method ∷ h.correlation ∷ place ∷ n ∷ []
frame_cells (frame.Refused number) = replicate 7 0

-- A frame written: its length.
abbrev pub written_cells : FrameWritten → List ℕ
written_cells a = write_length a ∷ []

-- ---- payloads

-- The reader's answer, and the sheet as it is left.
abbrev pub reading : (schema : List ℕ) (ty : ℕ) (payload sheet : List ℕ) → Reading
reading schema ty payload sheet = reading_in (read_outcome schema ty payload sheet)

abbrev pub sheet_after : (schema : List ℕ) (ty : ℕ) (payload sheet : List ℕ) → List ℕ
sheet_after schema ty payload sheet = sheet_in (read_outcome schema ty payload sheet)

-- The same with their table beside ours.
abbrev pub reading_beside : (ours theirs : List ℕ) (ty : ℕ) (payload sheet : List ℕ) → Reading
reading_beside ours theirs ty payload sheet = reading_in (beside_outcome ours theirs ty payload sheet)

abbrev pub sheet_beside : (ours theirs : List ℕ) (ty : ℕ) (payload sheet : List ℕ) → List ℕ
sheet_beside ours theirs ty payload sheet = sheet_in (beside_outcome ours theirs ty payload sheet)

abbrev pub read_number : Reading → ℕ
read_number a = (numbers a).number

-- A payload read: place, rows, the tail's place and length, the key comparisons due.
abbrev pub read_cells : Reading → List ℕ
read_cells a = (numbers a).place ∷ (numbers a).rows ∷ (numbers a).tail_place_of ∷ (numbers a).tail_length_of ∷ (numbers a).comparisons ∷ []

-- The two parts of the writer's outcome: its answer, and the output as it is left.
abbrev pub writing_of : writer.Outcome → Writing
writing_of (writer.outcome a out) = a

abbrev pub output_of : writer.Outcome → List ℕ
output_of (writer.outcome a out) = out

abbrev pub writing : (schema : List ℕ) (ty : ℕ) (sheet bytes out : List ℕ) → Writing
writing schema ty sheet bytes out = writing_of (writer.file_outcome schema ty sheet bytes out)

abbrev pub output_after : (schema : List ℕ) (ty : ℕ) (sheet bytes out : List ℕ) → List ℕ
output_after schema ty sheet bytes out = output_of (writer.file_outcome schema ty sheet bytes out)

-- The same of a frame written from a value.
abbrev pub framing : Header → (schema : List ℕ) (ty : ℕ) (sheet bytes out : List ℕ) → Writing
framing h schema ty sheet bytes out = writing_of (frame_outcome h schema ty sheet bytes out)

abbrev pub framed_after : Header → (schema : List ℕ) (ty : ℕ) (sheet bytes out : List ℕ) → List ℕ
framed_after h schema ty sheet bytes out = output_of (frame_outcome h schema ty sheet bytes out)

-- The same of the forwarding writer, with a tail of n bytes at a place.
abbrev pub forwarding : (schema : List ℕ) (ty : ℕ) (sheet bytes : List ℕ) (place n : ℕ) (out : List ℕ) → Writing
forwarding schema ty sheet bytes place n out = writing_of (forward_outcome schema ty sheet bytes place n out)

abbrev pub forwarded_after : (schema : List ℕ) (ty : ℕ) (sheet bytes : List ℕ) (place n : ℕ) (out : List ℕ) → List ℕ
forwarded_after schema ty sheet bytes place n out = output_of (forward_outcome schema ty sheet bytes place n out)

-- A payload written, or a frame from a value: place, length.
abbrev pub write_cells : Writing → List ℕ
write_cells (Written n) = 0 ∷ n ∷ []
write_cells (Unwritten number place) = place ∷ 0 ∷ []

-- ---- scalars

abbrev pub sheet_row : (ty place length count : ℕ) → Row
sheet_row t p n c = record { ty = t; place = p; length = n; count = c }

-- ---- records

-- A record salvaged: entries kept, bytes copied, spans listed.
abbrev pub salvage_cells : Salvaging → List ℕ
salvage_cells a = salvage_entries a ∷ salvage_bytes a ∷ salvage_spans a ∷ []

-- An index made: place, its length.
abbrev pub index_cells : Indexing → List ℕ
index_cells a = index_place a ∷ index_length a ∷ []

-- A call looked up: the text's length.
abbrev pub find_cells : Finding → List ℕ
find_cells a = find_length a ∷ []

-- ---- calls

-- A call table that is not good, whatever the frame: 15, after the schema's faults.
abbrev pub not_calls : Checked → List Call → Received
not_calls check.Good l = stopped l 15 0
not_calls (check.Refused number row) l = stopped l number row

-- The plan of such a refusal.
abbrev pub refused_plan : Checked → Plan
refused_plan check.Good = stop_plan 15 0
refused_plan (check.Refused number row) = stop_plan number row

-- One frame against the call table l, which the cells are, or are not.
unfoldable pub judgement : Bool → (schema : List ℕ) (side : ℕ) (bytes sheet : List ℕ) → List Tally → List Call → Effect
judgement is_table schema side bytes sheet ts l =
    cond is_table (received schema side bytes sheet ts l) (effect (not_calls (checked schema) l) sheet ts)

-- One frame against the call table and the tally rows that these cells hold. Cells that are no call table are refused as one that is not good.
abbrev pub receiving : (table schema : List ℕ) (side : ℕ) (bytes sheet tallies : List ℕ) → Effect
receiving table schema side bytes sheet tallies = judgement (are_calls table) schema side bytes sheet (rows_of tallies) (calls_of table)

-- What an answer tells of the call table.
abbrev pub kept_of : Received → Kept
kept_of r = record { number = r.number; used = r.used; «open» = r.«open» }

-- Where the cells are no call table, the judgement stops.
abbrev pub RefusedCells : (table : List ℕ) → Judged → Type 0
RefusedCells table J = are_calls table ≡ false → (n : ℕ) × (J ≡ JudgedRefused n)

-- The cells afterwards: those of the next table; cells that are no call table stay as they are.
abbrev pub call_cells : (table : List ℕ) → List Call → List ℕ
call_cells table l = cond (are_calls table) (stored table (cells_of l)) table

-- The answer to a frame: place, bytes used, rows, the tail's place and length, calls open, the key comparisons due.
abbrev pub received_cells : Received → List ℕ
received_cells r = r.place ∷ r.used ∷ r.rows ∷ r.tail_place ∷ r.tail_length ∷ r.«open» ∷ r.comparisons ∷ []

-- The same by a payload's reading, the bytes used and the calls open.
abbrev pub cells_by : (used calls : ℕ) → Reading → List ℕ
cells_by used calls r =
    (numbers r).place ∷ used ∷ (numbers r).rows ∷ (numbers r).tail_place_of ∷ (numbers r).tail_length_of ∷ calls ∷ (numbers r).comparisons ∷ []

-- The same of a release.
abbrev pub not_released : Checked → List Call → Released
not_released check.Good l = release_answer 15 0 l
not_released (check.Refused number row) l = release_answer number row l

unfoldable pub release_judgement : Bool → (schema : List ℕ) → List Call → (correlation : ℕ) → List Tally → ReleaseEffect
release_judgement is_table schema l id ts = cond is_table (released schema l id ts) (release_effect (not_released (checked schema) l) ts)

abbrev pub releasing : (table schema : List ℕ) (correlation : ℕ) (tallies : List ℕ) → ReleaseEffect
releasing table schema id tallies = release_judgement (are_calls table) schema (calls_of table) id (rows_of tallies)

-- The answer to a release: place, calls open.
abbrev pub released_cells : Released → List ℕ
released_cells r = r.place ∷ r.«open» ∷ []
