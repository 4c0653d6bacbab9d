-- An answer from its number and its cells, as a program in another language reads it back. 0 is the number of what is accepted, 1 of a frame that needs
-- more bytes; any other is a refusal's.
use Rattle.std.specs.Prelude.{cond, List, ℕ, zero, suc, eqb, get_or}
use Rattle.schema.specs.Checked.{Checked}
use Rattle.schema.specs.Checked as check
use Rattle.schema.specs.Extended.{Extended}
use Rattle.schema.specs.Extended.{Yes, No, Refused as Faulty}
use Rattle.frame.specs.FrameRead.{FrameRead}
use Rattle.frame.specs.FrameRead as frame
use Rattle.frame.specs.FrameWritten.{FrameWritten}
use Rattle.frame.specs.FrameWritten as written
use Rattle.reader.specs.Reading.{Reading}
use Rattle.reader.specs.Reading as reader
use Rattle.writer.specs.Writing.{Writing}
use Rattle.writer.specs.Writing as writer
use Rattle.index.specs.Indexing.{Indexing}
use Rattle.index.specs.Indexing as index
use Rattle.index.specs.Finding.{Finding}
use Rattle.index.specs.Finding as find
use Rattle.salvage.specs.Salvaging.{Salvaging}
use Rattle.salvage.specs.Salvaging as salvage
use Rattle.receiver.specs.Received.{Received}
use Rattle.receiver.specs.Released.{Released}
use Rattle.cells.specs.Records.{calls_of}
use Rattle.exports.specs.Answers.{header_of}

-- The i-th cell.
abbrev cell : List ℕ → ℕ → ℕ
cell cells i = get_or cells i 0

abbrev pub check_told : (number : ℕ) → List ℕ → Checked
check_told zero cells = check.Good
check_told (suc n) cells = check.Refused (suc n) (cell cells 0)

abbrev pub extend_told : (number : ℕ) → List ℕ → Extended
extend_told zero cells = cond (eqb (cell cells 1) 1) Yes No
extend_told (suc n) cells = Faulty (suc n) (cell cells 0)

abbrev pub frame_told : (number : ℕ) → List ℕ → FrameRead
frame_told zero cells =
    frame.Frame (header_of (cell cells 0) (cell cells 1) (cell cells 2) (cell cells 3) (cell cells 4)) (cell cells 5) (cell cells 6)
frame_told (suc zero) cells = frame.More
frame_told (suc (suc n)) cells = frame.Refused (suc (suc n))

abbrev pub written_told : (number : ℕ) → List ℕ → FrameWritten
written_told zero cells = written.Written (cell cells 0)
written_told (suc n) cells = written.Refused (suc n)

abbrev pub read_told_of : (number : ℕ) → List ℕ → Reading
read_told_of zero cells = reader.Shown (cell cells 1) (cell cells 2) (cell cells 3) (cell cells 4)
read_told_of (suc n) cells = reader.Refused (suc n) (cell cells 0)

abbrev pub write_told : (number : ℕ) → List ℕ → Writing
write_told zero cells = writer.Written (cell cells 1)
write_told (suc n) cells = writer.Refused (suc n) (cell cells 0)

abbrev pub salvage_told : (number : ℕ) → List ℕ → Salvaging
salvage_told zero cells = salvage.Salvaged (cell cells 0) (cell cells 1) (cell cells 2)
salvage_told (suc n) cells = salvage.Refused (suc n)

abbrev pub index_told : (number : ℕ) → List ℕ → Indexing
index_told zero cells = index.Made (cell cells 1)
index_told (suc n) cells = index.Refused (suc n) (cell cells 0)

-- 52 is the number of a text that does not fit, and never stands in a text.
abbrev pub find_told : (number : ℕ) → List ℕ → Finding
find_told number cells = cond (eqb number 52) (find.Refused 52) (find.Printed number (cell cells 0))

-- The answer to a frame, from the cells of the call table too.
abbrev pub received_told : (number : ℕ) → (answer table : List ℕ) → Received
received_told number cells table =
    record {
      number = number;
      place = cell cells 0;
      used = cell cells 1;
      rows = cell cells 2;
      tail_place = cell cells 3;
      tail_length = cell cells 4;
      «open» = cell cells 5;
      comparisons = cell cells 6;
      table = record { slots = calls_of table };
    }

-- The answer to a release.
abbrev pub released_told : (number : ℕ) → (answer table : List ℕ) → Released
released_told number cells table =
    record { number = number; place = cell cells 0; «open» = cell cells 1; table = record { slots = calls_of table } }
