-- Demand 3, sentence by sentence: below each the theorems that state it, cited from the crate that proves them.
use mathlib.Core.List.{List, ◌++◌, []}
use Prim.Native.Nat.{ℕ, ◌≤◌, ◌/◌}
use mathlib.Core.Path.{◌≡◌}
use lib.ListN.{take, length}
use Rattle.schema.specs.Extend.{extension}
use Rattle.schema.specs.Extended.{Yes}
use Rattle.schema.specs.declared.Field.{Field}
use Rattle.schema.specs.Table.{struct}
use Rattle.schema.specs.Check.{IsGood}
use Rattle.schema.proofs.Examples.{file, longer}
use Rattle.value.specs.Value.{Value, Tree}
use Rattle.value.specs.Fits.{Shows, RootFits}
use Rattle.value.specs.Sheet.{rows_of}
use Rattle.value.specs.Spell.{RootSpells}
use Rattle.value.specs.Delimits.{RootDelimits}
use Rattle.value.specs.Read.{unknown_bits, root_bits}
use Rattle.value.specs.Added.{without, NoneAdded}
use Rattle.reader.specs.Entry.{read_outcome, outcome as reader-outcome, room}
use Rattle.reader.specs.Reading.{Shown, Refused as reader-Refused}
use Rattle.flat.specs.Sheet.{shown_in}
use Rattle.writer.specs.Entry.{file_outcome, outcome as writer-outcome}
use Rattle.writer.specs.Writing.{Written as writer-Written}
use Rattle.promises.specs.Claims.{shapes, NewByOld, first_rows, ReadsAs}
use Rattle.promises.specs.Cases.{P5, P6}
use Rattle.promises.proofs.Examples.{inner_rows, known_rows, wider, root_rows}
use Rattle.promises.proofs.Extension as promises-Extension
use Rattle.promises.proofs.Reading as promises-Reading
use Rattle.promises.proofs.Examples as promises-Examples

-- "Let a new table extend the old as 01 defines, and lend sheet rows enough."
-- The premise of the theorems below: `extension old new ≡ Yes`, which is what the entry `arf::extends` answers by its contract. With fewer rows than
-- values the old reader answers 30 (`promises/specs/Claims.OldAnswers`).

-- "Take whatever value a new writer writes, within the limits, of a struct the old table has, and hand its bytes to the old reader as that struct. It
-- refuses with 26 exactly when an inner struct, reached through fields the old table knows and the arrays and maps in them, carries an added field."

-- What the writer by the new table writes is such a payload, of the value that its sheet shows.
pub written-by-new : (old new : List ℕ) (yes : extension old new ≡ Yes) (ty : ℕ) (fs : List Field) (st : shapes old ty ≡ struct fs) (gs : List Field)
    (st' : shapes new ty ≡ struct (fs ++ gs))
    (cells B out : List ℕ) (n : ℕ) (out' : List ℕ) → file_outcome new ty cells B out ≡ writer-outcome (writer-Written n) out' → (sheet : List ℕ)
    → (v : Value) × Shows (shapes new) B ty (fs ++ gs) (rows_of cells) v × NewByOld old new ty fs gs (take n out') sheet v
written-by-new = promises-Extension.written-by-new

-- A payload without unknown bits that the new rules allow as v, within the limits: what the old reader answers. It is 26 exactly where an inner
-- struct that is reached through known fields carries an added field, at the first such struct's bitmap; otherwise the value without the added
-- fields is shown, and the tail is exact. This rules out an old reader that refuses all that a new writer writes, one that skips an unknown bit
-- in an inner struct, and one that calls any tail fine.
pub new-by-old : (old new : List ℕ) (yes : extension old new ≡ Yes) (ty : ℕ) (fs : List Field) (st : shapes old ty ≡ struct fs) (gs : List Field)
    (st' : shapes new ty ≡ struct (fs ++ gs)) (payload sheet : List ℕ) (v : Value)
    → RootSpells (shapes new) (fs ++ gs) v payload [] → length payload ≤ 16384 → NewByOld old new ty fs gs payload sheet v
new-by-old = promises-Extension.new-by-old

-- "The place is then where the bitmap of the first such struct starts."
-- The two theorems above, by `promises/specs/Claims.NewByOld`. The places are those of the one tree that fits the payload and delimits its bytes:

-- A payload has one tree that fits it and delimits its bytes, up to one tail: the places are its own.
pub placed-once : (s : List ℕ) → IsGood s → (ty : ℕ) (fs : List Field) (payload : List ℕ) (tree other : Tree) (end end' : ℕ)
    → RootFits (shapes s) payload ty fs tree → RootFits (shapes s) payload ty fs other
    → RootDelimits (shapes s) payload fs tree end → RootDelimits (shapes s) payload fs other end' → (tree ≡ other) × (end ≡ end')
placed-once = promises-Reading.placed-once

-- "In every other case it accepts and shows exactly that value without the added fields; the tail is the bytes from the first added field the root
-- carries to the end, and empty where it carries none."
-- The theorems `written-by-new` and `new-by-old` above, by `promises/specs/Claims.OldAnswers`.

-- "Take whatever payload without unknown bits the old reader accepts as such a struct. The new reader accepts it too and shows the same value, added
-- fields absent: its rows equal the old reader's in every number, and there is no tail."

-- A payload without unknown bits that the old reader accepts: the new reader gives the very same answer and sheet, and there is no tail. The rows show
-- one value by both tables, and no struct in it carries an added field.
pub accepted-by-both : (old new : List ℕ) (yes : extension old new ≡ Yes) (ty : ℕ) (fs : List Field) (st : shapes old ty ≡ struct fs)
    (payload sheet : List ℕ) (k place n c : ℕ) (after : List ℕ) → read_outcome old ty payload sheet ≡ reader-outcome (Shown k place n c) after
    → unknown_bits fs (root_bits fs payload) ≡ 0
    → (read_outcome new ty payload sheet ≡ reader-outcome (Shown k place n c) after)
    × (n ≡ 0)
    × ((gs : List Field) × (v : Value)
    × (shapes new ty ≡ struct (fs ++ gs))
    × Shows (shapes old) payload ty fs (first_rows k after) v
    × Shows (shapes new) payload ty (fs ++ gs) (first_rows k after) v
    × (without (shapes old) v ty ≡ v))
accepted-by-both = promises-Extension.accepted-by-both

-- A payload that the old reader accepts, with no added field's bit set: the new reader gives the same answer, with the same tail, and the same
-- sheet, and what its rows show by the old table they show by the new one.
pub old-by-new : (old new : List ℕ) (yes : extension old new ≡ Yes) (ty : ℕ) (fs : List Field) (st : shapes old ty ≡ struct fs) (gs : List Field)
    (st' : shapes new ty ≡ struct (fs ++ gs))
    (payload sheet : List ℕ) (k place n c : ℕ) (after : List ℕ) → read_outcome old ty payload sheet ≡ reader-outcome (Shown k place n c) after
    → NoneAdded fs gs payload
    → (read_outcome new ty payload sheet ≡ read_outcome old ty payload sheet)
    × ((v : Value) → Shows (shapes old) payload ty fs (first_rows k after) v → Shows (shapes new) payload ty (fs ++ gs) (first_rows k after) v)
old-by-new = promises-Extension.old-by-new

-- None is set where the old reader has no tail.
pub none-added : (old new : List ℕ) (yes : extension old new ≡ Yes) (ty : ℕ) (fs : List Field) (st : shapes old ty ≡ struct fs) (gs : List Field)
    (st' : shapes new ty ≡ struct (fs ++ gs))
    (payload sheet : List ℕ) (k place c : ℕ) (after : List ℕ) → read_outcome old ty payload sheet ≡ reader-outcome (Shown k place 0 c) after
    → NoneAdded fs gs payload
none-added = promises-Extension.none-added

-- What the writer by the old table writes is such a payload: with rows enough both readers show the value of its sheet, with no tail.
pub written-by-old : (old new : List ℕ) (yes : extension old new ≡ Yes) (ty : ℕ) (fs : List Field) (st : shapes old ty ≡ struct fs) (gs : List Field)
    (st' : shapes new ty ≡ struct (fs ++ gs))
    (cells B out : List ℕ) (n : ℕ) (out' : List ℕ) → file_outcome old ty cells B out ≡ writer-outcome (writer-Written n) out'
    → (sheet : List ℕ) → length cells / 4 ≤ room sheet
    → (v : Value) × Shows (shapes old) B ty fs (rows_of cells) v
    × ReadsAs old ty fs (take n out') sheet v n 0
    × ReadsAs new ty (fs ++ gs) (take n out') sheet v n 0
written-by-old = promises-Extension.written-by-old

-- The receipt inside a batch answer, and the same field added to the answer itself, over files as bytes:

-- An added field in the receipt inside the batch answer: the old file refuses with 26 at that receipt.
pub inner-by-old : (sheet : List ℕ) → read_outcome file 4 P5 sheet ≡ reader-outcome (reader-Refused 26 2) sheet
inner-by-old = promises-Examples.inner-by-old

-- The added field is in an inner struct: the new reader shows P5, and the old one answers 26 at the bitmap of the first struct that carries the field.
pub inner-by-new : (sheet : List ℕ) → 7 ≤ room sheet → read_outcome longer 4 P5 sheet ≡ reader-outcome (Shown 7 7 0 0) (shown_in sheet inner_rows)
inner-by-new = promises-Examples.inner-by-new

-- An added field in the answer itself: the old file shows the rest, and the field is the tail.
pub root-by-old : (sheet : List ℕ) → 4 ≤ room sheet → read_outcome file 4 P6 sheet ≡ reader-outcome (Shown 4 4 1 0) (shown_in sheet known_rows)
root-by-old = promises-Examples.root-by-old

-- The added field is in the root: the new reader shows it in P6, and for the old one it is the tail.
pub root-by-new : (sheet : List ℕ) → 5 ≤ room sheet → read_outcome wider 4 P6 sheet ≡ reader-outcome (Shown 5 5 0 0) (shown_in sheet root_rows)
root-by-new = promises-Examples.root-by-new
