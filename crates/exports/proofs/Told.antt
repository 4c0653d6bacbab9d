-- The number and the cells of an answer determine it, where no refusal has the number of what is accepted; and so it is for the entries.
use mathlib.Core.Path.{◌≡◌, refl, ap, subst}
use mathlib.Core.Bool.{Bool, true, false, cond}
use mathlib.Core.List.{List, ◌++◌}
use mathlib.Core.Logic.{⊎_elim}
use Prim.Native.Nat.{ℕ, zero, suc, ◌≤◌}
use native.Mathlib.Omega.{arith}
use lib.Dec.{eqb, leb, ltb, lit≤}
use lib.ListN.{length, drop}
use Rattle.schema.specs.File.{table_of}
use Rattle.schema.specs.Check.{checked}
use Rattle.schema.specs.Extend.{if_good, extended, extension}
use Rattle.frame.specs.declared.Header.{Header}
use Rattle.frame.proofs.Answers.{refused-numbers}
use Rattle.schema.proofs.Numbered.{listed, listed-bounds}
use Rattle.schema.specs.Checked.{Checked}
use Rattle.schema.specs.Checked as check
use Rattle.schema.specs.Extended.{Extended}
use Rattle.schema.specs.Extended.{Yes, No, Refused as Faulty}
use Rattle.arf.specs.Numbers.{check_number, extend_number, write_number}
use Rattle.frame.specs.FrameRead.{FrameRead}
use Rattle.frame.specs.FrameRead as frame
use Rattle.frame.specs.FrameWritten.{FrameWritten}
use Rattle.frame.specs.FrameWritten as written
use Rattle.frame.specs.Frame as read
use Rattle.frame.specs.Written as wrote
use Rattle.reader.specs.Reading.{Reading}
use Rattle.reader.specs.Reading as reader
use Rattle.writer.specs.Writing.{Writing}
use Rattle.writer.specs.Writing as writer
use Rattle.index.specs.Indexing.{Indexing}
use Rattle.index.specs.Indexing as index
use Rattle.index.specs.Finding as find
use Rattle.index.specs.Index as making
use Rattle.index.specs.LookUp as look
use Rattle.index.proofs.Statements.{refused-above as index-above, verdict-known}
use Rattle.salvage.specs.Salvaging.{Salvaging}
use Rattle.salvage.specs.Salvaging as salvage
use Rattle.salvage.specs.Salvage as salvaging
use Rattle.salvage.proofs.Statements.{refused-bounds}
use Rattle.calls.specs.declared.Call.{Call}
use Rattle.receiver.specs.Received.{Received}
use Rattle.exports.specs.Answers.{check_cells, extend_cells, frame_cells, written_cells, read_number, read_cells, write_cells, index_cells, find_cells, salvage_cells}
use Rattle.exports.specs.Answers.{receiving, call_cells, received_cells, releasing, released_cells}
use Rattle.exports.specs.Told.{check_told, extend_told, frame_told, written_told, read_told_of, write_told, index_told, find_told, salvage_told, received_told, released_told}
use Rattle.exports.proofs.Held.{after-held, release-held}

pub check-told : (a : Checked) → ((n q : ℕ) → a ≡ check.Refused n q → 1 ≤ n) → check_told (check_number a) (check_cells a) ≡ a
check-told check.Good h = refl
check-told (check.Refused zero q) h = absurd (omega (arith, h 0 q refl))
check-told (check.Refused (suc n) q) h = refl

pub extend_told_lem : (a : Extended) → ((n q : ℕ) → a ≡ Faulty n q → 1 ≤ n) → extend_told (extend_number a) (extend_cells a) ≡ a
extend_told_lem Yes h = refl
extend_told_lem No h = refl
extend_told_lem (Faulty zero q) h = absurd (omega (arith, h 0 q refl))
extend_told_lem (Faulty (suc n) q) h = refl

pub frame-told : (a : FrameRead) → ((n : ℕ) → a ≡ frame.Refused n → 2 ≤ n) → frame_told (read.read_number a) (frame_cells a) ≡ a
frame-told frame.More h = refl
frame-told (frame.Frame header place n) h = refl
frame-told (frame.Refused zero) h = absurd (omega (arith, h 0 refl))
frame-told (frame.Refused (suc zero)) h = absurd (omega (arith, h 1 refl))
frame-told (frame.Refused (suc (suc n))) h = refl

pub written-told : (a : FrameWritten) → ((n : ℕ) → a ≡ written.Refused n → 1 ≤ n) → written_told (wrote.write_number a) (written_cells a) ≡ a
written-told (written.Written n) h = refl
written-told (written.Refused zero) h = absurd (omega (arith, h 0 refl))
written-told (written.Refused (suc n)) h = refl

pub read_told : (a : Reading) → ((n q : ℕ) → a ≡ reader.Refused n q → 1 ≤ n) → read_told_of (read_number a) (read_cells a) ≡ a
read_told (reader.Shown rows place n comparisons) h = refl
read_told (reader.Refused zero q) h = absurd (omega (arith, h 0 q refl))
read_told (reader.Refused (suc n) q) h = refl

pub write-told : (a : Writing) → ((n q : ℕ) → a ≡ writer.Refused n q → 1 ≤ n) → write_told (write_number a) (write_cells a) ≡ a
write-told (writer.Written n) h = refl
write-told (writer.Refused zero q) h = absurd (omega (arith, h 0 q refl))
write-told (writer.Refused (suc n) q) h = refl

pub salvage_told_lem : (a : Salvaging) → ((n : ℕ) → a ≡ salvage.Refused n → 1 ≤ n) → salvage_told (salvaging.salvage_number a) (salvage_cells a) ≡ a
salvage_told_lem (salvage.Salvaged entries bytes spans) h = refl
salvage_told_lem (salvage.Refused zero) h = absurd (omega (arith, h 0 refl))
salvage_told_lem (salvage.Refused (suc n)) h = refl

-- ---- the answers of the entries

pub check-entry : (s : List ℕ) → check_told (check_number (checked s)) (check_cells (checked s)) ≡ checked s
check-entry s = check-told (checked s) (λ n q e. omega (arith, (listed-bounds (table_of s) (listed s n q e)).0))

-- the first refusal of two tables
either : (v w : Checked) (b : Bool) {n q : ℕ} → ((m p : ℕ) → v ≡ check.Refused m p → 1 ≤ m) → ((m p : ℕ) → w ≡ check.Refused m p → 1 ≤ m)
    → if_good v (if_good w (cond b Yes No)) ≡ Faulty n q → 1 ≤ n
either (check.Refused m p) w b {n} f g e = let z : m ≡ n = cc in omega (arith, f m p refl)
either check.Good (check.Refused m p) b {n} f g e = let z : m ≡ n = cc in omega (arith, g m p refl)
either check.Good check.Good true f g e = let z : ◌≡◌ {A = ℕ} 0 1 = cc in absurd (omega arith)
either check.Good check.Good false f g e = let z : ◌≡◌ {A = ℕ} 0 1 = cc in absurd (omega arith)

pub extends-entry : (old new : List ℕ) → extend_told (extend_number (extension old new)) (extend_cells (extension old new)) ≡ extension old new
unfolding extension
extends-entry old new =
    extend_told_lem (extension old new)
    (λ n q e. either (checked old) (checked new) (extended (table_of old) (table_of new)) (λ m p d. omega (arith, (listed-bounds (table_of old) (listed old m p d)).0)) (λ m p d. omega (arith, (listed-bounds (table_of new) (listed new m p d)).0)) e)

pub read-frame-entry : (s : List ℕ) → frame_told (read.read_number (read.frame_of s)) (frame_cells (read.frame_of s)) ≡ read.frame_of s
read-frame-entry s = frame-told (read.frame_of s) (λ n e. (refused-numbers s e).0)

Numbered : FrameWritten → Type 0
Numbered (written.Written n) = Unit {0}
Numbered (written.Refused n) = 1 ≤ n

written-number : (h : Header) (p : List ℕ) (room : ℕ) → Numbered (wrote.written_of h p room)
unfolding wrote.written_of Numbered
written-number h p room = go (read.known_kind h.kind) (leb (length p) 16384) (leb (length (wrote.frame_bytes h p)) room)
  where
    go : (a b c : Bool) → Numbered (cond a (cond b (cond c (written.Written (length (wrote.frame_bytes h p))) (written.Refused 52)) (written.Refused 7)) (written.Refused 4))
    go true true true = tt
    go true true false = lit≤ tt
    go true false c = lit≤ tt
    go false b c = lit≤ tt

pub write-frame-entry : (h : Header) (p : List ℕ) (room : ℕ) → let a = wrote.written_of h p room in written_told (wrote.write_number a) (written_cells a) ≡ a
unfolding Numbered
write-frame-entry h p room = written-told (wrote.written_of h p room) (λ n e. subst Numbered e (written-number h p room))

pub salvage_entry : (torn copy spans : List ℕ) → let a = (salvaging.salvage_of torn copy spans).answer in salvage_told (salvaging.salvage_number a) (salvage_cells a) ≡ a
salvage_entry torn copy spans = salvage_told_lem (salvaging.salvage_of torn copy spans).answer (λ n e. omega (arith, refused-bounds torn copy spans e))

index-told : (a : Indexing) → ((n q : ℕ) → a ≡ index.Refused n q → 1 ≤ n) → index_told (making.index_number a) (index_cells a) ≡ a
index-told (index.Made n) h = refl
index-told (index.Refused zero q) h = absurd (omega (arith, h 0 q refl))
index-told (index.Refused (suc n) q) h = refl

pub make-index-entry : (schema entries out : List ℕ) → let a = (making.make_index schema entries out).answer in index_told (making.index_number a) (index_cells a) ≡ a
make-index-entry schema entries out = index-told (making.make_index schema entries out).answer (λ n q e. index-above schema entries out e)

pub look-up-entry : (index entries : List ℕ) (c : ℕ) (out : List ℕ) → let a = (look.look_up index entries c out).answer in find_told (look.find_number a) (find_cells a) ≡ a
unfolding look.look_up look.printed_text
look-up-entry s entries c out = go (ltb (length out) (length (look.look_text s (length entries) c)))
  where
    known : eqb (look.stopped_number s (length entries)) 52 ≡ false
    known = ⊎_elim (λ e. rw e) (⊎_elim (λ e. rw e) (λ e. rw e)) (verdict-known s (length entries))

    go : (b : Bool) → let text = look.look_text s (length entries) c in
        let o = cond b (look.outcome (find.Refused 52) out) (look.outcome (find.Printed (look.stopped_number s (length entries)) (length text)) (text ++ drop (length text) out)) in
        find_told (look.find_number o.answer) (find_cells o.answer) ≡ o.answer
    go true = refl
    go false = rw known

-- the answer with these records
abbrev told_over : Received → List Call → Received
told_over a l =
    record {
      number = a.number;
      place = a.place;
      used = a.used;
      rows = a.rows;
      tail_place = a.tail_place;
      tail_length = a.tail_length;
      «open» = a.«open»;
      comparisons = a.comparisons;
      table = record { slots = l };
    }

-- The number, the answer's cells and the call table's cells afterwards determine the answer to a frame, whatever was lent.
pub receive-entry : (table schema : List ℕ) (side : ℕ) (bytes sheet tallies : List ℕ) → let a = (receiving table schema side bytes sheet tallies).answer in
    received_told a.number (received_cells a) (call_cells table a.table.slots) ≡ a
receive-entry table schema side bytes sheet tallies =
    ap (told_over (receiving table schema side bytes sheet tallies).answer) (after-held table schema side bytes sheet tallies)

-- So do they determine the answer to a release.
pub release-entry : (table schema : List ℕ) (id : ℕ) (tallies : List ℕ) → let a = (releasing table schema id tallies).answer in
    released_told a.number (released_cells a) (call_cells table a.table.slots) ≡ a
release-entry table schema id tallies =
    let a = (releasing table schema id tallies).answer in
    ap (λ (l : List Call). record { number = a.number; place = a.place; «open» = a.«open»; table = record { slots = l } }) (release-held table schema id tallies)
