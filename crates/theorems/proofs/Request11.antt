-- Request 2026-11, passing a receipt on unharmed: its sentences, and below each the theorems that state it, cited from the crate that proves them.
use mathlib.Core.List.{List, ◌++◌, []}
use Prim.Native.Nat.{ℕ, ◌≤◌, ◌*◌, ◌/◌, ◌<◌, ◌+◌}
use mathlib.Core.Path.{◌≡◌}
use mathlib.Core.Logic.{◌↔◌}
use lib.ListN.{length, drop, take}
use Rattle.buffer.specs.Span.{span}
use Rattle.wire.specs.Little.{Bytes}
use Rattle.schema.specs.Check.{IsGood, checked}
use Rattle.schema.proofs.Examples.{file}
use Rattle.schema.specs.Extend.{extension}
use Rattle.schema.specs.Extended.{Yes}
use Rattle.schema.specs.declared.Field.{Field}
use Rattle.schema.specs.Table.{struct, Table, Shape, bitmap_bytes, shape}
use Rattle.schema.specs.Good.{GoodSchema}
use Rattle.schema.specs.Checked.{Refused as schema-Refused}
use Rattle.value.specs.Sheet.{rows_of}
use Rattle.value.specs.Value.{Value, size}
use Rattle.value.specs.Spell.{RootSpells, encode, TailFits}
use Rattle.value.specs.Fits.{Shows}
use Rattle.value.specs.declared.Row.{Row as value-Row}
use Rattle.value.specs.Read.{read, accepted}
use Rattle.value.specs.Write.{written, refusal as write-refusal}
use Rattle.reader.specs.Entry.{read_outcome, outcome as reader-outcome, room}
use Rattle.reader.specs.Reading.{Shown}
use Rattle.writer.specs.Entry.{outcome as writer-outcome, file_outcome}
use Rattle.writer.specs.Writing.{Written as writer-Written, Refused as writer-Refused}
use Rattle.forward.specs.Entry.{forward_outcome}
use Rattle.forward.specs.Claims.{Forwards, Passes, TailReason}
use Rattle.forward.specs.Cases.{ForwardHold as forward-Hold, worked as forward-worked, nine, by-nine, large, lent as forward-lent}
use Rattle.forward.specs.Forward.{forward, root_unknown}
use Rattle.promises.specs.Claims.{shapes, ReadsAs, ForwardReason}
use Rattle.promises.specs.Cases.{RelaysP6}
use Rattle.promises.proofs.Examples.{wider}
use Rattle.value.proofs.Encode as value-Encode
use Rattle.forward.proofs.Examples as forward-Examples
use Rattle.forward.proofs.Statements as forward-Statements
use Rattle.promises.proofs.Forwarding as promises-Forwarding
use Rattle.promises.proofs.Examples as promises-Examples

-- "Our relay runs the old table between a new gateway and a new client."
-- The relay is `arf::read` and then `arf::forward` by the same file, each by its contract.

-- "A forwarding write keeps the unknown root bits and copies the tail after the known fields."
-- By the contract of `arf::forward`, answer and output afterwards are `forward_outcome`.

-- What is written stands at the output's front, and past it nothing changes. It spells the value that the sheet shows, ends in the tail, and keeps the
-- root's presence bytes as they stand; and no other bytes do, by a good file. Every lent slice of bytes meets `Bytes`.
pub forwarded-iff-spelled : (s : List ℕ) (ty : ℕ) (sheet B : List ℕ) (place n : ℕ) (out : List ℕ) (k : ℕ) (out' : List ℕ) → Bytes out'
    → (forward_outcome s ty sheet B place n out ≡ writer-outcome (writer-Written k) out')
    ↔ (IsGood s × ((bs : List ℕ) × Forwards (shapes s) ty (rows_of sheet) B place n (length out) bs × (length bs ≡ k) × (out' ≡ bs ++ drop k out)))
forwarded-iff-spelled = promises-Forwarding.forwarded-iff-spelled

-- Computed over a schema file, each case with every byte of the output;
pub cases-hold : forward-Hold file forward-worked
cases-hold = forward-Examples.cases-hold

-- and over one whose root has two presence bytes.
pub nine-hold : forward-Hold nine by-nine
nine-hold = forward-Examples.nine-hold

-- "To be shown: with a new table extending the old, and with rows and room enough, any new writer's value that the old reader accepts comes out of
-- the relay such that the new reader shows the original whole."

-- Any payload without unknown bits that the new rules allow as v, and that the old reader accepts: with room enough it comes out of the relay such that
-- the new reader, with rows enough, shows v whole. All that it answers and every cell of its sheet is as for the payload itself.
pub relayed : (old new : List ℕ) (ty : ℕ)
    → extension old new ≡ Yes → (hs : List Field) → shapes new ty ≡ struct hs → (payload : List ℕ) (v : Value) → Bytes payload
    → RootSpells (shapes new) hs v payload [] → length payload ≤ 16384
    → (sheet : List ℕ) (k place n c : ℕ) (after : List ℕ) → read_outcome old ty payload sheet ≡ reader-outcome (Shown k place n c) after
    → (out : List ℕ) → length payload ≤ length out → (sheet' : List ℕ) → size v ≤ room sheet'
    → (m : ℕ) × (out' : List ℕ) × (forward_outcome old ty (take (4 * k) after) payload place n out ≡ writer-outcome (writer-Written m) out')
    × ReadsAs new ty hs (take m out') sheet' v m 0
    × (read_outcome new ty (take m out') sheet' ≡ read_outcome new ty payload sheet')
relayed = promises-Forwarding.relayed

-- The same for whatever the writer by the new file writes: the value shown after the relay is that of the writer's sheet. Here the old file is any that
-- accepts what was written, whether the new one extends it or not.
pub relayed-written : (old new : List ℕ) (ty : ℕ)
    (cells B o : List ℕ) (m : ℕ) (o' : List ℕ) → Bytes o' → file_outcome new ty cells B o ≡ writer-outcome (writer-Written m) o'
    → (sheet : List ℕ) (k place n c : ℕ) (after : List ℕ) → read_outcome old ty (take m o') sheet ≡ reader-outcome (Shown k place n c) after
    → (out : List ℕ) → m ≤ length out → (sheet' : List ℕ) → length cells / 4 ≤ room sheet'
    → (hs : List Field) × (v : Value) × (out' : List ℕ) × (shapes new ty ≡ struct hs)
    × Shows (shapes new) B ty hs (rows_of cells) v
    × (forward_outcome old ty (take (4 * k) after) (take m o') place n out ≡ writer-outcome (writer-Written m) out')
    × (take m out' ≡ take m o')
    × ReadsAs new ty hs (take m out') sheet' v m 0
relayed-written = promises-Forwarding.relayed-written

-- What is read, with a tail or without one, is forwarded by the same file, as just the rows shown with the tail told, to the very same bytes, where the
-- output is as long. Every lent slice of bytes meets `Bytes`.
pub same_bytes : (s : List ℕ) (ty : ℕ) (payload sheet : List ℕ) (k place n c : ℕ) (after : List ℕ) → Bytes payload
    → read_outcome s ty payload sheet ≡ reader-outcome (Shown k place n c) after
    → (out : List ℕ) → length payload ≤ length out
    → forward_outcome s ty (take (4 * k) after) payload place n out ≡ writer-outcome (writer-Written (length payload)) (payload ++ drop (length payload) out)
same_bytes = promises-Forwarding.same_bytes

-- What is read by a table, with a tail or without one, is forwarded by the same table to the very same bytes.
pub forward-same-bytes : (T : Table) → GoodSchema T → (t : ℕ) (payload : List ℕ) (room : ℕ) (rs : List value-Row) (place n c : ℕ) → Bytes payload
    → read T t payload room ≡ accepted rs place n c → (room' : ℕ) → length payload ≤ room' → forward T t rs payload place n room' ≡ written payload
forward-same-bytes = forward-Statements.same_bytes

-- A payload is its own presence bytes, its value's encoding after the presence bytes of that, and the tail.
pub root-parts : (S : ℕ → Shape) (t : ℕ) (fs : List Field) (st : S t ≡ struct fs) (v : Value) (u z : List ℕ) → Bytes u → RootSpells S fs v u z
    → u ≡ take (bitmap_bytes (length fs)) u ++ (drop (bitmap_bytes (length fs)) (encode S v t) ++ z)
root-parts = value-Encode.root-parts

-- Computed over two files, entry by entry.
pub relays_P6 : RelaysP6 file wider
relays_P6 = promises-Examples.relays_P6

-- "Refusals: as the plain writer's;"

-- The table's come first.
pub table-first : (s : List ℕ) (ty : ℕ) (sheet B : List ℕ) (place n : ℕ) (out : List ℕ)
    (k q : ℕ) → checked s ≡ schema-Refused k q → forward_outcome s ty sheet B place n out ≡ writer-outcome (writer-Refused k q) out
table-first = promises-Forwarding.table-first

-- Then those of the plain writer, but for 7 and 52.
pub refused-alike : (s : List ℕ) (ty : ℕ) (sheet B : List ℕ) (place n : ℕ) (out : List ℕ) (good : IsGood s)
    (k q : ℕ) (out' : List ℕ) → file_outcome s ty sheet B out ≡ writer-outcome (writer-Refused k q) out' → (k ≡ 7 → ⊥) → (k ≡ 52 → ⊥)
    → forward_outcome s ty sheet B place n out ≡ writer-outcome (writer-Refused k q) out
refused-alike = promises-Forwarding.refused-alike

-- A sheet is forwarded exactly when the schema file is good, and the sheet shows a value and the tail fits, with the whole a payload and room for it.
pub accepted-iff : (s : List ℕ) (ty : ℕ) (sheet B : List ℕ) (place n : ℕ) (out : List ℕ)
    → ((k : ℕ) × (out' : List ℕ) × (forward_outcome s ty sheet B place n out ≡ writer-outcome (writer-Written k) out'))
    ↔ (IsGood s × Passes (shapes s) ty (rows_of sheet) B place n (length out))
accepted-iff = promises-Forwarding.accepted-iff

-- "51 also for a tail outside its bytes, then 50 for a tail shorter than the unknown bits or present without any, both after leftover rows and at 0."

-- 51 at 0 for a tail outside its bytes,
pub tail-outside : (s : List ℕ) (ty : ℕ) (sheet B : List ℕ) (place n : ℕ) (out : List ℕ) (good : IsGood s) (fs : List Field)
    (st : shapes s ty ≡ struct fs) (v : Value) (shows : Shows (shapes s) B ty fs (rows_of sheet) v)
    → length B < place + n → forward_outcome s ty sheet B place n out ≡ writer-outcome (writer-Refused 51 0) out
tail-outside = promises-Forwarding.tail-outside

-- 50 at 0 for one shorter than the unknown bits, or present without any,
pub tail-unfit : (s : List ℕ) (ty : ℕ) (sheet B : List ℕ) (place n : ℕ) (out : List ℕ) (good : IsGood s) (fs : List Field)
    (st : shapes s ty ≡ struct fs) (v : Value) (shows : Shows (shapes s) B ty fs (rows_of sheet) v) (within : place + n ≤ length B)
    → (TailFits (root_unknown fs (rows_of sheet) B) (span B place n) → ⊥) → forward_outcome s ty sheet B place n out ≡ writer-outcome (writer-Refused 50 0) out
tail-unfit = promises-Forwarding.tail-unfit

-- 7 where the whole is no payload,
pub too_long : (s : List ℕ) (ty : ℕ) (sheet B : List ℕ) (place n : ℕ) (out : List ℕ) (good : IsGood s) (fs : List Field)
    (st : shapes s ty ≡ struct fs) (v : Value) (shows : Shows (shapes s) B ty fs (rows_of sheet) v) (within : place + n ≤ length B)
    (fits : TailFits (root_unknown fs (rows_of sheet) B) (span B place n))
    → 16384 < length (encode (shapes s) v ty) + n → forward_outcome s ty sheet B place n out ≡ writer-outcome (writer-Refused 7 0) out
too_long = promises-Forwarding.too_long

-- and 52 where the output has no room for the whole.
pub no_room : (s : List ℕ) (ty : ℕ) (sheet B : List ℕ) (place n : ℕ) (out : List ℕ) (good : IsGood s) (fs : List Field)
    (st : shapes s ty ≡ struct fs) (v : Value) (shows : Shows (shapes s) B ty fs (rows_of sheet) v) (within : place + n ≤ length B)
    (fits : TailFits (root_unknown fs (rows_of sheet) B) (span B place n))
    → length (encode (shapes s) v ty) + n ≤ 16384 → length out < length (encode (shapes s) v ty) + n
    → forward_outcome s ty sheet B place n out ≡ writer-outcome (writer-Refused 52 0) out
no_room = promises-Forwarding.no_room

-- `forward` refuses with a number at a row exactly for its reason: the schema file's own refusal, or one that is listed for a sheet with a tail, as it is
-- said there. The output stays untouched.
pub refused-iff : (s : List ℕ) (ty : ℕ) (sheet B : List ℕ) (place n : ℕ) (out : List ℕ) (k q : ℕ) (out' : List ℕ)
    → (forward_outcome s ty sheet B place n out ≡ writer-outcome (writer-Refused k q) out') ↔ ((out' ≡ out) × ForwardReason s ty (rows_of sheet) B place n (length out) k q)
refused-iff = promises-Forwarding.refused-iff

-- A sheet with a tail is refused with a number at a row exactly for its reason.
pub forward-refused-iff : (T : Table) (t : ℕ) (rs : List value-Row) (B : List ℕ) (place n room : ℕ) (good : GoodSchema T)
    (k q : ℕ) → (forward T t rs B place n room ≡ write-refusal k q) ↔ TailReason (shape T) t rs B place n room k q
forward-refused-iff = forward-Statements.refused-iff

-- Computed, where the whole is above 16,384 bytes: 7 before 52, and one byte less is 52.
pub large-hold : forward-Hold file large
large-hold = forward-Examples.large-hold

-- No table: 40 before all else.
pub forward-table-first : forward_outcome [] 4 [] [] 9 9 (forward-lent 1) ≡ writer-outcome (writer-Refused 40 0) (forward-lent 1)
forward-table-first = forward-Examples.table-first

-- Stated above: `cases-hold`.
