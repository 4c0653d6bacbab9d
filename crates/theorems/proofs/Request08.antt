-- Request 2026-08, reading with the carrier's table beside ours: its sentences, and below each the theorems that state it, cited from the crate that
-- proves them.
use Rattle.std.specs.Prelude.{Some}
use mathlib.Core.List.{List, ◌∷◌, [], map, ◌++◌}
use Prim.Native.Nat.{ℕ, ◌≤◌, ◌*◌}
use mathlib.Core.Path.{◌≡◌}
use mathlib.Core.Logic.{◌↔◌, ◌⊎◌}
use mathlib.Core.Bool.{true}
use lib.ListN.{length, take}
use mathlib.Core.Option.{none}
use Rattle.schema.specs.Check.{IsGood, find_method, method_row, checked}
use Rattle.schema.specs.Extend.{Widens, widened, extension}
use Rattle.schema.specs.File.{table_of}
use Rattle.schema.specs.declared.Field.{Field}
use Rattle.schema.specs.Table.{struct, Table, shape}
use Rattle.schema.specs.Good.{GoodSchema}
use Rattle.schema.proofs.Examples.{longer, file}
use Rattle.schema.specs.Extended.{No, Yes}
use Rattle.schema.specs.Checked.{Refused as schema-Refused}
use Rattle.value.specs.Value.{Value, Tree, value}
use Rattle.value.specs.Added.{without, NoneAdded, first_added, reached}
use Rattle.value.specs.Beside.{RightfulBeside, pruned, DelimitedBeside, SomeOf, root_length, TooFewRows}
use Rattle.value.specs.declared.Row.{Row as value-Row}
use Rattle.value.specs.Fits.{ShowsKnown, told, Shows}
use Rattle.value.specs.Claims.{DelimitedTree}
use Rattle.value.specs.Sheet.{rows_of}
use Rattle.value.specs.Spell.{RootSpells}
use Rattle.value.specs.Read.{unknown_bits, root_bits}
use Rattle.reader.specs.Entry.{room, read_outcome, outcome as reader-outcome}
use Rattle.reader.specs.Beside.{beside_outcome}
use Rattle.reader.specs.Reading.{Refused as reader-Refused, Shown}
use Rattle.flat.specs.Sheet.{shown_in}
use Rattle.writer.specs.Entry.{file_outcome, outcome as writer-outcome}
use Rattle.writer.specs.Writing.{Written as writer-Written}
use Rattle.promises.specs.Claims.{shapes, first_rows, ReadsAs}
use Rattle.promises.specs.Beside.{ReadsBeside, NewBeside, RefusedBeside, Unextended}
use Rattle.promises.specs.Cases.{patched, other_form, carrier, HoldBeside, lent as promises-lent, beside_carrier, Hold as promises-Hold, struct_of, grown_alone, grown_beside, of_theirs, P5, receipts}
use Rattle.schema.proofs.Extending as schema-Extending
use Rattle.value.proofs.BesideStatements as value-BesideStatements
use Rattle.promises.proofs.Beside as promises-Beside
use Rattle.promises.proofs.BesideExamples as promises-BesideExamples

-- "Lend both: the payload is read wholly by the writer's table and shown by ours, added fields left out at every depth."
-- By the contract of `arf::read_beside`, answer and sheet afterwards are `beside_outcome`.

-- A payload is accepted and shown as w exactly when by theirs it spells, within the limits, a value that is w without its added fields. The tail is
-- what follows the fields that theirs knows, and the key comparisons due are those of the whole value.
pub shown-iff-spelled : (ours theirs : List ℕ) (good : IsGood ours) (good' : IsGood theirs) (widens : Widens (table_of ours) (table_of theirs)) (ty : ℕ)
    (fs : List Field) (st : shapes ours ty ≡ struct fs) (payload sheet : List ℕ) (fs' : List Field)
    (st' : shapes theirs ty ≡ struct fs')
    (w : Value) (place n comparisons : ℕ)
    → ReadsBeside ours theirs ty payload sheet w place n comparisons
    ↔ ((v : Value) × (without (shapes ours) v ty ≡ w) × RightfulBeside (shapes ours) (shapes theirs) ty fs' payload (room sheet) v place n comparisons)
shown-iff-spelled = promises-Beside.shown-iff-spelled

-- A tree without the added fields has the value without them.
pub pruned-value : (T : Table) (tree : Tree) (t : ℕ) → value (pruned (shape T) tree t) ≡ without (shape T) (value tree) t
pruned-value = value-BesideStatements.pruned-value

-- With ours and theirs the same file the answer and the sheet are those of `read`, for every file, type, payload and sheet.
pub same-file : (s : List ℕ) (ty : ℕ) (payload sheet : List ℕ) → beside_outcome s s ty payload sheet ≡ read_outcome s ty payload sheet
same-file = promises-Beside.same-file

-- "Ours must be extended by theirs, except that added fields may here widen a bitmap."

-- The test says yes exactly where the new table extends the old one, but for the bitmaps.
pub widens-iff : (old new : Table) (g : GoodSchema old) (g' : GoodSchema new) → widened old new ≡ true ↔ Widens old new
widens-iff = schema-Extending.widens-iff

-- A method found in the old table is found in the new one, the same.
pub still-found : (old new : Table) (g : GoodSchema old) (g' : GoodSchema new) (x : Widens old new)
    (p q r i : ℕ) → find_method old p q r ≡ Some i → (j : ℕ) × (find_method new p q r ≡ Some j) × (method_row new j ≡ method_row old i)
still-found = schema-Extending.still-found

-- 47 where theirs is the older file, also for a type that is no struct; where a method of ours has another form in theirs; and where a field that theirs
-- adds is required.
pub unextended-cases : (payload sheet : List ℕ)
    → (beside_outcome longer file 4 payload sheet ≡ reader-outcome (reader-Refused 47 0) sheet)
    × (beside_outcome longer file 0 payload sheet ≡ reader-outcome (reader-Refused 47 0) sheet)
    × (beside_outcome file (patched file 104 other_form) 4 payload sheet ≡ reader-outcome (reader-Refused 47 0) sheet)
    × (beside_outcome file (patched longer 80 (0 ∷ [])) 4 payload sheet ≡ reader-outcome (reader-Refused 47 0) sheet)
unextended-cases = promises-BesideExamples.unextended-cases

-- A carrier's file that by 01 does not extend ours, since a bitmap has grown;
pub carrier-extends : extension file carrier ≡ No
carrier-extends = promises-BesideExamples.carrier-extends

-- payloads of it read with that file beside ours, every number and every cell.
pub carrier-beside : HoldBeside file carrier 4 promises-lent beside_carrier
carrier-beside = promises-BesideExamples.carrier-beside

-- "Rows show the type and the known fields' count; places and lengths are as written."

-- A payload is accepted exactly with the rows of a tree that fits it and delimits its bytes by theirs, without the added fields: rows keep type, place
-- and length, a struct's count is that of the fields that ours knows and whose bits are set. Every cell of every row is so decided.
pub rows-beside : (ours theirs : List ℕ) (good : IsGood ours) (good' : IsGood theirs) (widens : Widens (table_of ours) (table_of theirs)) (ty : ℕ)
    (fs : List Field) (st : shapes ours ty ≡ struct fs) (payload sheet : List ℕ)
    (k place n comparisons : ℕ) (after : List ℕ)
    → (beside_outcome ours theirs ty payload sheet ≡ reader-outcome (Shown k place n comparisons) after)
    ↔ ((rs : List value-Row) × DelimitedBeside (shapes ours) (shapes theirs) ty payload (room sheet) rs place n comparisons × (length rs ≡ k) × (after ≡ shown_in sheet rs))
rows-beside = promises-Beside.rows-beside

-- What is accepted the reader by theirs alone accepts too, given a row for each value, with the same tail and the same key comparisons due. The rows
-- shown here are some of its rows, in their order, with type, place and length as there.
pub theirs-accepts : (ours theirs : List ℕ) (good : IsGood ours) (good' : IsGood theirs) (widens : Widens (table_of ours) (table_of theirs)) (ty : ℕ)
    (fs : List Field) (st : shapes ours ty ≡ struct fs) (payload sheet : List ℕ)
    (k place n comparisons : ℕ) (after : List ℕ) → beside_outcome ours theirs ty payload sheet ≡ reader-outcome (Shown k place n comparisons) after
    → (k' : ℕ) × ((sheet' : List ℕ) → k' ≤ room sheet'
    → (after' : List ℕ) × (read_outcome theirs ty payload sheet' ≡ reader-outcome (Shown k' place n comparisons) after') × SomeOf (first_rows k after) (first_rows k' after'))
theirs-accepts = promises-Beside.theirs-accepts

-- Rows that tell the same show the same value, whatever bits the structs have beyond those that the table knows.
pub known-once : (T : Table) (t : ℕ) (B B' : List ℕ) (v v' : Value) (rs rs' : List value-Row) → ShowsKnown (shape T) B t rs v → ShowsKnown (shape T) B' t rs' v'
    → map (told (shape T) B) rs ≡ map (told (shape T) B') rs' → v ≡ v'
known-once = value-BesideStatements.known-once

-- "The base reader keeps 26, demand 3 and demand 2's same bytes;"

-- Where both readers accept, with any two sheets, they show one value, by the same rows but for the root's length, which here reaches over the added
-- fields. For a bitmap that has grown neither this nor the next holds: the reader by ours alone takes the further bitmap byte for a field's.
pub both-accept : (ours theirs : List ℕ) (yes : extension ours theirs ≡ Yes) (ty : ℕ) (fs gs : List Field) (st : shapes ours ty ≡ struct fs)
    (st' : shapes theirs ty ≡ struct (fs ++ gs)) (payload sheet : List ℕ)
    (k place n c : ℕ) (after : List ℕ) → read_outcome ours ty payload sheet ≡ reader-outcome (Shown k place n c) after
    → (sheet' : List ℕ) (k' place' n' c' : ℕ) (after' : List ℕ) → beside_outcome ours theirs ty payload sheet' ≡ reader-outcome (Shown k' place' n' c') after'
    → (k' ≡ k)
    × (first_rows k' after' ≡ root_length place' (first_rows k after))
    × ((v : Value) × Shows (shapes ours) payload ty fs (first_rows k after) v × ShowsKnown (shapes ours) payload ty (first_rows k' after') v)
both-accept = promises-Beside.both-accept

-- Where no added field's bit is set in the root, the whole answer and the sheet are those of the reader by ours alone, refusals and 30 too; or that
-- reader answers 26.
pub none-added : (ours theirs : List ℕ) (yes : extension ours theirs ≡ Yes) (ty : ℕ) (fs gs : List Field) (st : shapes ours ty ≡ struct fs)
    (st' : shapes theirs ty ≡ struct (fs ++ gs)) (payload sheet : List ℕ)
    → NoneAdded fs gs payload
    → (beside_outcome ours theirs ty payload sheet ≡ read_outcome ours ty payload sheet)
    ⊎ ((p : ℕ) × (read_outcome ours ty payload sheet ≡ reader-outcome (reader-Refused 26 p) sheet))
none-added = promises-Beside.none-added

-- Where the payload is right by theirs and no struct, reached through fields that ours knows, carries an added field, the whole answer and the sheet are
-- those of the reader by ours alone, 30 too.
pub nowhere-added : (ours theirs : List ℕ) (yes : extension ours theirs ≡ Yes) (ty : ℕ) (fs gs : List Field) (st : shapes ours ty ≡ struct fs)
    (st' : shapes theirs ty ≡ struct (fs ++ gs)) (payload sheet : List ℕ)
    (tree : Tree) (place n : ℕ) → DelimitedTree (shapes theirs) ty payload tree place n → first_added (reached (shapes ours) tree ty) ≡ none
    → beside_outcome ours theirs ty payload sheet ≡ read_outcome ours ty payload sheet
nowhere-added = promises-Beside.nowhere-added

-- Seven fields have become nine. What is said of both readers under 01's own extension does not hold here. The reader by ours alone takes the second
-- bitmap byte for field 0, whose content by theirs is the byte after it; and what ours alone accepts with no added bit set may be cut by theirs.
pub grown-differs : promises-Hold (struct_of 7) 1 promises-lent grown_alone × HoldBeside (struct_of 7) (struct_of 9) 1 promises-lent grown_beside
grown-differs = promises-BesideExamples.grown-differs

-- "what is read here and accepted by the plain writer comes back with the same known fields only."

-- What is shown here and then accepted by the plain writer by ours, as just the rows shown over the payload, is read back by ours as the value with the
-- same known fields and nothing else, and with no tail.
pub shown-then-written : (ours theirs : List ℕ) (good : IsGood ours) (good' : IsGood theirs) (widens : Widens (table_of ours) (table_of theirs)) (ty : ℕ)
    (fs : List Field) (st : shapes ours ty ≡ struct fs) (payload sheet : List ℕ) (fs' : List Field)
    (st' : shapes theirs ty ≡ struct fs')
    (k place n comparisons : ℕ) (after : List ℕ) → beside_outcome ours theirs ty payload sheet ≡ reader-outcome (Shown k place n comparisons) after
    → (out : List ℕ) (m : ℕ) (out' : List ℕ) → file_outcome ours ty (take (4 * k) after) payload out ≡ writer-outcome (writer-Written m) out'
    → (sheet' : List ℕ) → k ≤ room sheet'
    → (v : Value) × RightfulBeside (shapes ours) (shapes theirs) ty fs' payload (room sheet) v place n comparisons
    × ReadsAs ours ty fs (take m out') sheet' (without (shapes ours) v ty) m 0
shown-then-written = promises-Beside.shown-then-written

-- Computed: `value/Examples.beside-cases`, `value/Examples.beside-written`.

-- "Here every value a new writer writes of a struct ours has, within the limits and with rows enough, is shown without its added fields."

-- What the writer by theirs writes of a struct that ours has is shown without its added fields, given rows enough: 26 never comes.
pub written-shown : (ours theirs : List ℕ) (good : IsGood ours) (good' : IsGood theirs) (widens : Widens (table_of ours) (table_of theirs)) (ty : ℕ)
    (fs : List Field) (st : shapes ours ty ≡ struct fs)
    (cells B out : List ℕ) (n : ℕ) (out' : List ℕ) → file_outcome theirs ty cells B out ≡ writer-outcome (writer-Written n) out'
    → (gs : List Field) × (v : Value)
    × (shapes theirs ty ≡ struct (fs ++ gs))
    × Shows (shapes theirs) B ty (fs ++ gs) (rows_of cells) v
    × ((sheet : List ℕ) → NewBeside ours theirs ty (take n out') sheet v)
written-shown = promises-Beside.written-shown

-- Every value that their rules allow, whoever wrote it, is shown without its added fields, given rows enough; with fewer rows the answer is 30.
pub new-shown : (ours theirs : List ℕ) (good : IsGood ours) (good' : IsGood theirs) (widens : Widens (table_of ours) (table_of theirs)) (ty : ℕ)
    (fs : List Field) (st : shapes ours ty ≡ struct fs) (payload sheet : List ℕ) (fs' : List Field)
    (st' : shapes theirs ty ≡ struct fs')
    (v : Value) → RootSpells (shapes theirs) fs' v payload [] → length payload ≤ 16384 → NewBeside ours theirs ty payload sheet v
new-shown = promises-Beside.new-shown

-- "Refusals: 40 to 44 for ours, then theirs, 47 no such extension, 46 by ours, 7, then payload refusals by the writer's table; 30 by our rows."

-- Every refusal is one of the request's list and leaves the sheet as it was; the order is in the theorems after this one.
pub listed : (ours theirs : List ℕ) (ty : ℕ) (payload sheet : List ℕ)
    (n q : ℕ) (after : List ℕ) → beside_outcome ours theirs ty payload sheet ≡ reader-outcome (reader-Refused n q) after
    → RefusedBeside ours theirs ty payload (room sheet) n q × (after ≡ sheet)
listed = promises-Beside.listed

-- 40 to 44 are judged for ours first,
pub ours-first : (ours theirs : List ℕ) (ty : ℕ) (payload sheet : List ℕ)
    (n q : ℕ) → checked ours ≡ schema-Refused n q → beside_outcome ours theirs ty payload sheet ≡ reader-outcome (reader-Refused n q) sheet
ours-first = promises-Beside.ours-first

-- and then for theirs, where ours is good.
pub theirs-next : (ours theirs : List ℕ) (ty : ℕ) (payload sheet : List ℕ)
    → IsGood ours → (n q : ℕ) → checked theirs ≡ schema-Refused n q → beside_outcome ours theirs ty payload sheet ≡ reader-outcome (reader-Refused n q) sheet
theirs-next = promises-Beside.theirs-next

-- 47 comes exactly where both files are good and theirs does not extend ours, bitmaps aside; so it comes before 46 and all that is of the payload.
pub unextended-iff : (ours theirs : List ℕ) (ty : ℕ) (payload sheet : List ℕ)
    → (beside_outcome ours theirs ty payload sheet ≡ reader-outcome (reader-Refused 47 0) sheet) ↔ Unextended ours theirs
unextended-iff = promises-Beside.unextended-iff

-- After 47, 46 comes exactly for a type that is no struct of ours, whatever it is by theirs.
pub no-struct-iff : (ours theirs : List ℕ) (ty : ℕ) (payload sheet : List ℕ) (good : IsGood ours) (good' : IsGood theirs)
    (widens : Widens (table_of ours) (table_of theirs))
    → (beside_outcome ours theirs ty payload sheet ≡ reader-outcome (reader-Refused 46 0) sheet) ↔ ((fs : List Field) → shapes ours ty ≡ struct fs → ⊥)
no-struct-iff = promises-Beside.no-struct-iff

-- A refusal is one that the reader by theirs alone gives with every sheet; or it is 30, for a payload that is otherwise right. So 26 is a bit unknown
-- to theirs, and every refusal of a payload stands where theirs puts it, in added fields too.
pub refused-iff : (ours theirs : List ℕ) (good : IsGood ours) (good' : IsGood theirs) (widens : Widens (table_of ours) (table_of theirs)) (ty : ℕ)
    (fs : List Field) (st : shapes ours ty ≡ struct fs) (payload sheet : List ℕ) (fs' : List Field)
    (st' : shapes theirs ty ≡ struct fs')
    (n q : ℕ) → (beside_outcome ours theirs ty payload sheet ≡ reader-outcome (reader-Refused n q) sheet)
    ↔ (((sheet' : List ℕ) → read_outcome theirs ty payload sheet' ≡ reader-outcome (reader-Refused n q) sheet')
    ⊎ ((n ≡ 30) × (q ≡ 0) × TooFewRows (shapes ours) (shapes theirs) ty fs' payload (room sheet)))
refused-iff = promises-Beside.refused-iff

-- Where theirs extends ours, a type that is no struct is 46, and so is a struct that only theirs has, which `read` by theirs shows.
pub no-struct-cases : (payload sheet : List ℕ)
    → (beside_outcome file longer 0 payload sheet ≡ reader-outcome (reader-Refused 46 0) sheet)
    × (beside_outcome file carrier 6 payload sheet ≡ reader-outcome (reader-Refused 46 0) sheet)
    × promises-Hold carrier 6 promises-lent of_theirs
no-struct-cases = promises-BesideExamples.no-struct-cases

-- Computed: `value/Examples.beside-cases`.

-- Stated above: `carrier-beside`, `unextended-cases`.

-- 02, 2026-10: "The payload readers also answer how many key comparisons were due"

-- The comparisons are never above 258,048.
pub comparisons-within : (ours theirs : List ℕ) (good : IsGood ours) (good' : IsGood theirs) (widens : Widens (table_of ours) (table_of theirs)) (ty : ℕ)
    (fs : List Field) (st : shapes ours ty ≡ struct fs) (payload sheet : List ℕ)
    (k place n comparisons : ℕ) (after : List ℕ) → beside_outcome ours theirs ty payload sheet ≡ reader-outcome (Shown k place n comparisons) after → comparisons ≤ 258048
comparisons-within = promises-Beside.comparisons-within

-- Computed: `value/Examples.beside-cases`.

-- Stated above: `shown-iff-spelled`, `theirs-accepts`.

-- The tail is what theirs does not know; and the batch answer that began it, over files as bytes:

-- There is no tail exactly where the root sets no bit unknown to theirs.
pub tail-iff-unknown : (ours theirs : List ℕ) (good : IsGood ours) (good' : IsGood theirs) (widens : Widens (table_of ours) (table_of theirs)) (ty : ℕ)
    (fs : List Field) (st : shapes ours ty ≡ struct fs) (payload sheet : List ℕ) (fs' : List Field)
    (st' : shapes theirs ty ≡ struct fs')
    (k place n comparisons : ℕ) (after : List ℕ) → beside_outcome ours theirs ty payload sheet ≡ reader-outcome (Shown k place n comparisons) after
    → (n ≡ 0) ↔ (unknown_bits fs' (root_bits fs' payload) ≡ 0)
tail-iff-unknown = promises-Beside.tail-iff-unknown

-- The batch answer that began it: the carrier has added a field to the receipts inside it, and the first receipt carries it. `read` by our file refuses
-- it at that receipt. With the carrier's file beside ours both receipts are shown, and nothing of the added field is taken for a receipt or a status.
pub receipts-beside : (sheet : List ℕ) → 6 ≤ room sheet
    → (read_outcome file 4 P5 sheet ≡ reader-outcome (reader-Refused 26 2) sheet)
    × (beside_outcome file longer 4 P5 sheet ≡ reader-outcome (Shown 6 7 0 0) (shown_in sheet receipts))
receipts-beside = promises-BesideExamples.receipts-beside
