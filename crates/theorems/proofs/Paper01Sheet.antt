-- Paper 01, the sheet: its sentences, and below each the theorems that state it, cited from the crate that proves them. What a definition or a
-- contract alone states is in docs/PROMISES.md.
use Prim.Native.Nat.{ℕ, ◌<◌, ◌≤◌, ◌-◌, ◌+◌}
use mathlib.Core.List.{List, map}
use mathlib.Core.Path.{◌≡◌}
use mathlib.Core.Logic.{◌↔◌, ◌⊎◌}
use lib.ListN.{length}
use Rattle.buffer.specs.Span.{span}
use Rattle.wire.specs.Little.{little}
use Rattle.parse.specs.Reader.{Cursor, seen, cursor_at, and_then, Answer, Reader}
use Rattle.schema.specs.Table.{Table, shape, struct, text, width, scalar}
use Rattle.schema.specs.Good.{GoodSchema}
use Rattle.schema.specs.Check.{IsGood}
use Rattle.schema.specs.declared.Field.{Field}
use Rattle.schema.specs.File.{table_of}
use Rattle.value.specs.declared.Row.{Row as value-Row}
use Rattle.value.specs.Read.{read, accepted, root_of, own}
use Rattle.value.specs.Claims.{Delimited, Rightful}
use Rattle.value.specs.Value.{Value, size, Tree}
use Rattle.value.specs.Fits.{Shows, told, used}
use Rattle.value.specs.Write.{write}
use Rattle.cursor.specs.Item.{span_item, content_judged, fixed_number, content_of, Fair, number_step_of, ContentSpan as cursor-Content, span_step, varuint_at, span_at}
use Rattle.cursor.specs.Number.{Refused as number-Refused, Is}
use Rattle.cursor.specs.Span.{Refused as span-Refused, At as span-At}
use Rattle.reader.specs.Entry.{read_outcome, outcome as reader-outcome, room}
use Rattle.reader.specs.Reading.{Shown, Refused as reader-Refused}
use Rattle.flat.specs.Sheet.{shown_in}
use Rattle.scalar.specs.Leaves.{EachLeaf, ShowsLeaf}
use Rattle.scalar.specs.Scalar.{scalar_of, Content, identity, value_of, scalar_number, scalar_by, place_of as scalar-placeOf}
use Rattle.scalar.specs.Reasons.{Reason as scalar-Reason}
use Rattle.promises.specs.Claims.{shapes}
use Rattle.value.proofs.Statements as value-Statements
use Rattle.cursor.proofs.Texts as cursor-Texts
use Rattle.cursor.proofs.Laws as cursor-Laws
use Rattle.scalar.proofs.Reading as scalar-Reading
use Rattle.scalar.proofs.Identity as scalar-Identity
use Rattle.scalar.proofs.Numbers as scalar-Numbers
use Rattle.promises.proofs.Reading as promises-Reading

-- "Scalars, strings and bytes: content's place and length, count 0."

-- Stated in another file: `Demand2.shown-iff-spelled`.

-- "Array or map: place and length of all elements, number of elements or pairs."

-- The reader accepts with exactly the rows that delimit the payload: there is one row a value, and no cell of any row is free. The comparisons due are
-- those of the payload's value.
pub value-rows_delimit : (T : Table) (good : GoodSchema T) (t : ℕ) (payload : List ℕ) (room : ℕ) (rs : List value-Row) (place n c : ℕ)
    → (read T t payload room ≡ accepted rs place n c) ↔ Delimited (shape T) t payload room rs place n c
value-rows_delimit = value-Statements.rows_delimit

-- Of the entry: a payload is accepted exactly with the rows that fit it and delimit its bytes, which decide every cell of every row that is written.
pub rows_delimit : (s : List ℕ) → IsGood s → (ty : ℕ) (payload sheet : List ℕ) (k place n c : ℕ) (after : List ℕ)
    → (read_outcome s ty payload sheet ≡ reader-outcome (Shown k place n c) after)
    ↔ ((rs : List value-Row) × Delimited (shapes s) ty payload (room sheet) rs place n c × (length rs ≡ k) × (after ≡ shown_in sheet rs))
rows_delimit = promises-Reading.rows_delimit

-- "Struct: bitmap's place, length without tail, and the count of known fields whose bit is set."

-- Stated above: `value-rows_delimit`.

-- "The answer gives rows, and the tail's place and length (payload end and 0 if none)."

-- Stated in another file: `Demand2.shown-iff-spelled`.

-- "Rows show, by a table, the contents, as many elements or pairs as counted, and known fields present or absent by their bits; one row a value, inner
-- ones too, is enough."

-- Rows that tell the same types, counts, contents and known bits, over whatever bytes, show the same value.
pub told-once : (T : Table) (good : GoodSchema T) (t : ℕ) (fs : List Field) (st : shape T t ≡ struct fs)
    (B B' : List ℕ) (v v' : Value) (rs rs' : List value-Row) → Shows (shape T) B t fs rs v → Shows (shape T) B' t fs rs' v'
    → map (told (shape T) B) rs ≡ map (told (shape T) B') rs' → v ≡ v'
told-once = value-Statements.told-once

-- A payload that is otherwise right, which spells v, is refused with 30 where the sheet has too few rows: one row a value is enough.
pub too_few-rows : (s : List ℕ) → IsGood s → (ty : ℕ) (fs : List Field) → shapes s ty ≡ struct fs → (payload sheet : List ℕ) (v : Value) (place n : ℕ)
    → Rightful (shapes s) ty fs payload (size v) v place n → room sheet < size v → read_outcome s ty payload sheet ≡ reader-outcome (reader-Refused 30 0) sheet
too_few-rows = promises-Reading.too_few-rows

-- 02, 2026-10: "The payload readers also answer how many key comparisons were due: each later key against each earlier key of its map, over all maps
-- read."

-- Computed: `value/Examples.read-keys`.

-- Stated in other files: `Request10.comparisons-pairs`, `Request10.comparisons-half`, `Request10.own-comparisons`, `Demand2.shown-iff-spelled`, `Request10.comparisons-of`,
-- `Demand2.by_order`.

-- 02, 2026-10: "To be shown: never above 258,048. On a refusal it is 0."

-- Stated in other files: `Request10.comparisons-within`, `Request10.receiver-comparisons-within`, `Request10.value-comparisons-within`,
-- `Demand1.receiver-refused-untouched`.

-- "One scalar row over its bytes is also handed out as a truth value, a whole number, a float32, a float64, or a span;"

-- Of a payload that is accepted by the table, each leaf's row over the payload is handed out, and shows the leaf's content.
pub leaves-shown : (T : Table) (t : ℕ) (payload : List ℕ) (tree : Tree) (c : Cursor) → root_of (shape T) t payload ≡ seen tree c
    → EachLeaf (λ r x. ShowsLeaf payload (shape T r.ty) r x (scalar_of T r payload)) tree
leaves-shown = scalar-Reading.leaves-shown

-- "a float's bits stand beside it and decide equality."

-- Equal identities, equal contents.
pub content-once : (kind : ℕ) (p : 0 < kind) (h : kind < 12) (x y : List ℕ) (cx : Content kind x) (cy : Content kind y)
    → identity (value_of kind x) ≡ identity (value_of kind y) → x ≡ y
content-once = scalar-Identity.content-once

-- "Its refusals, after the table's: 50 (also for a composite or unknown type), 51, 22, 23."

-- A number above 0 comes back with a place exactly for its reason.
pub number-iff-reason : (schema : List ℕ) (r : value-Row) (bytes : List ℕ)
    (n q : ℕ) → 0 < n → ((scalar_number (scalar_by schema r bytes) ≡ n) × (scalar-placeOf (scalar_by schema r bytes) ≡ q)) ↔ scalar-Reason schema bytes r n q
number-iff-reason = scalar-Numbers.number-iff-reason

-- Number 0 comes back exactly for a good file and a leaf's row whose answer shows the bytes of its span: its value, or the span itself.
pub zero-iff-shown : (schema : List ℕ) (r : value-Row) (bytes : List ℕ) → (scalar_number (scalar_by schema r bytes) ≡ 0)
    ↔ (IsGood schema × ShowsLeaf bytes (shape (table_of schema) r.ty) r (span bytes r.place r.length) (scalar_by schema r bytes))
zero-iff-shown = scalar-Numbers.zero-iff-shown

-- Computed: `scalar/Examples.refusals_hold`.

-- Stated in another file: `Demand1.scalar-refused-iff`.

-- "It uses type, scalar and string spans, counts, and the presence bytes at a struct's place, and ignores array and map places and all composite
-- lengths."

-- Array and map places and composite lengths do not matter.
pub only-used : (T : Table) (good : GoodSchema T) (t : ℕ)
    (rs rs' : List value-Row) (B : List ℕ) (room : ℕ) → map (used (shape T)) rs ≡ map (used (shape T)) rs' → write T t rs B room ≡ write T t rs' B room
only-used = value-Statements.only-used

-- "It leaves out the root's unknown bits and tail."

-- Stated in another file: `Demand2.read-then-write`.

-- "Number 50 means: a row missing or left over; a type other than the one due; a scalar's length not its width; a count not 0 for a scalar, string or
-- bytes; a struct's count not the number of its known bits set; an unknown bit in an inner struct."

-- Computed: `value/Examples.write-cases`.

-- Stated in another file: `Demand2.written-iff-shown`.

-- "An inner reader lent to other code holds the payload and its position together, a thin layer over these rules."

-- A string or bytes, as the payload reader reads them: the span, and for a string its UTF-8, refused at the content's start.
pub text-by-span : (p : List ℕ) (from : ℕ)
    (kind : ℕ) → own (text kind) (cursor_at p from) ≡ and_then (span_item (cursor_at p from)) (content_judged p kind)
text-by-span = cursor-Texts.text-by-span

-- The number of a scalar's width is that of the scalar's content.
pub scalar-number : (kind : ℕ) (c : Cursor) → (kind ≡ 1 → ⊥)
    → fixed_number (width kind) c ≡ and_then (own (scalar kind) c) (λ o c. seen (little (content_of o)) c)
scalar-number = cursor-Laws.scalar-number

-- A number that is read moves the position neither back nor past the end.
pub number-within : (p : List ℕ) (from : ℕ)
    (a : Answer ℕ) → Fair p from a → from ≤ length p → (from ≤ (number_step_of from a).next) × ((number_step_of from a).next ≤ length p)
number-within = cursor-Laws.number-within

-- A span that is read moves it neither back nor past the end.
pub span-within : (p : List ℕ) (from : ℕ)
    (a : Answer cursor-Content) → Fair p from a → from ≤ length p → (from ≤ (span_step from a).next) × ((span_step from a).next ≤ length p)
span-within = cursor-Laws.span-within

-- A refusal of a number is 20 or 21 at the position, which stays.
pub number-refusal : (p : List ℕ) (from : ℕ)
    (a : Answer ℕ) → Fair p from a → (n q : ℕ) → (number_step_of from a).item ≡ number-Refused n q → ((n ≡ 20) ⊎ (n ≡ 21)) × (q ≡ from)
    × ((number_step_of from a).next ≡ from)
number-refusal = cursor-Laws.number-refusal

-- A refusal of a span is 20 or 21 at the position, which stays.
pub span-refusal : (p : List ℕ) (from : ℕ)
    (a : Answer cursor-Content) → Fair p from a → (n q : ℕ) → (span_step from a).item ≡ span-Refused n q → ((n ≡ 20) ⊎ (n ≡ 21)) × (q ≡ from)
    × ((span_step from a).next ≡ from)
span-refusal = cursor-Laws.span-refusal

-- Two reads in turn, the first a number: after it the second reads at the cursor that the moved reader stands for.
pub number-turn : (p : List ℕ) (from : ℕ)
    {B : Type 0} (a : Answer ℕ) → Fair p from a → (v : ℕ) → (number_step_of from a).item ≡ Is v → (f : ℕ → Reader B)
    → and_then a f ≡ f v (cursor_at p (number_step_of from a).next)
number-turn = cursor-Laws.number-turn

-- The same where the first is a span.
pub span-turn : (p : List ℕ) (from : ℕ)
    {B : Type 0} (a : Answer cursor-Content) → Fair p from a → (place size : ℕ) → (span_step from a).item ≡ span-At place size → (f : cursor-Content → Reader B)
    → and_then a f ≡ f (record { place = place; size = size }) (cursor_at p (span_step from a).next)
span-turn = cursor-Laws.span-turn

-- A span is a VarUInt, and as many bytes.
pub span-by-turns : (p : List ℕ) (from : ℕ) (v : ℕ) → (varuint_at p from).item ≡ Is v → v ≤ length p - (varuint_at p from).next
    → span_at p from ≡ record { item = span-At (varuint_at p from).next v; next = (varuint_at p from).next + v }
span-by-turns = cursor-Laws.span-by-turns
