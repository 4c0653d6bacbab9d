-- Request 2026-10, maps that take too long: its sentences, and below each the theorems that state it, cited from the crate that proves them.
use Prim.Native.Nat.{ℕ, suc, ◌*◌, ◌-◌, ◌≤◌, ◌<◌}
use mathlib.Core.List.{List, ◌∷◌, ◌++◌}
use mathlib.Core.Path.{◌≡◌}
use lib.ListN.{length}
use mathlib.Core.Bool.{true}
use mathlib.Core.Logic.{◌↔◌}
use Rattle.wire.specs.Varuint.{Spelled}
use Rattle.parse.specs.Reader.{Cursor, CursorOf, refused}
use Rattle.schema.specs.Table.{Table, shape, map, struct}
use Rattle.schema.specs.Good.{GoodSchema}
use Rattle.schema.specs.declared.Field.{Field}
use Rattle.calls.specs.declared.Tally.{Tally}
use Rattle.calls.specs.declared.Call.{Call}
use Rattle.calls.specs.Numbers.{uses_frame, UsesFrame}
use Rattle.value.specs.Value.{Value, Values, node}
use Rattle.value.specs.Spell.{RootSpells, MapsSmall, Spells, keys_of}
use Rattle.value.specs.declared.Row.{Row as value-Row}
use Rattle.value.specs.Fits.{Shows}
use Rattle.value.specs.Comparisons.{key_comparisons, pairs_among, map_comparisons, comparisons, rows_comparisons}
use Rattle.value.specs.Read.{plan, parse, read, accepted}
use Rattle.value.specs.Write.{show}
use Rattle.reader.specs.Entry.{read_outcome, outcome as reader-outcome}
use Rattle.reader.specs.Reading.{Shown}
use Rattle.receiver.specs.Receive.{received}
use Rattle.promises.specs.Claims.{shapes, first_rows}
use Rattle.calls.proofs.Used as calls-Used
use Rattle.value.proofs.Statements as value-Statements
use Rattle.receiver.proofs.Comparisons as receiver-Comparisons
use Rattle.promises.proofs.Reading as promises-Reading

-- "Maps get at most 64 pairs, a premise demands 2 and 3 carry from here."

-- Every map of a value that a payload spells has 64 pairs at most.
pub maps-small : (T : Table) (good : GoodSchema T) (t : ℕ) (fs : List Field) (st : shape T t ≡ struct fs)
    (payload : List ℕ) (v : Value) (z : List ℕ) → RootSpells (shape T) fs v payload z → MapsSmall (shape T) v t
maps-small = value-Statements.maps-small

-- The same of a value that a sheet shows.
pub shown-small : (T : Table) (good : GoodSchema T) (t : ℕ) (fs : List Field) (st : shape T t ≡ struct fs)
    (B : List ℕ) (rs : List value-Row) (v : Value) → Shows (shape T) B t fs rs v → MapsSmall (shape T) v t
shown-small = value-Statements.shown-small

-- "The payload readers also answer how many key comparisons were due: each later key against each earlier key of its map, over all maps read."
-- The number is a function of the value, `value/specs/Comparisons.comparisons`.

-- Those of n keys are the pairs of an earlier key and a later one.
pub comparisons-pairs : (n : ℕ) → key_comparisons n ≡ pairs_among n
comparisons-pairs = value-Statements.comparisons-pairs

-- Of n keys it is n(n-1)/2.
pub comparisons-half : (n : ℕ) → 2 * key_comparisons n ≡ n * (n - 1)
comparisons-half = value-Statements.comparisons-half

-- A composite's own comparisons are those of each later one of its keys with each earlier one.
pub own-comparisons : (T : Table) (good : GoodSchema T) (t : ℕ) (d h : ℕ) (vs : Values) (u : List ℕ) → Spells (shape T) d t (node h vs) u
    → map_comparisons (shape T t) h ≡ pairs_among (length (keys_of (plan (shape T t) h) vs))
own-comparisons = value-Statements.own-comparisons

-- The comparisons answered are those of any value that the rows show, which are those that its rows count.
pub comparisons-of : (s : List ℕ) (ty : ℕ) (payload sheet : List ℕ) (k place n c : ℕ) (after : List ℕ)
    (e : read_outcome s ty payload sheet ≡ reader-outcome (Shown k place n c) after)
    (fs : List Field) → shapes s ty ≡ struct fs → (v : Value) → Shows (shapes s) payload ty fs (first_rows k after) v
    → (c ≡ comparisons (shapes s) v ty) × (c ≡ rows_comparisons (shapes s) (first_rows k after))
comparisons-of = promises-Reading.comparisons-of

-- Computed: `value/Examples.read-keys`.

-- Stated in other files: `Demand2.shown-iff-spelled`, `Demand2.by_order`.

-- "To be shown: never above 258,048. On a refusal it is 0."

-- For any schema file and payload.
pub comparisons-within : (s : List ℕ) (ty : ℕ) (payload sheet : List ℕ) (k place n c : ℕ) (after : List ℕ)
    (e : read_outcome s ty payload sheet ≡ reader-outcome (Shown k place n c) after)
    → c ≤ 258048
comparisons-within = promises-Reading.comparisons-within

-- For any frame and call table.
pub receiver-comparisons-within : (s : List ℕ) (side : ℕ) (bytes sheet : List ℕ) (ts : List Tally) (l : List Call)
    → (received s side bytes sheet ts l).answer.comparisons ≤ 258048
receiver-comparisons-within = receiver-Comparisons.comparisons-within

-- Of a good table alone.
pub value-comparisons-within : (T : Table) (good : GoodSchema T) (t : ℕ)
    (payload : List ℕ) (room : ℕ) (rs : List value-Row) (place n c : ℕ) → read T t payload room ≡ accepted rs place n c → c ≤ 258048
value-comparisons-within = value-Statements.comparisons-within

-- Stated in another file: `Demand1.receiver-refused-untouched`.

-- "Refusals: 31 map above 64 pairs, at its count, after 20 and 21; for call and bytes used it is like 20 to 29, and the writers give it at the map's
-- row after 50,"

-- A map whose count is above 64 is refused with 31 at its count, where bytes enough for its pairs follow.
pub pairs-refused : (T : Table) (good : GoodSchema T) (t : ℕ) (d k v n : ℕ) (u rest : List ℕ) (c : Cursor) → shape T t ≡ map k v → Spelled n u
    → c.left ≡ u ++ rest → 2 * n ≤ length rest → 64 < n → parse (shape T) (suc d) t c ≡ refused 31 c.at
pairs-refused = value-Statements.pairs-refused

-- With too few bytes after it, it is refused with 20 there.
pub count-refused : (T : Table) (good : GoodSchema T) (t : ℕ) (d k v n : ℕ) (u rest : List ℕ) (c : Cursor) → shape T t ≡ map k v → Spelled n u
    → c.left ≡ u ++ rest → length rest < 2 * n → parse (shape T) (suc d) t c ≡ refused 20 c.at
count-refused = value-Statements.count-refused

-- A map's row whose count is above 64 is refused with 31 at that row, whatever rows follow.
pub row-refused : (T : Table) (good : GoodSchema T) (t : ℕ) (d k v : ℕ) (B : List ℕ) (r : value-Row) (rs : List value-Row) (c : CursorOf value-Row)
    → shape T t ≡ map k v → c.left ≡ r ∷ rs → r.ty ≡ t → 64 < r.count → show (shape T) B (suc d) t c ≡ refused 31 c.at
row-refused = value-Statements.row-refused

-- Bytes used: the frame's length for 0, 8 to 14, 16, 20 to 29 and 31, and for no other number.
pub uses-iff : (n : ℕ) → (uses_frame n ≡ true) ↔ UsesFrame n
uses-iff = calls-Used.uses-iff

-- Stated in other files: `Demand1.value-refused-iff`, `Demand1.value-write-refused-iff`, `Demand1.read-refused-iff`, `Demand1.write-refused-iff`,
-- `Demand1.ends-iff`.
