-- Paper 01, values on the wire: its sentences, and below each the theorems that state it, cited from the crate that proves them. What a definition or
-- a contract alone states is in docs/PROMISES.md.
use Prim.Native.Nat.{ℕ, ◌+◌, ◌<◌, ◌≤◌, ◌^◌, ◌*◌, ◌-◌, suc, ◌/◌, ◌%◌}
use mathlib.Core.List.{List, ◌++◌, map}
use mathlib.Core.Path.{◌≡◌}
use lib.ListN.{length, take, get_or}
use lib.IntN.{ℤ}
use mathlib.Core.Bool.{true}
use mathlib.Core.Logic.{◌↔◌, ◌⊎◌}
use Rattle.wire.specs.Varuint.{Spelled, front_var_u_int, Starts, Completed, Groups, varuint_bytes, varuint, Number, Cut}
use Rattle.wire.specs.Little.{Bytes, little, bytes, twos}
use Rattle.parse.specs.Reader.{Cursor, seen}
use Rattle.schema.specs.Table.{width, array, map as schema-map, Table, shape, struct, bitmap_bytes}
use Rattle.schema.specs.Good.{GoodSchema}
use Rattle.schema.specs.declared.Field.{Field}
use Rattle.schema.specs.Check.{no_field}
use Rattle.schema.specs.Widths.{WholeBytes}
use Rattle.value.specs.Read.{plan, Item, plain_item, parse, present, required_set, unknown_bits, known_bits}
use Rattle.value.specs.Value.{Value, Values, node, Forest, branch, values, Tree, value, content, depth}
use Rattle.value.specs.Spell.{RootSpells, KeysDiffer, Spells, AllSpell, Differ, BitmapSpells, TailFits}
use Rattle.value.specs.declared.Row.{Row as value-Row}
use Rattle.value.specs.Fits.{Fits, AllFit}
use Rattle.value.specs.Reasons.{Due, AmongKeys, KeyAmong}
use Rattle.value.specs.SheetReasons.{RowDue}
use Rattle.value.specs.Claims.{set_bits}
use Rattle.scalar.specs.Range.{InRange, IsModulo}
use Rattle.scalar.specs.Scalar.{Content, value_of}
use Rattle.scalar.specs.declared.Scalar.TheVariants.{Signed}
use Rattle.wire.proofs.Varuints as wire-Varuints
use Rattle.wire.proofs.Numbers as wire-Numbers
use Rattle.schema.proofs.Widths as schema-Widths
use Rattle.value.proofs.Statements as value-Statements
use Rattle.scalar.proofs.Twos as scalar-Twos

-- "VarUInt: seven bits a byte, least group first, top bit set on all but the last. At most ten bytes, the tenth 0 or 1."

-- A spelled number is read whatever follows it, and the place after it is found.
pub spelled-reads : (n : ℕ) (bs t : List ℕ) (at : ℕ) → Spelled n bs → front_var_u_int (bs ++ t) at ≡ Number n (at + length bs)
spelled-reads = wire-Varuints.spelled-reads

-- What is read is spelled by the bytes passed over.
pub read-spelled : (s : List ℕ) (at n next : ℕ) → front_var_u_int s at ≡ Number n next → Starts Spelled s at n next
read-spelled = wire-Varuints.read-spelled

-- Fewer bytes than all of a spelled number are cut.
pub spelled-cut : (n : ℕ) (bs : List ℕ) (j at : ℕ) → Spelled n bs → j < length bs → front_var_u_int (take j bs) at ≡ Cut
spelled-cut = wire-Varuints.spelled-cut

-- What is cut is completed by some further bytes.
pub cut_completed : (s : List ℕ) (at : ℕ) → front_var_u_int s at ≡ Cut → Completed Spelled s
cut_completed = wire-Varuints.cut_completed

-- "Spare zero groups are accepted.", which 02, 2026-03, changes to: "A VarUInt of two or more bytes whose last byte is 0 becomes malformed
-- everywhere."

-- Stated in other files: `Request03.malformed-iff`, `Request03.one_spelling`.

-- 02, 2026-03: "Refusals: 21 in payloads and 6 in frames, at the places they already have."

-- Computed: `value/Examples.p1-to_p10`, `value/Examples.read-faults`.

-- Stated in other files: `Demand1.value-refused-iff`, `Demand1.frame-refused-iff`, `Request03.lengths_judged`.

-- "Our writer writes the shortest."

-- No groups of a number, spare ones or not, are fewer than the bytes that our writer writes.
pub none-shorter : (n : ℕ) (bs : List ℕ) → Bytes bs → Groups 9 n bs → length (varuint_bytes n) ≤ length bs
none-shorter = wire-Varuints.none-shorter

-- What our writer writes is read back, whatever stands before and after it.
pub read_back : (p t : List ℕ) (x : ℕ) → x < 2 ^ 64 → varuint (p ++ (varuint_bytes x ++ t)) (length p) ≡ Number x (length p + length (varuint_bytes x))
read_back = wire-Varuints.read_back

-- "Integers are little-endian, signed ones two's complement: int8 80 is -128, FF is -1."

-- What is stored is read back, at every width.
pub little-bytes : (n x : ℕ) → x < 256 ^ n → little (bytes n x) ≡ x
little-bytes = wire-Numbers.little-bytes

-- Two's complement: what x stands for is in the range of the width, and x modulo twice the weight of the sign bit.
pub twos-is : (half x : ℕ) → x < half + half → InRange half (twos half x) × IsModulo (half + half) (twos half x) x
twos-is = scalar-Twos.twos-is

-- An integer of a signed kind, 2 to 5: in the range of its width, and its bytes' number modulo the power of the width.
pub signed_is : (kind : ℕ) → 2 ≤ kind → kind ≤ 5 → (x : List ℕ) → Content kind x
    → (z : ℤ) × (value_of kind x ≡ Signed z) × InRange (2 ^ (8 * width kind - 1)) z × IsModulo (2 ^ (8 * width kind)) z (little x)
signed_is = scalar-Twos.signed_is

-- Computed: `wire/Examples.signed`.

-- "Strings are UTF-8 by RFC 3629: no surrogate, no longer form than needed, nothing above 10FFFF."

-- Computed: `utf8/Examples.texts-hold`, `utf8/Examples.refused`.

-- Stated in other files: `Request07.accepted-once`, `Request07.row-once`, `Request07.utf8-encoded`.

-- 02, 2026-07: "write it over a constant table of the nine rows of lead and following ranges printed there. To be shown: a string is accepted exactly
-- when it splits into characters that each match a row, and in one way only. All answers stay."

-- Stated in other files: `Request07.accepted-once`, `Request07.row-once`, `Request07.utf8-encoded`, `Request07.tops-at`, `Request07.word-pairs`.

-- 02, 2026-10: "Maps get at most 64 pairs, a premise demands 2 and 3 carry from here."

-- Stated in other files: `Request10.maps-small`, `Request10.shown-small`.

-- "Array: count, elements. Map: count, then key and value by turns, order kept."

-- An array holds as many elements as it counts, each of its element type and no key.
pub array-items : (e n : ℕ) → (length (plan (array e) n) ≡ n) × ((i : ℕ) (d : Item) → i < n → get_or (plan (array e) n) i d ≡ plain_item e)
array-items = value-Statements.array-items

-- A map holds key and value by turns, as many pairs as it counts: item 2i is a key of the key type, item 2i + 1 of the value type and no key.
pub map-items : (k v n : ℕ) → (length (plan (schema-map k v) n) ≡ 2 * n)
    × ((i : ℕ) (d : Item) → i < n → (get_or (plan (schema-map k v) n) (2 * i) d ≡ record { type = k; key = true })
    × (get_or (plan (schema-map k v) n) (2 * i + 1) d ≡ plain_item v))
map-items = value-Statements.map-items

-- Computed: `value/Examples.each-kind`.

-- "Keys are equal when their values are, also where lengths are spelled differently."

-- No two keys of a map in an accepted payload are the same value.
pub keys-differ : (T : Table) (good : GoodSchema T) (t : ℕ) (fs : List Field) (st : shape T t ≡ struct fs)
    (payload : List ℕ) (v : Value) (z : List ℕ) → RootSpells (shape T) fs v payload z → KeysDiffer (shape T) v t
keys-differ = value-Statements.keys-differ

-- Bytes spell a map exactly when they are its count, 64 at most, and then keys and values by turns, no two keys the same value.
pub map_iff : (T : Table) (good : GoodSchema T) (t : ℕ) (k w : ℕ) (is-map : shape T t ≡ schema-map k w)
    (d n : ℕ) (vs : Values) (u : List ℕ) → Spells (shape T) (suc d) t (node n vs) u
    ↔ ((x : List ℕ) × (y : List ℕ) × (u ≡ x ++ y) × Spelled n x × (n ≤ 64) × AllSpell (Spells (shape T) d) (plan (schema-map k w) n) vs y × Differ n vs)
map_iff = value-Statements.map_iff

-- Rows show a map exactly when the first is of its type and has its count, 64 at most, and keys and values follow by turns, no two keys the same
-- value.
pub map-shown-iff : (T : Table) (good : GoodSchema T) (t : ℕ) (k w : ℕ) (is-map : shape T t ≡ schema-map k w)
    (B : List ℕ) (d n : ℕ) (r : value-Row) (ts : Forest) → Fits (shape T) B (suc d) t (branch r n ts)
    ↔ ((r.ty ≡ t) × (r.count ≡ n) × (n ≤ 64) × AllFit (Fits (shape T) B d) (plan (schema-map k w) n) ts × Differ n (values ts))
map-shown-iff = value-Statements.map-shown-iff

-- Keys that differ are never refused: with anything after it, such a map is read, up to its end.
pub differing_keys-read : (T : Table) (good : GoodSchema T) (t : ℕ) (k w : ℕ) (is-map : shape T t ≡ schema-map k w)
    (d n : ℕ) (vs : Values) (x y rest : List ℕ) (at : ℕ) → Spelled n x → n ≤ 64
    → AllSpell (Spells (shape T) d) (plan (schema-map k w) n) vs y → Differ n vs
    → (tree : Tree) × (end : Cursor) × (parse (shape T) (suc d) t (record { left = (x ++ y) ++ rest; at = at }) ≡ seen tree end)
    × (value tree ≡ node n vs)
    × (end.left ≡ rest)
differing_keys-read = value-Statements.differing_keys-read

-- 24 is for a key of the payload that is the same value as the key of one of the pairs before it in its map.
pub repeated-iff : (T : Table) (good : GoodSchema T) (t : ℕ) (k w : ℕ) (is-map : shape T t ≡ schema-map k w)
    {d : ℕ} {u y left : List ℕ} {i : Item} {earlier : List (List ℕ)} (q : Due (shape T) d (shape T t) u y left i earlier) → i.key ≡ true
    → (v : Value) (x : List ℕ) → Spells (shape T) d i.type v x
    → (m : ℕ) × (length q.before ≡ 2 * m) × (AmongKeys earlier (content v) ↔ KeyAmong m q.shown v)
repeated-iff = value-Statements.repeated-iff

-- The same of the rows of a sheet.
pub row-repeated-iff : (T : Table) (good : GoodSchema T) (t : ℕ) (k w : ℕ) (is-map : shape T t ≡ schema-map k w)
    (B : List ℕ) {d : ℕ} {r : value-Row} {ts : Forest} {i : Item} {earlier : List (List ℕ)} (q : RowDue B (shape T) d t r ts i earlier)
    → i.key ≡ true → (tree : Tree) → Fits (shape T) B d i.type tree
    → (m : ℕ) × (length q.before ≡ 2 * m) × (AmongKeys earlier (content (value tree)) ↔ KeyAmong m (values ts) (value tree))
row-repeated-iff = value-Statements.row-repeated-iff

-- Computed: `value/Examples.read-faults`, `value/Examples.write-cases`.

-- "Struct: a bitmap, bit i for field i, least bit first, in whole bytes; then present fields."

-- The items of a struct are its fields whose bits are set, in the order of their numbers: bit i for field i.
pub present-is : (fs : List Field) (m : ℕ) → present fs m ≡ map (λ i. plain_item (get_or fs i no_field).ty) (set_bits m (length fs))
present-is = value-Statements.present-is

-- No required field is absent exactly when each field is optional or has its bit set: bit i for field i.
pub complete-iff : (fs : List Field) (m : ℕ)
    → (required_set fs m ≡ true) ↔ ((i : ℕ) → i < length fs → ((get_or fs i no_field).optional ≡ 1) ⊎ (m / 2 ^ i % 2 ≡ 1))
complete-iff = value-Statements.complete-iff

-- The bits that are set in a bitmap's whole bytes are those of the fields that are present, and the unknown ones.
pub unknown-is : (fs : List Field) (m : ℕ) → length (set_bits m (8 * bitmap_bytes (length fs))) ≡ length (present fs m) + unknown_bits fs m
unknown-is = value-Statements.unknown-is

-- A bitmap is in whole bytes, with a bit for each field.
pub bitmap-iff : (n size : ℕ) → (bitmap_bytes n ≡ size) ↔ WholeBytes n size
bitmap-iff = schema-Widths.bitmap-iff

-- "Every value so takes at least one byte."

-- Every value takes at least one byte.
pub takes-a-byte : (T : Table) (good : GoodSchema T) (t : ℕ)
    (d : ℕ) (v : Value) (u : List ℕ) → Spells (shape T) d t v u → 0 < length u
takes-a-byte = value-Statements.takes-a-byte

-- "The root has depth 1, a child one more; depth 16 is allowed."

-- A payload's value has a depth of 16 at most, so that one of depth 17 is spelled by no payload.
pub depth-within : (T : Table) (good : GoodSchema T) (t : ℕ) (fs : List Field) (st : shape T t ≡ struct fs)
    (payload : List ℕ) (v : Value) (z : List ℕ) → RootSpells (shape T) fs v payload z → depth v ≤ 16
depth-within = value-Statements.depth-within

-- Depth 16 is allowed: a root of that depth whose parts are spelled with any number of levels is spelled by a payload.
pub depth-allowed : (T : Table) (good : GoodSchema T) (t : ℕ) (fs : List Field) (st : shape T t ≡ struct fs)
    (d m : ℕ) (vs : Values) (x y z : List ℕ) → BitmapSpells fs m x
    → AllSpell (Spells (shape T) d) (plan (struct fs) (known_bits fs m)) vs y → TailFits (unknown_bits fs m) z
    → depth (node (known_bits fs m) vs) ≤ 16 → RootSpells (shape T) fs (node (known_bits fs m) vs) (x ++ (y ++ z)) z
depth-allowed = value-Statements.depth-allowed

-- Bytes spell a value with d levels of depth allowed exactly when they spell it with any number of levels and its depth is d at most.
pub depth-iff : (T : Table) (good : GoodSchema T) (t : ℕ)
    (d : ℕ) (v : Value) (u : List ℕ) → Spells (shape T) d t v u ↔ ((e : ℕ) × Spells (shape T) e t v u × (depth v ≤ d))
depth-iff = value-Statements.depth-iff

-- Computed: `value/Examples.read-faults`.

-- A payload has one reading:

-- A payload spells one value, with one tail.
pub payload-once : (T : Table) (good : GoodSchema T) (t : ℕ) (fs : List Field) (st : shape T t ≡ struct fs)
    (payload : List ℕ) (v v' : Value) (z z' : List ℕ) → RootSpells (shape T) fs v payload z → RootSpells (shape T) fs v' payload z' → (v ≡ v') × (z ≡ z')
payload-once = value-Statements.payload-once

-- Bytes spell one value.
pub spelled-once : (T : Table) (good : GoodSchema T) (t : ℕ)
    (d : ℕ) (v v' : Value) (u : List ℕ) → Spells (shape T) d t v u → Spells (shape T) d t v' u → v ≡ v'
spelled-once = value-Statements.spelled-once
