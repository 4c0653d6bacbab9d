-- The theorems about values, of tables. The other files prove them.
use mathlib.Core.Path.{◌≡◌, refl, sym, ap, ◌∙◌, subst}
use mathlib.Core.Logic.{◌⊎◌, ◌↔◌}
use mathlib.Core.List.{List, [], ◌∷◌, ◌++◌, append-nil, map as each}
use mathlib.Core.Option.{some}
use mathlib.Core.Bool.{true}
use Prim.Native.Nat.{ℕ, suc, ◌+◌, ◌-◌, ◌*◌, ◌/◌, ◌%◌, ◌^◌, ◌≤◌, ◌<◌}
use native.Mathlib.Omega.{arith}
use lib.ListN.{length, get_or}
use borrow.Author.Tests.{leb-true, le-leb}
use Rattle.wire.specs.Little.{Bytes}
use Rattle.wire.specs.Varuint.{Spelled}
use Rattle.wire.proofs.Cases.{differ}
use Rattle.parse.specs.Reader.{Cursor, CursorOf, refused, seen, cursor_at}
use Rattle.parse.proofs.Answers.{reads_end, yields-end, seen_end}
use Rattle.schema.specs.declared.Field.{Field}
use Rattle.schema.specs.Table.{Table, array, map, struct, shape, bitmap_bytes}
use Rattle.value.specs.declared.Row.{Row}
use Rattle.value.specs.Value.{Tree, branch, Forest, Value, node, Values, value, values, content, depth}
use Rattle.value.specs.Comparisons.{key_comparisons, map_comparisons, comparisons, rows_comparisons, pairs_among}
use Rattle.value.specs.Read.{Item, plain_item, present, plan, required_set, root_bits, known_bits, unknown_bits, parse, root_struct, refusal, accepted, read}
use Rattle.value.specs.Spell.{BitmapSpells, AllSpell, keys_of, Spells, TailFits, RootSpells, Differ, KeysDiffer, MapsSmall, encode}
use Rattle.schema.specs.Check.{no_field}
use Rattle.schema.specs.Good.{GoodSchema}
use Rattle.schema.specs.Extend.{Extends}
use Rattle.schema.proofs.Shapes.{KeyShape, within, shape-known}
use Rattle.value.proofs.Shapes.{Solid, good-solid, Extension, good-extension}
use Rattle.value.specs.Write.{refusal as refused-write, written, show, write}
use Rattle.value.specs.Fits.{AllFit, Fits, Shows, told, used}
use Rattle.value.specs.Added.{carries, inner, first_added, NoneAdded}
use Rattle.value.specs.Reasons.{Due, AmongKeys, KeyAmong, RootFault, Reason, faulty, Settles}
use Rattle.value.specs.SheetReasons.{RowDue, SheetReason}
use Rattle.value.specs.Numbered.{ReadNumber, WriteNumber}
use Rattle.value.specs.Claims.{set_bits, Rightful, ReadAs, Delimited, Writes, ByOld}
use Rattle.value.proofs.Bits.{bit-beyond}
use Rattle.value.proofs.Fields as fields
use Rattle.value.proofs.Items as items
use Rattle.value.proofs.Depths as depths
use Rattle.value.proofs.Sound.{parse-reads}
use Rattle.value.proofs.Complete.{takes, parse-complete}
use Rattle.value.proofs.Many as many
use Rattle.value.proofs.Encode.{spelled_encoding, encoded, root_encoding}
use Rattle.value.proofs.Root.{root-sound, root-complete, root-tail}
use Rattle.value.proofs.Pairs as pairs
use Rattle.value.proofs.Maps as maps
use Rattle.value.proofs.Comparisons as comparing
use Rattle.value.proofs.Telling as telling
use Rattle.value.proofs.Ignored.{ignored}
use Rattle.value.proofs.Reading.{root_in, read_rightful, rightful_read, accepts}
use Rattle.value.proofs.Refusals as refusals
use Rattle.value.proofs.Settled.{settled}
use Rattle.value.proofs.Numbers.{reason-number, sheet-reason-number}
use Rattle.value.proofs.SheetRefusals as sheets
use Rattle.value.proofs.Determined.{read_delimited, delimited_read}
use Rattle.value.proofs.Writing.{written-shown, shown-written, encoding_read, spelled-written}
use Rattle.value.proofs.Extended as extended

-- ---- presence bits, by their numbers

-- No required field is absent exactly when each field is optional or has its bit set: bit i for field i.
pub complete-iff : (fs : List Field) (m : ℕ)
    → (required_set fs m ≡ true) ↔ ((i : ℕ) → i < length fs → ((get_or fs i no_field).optional ≡ 1) ⊎ (m / 2 ^ i % 2 ≡ 1))
complete-iff fs m = (fields.complete-met fs m, fields.met-complete fs m)

-- The items of a struct are its fields whose bits are set, in the order of their numbers: bit i for field i.
pub present-is : (fs : List Field) (m : ℕ) → present fs m ≡ each (λ i. plain_item (get_or fs i no_field).ty) (set_bits m (length fs))
present-is = fields.present-is

-- The bits that are set in a bitmap's whole bytes are those of the fields that are present, and the unknown ones.
pub unknown-is : (fs : List Field) (m : ℕ) → length (set_bits m (8 * bitmap_bytes (length fs))) ≡ length (present fs m) + unknown_bits fs m
unknown-is = fields.unknown-is

-- ---- the items of arrays and maps, by their numbers

-- An array holds as many elements as it counts, each of its element type and no key.
pub array-items : (e n : ℕ) → (length (plan (array e) n) ≡ n) × ((i : ℕ) (d : Item) → i < n → get_or (plan (array e) n) i d ≡ plain_item e)
array-items e n = (items.array-length e n, items.array-item e n)

-- A map holds key and value by turns, as many pairs as it counts: item 2i is a key of the key type, item 2i + 1 of the value type and no key.
pub map-items : (k v n : ℕ) → (length (plan (map k v) n) ≡ 2 * n)
    × ((i : ℕ) (d : Item) → i < n → (get_or (plan (map k v) n) (2 * i) d ≡ record { type = k; key = true }) × (get_or (plan (map k v) n) (2 * i + 1) d ≡ plain_item v))
map-items k v n = (items.map-length k v n, λ i d h. (items.map-key k v n i d h, items.map-value k v n i d h))

-- ---- key comparisons

-- Those of n keys are the pairs of an earlier key and a later one.
pub comparisons-pairs : (n : ℕ) → key_comparisons n ≡ pairs_among n
comparisons-pairs = comparing.comparisons-pairs

pub comparisons-half : (n : ℕ) → 2 * key_comparisons n ≡ n * (n - 1)
comparisons-half = comparing.comparisons-half

module _ (T : Table) (good : GoodSchema T) (t : ℕ) where
  solid : (t : ℕ) → Solid (shape T t)
  solid = good-solid T good

  -- ---- inner values, at any depth

  -- A value is read from the bytes exactly when they start with bytes that spell it; the rest is left.
  pub read-iff-spelled : (d : ℕ) (v : Value) (rest : List ℕ) (c : Cursor)
      → ((tree : Tree) × (end : Cursor) × (parse (shape T) d t c ≡ seen tree end) × (value tree ≡ v) × (end.left ≡ rest))
      ↔ ((u : List ℕ) × (c.left ≡ u ++ rest) × Spells (shape T) d t v u)
  read-iff-spelled d v rest c = (
    λ w. let r = reads_end (parse-reads (shape T) d t c) w.2 in
        (r.0, r.1 ∙ ap (λ (l : List ℕ). r.0 ++ l) w.4, subst (λ (x : Value). Spells (shape T) d t x r.0) w.3 r.2),
    λ w. let y = yields-end (parse-complete (shape T) solid d t v w.0 rest c w.2 w.1) in (y.0, y.1, y.2, y.3.0, y.3.1),
  )

  -- Every value takes at least one byte.
  pub takes-a-byte : (d : ℕ) (v : Value) (u : List ℕ) → Spells (shape T) d t v u → 0 < length u
  takes-a-byte d v u q = takes (shape T) solid d t v u q

  -- Bytes spell one value.
  pub spelled-once : (d : ℕ) (v v' : Value) (u : List ℕ) → Spells (shape T) d t v u → Spells (shape T) d t v' u → v ≡ v'
  spelled-once d v v' u q q' =
      let y = yields-end (parse-complete (shape T) solid d t v u [] (cursor_at u 0) q (sym (append-nil u))) in
      let y' = yields-end (parse-complete (shape T) solid d t v' u [] (cursor_at u 0) q' (sym (append-nil u))) in
      cc (y.2, y'.2, y.3.0, y'.3.0)

  -- Bytes spell a value with d levels of depth allowed exactly when they spell it with any number of levels and its depth is d at most.
  pub depth-iff : (d : ℕ) (v : Value) (u : List ℕ) → Spells (shape T) d t v u ↔ ((e : ℕ) × Spells (shape T) e t v u × (depth v ≤ d))
  depth-iff d v u = (λ q. (d, q, depths.shallow (shape T) d t v u q), λ w. depths.enough-levels (shape T) w.0 d t v u w.1 w.2)

  -- What spells a value is its encoding: a value has one spelling.
  pub spelled-is_encoding : (d : ℕ) (v : Value) (u : List ℕ) → Bytes u → Spells (shape T) d t v u → u ≡ encode (shape T) v t
  spelled-is_encoding d v u b q = spelled_encoding (shape T) d t v u b q

  -- The encoding of a value that bytes spell, with anything after it, is read as that value, up to its end.
  pub round_trip : (d : ℕ) (v : Value) (u rest : List ℕ) (at : ℕ) → Bytes u → Spells (shape T) d t v u
      → (tree : Tree) × (end : Cursor) × (parse (shape T) d t (record { left = encode (shape T) v t ++ rest; at = at }) ≡ seen tree end)
      × (value tree ≡ v)
      × (end.left ≡ rest)
  round_trip d v u rest at b q = (read-iff-spelled d v rest _).1 (encode (shape T) v t, refl, encoded (shape T) d t v u b q)

  -- A composite's own comparisons are those of each later one of its keys with each earlier one.
  pub own-comparisons : (d h : ℕ) (vs : Values) (u : List ℕ) → Spells (shape T) d t (node h vs) u
      → map_comparisons (shape T t) h ≡ pairs_among (length (keys_of (plan (shape T t) h) vs))
  own-comparisons d h vs u q = comparing.own-comparisons (shape T) d t h vs u q

  -- ---- maps, by their pairs

  module _ (k w : ℕ) (is-map : shape T t ≡ map k w) where
    key : KeyShape (shape T k)
    key = (rw is-map at (within T good t)).2

    -- Bytes spell a map exactly when they are its count, 64 at most, and then keys and values by turns, no two keys the same value.
    pub map_iff : (d n : ℕ) (vs : Values) (u : List ℕ) → Spells (shape T) (suc d) t (node n vs) u
        ↔ ((x : List ℕ) × (y : List ℕ) × (u ≡ x ++ y) × Spelled n x × (n ≤ 64) × AllSpell (Spells (shape T) d) (plan (map k w) n) vs y × Differ n vs)
    map_iff = pairs.map_iff (shape T) k key t w is-map

    -- So keys that differ are never refused: with anything after it, such a map is read, up to its end.
    pub differing_keys-read : (d n : ℕ) (vs : Values) (x y rest : List ℕ) (at : ℕ) → Spelled n x → n ≤ 64
        → AllSpell (Spells (shape T) d) (plan (map k w) n) vs y → Differ n vs
        → (tree : Tree) × (end : Cursor) × (parse (shape T) (suc d) t (record { left = (x ++ y) ++ rest; at = at }) ≡ seen tree end)
        × (value tree ≡ node n vs)
        × (end.left ≡ rest)
    differing_keys-read d n vs x y rest at s few q differs =
        (read-iff-spelled (suc d) (node n vs) rest _).1 (x ++ y, refl, (map_iff d n vs (x ++ y)).1 (x, y, refl, s, few, q, differs))

    -- Rows show a map exactly when the first is of its type and has its count, 64 at most, and keys and values follow by turns, no two keys the same value.
    pub map-shown-iff : (B : List ℕ) (d n : ℕ) (r : Row) (ts : Forest) → Fits (shape T) B (suc d) t (branch r n ts)
        ↔ ((r.ty ≡ t) × (r.count ≡ n) × (n ≤ 64) × AllFit (Fits (shape T) B d) (plan (map k w) n) ts × Differ n (values ts))
    map-shown-iff = pairs.map-shown-iff (shape T) k key t w is-map

    -- The reason of 24, an earlier key with the content of the later one, is that one of the m pairs before it has the same value as its key: in bytes, and
    -- in rows.
    pub repeated-iff : {d : ℕ} {u y left : List ℕ} {i : Item} {earlier : List (List ℕ)} (q : Due (shape T) d (shape T t) u y left i earlier) → i.key ≡ true
        → (v : Value) (x : List ℕ) → Spells (shape T) d i.type v x
        → (m : ℕ) × (length q.before ≡ 2 * m) × (AmongKeys earlier (content v) ↔ KeyAmong m q.shown v)
    repeated-iff = pairs.repeated-iff (shape T) k key t w is-map

    pub row-repeated-iff : (B : List ℕ) {d : ℕ} {r : Row} {ts : Forest} {i : Item} {earlier : List (List ℕ)} (q : RowDue B (shape T) d t r ts i earlier)
        → i.key ≡ true → (tree : Tree) → Fits (shape T) B d i.type tree
        → (m : ℕ) × (length q.before ≡ 2 * m) × (AmongKeys earlier (content (value tree)) ↔ KeyAmong m (values ts) (value tree))
    row-repeated-iff = pairs.row-repeated-iff (shape T) k key t w is-map

  -- ---- maps of more than 64 pairs

  -- A map whose count is above 64, with bytes enough for its pairs after it, is refused with 31 at the count, at any depth and whatever stands after it.
  pub pairs-refused : (d k v n : ℕ) (u rest : List ℕ) (c : Cursor) → shape T t ≡ map k v → Spelled n u → c.left ≡ u ++ rest
      → 2 * n ≤ length rest → 64 < n → parse (shape T) (suc d) t c ≡ refused 31 c.at
  pairs-refused d k v n u rest c is s e = many.pairs-refused (shape T) d t k v is n u rest c s e

  -- With too few bytes after it, it is refused with 20 there.
  pub count-refused : (d k v n : ℕ) (u rest : List ℕ) (c : Cursor) → shape T t ≡ map k v → Spelled n u → c.left ≡ u ++ rest
      → length rest < 2 * n → parse (shape T) (suc d) t c ≡ refused 20 c.at
  count-refused d k v n u rest c is s e = many.count-refused (shape T) d t k v is n u rest c s e

  -- A map's row whose count is above 64 is refused with 31 at that row, whatever rows follow.
  pub row-refused : (d k v : ℕ) (B : List ℕ) (r : Row) (rs : List Row) (c : CursorOf Row) → shape T t ≡ map k v → c.left ≡ r ∷ rs → r.ty ≡ t
      → 64 < r.count → show (shape T) B (suc d) t c ≡ refused 31 c.at
  row-refused d k v B r rs c is = many.row-refused (shape T) d t k v is B r rs c

  -- ---- payloads

  -- The reader refuses with a number at a place exactly for its reason, which says what stands there and what before it.
  pub refused-iff : (payload : List ℕ) (room n p : ℕ) → (read T t payload room ≡ refusal n p) ↔ Reason (shape T) t payload room n p
  refused-iff payload room n p = (refusals.reason T good t payload room n p, refusals.refuses T good t payload room n p)

  -- Where the number is 21 to 26, 28 or 31, what follows the faulty bytes does not matter: with any other bytes there, as many or more, the payload is
  -- refused alike.
  pub after_free : (fs : List Field) (u x rest : List ℕ) (n : ℕ) → shape T t ≡ struct fs → RootFault (shape T) fs u x rest n → Settles n
      → (more : List ℕ) (room : ℕ) → length rest ≤ length more → length (u ++ (x ++ more)) ≤ 16384 → read T t (u ++ (x ++ more)) room ≡ refusal n (length u)
  after_free fs u x rest n st f w more room longer short =
      (refused-iff (u ++ (x ++ more)) room n (length u)).1 (faulty fs u x more st short refl (settled more f w longer))

  -- A refusal has one of 01's numbers: 46, 7, 30, or 20 to 28 and 31 for a value's fault.
  pub refused-number : (payload : List ℕ) (room n p : ℕ) → read T t payload room ≡ refusal n p → ReadNumber n
  refused-number payload room n p e = reason-number ((refused-iff payload room n p).0 e)

  -- A refusal's place lies within the payload or at its end.
  pub refused-within : (payload : List ℕ) (room n p : ℕ) → read T t payload room ≡ refusal n p → p ≤ length payload
  refused-within payload room n p e = refusals.reason-within T good t payload room n p ((refused-iff payload room n p).0 e)

  -- The reader accepts with exactly the rows that delimit the payload: there is one row a value, and no cell of any row is free. The comparisons due are
  -- those of the payload's value.
  pub rows_delimit : (payload : List ℕ) (room : ℕ) (rs : List Row) (place n c : ℕ)
      → (read T t payload room ≡ accepted rs place n c) ↔ Delimited (shape T) t payload room rs place n c
  unfolding read
  rows_delimit payload room rs place n c =
      (read_delimited (shape T) t payload room rs place n c, delimited_read (shape T) t payload room rs place n c solid)

  -- The comparisons due are never above 258,048, and they are those that the rows count.
  pub comparisons-within : (payload : List ℕ) (room : ℕ) (rs : List Row) (place n c : ℕ) → read T t payload room ≡ accepted rs place n c → c ≤ 258048
  unfolding read
  comparisons-within payload room rs place n c e =
      let a = accepts (shape T) t payload room rs place n c e in
      let q = seen_end (root-sound (shape T) t a.fs (cursor_at payload 0)) a.reads in
      let b = comparing.root-bound (shape T) solid t a.fs a.is-struct (value a.tree) payload a.end.left q in
      omega (arith, b, a.has-comparisons, a.short)

  pub comparisons-counted : (payload : List ℕ) (room : ℕ) (rs : List Row) (place n c : ℕ) → read T t payload room ≡ accepted rs place n c → c ≡ rows_comparisons (shape T) rs
  unfolding read
  comparisons-counted payload room rs place n c e =
      let a = accepts (shape T) t payload room rs place n c e in
      sym a.has-comparisons ∙ comparing.read-comparisons payload (shape T) t a.fs a.is-struct a.tree a.end a.reads ∙ ap (rows_comparisons (shape T)) a.has-rows

  module _ (fs : List Field) (st : shape T t ≡ struct fs) where
    -- The reader accepts, with rows that show v, exactly the payloads that spell v within the limits; the tail is what follows the known fields.
    pub accepted-iff-spelled : (payload : List ℕ) (room : ℕ) (v : Value) (place n : ℕ)
        → ReadAs (shape T) t fs payload (read T t payload room) v place n ↔ Rightful (shape T) t fs payload room v place n
    unfolding read
    accepted-iff-spelled payload room v place n =
        (read_rightful (shape T) t fs st payload room v place n, rightful_read (shape T) t fs st payload room v place n solid)

    -- A payload spells one value, with one tail.
    pub payload-once : (payload : List ℕ) (v v' : Value) (z z' : List ℕ) → RootSpells (shape T) fs v payload z → RootSpells (shape T) fs v' payload z' → (v ≡ v') × (z ≡ z')
    payload-once payload v v' z z' q q' =
        let y = yields-end (root-complete (shape T) t fs solid v z (cursor_at payload 0) q) in
        let y' = yields-end (root-complete (shape T) t fs solid v' z' (cursor_at payload 0) q') in
        (cc (y.2, y'.2, y.3.0, y'.3.0), cc (y.2, y'.2, y.3.1, y'.3.1))

    -- A payload without a tail is the encoding of its value.
    pub payload-is_encoding : (payload : List ℕ) (v : Value) → Bytes payload → RootSpells (shape T) fs v payload [] → payload ≡ encode (shape T) v t
    payload-is_encoding payload v b q = root_encoding (shape T) t fs st v payload b q

    -- An accepted payload has no tail exactly where no unknown bit of its root is set.
    pub tail-iff-unknown : (payload : List ℕ) (room : ℕ) (rs : List Row) (place n c : ℕ) → read T t payload room ≡ accepted rs place n c
        → (n ≡ 0) ↔ (unknown_bits fs (root_bits fs payload) ≡ 0)
    unfolding read
    tail-iff-unknown payload room rs place n c e =
        let a = accepts (shape T) t payload room rs place n c e in
        let f : a.fs ≡ fs = cc (a.is-struct, st) in
        let s = (root_in (shape T) t a.fs payload a.tree a.end a.reads).0 in
        let r : ReadAs (shape T) t fs payload (read T t payload room) (value a.tree) place n = (rs, e ∙ ap (accepted rs place n) (sym a.has-comparisons), rw (f, a.has-rows) at s) in
        let (z, q, _, _, l, _) = (accepted-iff-spelled payload room (value a.tree) place n).0 r in
        let t = root-tail (shape T) fs (value a.tree) payload z q in
        (λ none. omega (arith, t.0), λ none. sym l ∙ t.1 none)

    -- A payload's value has a depth of 16 at most, so that one of depth 17 is spelled by no payload.
    pub depth-within : (payload : List ℕ) (v : Value) (z : List ℕ) → RootSpells (shape T) fs v payload z → depth v ≤ 16
    depth-within payload v z q = depths.root-shallow (shape T) fs v payload z q

    -- And depth 16 is allowed: a root of that depth whose parts are spelled with any number of levels is spelled by a payload.
    pub depth-allowed : (d m : ℕ) (vs : Values) (x y z : List ℕ) → BitmapSpells fs m x
        → AllSpell (Spells (shape T) d) (plan (struct fs) (known_bits fs m)) vs y → TailFits (unknown_bits fs m) z
        → depth (node (known_bits fs m) vs) ≤ 16 → RootSpells (shape T) fs (node (known_bits fs m) vs) (x ++ (y ++ z)) z
    depth-allowed = depths.root-enough (shape T) fs

    -- The keys of every map of an accepted payload differ as values. Bytes spell one value and a value has one spelling, so this is the same as: their bytes differ.
    pub keys-differ : (payload : List ℕ) (v : Value) (z : List ℕ) → RootSpells (shape T) fs v payload z → KeysDiffer (shape T) v t
    keys-differ payload v z q = maps.root-differs (shape T) t fs st v payload z q

    -- Every map of an accepted payload has 64 pairs at most, and so has every map that a sheet shows.
    pub maps-small : (payload : List ℕ) (v : Value) (z : List ℕ) → RootSpells (shape T) fs v payload z → MapsSmall (shape T) v t
    maps-small payload v z q = maps.root-small (shape T) t fs st v payload z q

    pub shown-small : (B : List ℕ) (rs : List Row) (v : Value) → Shows (shape T) B t fs rs v → MapsSmall (shape T) v t
    shown-small = maps.shown-small (shape T) t fs st

    -- The comparisons due in a value that a sheet shows are those that its rows count.
    pub shown-comparisons : (B : List ℕ) (rs : List Row) (v : Value) → Shows (shape T) B t fs rs v → comparisons (shape T) v t ≡ rows_comparisons (shape T) rs
    shown-comparisons = comparing.shown-comparisons (shape T) t fs st

    -- Rows that tell the same types, counts, contents and known bits, over whatever bytes, show the same value.
    pub told-once : (B B' : List ℕ) (v v' : Value) (rs rs' : List Row) → Shows (shape T) B t fs rs v → Shows (shape T) B' t fs rs' v'
        → each (told (shape T) B) rs ≡ each (told (shape T) B') rs' → v ≡ v'
    told-once = telling.told-once (shape T) t fs st

  -- ---- sheets

  -- The writer accepts exactly when the sheet shows a value whose encoding is short enough; that is written.
  pub written-iff-shown : (rs : List Row) (B : List ℕ) (room : ℕ) (out : List ℕ) → (write T t rs B room ≡ written out) ↔ Writes (shape T) t rs B room out
  unfolding write
  written-iff-shown rs B room out = (written-shown (shape T) t rs B room out, shown-written (shape T) t rs B room out)

  -- The writer refuses with a number at a row exactly for its reason, which says what that row shows and what the rows before it show.
  pub write-refused-iff : (rs : List Row) (B : List ℕ) (room n k : ℕ) → (write T t rs B room ≡ refused-write n k) ↔ SheetReason (shape T) t rs B room n k
  write-refused-iff rs B room n k = (sheets.reason T good t rs B room n k, sheets.refuses T good t rs B room n k)

  -- A refusal has one of 01's numbers: 46, 7, 52, or a row's fault.
  pub write-refused-number : (rs : List Row) (B : List ℕ) (room n k : ℕ) → write T t rs B room ≡ refused-write n k → WriteNumber n
  write-refused-number rs B room n k e = sheet-reason-number ((write-refused-iff rs B room n k).0 e)

  -- A refusal names a row that is there, or the number of rows.
  pub write-refused-within : (rs : List Row) (B : List ℕ) (room n k : ℕ) → write T t rs B room ≡ refused-write n k → k ≤ length rs
  write-refused-within rs B room n k e = sheets.reason-within T good t rs B room n k ((write-refused-iff rs B room n k).0 e)

  -- Array and map places and composite lengths do not matter.
  pub only-used : (rs rs' : List Row) (B : List ℕ) (room : ℕ) → each (used (shape T)) rs ≡ each (used (shape T)) rs' → write T t rs B room ≡ write T t rs' B room
  unfolding write
  only-used rs rs' B room l = ignored (shape T) B t room rs rs' l

  -- What is written is read back as the value that the sheet shows, with no tail, given room for as many rows.
  pub read_back : (rs : List Row) (B : List ℕ) (room : ℕ) (out : List ℕ) → write T t rs B room ≡ written out → (room' : ℕ) → length rs ≤ room'
      → (fs : List Field) × (v : Value)
      × (shape T t ≡ struct fs)
      × Shows (shape T) B t fs rs v
      × ReadAs (shape T) t fs out (read T t out room') v (length out) 0
  unfolding read
  read_back rs B room out e room' l =
      let (fs, v, st, s, o, short, _) = (written-iff-shown rs B room out).0 e in
      (fs, v, st, s, encoding_read (shape T) solid t fs st B rs v s out o short room' l)

  -- The rows of a reading, over the payload, are written in no more bytes, and what is written is read as the same value, with no tail. Where the
  -- reading has no tail, what is written is the payload.
  pub read-then-write : (payload : List ℕ) (room : ℕ) (rs : List Row) (place n c : ℕ) → Bytes payload → read T t payload room ≡ accepted rs place n c
      → (room' : ℕ) → length payload ≤ room'
      → (fs : List Field) × (v : Value) × (out : List ℕ)
      × (shape T t ≡ struct fs)
      × Shows (shape T) payload t fs rs v
      × (write T t rs payload room' ≡ written out)
      × (length out ≤ length payload)
      × (n ≡ 0 → out ≡ payload)
      × ReadAs (shape T) t fs out (read T t out room) v (length out) 0
  unfolding read write
  read-then-write payload room rs place n c b e room' l =
      let a = accepts (shape T) t payload room rs place n c e in
      let s = subst (λ (x : List Row). Shows (shape T) payload t a.fs x (value a.tree)) a.has-rows (root_in (shape T) t a.fs payload a.tree a.end a.reads).0 in
      let (z, q, _, _, tail, _) = (accepted-iff-spelled a.fs a.is-struct payload room (value a.tree) place n).0 (rs, e ∙ ap (accepted rs place n) (sym a.has-comparisons), s) in
      let w = spelled-written (shape T) solid t a.fs a.is-struct payload z (value a.tree) b q a.short rs s room' l in (
        a.fs,
        value a.tree,
        encode (shape T) (value a.tree) t,
        a.is-struct,
        s,
        w.0,
        w.1,
        λ none. w.2 (tail ∙ none),
        encoding_read (shape T) solid t a.fs a.is-struct payload rs (value a.tree) s _ refl (omega (arith, w.1, a.short)) room a.fits,
      )

-- ---- an old table and a new one that extends it

-- A struct carries an added field exactly when a bit beyond its known fields is set.
pub carries-iff : (fs : List Field) (m : ℕ) → (carries (struct fs) m ≡ true) ↔ ((i : ℕ) × (length fs ≤ i) × (m / 2 ^ i % 2 ≡ 1))
carries-iff fs m = (λ e. (bit-beyond (length fs) m).0 (leb-true _ m e), λ w. le-leb _ m ((bit-beyond (length fs) m).1 w))

module _ (old new : Table) (good : GoodSchema old) (good' : GoodSchema new) (extends : Extends old new) (t : ℕ) (fs : List Field) (st : shape old t ≡ struct fs) where
  x : Extension (shape old) (shape new) (length old.types)
  x = good-extension old new good good' extends

  l : t < length old.types
  l = shape-known old good t (λ e. differ cc)

  -- A struct of the old table has its fields in the new one too, and perhaps more.
  pub gains : (gs : List Field) × (shape new t ≡ struct (fs ++ gs))
  gains = extended.gained-fields (shape old) (shape new) (length old.types) x.wide t l fs st

  module _ (gs : List Field) (st' : shape new t ≡ struct (fs ++ gs)) (payload : List ℕ) (room : ℕ) where
    -- A payload without unknown bits that the new rules allow as v: what the old reader answers. It refuses with 26 exactly where an inner struct,
    -- reached through known fields, carries an added field, at the first such struct. The places are those that the new reader shows.
    pub new-by-old : (v : Value) → RootSpells (shape new) (fs ++ gs) v payload [] → length payload ≤ 16384
        → (tree : Tree) × (end : Cursor) × (root_struct (shape new) t (fs ++ gs) (cursor_at payload 0) ≡ seen tree end)
        × (value tree ≡ v)
        × ByOld (shape old) (shape new) t fs gs payload room v (read old t payload room) (first_added (inner (shape old) tree t))
        × ((p : ℕ) → (read old t payload room ≡ refusal 26 p) ↔ (first_added (inner (shape old) tree t) ≡ some p))
    unfolding read
    new-by-old v q short =
        let (tree, end, e, u, a) = extended.new-by-old (shape old) (shape new) (length old.types) x t l fs gs st st' payload room v q short in
        (tree, end, e, u, a, extended.refused-iff (shape old) (shape new) (length old.types) x t l fs gs st st' payload room v _ a)

    -- A payload that the old reader accepts, with no added field's bit set: the new reader gives the same rows, tail and comparisons due, and the rows
    -- show the same value.
    pub old-by-new : (rs : List Row) (place n c : ℕ) → read old t payload room ≡ accepted rs place n c → NoneAdded fs gs payload
        → (read new t payload room ≡ accepted rs place n c)
        × ((v : Value) × Shows (shape old) payload t fs rs v × Shows (shape new) payload t (fs ++ gs) rs v)
    unfolding read
    old-by-new rs place n c e bare = extended.old-by-new (shape old) (shape new) (length old.types) x t l fs gs st st' payload room rs place n c e bare

    -- None is set where there is no tail.
    pub none-added : (rs : List Row) (place c : ℕ) → read old t payload room ≡ accepted rs place 0 c → NoneAdded fs gs payload
    unfolding read
    none-added rs place c e = extended.none-added (shape old) (shape new) (length old.types) x t l fs gs st st' payload room rs place c e
