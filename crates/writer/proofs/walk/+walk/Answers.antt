-- The proof of the cycle of walkers. An array, a map and the structs of a run are given the depth of what they hold, so the measure is six times the depth:
-- nothing more for a run of structs, one for a composite, then for each walker one more than for those that it calls with the same depth.
use mathlib.Core.Path.{◌≡◌, refl, ◌∙◌}
use mathlib.Core.Bool.{true}
use mathlib.Core.List.{[], ◌∷◌}
use Prim.Native.Nat.{ℕ, ◌+◌, ◌-◌, ◌/◌, ◌<◌}
use native.Mathlib.Omega.{arith}
use lib.ListN.{length}
use Rattle.schema.specs.Table.{row_at, array, map}
use Rattle.schema.specs.File.{table_of}
use Rattle.schema.specs.Check.{field_row_of}
use Rattle.value.specs.Read.{plain_item, pairs}
use Rattle.walks.specs.Shape.{fields_from, shape_in, leaf_shape}
use Rattle.walks.proofs.Keys.{keys_none}
use Rattle.walks.proofs.Tables.{few-fields, struct_row, array_row, map_row, map-value, shape-array, shape-map, shape-struct, shape-past, shape-leaf}
use Rattle.walks.proofs.Presence.{length_fields}
use Rattle.walks.proofs.Masks.{bits_left, standing-field, standing-kind, standing-next, standing-less, standing-skip, standing-same, standing-end}
use Rattle.walks.proofs.Items.{elements-none, elements-more, pairs-none}
use Rattle.writer.specs.Walk.{items_end, MapRow}
use Rattle.writer.proofs.Steps.{handed, was, renamed, as_refused, shown-stopped, shown-refused, onward, walk-done}
use Rattle.writer.proofs.Steps.{show-deep, accepted-deeper, items-deeper, items-shallower, leaf-accepted, show-unknown}
use Rattle.writer.proofs.Heads.{HeadRow, head-row, head-fits}
use Rattle.writer.proofs.Composites.{leaf-failed, leaf-past, row-absent, came-by}
use Rattle.writer.proofs.Composites.{PartsRow, parts-start, parts-accepted, array-found, map-many, map_found, struct-fault, struct-found, struct-start}
use Rattle.writer.proofs.Composites.{writing-first, writing-small, writing-known, writing-done, writing-ready, writing-stop, writing-on, one-accepted, one_end}
use Rattle.writer.proofs.Keys.{AfterKey, after-key, key-was, pairs-deep, pair-first, pair-accepted, pair-stop, pair-past}
use Rattle.writer.proofs.walk.+walk.Goals.{write_array-In_ok-says, write_fields-After-field-f, write_map-Else-n-gt-MOST_PAIRS, write_map-Start, write_pairs-After-known_row-k, write_pairs-After-known_row-v, write_pairs-After-write_key, write_struct-After-struct_bits, write_value-Else-kind}
use Rattle.writer.proofs.walk.+walk.Goals.{write_pairs-then-v+in_ok-past-2, write_pairs-else-v+in_ok-placed}
use Rattle.writer.proofs.walk.+walk.Goals as goal

-- an array's row, once it was found
write-array-row : (t : ℕ) (c : write_array-In_ok-says t)
    → let args = c.args in
    PartsRow (shape_in args.rows.now.schema.bytes.now) args.rows.now.source.now args.rows.now.sheet.now args.row args.ty (array args.elem) c.in_ok-says.says.count
write-array-row t c = array-found c.row_due.ensures c.in_ok-says.was _ _ c.requires.1

-- a type below the arrays is that of a leaf
write-value-leaf : (t : ℕ) (c : write_value-Else-kind t)
    → let args = c.args in
    shape_in args.rows.now.schema.bytes.now args.ty ≡ leaf_shape c.known_row-t.result.kind
write-value-leaf t c =
    let row = c.known_row-t in
    shape-leaf (table_of c.args.rows.now.schema.bytes.now) c.args.ty row.result row.ensures (rw row.ensures c.requires.1) (omega (arith, c.if-kind.false))

-- the field looked up is that of the table
write-fields-row : (t : ℕ) (c : write_fields-After-field-f t) → c.field-f.result ≡ field_row_of (table_of c.args.rows.now.schema.bytes.now) c.loop-bits.i
write-fields-row t c = rw c.sections-file.ensures at c.field-f.ensures

-- the next of the fields left, once it was looked up
write-fields-first : (t : ℕ) (c : write_fields-After-field-f t)
    → let loop = c.loop-bits in
    let args = c.args in
    let T = table_of args.rows.now.schema.bytes.now in
    bits_left T args.first args.n loop.i loop.bits ≡ plain_item c.field-f.result.ty ∷ bits_left T args.first args.n (loop.i + 1) (loop.bits / 2)
write-fields-first t c =
    let loop = c.loop-bits in
    let some : 0 < loop.bits = omega (arith, c.loop-bits-test.true) in
    standing-field loop.invariant.1 some (table_of c.args.rows.now.schema.bytes.now) c.requires.n_bound.2 c.field-f.result (write-fields-row t c) c.if-bits-eq1.true

-- a map's row, once it was found to be of few enough pairs
write-map-row : (t : ℕ) (c : write_map-Else-n-gt-MOST_PAIRS t)
    → let args = c.args in
    PartsRow (shape_in args.rows.now.schema.bytes.now) args.rows.now.source.now args.rows.now.sheet.now args.row args.ty (map args.t.a args.t.b) c.in_ok-n.field-0.count
write-map-row t c =
    let asked = c.requires in
    map_found c.row_due.ensures c.in_ok-n.was _ _ (shape-map (table_of c.args.rows.now.schema.bytes.now) c.args.ty _ asked.1 asked.2) c.if-n-gt-MOST_PAIRS.false

-- the types of its keys and values
write-map-types : (t : ℕ) (c : write_map-Start t) → MapRow c.args.rows.now.schema.bytes.now c.args.t
write-map-types t c =
    let h = c.requires in
    let key = map_row c.args.rows.now.schema.bytes.now c.args.rows.now.schema.good c.args.ty _ h.1 h.2 in
    (key.0, key.1, map-value c.args.rows.now.schema.bytes.now c.args.rows.now.schema.good c.args.ty _ h.1 h.2)

-- the shapes of a map's keys, and of its values where they are leaves
write-pairs-keys : (t : ℕ) (c : write_pairs-After-known_row-k t)
    → let args = c.args in
    shape_in args.rows.now.schema.bytes.now args.t.a ≡ leaf_shape c.known_row-k.result.kind
write-pairs-keys t c =
    let types = c.requires.1 in
    let k = c.known_row-k in
    shape-leaf (table_of c.args.rows.now.schema.bytes.now) c.args.t.a k.result k.ensures (rw k.ensures types.0) (rw k.ensures types.1)

write-pairs-values : (t : ℕ) (c : write_pairs-After-known_row-v t)
    → let args = c.args in
    c.known_row-v.result.kind < 14 → shape_in args.rows.now.schema.bytes.now args.t.b ≡ leaf_shape c.known_row-v.result.kind
write-pairs-values t c below =
    let v = c.known_row-v in
    shape-leaf (table_of c.args.rows.now.schema.bytes.now) c.args.t.b v.result v.ensures (rw v.ensures c.requires.1.2) below

-- a turn of the loop, once its key was written
write-pairs-turn : (t : ℕ) (c : write_pairs-After-write_key t)
    → let args = c.args in
    let end = items_end args.rows.now args.depth [] (pairs args.n args.t.a args.t.b) args.start args.pos args.out.now in
    AfterKey (shape_in args.rows.now.schema.bytes.now) args.rows.now.source.now args.rows.now.sheet.now c.write_key.new.keys c.loop-i.i args.t.a args.t.b args.n args.depth args.rows.now.judging
    c.write_key.result c.write_key.new.out end
write-pairs-turn t c =
    let types = c.requires.1 in
    let k = c.known_row-k in
    let keys = shape-leaf (table_of c.args.rows.now.schema.bytes.now) c.args.t.a k.result k.ensures (rw k.ensures types.0) (rw k.ensures types.1) in
    after-key _ c.write_key.ensures keys _ c.if-depth-eq0.false _ c.loop-i-test.true c.loop-i.invariant.0.same

write-pairs-out : (t : ℕ) (c : write_pairs-After-write_key t)
    → length c.write_key.new.out ≡ length c.args.out.now
write-pairs-out t c = c.write_key.auto.out ∙ c.loop-i.invariant.0.long

-- a struct's row and its bits, once both were read
write-struct-head : (t : ℕ) (c : write_struct-After-struct_bits t)
    → let args = c.args in
    HeadRow true (shape_in args.rows.now.schema.bytes.now) args.rows.now.source.now args.rows.now.sheet.now args.row args.ty args.t.b (fields_from (table_of args.rows.now.schema.bytes.now) args.t.a args.t.b) c.struct_bits.result
write-struct-head t c =
    let asked = c.requires in
    let h = asked.n_nonzero in
    head-row c.row_due.ensures c.in_ok-says.was c.struct_bits.ensures asked.ready.1 (length_fields _ _ _ h.2) h.3

pub write_array-returns-in_err-says : goal.write_array-returns-in_err-says
write_array-returns-in_err-says t c = shown-refused _ _ _ _ (handed c.from_residual.ensures.1) (row-absent c.row_due.ensures _ _ _ c.in_err-says.was)

pub write_array-write_elements-requires : goal.write_array-write_elements-requires
write_array-write_elements-requires t c =
    let at_says = (goal.at.write_array-write_elements-requires t c).In_ok-says in
    let asked = at_says.requires in
    let put-number = c.put_number-next in
    let row = write-array-row t at_says in (
      omega (arith, c.decreases),
      (
        onward asked.0 (omega (arith, row.inside)) put-number.ensures.capped put-number.auto.out (parts-accepted row _),
        asked.2,
      ),
    )

pub write_array-returns : goal.write_array-returns
write_array-returns t c =
    let at_says = (goal.at.write_array-returns t c).In_ok-says in
    renamed (parts-start (write-array-row t at_says) _ at_says.requires.0.small c.put_number-next.ensures) c.write_elements.ensures

pub write_composite-returns-then-depth-eq0 : goal.write_composite-returns-then-depth-eq0
write_composite-returns-then-depth-eq0 t c = shown-refused _ _ _ _ c.at.ensures (show-deep _ _ _ _ _ c.if-depth-eq0.true)

pub write_composite-write_array-requires : goal.write_composite-write_array-requires
write_composite-write_array-requires t c =
    let args = c.args in
    let asked = c.requires in
    let h = asked.0 in
    let kind = c.if-kind.true in
    let deep = c.if-depth-eq0.false in (
      omega (arith, c.decreases, deep),
      (
        onward h h.inside h.capped refl (accepted-deeper _ _ deep _ _),
        shape-array (table_of args.rows.now.schema.bytes.now) args.ty _ asked.1 kind,
        array_row args.rows.now.schema.bytes.now c.args.rows.now.schema.good args.ty _ asked.1 kind,
      ),
    )

pub write_composite-write_map-requires : goal.write_composite-write_map-requires
write_composite-write_map-requires t c =
    let asked = c.requires in
    let h = asked.0 in
    let deep = c.if-depth-eq0.false in
    (omega (arith, c.decreases, deep), (onward h h.inside h.capped refl (accepted-deeper _ _ deep _ _), asked.1, c.if-kind-2.true))

pub write_composite-write_run-requires : goal.write_composite-write_run-requires
write_composite-write_run-requires t c =
    let asked = c.requires in
    let h = asked.0 in
    (omega (arith, c.decreases), (onward h h.inside h.capped refl (one-accepted _ _ _), asked.1, c.if-kind-3.true, omega (arith, c.if-depth-eq0.false)))

pub write_composite-returns-then-kind-3 : goal.write_composite-returns-then-kind-3
write_composite-returns-then-kind-3 t c = renamed (one_end _ _ _ _ _ _) c.write_run.ensures

pub write_composite-returns : goal.write_composite-returns
write_composite-returns t c =
    let args = c.args in
    let asked = c.requires in
    let past : 16 < args.t.kind = omega (arith, asked.2, c.if-kind.false, c.if-kind-2.false, c.if-kind-3.false) in
    shown-refused _ _ _ _ c.at-2.ensures (show-unknown _ _ c.if-depth-eq0.false _ _ _ (shape-past (table_of args.rows.now.schema.bytes.now) args.ty _ asked.1 past))

pub write_elements-write_composite-requires : goal.write_elements-write_composite-requires
write_elements-write_composite-requires t c = (
  omega (arith, c.decreases),
  (
    writing-ready c.loop.invariant (elements-more _ c.loop-test.true),
    c.known_row-t.ensures,
    omega (arith, c.if-kind.false),
  ),
)

pub write_elements-returns-in_err-past : goal.write_elements-returns-in_err-past
write_elements-returns-in_err-past t c = writing-stop c.loop.invariant (elements-more _ c.loop-test.true) c.write_composite.ensures c.in_err-past.was (handed c.from_residual.ensures.1)

pub write_elements-loop-preserved : goal.write_elements-loop-preserved
write_elements-loop-preserved t c = writing-on c.loop.invariant (elements-more _ c.loop-test.true) c.write_composite.ensures c.in_ok-past.was c.write_composite.auto.out

pub write_elements-returns : goal.write_elements-returns
write_elements-returns t c = writing-done c.loop.invariant (elements-none _ (c.args.n - c.loop.counter) (omega (arith, c.loop-test.false)))

pub write_fields-write_value-requires : goal.write_fields-write_value-requires
write_fields-write_value-requires t c =
    let asked = c.requires in
    let loop = c.loop-bits in
    let f = c.field-f in
    let some : 0 < loop.bits = omega (arith, c.loop-bits-test.true) in (
      omega (arith, c.decreases),
      (
        writing-ready loop.invariant.0 (write-fields-first t (goal.at.write_fields-write_value-requires t c).After-field-f),
        standing-kind loop.invariant.1 some c.args.rows.now.schema.bytes.now c.args.rows.now.schema.good asked.n_bound.2 f.result (write-fields-row t (goal.at.write_fields-write_value-requires t c).After-field-f)
            (row_at (table_of c.args.rows.now.schema.bytes.now) f.result.ty) refl,
      ),
    )

pub write_fields-returns-in_err-past : goal.write_fields-returns-in_err-past
write_fields-returns-in_err-past t c =
    let field = (goal.at.write_fields-returns-in_err-past t c).After-field-f in
    writing-stop field.loop-bits.invariant.0 (write-fields-first t field) c.write_value.ensures c.in_err-past.was (handed c.from_residual.ensures.1)

pub write_fields-overflow_add-i : goal.write_fields-overflow_add-i
write_fields-overflow_add-i t c =
    let asked = c.requires in
    omega (arith, c.loop-bits.invariant.1.last, asked.n_bound.2, few-fields _ c.args.rows.now.schema.good)

pub write_fields-loop-bits-preserved-then-bits-eq1 : goal.write_fields-loop-bits-preserved-then-bits-eq1
write_fields-loop-bits-preserved-then-bits-eq1 t c =
    let field = (goal.at.write_fields-loop-bits-preserved-then-bits-eq1 t c).After-field-f in
    let inv = field.loop-bits.invariant in (
      writing-on inv.0 (write-fields-first t field) c.write_value.ensures c.in_ok-past.was c.write_value.auto.out,
      standing-next inv.1 (omega (arith, field.loop-bits-test.true)),
    )

pub write_fields-overflow_add-i-else-bits-eq1 : goal.write_fields-overflow_add-i-else-bits-eq1
write_fields-overflow_add-i-else-bits-eq1 t c =
    let asked = c.requires in
    omega (arith, c.loop-bits.invariant.1.last, asked.n_bound.2, few-fields _ c.args.rows.now.schema.good, c.zeros_in-k.ensures.1)

pub write_fields-loop-bits-smaller : goal.write_fields-loop-bits-smaller
write_fields-loop-bits-smaller t c = standing-less c.loop-bits.invariant.1 (omega (arith, c.loop-bits-test.true)) c.zeros_in-k.ensures.0 c.if-bits-eq1.false

pub write_fields-loop-bits-preserved : goal.write_fields-loop-bits-preserved
write_fields-loop-bits-preserved t c =
    let inv = c.loop-bits.invariant in
    let some : 0 < c.loop-bits.bits = omega (arith, c.loop-bits-test.true) in
    (rw (standing-same inv.1 some c.zeros_in-k.ensures.0 (table_of c.args.rows.now.schema.bytes.now)) inv.0, standing-skip inv.1 some c.zeros_in-k.ensures.0)

pub write_fields-returns : goal.write_fields-returns
write_fields-returns t c =
    let args = c.args in
    writing-done c.loop-bits.invariant.0 (standing-end (table_of args.rows.now.schema.bytes.now) args.first args.n c.loop-bits.i c.loop-bits-test.false)

pub write_map-returns-in_err-n : goal.write_map-returns-in_err-n
write_map-returns-in_err-n t c = shown-refused _ _ _ _ (handed c.from_residual.ensures.1) (row-absent c.row_due.ensures _ _ _ c.in_err-n.was)

pub write_map-returns-then-n-gt-MOST_PAIRS : goal.write_map-returns-then-n-gt-MOST_PAIRS
write_map-returns-then-n-gt-MOST_PAIRS t c =
    let asked = c.requires in
    let is = shape-map (table_of c.args.rows.now.schema.bytes.now) c.args.ty _ asked.1 asked.2 in
    shown-refused _ _ _ _ c.at.ensures (map-many c.row_due.ensures c.in_ok-n.was _ _ is c.if-n-gt-MOST_PAIRS.true _)

pub write_map-returns-then-n-eq0 : goal.write_map-returns-then-n-eq0
write_map-returns-then-n-eq0 t c =
    let at-if1 = (goal.at.write_map-returns-then-n-eq0 t c).Else-n-gt-MOST_PAIRS in
    let put-number = c.put_number-next in
    let row = write-map-row t at-if1 in
    let from = parts-start row _ c.requires.0.small put-number.ensures in
    walk-done _ _ _ (pairs-none c.args.t.a c.args.t.b at-if1.in_ok-n.field-0.count (omega (arith, c.if-n-eq0.true))) from (omega (arith, row.inside)) put-number.ensures.capped

pub write_map-write_many_pairs-requires : goal.write_map-write_many_pairs-requires
write_map-write_many_pairs-requires t c =
    let at-if1 = (goal.at.write_map-write_many_pairs-requires t c).Else-n-gt-MOST_PAIRS in
    let start = (goal.at.write_map-write_many_pairs-requires t c).Start in
    let put-number = c.put_number-next in
    let row = write-map-row t at-if1 in (
      omega (arith, start.decreases),
      (
        onward start.requires.0 (omega (arith, row.inside)) put-number.ensures.capped put-number.auto.out (parts-accepted row _),
        write-map-types t start,
        at-if1.if-n-gt-MOST_PAIRS.false,
      ),
    )

pub write_map-returns-then-n-gt-FEW_KEYS : goal.write_map-returns-then-n-gt-FEW_KEYS
write_map-returns-then-n-gt-FEW_KEYS t c =
    let at-if1 = (goal.at.write_map-returns-then-n-gt-FEW_KEYS t c).Else-n-gt-MOST_PAIRS in
    renamed (parts-start (write-map-row t at-if1) _ c.requires.0.small c.put_number-next.ensures) c.write_many_pairs.ensures

pub write_map-write_pairs-requires : goal.write_map-write_pairs-requires
write_map-write_pairs-requires t c =
    let at-if1 = (goal.at.write_map-write_pairs-requires t c).Else-n-gt-MOST_PAIRS in
    let start = (goal.at.write_map-write_pairs-requires t c).Start in
    let put-number = c.put_number-next in
    let row = write-map-row t at-if1 in (
      omega (arith, start.decreases),
      (
        onward start.requires.0 (omega (arith, row.inside)) put-number.ensures.capped put-number.auto.out (parts-accepted row _),
        write-map-types t start,
        omega (arith, c.if-n-gt-FEW_KEYS.false),
        at-if1.if-n-gt-MOST_PAIRS.false,
      ),
    )

pub write_map-returns : goal.write_map-returns
write_map-returns t c =
    let at-if1 = (goal.at.write_map-returns t c).Else-n-gt-MOST_PAIRS in
    renamed (parts-start (write-map-row t at-if1) _ c.requires.0.small c.put_number-next.ensures) c.write_pairs.ensures

pub write_pairs-loop-i-init : goal.write_pairs-loop-i-init
write_pairs-loop-i-init t c =
    let all : c.args.n - 0 ≡ c.args.n = omega arith in
    (rw (all, keys_none c.args.rows.now.source.now c.args.keys.now) (writing-first c.requires.0), omega arith, refl, λ j l. absurd (omega arith))

pub write_pairs-write_key-requires : goal.write_pairs-write_key-requires
write_pairs-write_key-requires t c =
    let at-known-row = (goal.at.write_pairs-write_key-requires t c).After-known_row-k in
    let h = c.requires in
    let loop = c.loop-i in
    let some = c.loop-i-test.true in
    record {
      keys-fit = omega (arith, some, loop.invariant.2, h.2);
      capped = loop.invariant.0.capped;
      small = writing-small loop.invariant.0;
      kept = loop.invariant.3;
      judged = λ j. (
        shape_in c.args.rows.now.schema.bytes.now,
        write-pairs-keys t at-known-row,
        c.args.depth,
        c.if-depth-eq0.false,
        (_, pair-first _ _ c.args.t.b _ _ some (writing-known loop.invariant.0 j)),
      );
    }

pub write_pairs-returns-then-depth-eq0 : goal.write_pairs-returns-then-depth-eq0
write_pairs-returns-then-depth-eq0 t c =
    let inv = c.loop-i.invariant.0 in
    as_refused c.at.ensures (pairs-deep _ _ _ _ _ _ _ _ _ c.loop-i-test.true c.if-depth-eq0.true ∙ inv.same)

pub write_pairs-returns-in_err-past : goal.write_pairs-returns-in_err-past
write_pairs-returns-in_err-past t c = as_refused (handed c.from_residual.ensures.1) (key-was (write-pairs-turn t (goal.at.write_pairs-returns-in_err-past t c).After-write_key) c.in_err-past.was).same

pub write_pairs-write_composite-requires : goal.write_pairs-write_composite-requires
write_pairs-write_composite-requires t c =
    let at-write-key = (goal.at.write_pairs-write_composite-requires t c).After-write_key in
    let asked = c.requires in
    let turn = write-pairs-turn t at-write-key in
    let past = c.in_ok-past.was in
    let within = (key-was turn past).within in (
      omega (arith, c.decreases),
      (
        onward asked.0 within.0 within.1 (write-pairs-out t at-write-key) (pair-accepted turn past _ _ _ _ refl),
        c.known_row-v.ensures,
        c.if-v.true,
      ),
    )

pub write_pairs-returns-in_err-past-2 : goal.write_pairs-returns-in_err-past-2
write_pairs-returns-in_err-past-2 t c =
    let at-write-key = (goal.at.write_pairs-returns-in_err-past-2 t c).After-write_key in
    let w = was c.write_composite.ensures c.in_err-past-2.was in
    as_refused (handed c.from_residual-in_err-past-2.ensures.1) (pair-stop (write-pairs-turn t at-write-key) c.in_ok-past.was w.same)

pub write_pairs-leaf_row-requires : goal.write_pairs-leaf_row-requires
write_pairs-leaf_row-requires t c =
    let at-write-key = (goal.at.write_pairs-leaf_row-requires t c).After-write_key in
    let at-known-row2 = (goal.at.write_pairs-leaf_row-requires t c).After-known_row-v in
    let asked = at-known-row2.requires in
    let turn = write-pairs-turn t at-write-key in
    let past = c.in_ok-past.was in
    let leaf = write-pairs-values t at-known-row2 (omega (arith, c.if-v.false)) in
    λ j. leaf-accepted _ _ c.if-depth-eq0.false _ _ leaf (pair-accepted turn past _ _ _ _ refl (asked.0.judged j))

pub write_pairs-returns-in_err-placed : goal.write_pairs-returns-in_err-placed
write_pairs-returns-in_err-placed t c =
    let at-write-key = (goal.at.write_pairs-returns-in_err-placed t c).After-write_key in
    let turn = write-pairs-turn t at-write-key in
    let past = c.in_ok-past.was in
    let leaf = write-pairs-values t (goal.at.write_pairs-returns-in_err-placed t c).After-known_row-v (omega (arith, c.if-v.false)) in
    let failed = leaf-failed c.leaf_row.ensures _ leaf c.if-depth-eq0.false c.in_err-placed.was in
    as_refused (handed c.from_residual-in_err-placed.ensures.1) (pair-stop turn past (shown-stopped _ _ _ _ failed))

pub write_pairs-loop-i-preserved : goal.write_pairs-loop-i-preserved
write_pairs-loop-i-preserved t c =
    let at-write-key = (goal.at.write_pairs-loop-i-preserved t c).After-write_key in
    let turn = write-pairs-turn t at-write-key in
    let past = c.in_ok-past.was in
    let within = (key-was turn past).within in
    let long = write-pairs-out t at-write-key in
    let joined = c.if-v in
    let turned = pair-past turn past (rw long c.requires.0.small) joined.at joined.to joined.out (elim joined.branch [
      | write_pairs-then-v+in_ok-past-2 w ↦ came-by (was w.write_composite.ensures w.in_ok-past-2.was) w.write_composite.auto.out w.at-is w.to-is w.out-is
      | write_pairs-else-v+in_ok-placed w ↦
          let leaf = write-pairs-values t (goal.at.write_pairs-loop-i-preserved t c).After-known_row-v (omega (arith, w.if-v.false)) in
          came-by (leaf-past w.leaf_row.ensures _ leaf c.if-depth-eq0.false w.in_ok-placed.was w.put_content-to.ensures) w.put_content-to.auto.out w.at-is w.to-is w.out-is
    ]) in
    let inv = c.loop-i.invariant in (
      record { asked = inv.0.asked; same = turned.0; inside = turned.1; capped = turned.2; long = turned.3 ∙ long },
      omega (arith, c.loop-i-test.true),
      at-write-key.write_key.auto.keys ∙ inv.2,
      within.2,
    )

pub write_pairs-returns : goal.write_pairs-returns
write_pairs-returns t c =
    let args = c.args in
    writing-done c.loop-i.invariant.0 (pairs-none args.t.a args.t.b (args.n - c.loop-i.i) (omega (arith, c.loop-i-test.false)))

pub write_run-write_structs-requires : goal.write_run-write_structs-requires
write_run-write_structs-requires t c =
    let args = c.args in
    let asked = c.requires in
    let h = c.requires in
    let s = args.rows.now.schema.bytes.now in (
      omega (arith, c.decreases, h.3),
      (
        (
          onward h.0 h.0.inside h.0.capped refl (items-deeper _ _ (omega (arith, h.3)) _ _),
          shape-struct (table_of s) args.ty _ h.1 h.2,
        ),
        struct_row s c.args.rows.now.schema.good args.ty _ h.1 h.2,
      ),
    )

pub write_run-returns : goal.write_run-returns
write_run-returns t c = items-shallower _ _ (omega (arith, c.requires.3)) _ _ _ _ c.write_structs.ensures

pub write_struct-returns-in_err-says : goal.write_struct-returns-in_err-says
write_struct-returns-in_err-says t c = shown-refused _ _ _ _ (handed c.from_residual.ensures.1) (row-absent c.row_due.ensures _ _ _ c.in_err-says.was)

pub write_struct-returns-in_err-known : goal.write_struct-returns-in_err-known
write_struct-returns-in_err-known t c = shown-refused _ _ _ _ (handed c.from_residual-in_err-known.ensures.1) (struct-fault (write-struct-head t (goal.at.write_struct-returns-in_err-known t c).After-struct_bits) c.in_err-known.was _)

pub write_struct-write_fields-requires : goal.write_struct-write_fields-requires
write_struct-write_fields-requires t c =
    let at-struct-bits = (goal.at.write_struct-write_fields-requires t c).After-struct_bits in
    let asked = at-struct-bits.requires in
    let h = asked.n_nonzero in
    let put-bits = c.put_bits-next in
    let bits = c.in_ok-known.was in
    let head = write-struct-head t at-struct-bits in (
      omega (arith, c.decreases),
      (
        onward asked.ready.0 (omega (arith, head.inside)) put-bits.ensures.capped put-bits.auto.out (parts-accepted (struct-found head bits) _),
        (h.1, head-fits head bits, h.2),
      ),
    )

pub write_struct-returns : goal.write_struct-returns
write_struct-returns t c =
    let at-struct-bits = (goal.at.write_struct-returns t c).After-struct_bits in
    let asked = at-struct-bits.requires in
    let start = struct-start (write-struct-head t at-struct-bits) c.in_ok-known.was _ asked.ready.0.small c.put_bits-next.ensures in
    renamed start c.write_fields.ensures

pub write_structs-required_of-required-requires : goal.write_structs-required_of-required-requires
write_structs-required_of-required-requires t c =
    let asked = c.requires in
    let good = c.args.rows.now.schema.good in
    (good, c.layout.ensures, asked.n_nonzero.1, asked.n_nonzero.2)

pub write_structs-write_struct-requires : goal.write_structs-write_struct-requires
write_structs-write_struct-requires t c =
    let asked = c.requires in
    let h = asked.n_nonzero in (
      omega (arith, c.decreases),
      (
        (writing-ready c.loop.invariant (elements-more _ c.loop-test.true), asked.ready.1),
        (h.0, h.1, h.2, c.required_of-required.ensures),
      ),
    )

pub write_structs-returns-in_err-past : goal.write_structs-returns-in_err-past
write_structs-returns-in_err-past t c = writing-stop c.loop.invariant (elements-more _ c.loop-test.true) c.write_struct.ensures c.in_err-past.was (handed c.from_residual.ensures.1)

pub write_structs-loop-preserved : goal.write_structs-loop-preserved
write_structs-loop-preserved t c = writing-on c.loop.invariant (elements-more _ c.loop-test.true) c.write_struct.ensures c.in_ok-past.was c.write_struct.auto.out

pub write_structs-returns : goal.write_structs-returns
write_structs-returns t c = writing-done c.loop.invariant (elements-none _ (c.args.count - c.loop.counter) (omega (arith, c.loop-test.false)))

pub write_value-returns-then-depth-eq0 : goal.write_value-returns-then-depth-eq0
write_value-returns-then-depth-eq0 t c = shown-refused _ _ _ _ c.at.ensures (show-deep _ _ _ _ _ c.if-depth-eq0.true)

pub write_value-leaf_row-requires : goal.write_value-leaf_row-requires
write_value-leaf_row-requires t c =
    let asked = c.requires in
    λ j. leaf-accepted _ _ c.if-depth-eq0.false _ _ (write-value-leaf t (goal.at.write_value-leaf_row-requires t c).Else-kind) (asked.0.judged j)

pub write_value-returns-in_err-placed : goal.write_value-returns-in_err-placed
write_value-returns-in_err-placed t c =
    shown-refused _ _ _ _ (handed c.from_residual.ensures.1) (leaf-failed c.leaf_row.ensures _ (write-value-leaf t (goal.at.write_value-returns-in_err-placed t c).Else-kind) c.if-depth-eq0.false c.in_err-placed.was)

pub write_value-returns : goal.write_value-returns
write_value-returns t c = leaf-past c.leaf_row.ensures _ (write-value-leaf t (goal.at.write_value-returns t c).Else-kind) c.if-depth-eq0.false c.in_ok-placed.was c.put_content-next.ensures
