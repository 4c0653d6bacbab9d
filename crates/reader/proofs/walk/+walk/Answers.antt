-- The proof of the cycle of walkers. A composite is given the depth of what it holds, so the measure is eight times the depth, and so much more as each walker calls others at
-- the same depth: nothing for a field, one for a loop, two and more for what hands on to a loop, six for the choice between arrays, maps and structs.
use Rattle.std.proofs.lemmas.Result.{IfErr-at_err}
use mathlib.Core.Path.{◌≡◌, refl, ap, ◌∙◌}
use mathlib.Core.Logic.{inl}
use mathlib.Core.List.{List}
use Prim.Native.Nat.{ℕ, suc, ◌+◌, ◌-◌, ◌≤◌, ◌<◌}
use native.Mathlib.Omega.{arith}
use Rattle.schema.specs.Table.{Shape, unknown, array, map, shape}
use Rattle.schema.specs.File.{table_of}
use Rattle.schema.specs.Check.{field_row_of}
use Rattle.flat.specs.Span.{Span}
use Rattle.flat.specs.Head.{Bits}
use Rattle.flat.specs.Told.{told_count, told_span, told_head, told_walk}
use Rattle.flat.specs.Walk.{Walk, told, value_in, Walked, Valued}
use Rattle.reader.proofs.Told.{exit}
use Rattle.flat.proofs.Steps.{as_refused, parse-refused, parse-deep}
use Rattle.flat.proofs.Composites.{own-comparisons}
use Rattle.flat.proofs.Pairs.{Midway, along-first, along-end, along-deep, key-asked, key-room, key-failed, key-past, value-below, value-failed, along-turn}
use Rattle.flat.proofs.Turns.{flat-leaf, leaf-shown, reading-below, reading-deep, reading-end, reading-on, reading-stop}
use Rattle.walks.proofs.Items.{elements-none, elements-more}
use Rattle.walks.specs.Shape.{shape_in}
use Rattle.walks.proofs.Tables.{few-fields, array_row, shape-array, shape-past}
use Rattle.reader.proofs.Calls.{Entered, array-stop, array-few, array-entered, part_type, part-shown, leaf-pairs, map-shown, map-stop, map-long, map-bare, map-entered, map-kinds}
use Rattle.reader.proofs.Calls.{By, pairs-ready, value-told}
use Rattle.reader.proofs.Calls.{field_below, field_told}
use Rattle.reader.proofs.Childless.{childless-asked, childless-stop, childless-past, childless-ready, childless-valued}
use Rattle.reader.specs.Childless.{IsChildless, ChildlessReady, ChildlessRead, walk_of_span}
use Rattle.parse.specs.Reader.{cursor_at}
use Rattle.reader.proofs.Structs.{struct-asked, struct-stop, struct-other, struct-ready, struct-shown, type-few, all_shown, passing-absent, passing-kind, passing-ready, passing-stop}
use Rattle.reader.proofs.Structs.{passing-read, passing-end, Halved, ours-ready, ours-stop, added-ready, added-stop, added-past, others-ready}
use Rattle.reader.proofs.walk.+walk.Goals.{read_array-After-type_row-t, read_composites-After-read_composite, read_field-After-read_composite, read_field-Else-t, read_map-Else-n-gt-MOST_PAIRS, read_pairs-In_ok-key_content, read_pairs-else-needs_walker+in_ok-content, read_pairs-then-needs_walker+in_ok-past, read_fields-else-bits-eq1, read_fields-then-bits-eq1+in_ok-past, read_struct-In_ok-bits, read_shown_fields-After-low_bits-mine}
use Rattle.reader.proofs.walk.+walk.Goals as goal

-- After the row of the elements' type.
entered : (t : ℕ) (c : read_array-After-type_row-t t) →
    let args = c.args in
    let is = c.in_ok-count.count in
    Entered args.view.now.shown.now args.view.now.source.schema.bytes.now args.view.now.source.payload.now args.depth args.ty (array args.elem) args.at args.row is.n is.start args.view.now.source.judging × (is.n ≤ 16384)
entered t c =
    let args = c.args in
    let asked = c.requires in
    let read = c.read_count.ensures.told in
    let n = ap told_count c.in_ok-count.was in
    (array-entered args.depth args.ty asked.0 asked.1 read args.view.now.shown.now n, array-few args.depth args.ty asked.0 asked.1 read args.view.now.shown.now n)

-- After an element.
element-read : (t : ℕ) (c : read_composites-After-read_composite t) →
    let args = c.args in
    let loop = c.loop in
    (R : ℕ → Shape) → By args.view.now.shown.now args.view.now.source.schema.bytes.now R
    → Walked args.view.now.source.payload.now (loop.here + 1) (told R (shape_in args.view.now.source.schema.bytes.now) args.elem) (value_in args.view.now.source.schema.bytes.now
    args.view.now.source.payload.now args.depth args.elem loop.here) loop.below
    loop.sheet (told_walk c.read_composite.result) c.read_composite.new.sheet
element-read t c =
    let args = c.args in
    value-told args.view.now.shown.now args.view.now.source.schema.bytes.now args.depth args.elem _ c.if-depth-eq0.false c.read_composite.ensures refl refl

-- A field that is a scalar, a string or bytes: what is asked before it is read, and what its answer tells.
abbrev Leaf : ℕ → Type 0
Leaf t = read_field-Else-t t

leaf-ready : (t : ℕ) (c : Leaf t) → let args = c.args in ChildlessReady args.view.now.source.payload.now c.known_row-t.result args.at args.row args.view.now.source.judging
leaf-ready t c =
    let args = c.args in
    let field = c.field_row-ty in
    childless-ready args.view.now.source.schema.bytes.now (args.depth - 1) field.result.ty c.known_row-t.ensures (rw field.ensures c.requires.2) (inl (omega (arith, c.if-t.false)))
    (field_below args.view.now.source.schema.bytes.now args.depth args.at field.ensures c.if-depth-eq0.false c.requires.0)

leaf-told : (t : ℕ) (c : Leaf t) {l : List ℕ} {r : Span} {m : List ℕ} →
    let args = c.args in
    ChildlessRead args.view.now.source.payload.now c.field_row-ty.result.ty c.known_row-t.result args.at args.row l r m
    → Valued args.view.now.shown.now args.view.now.source.schema.bytes.now args.view.now.source.payload.now args.depth (field_row_of (table_of args.view.now.source.schema.bytes.now) args.i).ty args.at args.row l (walk_of_span args.row r) m
leaf-told t c read =
    let args = c.args in
    let field = c.field_row-ty in
    field_told args.view.now.source.schema.bytes.now args.depth args.at field.ensures c.if-depth-eq0.false args.view.now.shown.now
    (childless-valued args.view.now.source.schema.bytes.now (args.depth - 1) field.result.ty c.known_row-t.ensures (rw field.ensures c.requires.2) (inl (omega (arith, c.if-t.false)))
    args.view.now.shown.now read)

-- After the count of a map of at most 64 pairs.
opened : (t : ℕ) (c : read_map-Else-n-gt-MOST_PAIRS t) →
    let args = c.args in
    let is = c.in_ok-count.count in
    Entered args.view.now.shown.now args.view.now.source.schema.bytes.now args.view.now.source.payload.now args.depth args.ty (map args.t.a args.t.b) args.at args.row is.n is.start args.view.now.source.judging
opened t c =
    let args = c.args in
    map-entered args.depth args.ty c.requires c.map_count.ensures.told args.view.now.shown.now (ap told_count c.in_ok-count.was) c.if-n-gt-MOST_PAIRS.false

-- After a pair's key, and after its value by either way to read it.
abbrev Keyed : ℕ → Type 0
Keyed t = read_pairs-In_ok-key_content t

keyed : (t : ℕ) (c : Keyed t) →
    let args = c.args in
    let loop = c.loop-i in
    let key = c.read_key in
    Midway (By args.view.now.shown.now args.view.now.source.schema.bytes.now) args.view.now.source.schema.bytes.now args.view.now.source.payload.now args.depth args.m.ty args.m.key args.m.val args.n args.start args.row args.view.now.source.judging
    args.sheet.now key.new.keys loop.i c.in_ok-key_content.key_content.to loop.sum (loop.below + 1) key.new.sheet
keyed t c = key-past c.loop-i.invariant.0 c.loop-i-test.true c.if-depth-eq0.false c.known_row-k.ensures c.read_key.ensures (ap told_span c.in_ok-key_content.was)

walked : (t : ℕ) (c : Keyed t) {r : Walk} {m : List ℕ} →
    let args = c.args in
    let below = c.loop-i.below + 1 in
    let to = c.in_ok-key_content.key_content.to in
    Valued args.view.now.shown.now args.view.now.source.schema.bytes.now args.view.now.source.payload.now (suc (args.depth - 1)) args.m.val to below c.read_key.new.sheet r m
    → (R : ℕ → Shape) → By args.view.now.shown.now args.view.now.source.schema.bytes.now R
    → Walked args.view.now.source.payload.now (to + 1) (told R (shape_in args.view.now.source.schema.bytes.now) args.m.val) (value_in args.view.now.source.schema.bytes.now
    args.view.now.source.payload.now args.depth args.m.val to) below c.read_key.new.sheet r m
walked t c read =
    let args = c.args in
    value-told args.view.now.shown.now args.view.now.source.schema.bytes.now args.depth args.m.val _ c.if-depth-eq0.false read refl refl

childless : (t : ℕ) (c : Keyed t) {r : Span} {m : List ℕ} →
    let args = c.args in
    let below = c.loop-i.below + 1 in
    let to = c.in_ok-key_content.key_content.to in
    IsChildless args.view.now.source.payload.now c.known_row-v.result.kind to
    → ChildlessRead args.view.now.source.payload.now args.m.val c.known_row-v.result to below c.read_key.new.sheet r m
    → (R : ℕ → Shape) → By args.view.now.shown.now args.view.now.source.schema.bytes.now R
    → Walked args.view.now.source.payload.now (to + 1) (told R (shape_in args.view.now.source.schema.bytes.now) args.m.val) (value_in args.view.now.source.schema.bytes.now
    args.view.now.source.payload.now args.depth args.m.val to) below c.read_key.new.sheet
    (walk_of_span below r) m
childless t c plain read =
    let args = c.args in
    walked t c (childless-valued args.view.now.source.schema.bytes.now (args.depth - 1) args.m.val c.known_row-v.ensures c.requires.kind_nonzero.2 plain args.view.now.shown.now read)

-- After a struct's bitmap.
bits-read : (t : ℕ) (c : read_struct-In_ok-bits t) → let b = c.in_ok-bits.bits in told_head c.presence.result ≡ Bits b.word b.known b.ones b.unknown b.start
bits-read t c = ap told_head c.in_ok-bits.was

halved : (t : ℕ) (c : read_shown_fields-After-low_bits-mine t)
    → let a = c.args in
    Halved a.view.now.shown.now a.view.now.source.schema.bytes.now a.view.now.source.payload.now a.depth a.f a.row a.view.now.source.judging c.shown_of-m.result c.low_bits-mine.result
halved t c =
    let asked = c.requires in
    record { asked = asked.0; typed = asked.1; few = asked.2; same = c.shown_of-m.ensures; bits = c.low_bits-mine.ensures }

pub read_added-overflow_add-added : goal.read_added-overflow_add-added
read_added-overflow_add-added t c = let asked = c.requires.ready_for in omega (arith, few-fields _ asked.ready.good, asked.in_table, c.shown_of-m.ensures)

pub read_added-read_fields-requires : goal.read_added-read_fields-requires
read_added-read_fields-requires t c =
    let args = c.args in
    (omega arith, others-ready args.f args.view.now.shown.now c.shown_of-m.ensures args.at c.requires.ready_for c.low_bits-rest.ensures c.ones_in.ensures)

pub read_array-elements_of-requires : goal.read_array-elements_of-requires
read_array-elements_of-requires t c =
    let row = (goal.at.read_array-elements_of-requires t c).After-type_row-t in
    let is = row.type_row-t.ensures in
    ((entered t row).0.ready, flat-leaf _ c.args.depth c.args.elem row.type_row-t.result is (rw is c.requires.2) c.if-t.true, (entered t row).1)

pub read_array-returns-then-t : goal.read_array-returns-then-t
read_array-returns-then-t t c =
    let row = (goal.at.read_array-returns-then-t t c).After-type_row-t in
    let args = c.args in
    let is = row.type_row-t.ensures in
    (entered t row).0.held
    (c.elements_of.ensures _ (leaf-shown args.view.now.source.schema.bytes.now args.depth args.elem row.type_row-t.result is (rw is c.requires.2) c.if-t.true args.view.now.shown.now))

pub read_array-elements_of-requires-then-is_flat : goal.read_array-elements_of-requires-then-is_flat
read_array-elements_of-requires-then-is_flat t c = let row = (goal.at.read_array-elements_of-requires-then-is_flat t c).After-type_row-t in ((entered t row).0.ready, (c.is_flat.ensures c.if-is_flat.true).0, (entered t row).1)

pub read_array-returns-then-is_flat : goal.read_array-returns-then-is_flat
read_array-returns-then-is_flat t c = (entered t (goal.at.read_array-returns-then-is_flat t c).After-type_row-t).0.held (c.elements_of-then-is_flat.ensures _ (c.is_flat.ensures c.if-is_flat.true).1)

pub read_array-shown_of-requires : goal.read_array-shown_of-requires
read_array-shown_of-requires t c = part_type c.args.view.now.source.schema.bytes.now c.args.elem c.requires.0.good (c.is_partly_shown.ensures c.if-is_partly_shown.true).1

pub read_array-partial_structs-requires : goal.read_array-partial_structs-requires
read_array-partial_structs-requires t c =
    let row = (goal.at.read_array-partial_structs-requires t c).After-type_row-t in
    let part = c.is_partly_shown.ensures c.if-is_partly_shown.true in
    record { ready = ((entered t row).0.ready, part.0, (entered t row).1); first_value = (part.1, rw c.shown_of.ensures part.2) }

pub read_array-returns-then-is_partly_shown : goal.read_array-returns-then-is_partly_shown
read_array-returns-then-is_partly_shown t c =
    let row = (goal.at.read_array-returns-then-is_partly_shown t c).After-type_row-t in
    let args = c.args in
    let part = c.is_partly_shown.ensures c.if-is_partly_shown.true in
    let shown = part-shown args.view.now.source.schema.bytes.now args.elem c.requires.0.good part.1 args.view.now.shown.now c.shown_of.ensures part.2 in
    (entered t row).0.held (c.partial_structs.ensures _ shown)

pub read_array-maps_of-requires : goal.read_array-maps_of-requires
read_array-maps_of-requires t c =
    let row = (goal.at.read_array-maps_of-requires t c).After-type_row-t in
    let leaves = c.holds_leaves.ensures c.if-holds_leaves.true in
    let pairs = leaf-pairs c.args.view.now.source.schema.bytes.now c.args.elem c.requires.0.good row.type_row-t.ensures leaves.0 leaves.1 in
    record { ready = ((entered t row).0.ready, pairs.0, (entered t row).1); pairs_in = pairs.1 }

pub read_array-returns-then-holds_leaves : goal.read_array-returns-then-holds_leaves
read_array-returns-then-holds_leaves t c =
    let row = (goal.at.read_array-returns-then-holds_leaves t c).After-type_row-t in
    let args = row.args in
    let shown = map-shown args.view.now.shown.now args.view.now.source.schema.bytes.now args.elem _ row.type_row-t.ensures (c.holds_leaves.ensures c.if-holds_leaves.true).0 in
    (entered t row).0.held (c.maps_of.ensures _ shown)

pub read_array-read_composites-requires : goal.read_array-read_composites-requires
read_array-read_composites-requires t c =
    let row = (goal.at.read_array-read_composites-requires t c).After-type_row-t in
    (omega (arith, row.decreases), (((entered t row).0.ready, (entered t row).1), rw (← row.type_row-t.ensures) c.if-t.false))

pub read_array-returns-in_err-count : goal.read_array-returns-in_err-count
read_array-returns-in_err-count t c =
    let placed = IfErr-at_err (λ e. e.place ≡ c.args.at) c.in_err-count.was c.read_count.ensures.place in
    rw (exit c.from_residual.result c.from_residual.ensures.1, placed)
    (array-stop c.args.depth c.args.ty c.requires.0 c.requires.1 c.read_count.ensures.told c.args.view.now.shown.now (ap told_count c.in_err-count.was))

pub read_array-returns : goal.read_array-returns
read_array-returns t c = (entered t (goal.at.read_array-returns t c).After-type_row-t).0.held c.read_composites.ensures

pub read_composite-read_array-requires : goal.read_composite-read_array-requires
read_composite-read_array-requires t c =
    let args = c.args in
    let asked = c.requires in
    let T = table_of args.view.now.source.schema.bytes.now in
    let pre = asked.0 in
    let kind = c.if-t.true in
    (omega arith, (pre, shape-array T args.ty _ asked.1 kind, array_row args.view.now.source.schema.bytes.now pre.good args.ty _ asked.1 kind))

pub read_composite-returns : goal.read_composite-returns
read_composite-returns t c =
    let args = c.args in
    let asked = c.requires in
    let T = table_of args.view.now.source.schema.bytes.now in
    let S = shape T in
    let past : 16 < args.t.kind = omega (arith, asked.2, c.if-t.false, c.if-t-2.false, c.if-t-3.false) in
    rw c.at.ensures (as_refused _ _ _ (parse-refused S args.depth args.ty (cursor_at args.view.now.source.payload.now args.at) unknown (shape-past T args.ty _ asked.1 past) 42 0 refl))

pub read_composites-returns-then-depth-eq0 : goal.read_composites-returns-then-depth-eq0
read_composites-returns-then-depth-eq0 t c = rw c.at.ensures (reading-deep c.loop.invariant (elements-more _ c.loop-test.true) c.if-depth-eq0.true _ refl)

pub read_composites-read_composite-requires : goal.read_composites-read_composite-requires
read_composites-read_composite-requires t c =
    let d0 = c.if-depth-eq0.false in
    let is = c.known_row-t.ensures in
    (omega (arith, c.decreases, d0), (reading-below c.loop.invariant (elements-more _ c.loop-test.true) d0, is, rw is c.requires.bound))

pub read_composites-returns-in_err-past : goal.read_composites-returns-in_err-past
read_composites-returns-in_err-past t c =
    let call = (goal.at.read_composites-returns-in_err-past t c).After-read_composite in
    rw (exit c.from_residual.result c.from_residual.ensures.1)
    (reading-stop call.loop.invariant (elements-more _ call.loop-test.true) (element-read t call) (ap told_walk c.in_err-past.was) _ refl)

pub read_composites-loop-preserved : goal.read_composites-loop-preserved
read_composites-loop-preserved t c =
    let call = (goal.at.read_composites-loop-preserved t c).After-read_composite in
    reading-on call.loop.invariant (elements-more _ call.loop-test.true) (element-read t call) (ap told_walk c.in_ok-past.was)

pub read_composites-returns : goal.read_composites-returns
read_composites-returns t c =
    let inv = c.loop.invariant in
    reading-end inv (elements-none _ _ (omega (arith, c.loop-test.false))) c.put_row.ensures (omega arith) inv.forth _ refl

pub read_field-returns-then-depth-eq0 : goal.read_field-returns-then-depth-eq0
read_field-returns-then-depth-eq0 t c =
    let args = c.args in
    rw c.at.ensures (as_refused _ _ _ (parse-deep (shape_in args.view.now.source.schema.bytes.now) args.depth _ (cursor_at args.view.now.source.payload.now args.at) c.if-depth-eq0.true))

pub read_field-content-requires : goal.read_field-content-requires
read_field-content-requires t c = childless-asked (leaf-ready t (goal.at.read_field-content-requires t c).Else-t) c.if-t.false

pub read_field-returns-in_err-content : goal.read_field-returns-in_err-content
read_field-returns-in_err-content t c =
    let leaf = (goal.at.read_field-returns-in_err-content t c).Else-t in
    rw (exit c.from_residual.result c.from_residual.ensures.1)
    (leaf-told t leaf (childless-stop (leaf-ready t leaf) c.if-t.false c.content.ensures (ap told_span c.in_err-content.was)))

pub read_field-returns : goal.read_field-returns
read_field-returns t c =
    let leaf = (goal.at.read_field-returns t c).Else-t in
    leaf-told t leaf (childless-past (leaf-ready t leaf) c.if-t.false c.content.ensures (ap told_span c.in_ok-content.was) c.put_row.ensures)

pub read_fields-overflow_add-i-end : goal.read_fields-overflow_add-i-end
read_fields-overflow_add-i-end t c = let asked = c.requires.0 in omega (arith, few-fields _ asked.ready.good, asked.in_table)

pub read_fields-read_field-requires : goal.read_fields-read_field-requires
read_fields-read_field-requires t c =
    let inv = c.loop-i.invariant in
    let some : 0 < c.args.f.first + c.args.f.n - c.loop-i.i = omega (arith, c.loop-i-test.true) in
    (omega arith, (passing-ready inv some c.if-bits-eq1.true, c.layout-l.ensures, passing-kind inv some))

pub read_fields-returns-in_err-past : goal.read_fields-returns-in_err-past
read_fields-returns-in_err-past t c =
    rw (exit c.from_residual.result c.from_residual.ensures.1)
    (passing-stop c.loop-i.invariant (omega (arith, c.loop-i-test.true)) c.if-bits-eq1.true c.read_field.ensures (ap told_walk c.in_err-past.was))

pub read_fields-loop-i-preserved : goal.read_fields-loop-i-preserved
read_fields-loop-i-preserved t c =
    let inv = c.loop-i.invariant in
    let f = c.args.f in
    let some : 0 < f.first + f.n - c.loop-i.i = omega (arith, c.loop-i-test.true) in
    let next : f.first + f.n - (c.loop-i.i + 1) ≡ f.first + f.n - c.loop-i.i - 1 = omega arith in
    rw next (elim c.if-bits-eq1.branch [
      | read_fields-then-bits-eq1+in_ok-past w ↦ passing-read inv some w.if-bits-eq1.true w.read_field.ensures (ap told_walk w.in_ok-past.was) w.here-is w.sum-is w.below-is w.sheet-is
      | read_fields-else-bits-eq1 w ↦ passing-absent inv some w.if-bits-eq1.false w.here-is w.sum-is w.below-is w.sheet-is
    ])

pub read_fields-returns : goal.read_fields-returns
read_fields-returns t c = passing-end c.loop-i.invariant c.requires.1 (omega (arith, c.loop-i-test.false)) c.put_row.ensures

pub read_map-returns-then-n-gt-MOST_PAIRS : goal.read_map-returns-then-n-gt-MOST_PAIRS
read_map-returns-then-n-gt-MOST_PAIRS t c =
    rw c.at.ensures (map-long c.args.depth c.args.ty c.requires c.map_count.ensures.told c.args.view.now.shown.now (ap told_count c.in_ok-count.was) c.if-n-gt-MOST_PAIRS.true)

pub read_map-returns-then-n-eq0 : goal.read_map-returns-then-n-eq0
read_map-returns-then-n-eq0 t c =
    let args = c.args in
    map-bare args.depth args.ty c.requires c.map_count.ensures.told args.view.now.shown.now (ap told_count c.in_ok-count.was) c.if-n-eq0.true c.put_row.ensures

pub read_map-read_pairs-requires : goal.read_map-read_pairs-requires
read_map-read_pairs-requires t c =
    let few = (goal.at.read_map-read_pairs-requires t c).Else-n-gt-MOST_PAIRS in
    let kinds = map-kinds c.args.depth c.args.ty c.requires few.map_count.ensures.told c.args.view.now.shown.now (ap told_count few.in_ok-count.was) few.if-n-gt-MOST_PAIRS.false in
    (omega (arith, c.decreases), ((opened t few).ready, (kinds (omega (arith, c.if-n-eq0.false)), λ j. omega (arith, c.if-n-le-TWO_KEYS.true))))

pub read_map-returns-then-n-le-TWO_KEYS : goal.read_map-returns-then-n-le-TWO_KEYS
read_map-returns-then-n-le-TWO_KEYS t c = (opened t (goal.at.read_map-returns-then-n-le-TWO_KEYS t c).Else-n-gt-MOST_PAIRS).held c.read_pairs.ensures

pub read_map-read_more_pairs-requires : goal.read_map-read_more_pairs-requires
read_map-read_more_pairs-requires t c =
    let few = (goal.at.read_map-read_more_pairs-requires t c).Else-n-gt-MOST_PAIRS in
    let kinds = map-kinds c.args.depth c.args.ty c.requires few.map_count.ensures.told c.args.view.now.shown.now (ap told_count few.in_ok-count.was) few.if-n-gt-MOST_PAIRS.false in
    (omega (arith, c.decreases), ((opened t few).ready, kinds (omega (arith, c.if-n-eq0.false))))

pub read_map-returns-in_err-count : goal.read_map-returns-in_err-count
read_map-returns-in_err-count t c =
    let placed = IfErr-at_err (λ e. e.place ≡ c.args.at) c.in_err-count.was c.map_count.ensures.place in
    rw (exit c.from_residual.result c.from_residual.ensures.1, placed)
    (map-stop c.args.depth c.args.ty c.requires c.map_count.ensures.told c.args.view.now.shown.now (ap told_count c.in_err-count.was))

pub read_map-returns : goal.read_map-returns
read_map-returns t c = (opened t (goal.at.read_map-returns t c).Else-n-gt-MOST_PAIRS).held c.read_more_pairs.ensures

pub read_pairs-loop-i-init : goal.read_pairs-loop-i-init
read_pairs-loop-i-init t c = let asked = c.requires in (along-first (pairs-ready (asked.ready, (asked.kind_nonzero, asked.n_in_bounds))) _ refl _ _, refl)

pub read_pairs-returns-then-depth-eq0 : goal.read_pairs-returns-then-depth-eq0
read_pairs-returns-then-depth-eq0 t c = rw c.at.ensures (along-deep c.loop-i.invariant.0 c.loop-i-test.true c.if-depth-eq0.true _ refl)

pub read_pairs-read_key-requires : goal.read_pairs-read_key-requires
read_pairs-read_key-requires t c =
    let asked = c.requires in
    let some = c.loop-i-test.true in
    let d0 = c.if-depth-eq0.false in
    let k = c.known_row-k.ensures in
    record { p_len_bound = key-asked c.loop-i.invariant.0 some d0 k; i_in_bounds = key-room c.loop-i.invariant.0 some d0 k c.loop-i.invariant.1 asked.n_in_bounds }

pub read_pairs-returns-in_err-key_content : goal.read_pairs-returns-in_err-key_content
read_pairs-returns-in_err-key_content t c =
    rw (exit c.from_residual.result c.from_residual.ensures.1)
    (key-failed c.loop-i.invariant.0 c.loop-i-test.true c.if-depth-eq0.false c.known_row-k.ensures c.read_key.ensures (ap told_span c.in_err-key_content.was) _ refl)

pub read_pairs-read_composite-requires : goal.read_pairs-read_composite-requires
read_pairs-read_composite-requires t c =
    let v = c.known_row-v.ensures in
    let d0 = c.if-depth-eq0.false in
    (omega (arith, c.decreases, d0), (value-below (keyed t (goal.at.read_pairs-read_composite-requires t c).In_ok-key_content) d0, v, c.needs_walker.ensures.0 c.if-needs_walker.true))

pub read_pairs-returns-in_err-past : goal.read_pairs-returns-in_err-past
read_pairs-returns-in_err-past t c =
    let key = (goal.at.read_pairs-returns-in_err-past t c).In_ok-key_content in
    rw (exit c.from_residual-in_err-past.result c.from_residual-in_err-past.ensures.1) (value-failed (keyed t key) (walked t key c.read_composite.ensures) (ap told_walk c.in_err-past.was) _ refl)

pub read_pairs-read_childless-requires : goal.read_pairs-read_childless-requires
read_pairs-read_childless-requires t c =
    let args = c.args in
    let v = c.known_row-v.ensures in
    let plain = c.needs_walker.ensures.1 c.if-needs_walker.false in
    childless-ready args.view.now.source.schema.bytes.now (args.depth - 1) args.m.val v c.requires.kind_nonzero.2 plain (value-below (keyed t (goal.at.read_pairs-read_childless-requires t c).In_ok-key_content) c.if-depth-eq0.false)

pub read_pairs-returns-in_err-content : goal.read_pairs-returns-in_err-content
read_pairs-returns-in_err-content t c =
    let key = (goal.at.read_pairs-returns-in_err-content t c).In_ok-key_content in
    let plain = c.needs_walker.ensures.1 c.if-needs_walker.false in
    rw (exit c.from_residual-in_err-content.result c.from_residual-in_err-content.ensures.1)
    (value-failed (keyed t key) (childless t key plain c.read_childless.ensures) (ap (λ r. walk_of_span (c.loop-i.below + 1) (told_span r)) c.in_err-content.was) _ refl)

pub read_pairs-loop-i-preserved : goal.read_pairs-loop-i-preserved
read_pairs-loop-i-preserved t c =
    let loop = c.loop-i in
    let key = (goal.at.read_pairs-loop-i-preserved t c).In_ok-key_content in (
      elim c.if-needs_walker.branch [
        | read_pairs-then-needs_walker+in_ok-past w ↦ rw (w.sheet-is, w.here-is, w.below-is, w.sum-is) (along-turn (keyed t key) (walked t key w.read_composite.ensures) (ap told_walk w.in_ok-past.was))
        | read_pairs-else-needs_walker+in_ok-content w ↦
            let plain = c.needs_walker.ensures.1 w.if-needs_walker.false in
            let none : loop.sum ≡ loop.sum + 0 = omega arith in
            rw (w.sheet-is, w.here-is, w.below-is, w.sum-is ∙ none) (along-turn (keyed t key) (childless t key plain w.read_childless.ensures) (ap (λ r. walk_of_span (loop.below + 1) (told_span r)) w.in_ok-content.was))
      ],
      c.read_key.auto.keys ∙ loop.invariant.1,
    )

pub read_pairs-returns : goal.read_pairs-returns
read_pairs-returns t c =
    let n = c.args.n in
    along-end c.loop-i.invariant.0 (omega (arith, c.loop-i-test.false)) c.put_row.ensures (omega (arith, own-comparisons n)) _ refl

pub read_shown_fields-shown_of-m-requires : goal.read_shown_fields-shown_of-m-requires
read_shown_fields-shown_of-m-requires t c = let asked = c.requires in type-few asked.0 asked.1

pub read_shown_fields-read_fields-requires : goal.read_shown_fields-read_fields-requires
read_shown_fields-read_fields-requires t c = (omega arith, ours-ready (halved t (goal.at.read_shown_fields-read_fields-requires t c).After-low_bits-mine) c.ones_in-ones.ensures)

pub read_shown_fields-read_added-requires : goal.read_shown_fields-read_added-requires
read_shown_fields-read_added-requires t c = (omega arith, added-ready (halved t (goal.at.read_shown_fields-read_added-requires t c).After-low_bits-mine) c.read_fields.ensures (ap told_walk c.in_ok-past.was))

pub read_shown_fields-returns-in_err-past : goal.read_shown_fields-returns-in_err-past
read_shown_fields-returns-in_err-past t c =
    rw (exit c.from_residual.result c.from_residual.ensures.1)
    (ours-stop (halved t (goal.at.read_shown_fields-returns-in_err-past t c).After-low_bits-mine) c.read_fields.ensures (ap told_walk c.in_err-past.was))

pub read_shown_fields-returns-in_err-added : goal.read_shown_fields-returns-in_err-added
read_shown_fields-returns-in_err-added t c =
    rw (exit c.from_residual-in_err-added.result c.from_residual-in_err-added.ensures.1)
    (added-stop (halved t (goal.at.read_shown_fields-returns-in_err-added t c).After-low_bits-mine) c.read_fields.ensures (ap told_walk c.in_ok-past.was) c.read_added.ensures.2
    (ap told_walk c.in_err-added.was))

pub read_shown_fields-returns : goal.read_shown_fields-returns
read_shown_fields-returns t c =
    added-past (halved t (goal.at.read_shown_fields-returns t c).After-low_bits-mine) c.read_fields.ensures (ap told_walk c.in_ok-past.was) c.read_added.ensures.2 (ap told_walk c.in_ok-added.was)
    c.ones_in-ones.ensures.0 c.put_row.ensures

pub read_struct-presence-requires : goal.read_struct-presence-requires
read_struct-presence-requires t c =
    let asked = c.requires in
    struct-asked c.args.depth c.args.ty asked.0 asked.1 asked.2

pub read_struct-returns-then-bits-ne0 : goal.read_struct-returns-then-bits-ne0
read_struct-returns-then-bits-ne0 t c =
    let args = c.args in
    let asked = c.requires in
    rw c.at.ensures (struct-other args.depth args.ty asked.0 asked.1 asked.2 c.presence.ensures.told (bits-read t (goal.at.read_struct-returns-then-bits-ne0 t c).In_ok-bits) c.if-bits-ne0.true args.view.now.shown.now)

pub read_struct-shown_of-requires : goal.read_struct-shown_of-requires
read_struct-shown_of-requires t c =
    let args = c.args in
    let asked = c.requires in
    let read = c.presence.ensures.told in
    let bits = bits-read t (goal.at.read_struct-shown_of-requires t c).In_ok-bits in
    let f = struct-ready args.depth args.ty asked.0 asked.1 asked.2 read bits c.if-bits-ne0.false in
    type-few f.0 f.1

pub read_struct-read_shown_fields-requires : goal.read_struct-read_shown_fields-requires
read_struct-read_shown_fields-requires t c =
    let args = c.args in
    let asked = c.requires in
    let read = c.presence.ensures.told in
    let bits = bits-read t (goal.at.read_struct-read_shown_fields-requires t c).In_ok-bits in
    let f = struct-ready args.depth args.ty asked.0 asked.1 asked.2 read bits c.if-bits-ne0.false in
    (omega arith, (f.0, f.1, omega (arith, c.if-shown_of-n.true, c.shown_of.ensures)))

pub read_struct-returns-then-shown_of-n : goal.read_struct-returns-then-shown_of-n
read_struct-returns-then-shown_of-n t c =
    let args = c.args in
    let asked = c.requires in
    let read = c.presence.ensures.told in
    let bits = bits-read t (goal.at.read_struct-returns-then-shown_of-n t c).In_ok-bits in
    struct-shown args.depth args.ty asked.0 asked.1 asked.2 read bits c.if-bits-ne0.false args.view.now.shown.now c.read_shown_fields.ensures

pub read_struct-read_fields-requires : goal.read_struct-read_fields-requires
read_struct-read_fields-requires t c =
    let args = c.args in
    let asked = c.requires in
    let read = c.presence.ensures.told in
    let bits = bits-read t (goal.at.read_struct-read_fields-requires t c).In_ok-bits in
    let f = struct-ready args.depth args.ty asked.0 asked.1 asked.2 read bits c.if-bits-ne0.false in
    (omega arith, (f.0, f.2))

pub read_struct-returns-in_err-bits : goal.read_struct-returns-in_err-bits
read_struct-returns-in_err-bits t c =
    let args = c.args in
    let asked = c.requires in
    let placed = IfErr-at_err (λ e. e.place ≡ args.at) c.in_err-bits.was c.presence.ensures.place in
    rw (exit c.from_residual.result c.from_residual.ensures.1, placed)
    (struct-stop args.depth args.ty asked.0 asked.1 asked.2 c.presence.ensures.told (ap told_head c.in_err-bits.was) args.view.now.shown.now)

pub read_struct-returns : goal.read_struct-returns
read_struct-returns t c =
    let args = c.args in
    let asked = c.requires in
    let read = c.presence.ensures.told in
    let bits = bits-read t (goal.at.read_struct-returns t c).In_ok-bits in
    let f = struct-ready args.depth args.ty asked.0 asked.1 asked.2 read bits c.if-bits-ne0.false in
    struct-shown args.depth args.ty asked.0 asked.1 asked.2 read bits c.if-bits-ne0.false args.view.now.shown.now
    (all_shown f.0 args.view.now.shown.now f.1 (omega (arith, c.shown_of.ensures, c.if-shown_of-n.false)) c.read_fields.ensures)
