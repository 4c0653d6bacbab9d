-- `flat::maps::leaf_pairs` meets its contract. The invariant: what is left of the pairs gives the same end, whatever is shown, and where keys are
-- judged those behind are kept.
use mathlib.Core.Path.{refl, ap, ◌∙◌}
use Prim.Native.Nat.{◌+◌}
use native.Mathlib.Omega.{arith}
use Rattle.walks.specs.Shape.{shape_in}
use Rattle.flat.proofs.Pairs.{Midway, along-first, along-end, along-deep, key-asked, key-room, key-failed, key-past, leaf-stops, leaf-turn}
use Rattle.flat.proofs.Steps.{IsLeaf, is_leaf, leaf-asked}
use Rattle.flat.proofs.Turns.{Any}
use Rattle.flat.proofs.maps.leaf_pairs.Goals.{After-known_row-v, In_ok-key_content}
use Rattle.flat.specs.Told.{told_span}
use Rattle.std.proofs.lemmas.Result.{err_from_is_err_and}
use Rattle.flat.proofs.maps.leaf_pairs.Goals as goal

-- After a pair's key.
keyed : (c : In_ok-key_content) →
    let args = c.args in
    Midway Any args.source.now.schema.bytes.now args.source.now.payload.now args.depth args.m.ty args.m.key args.m.val args.n args.start args.row args.source.now.judging args.sheet.now
    c.next_key.new.keys c.loop-i.i c.in_ok-key_content.key_content.to 0 (c.loop-i.below + 1) c.next_key.new.sheet
keyed c = key-past c.loop-i.invariant.0 c.loop-i-test.true c.if-depth-eq0.false c.known_row-k.ensures c.next_key.ensures (ap told_span c.in_ok-key_content.was)

-- The type of the values.
leaf : (c : After-known_row-v) → let args = c.args in IsLeaf args.source.now.schema.bytes.now args.m.val c.known_row-v.result
leaf c =
    let pre = c.requires.kind_nonzero in
    let is = c.known_row-v.ensures in
    is_leaf is (rw is pre.0) (rw is pre.1)

pub loop-i-init : goal.loop-i-init
loop-i-init c = let c8 = c in (along-first c8.requires.pairs_ready.0 (shape_in c8.args.source.now.schema.bytes.now) tt _ _, refl)

pub returns-then-depth-eq0 : goal.returns-then-depth-eq0
returns-then-depth-eq0 c = rw c.at.ensures λ R. along-deep c.loop-i.invariant.0 c.loop-i-test.true c.if-depth-eq0.true R tt

pub next_key-requires : goal.next_key-requires
next_key-requires c =
    let loop = c in
    let inv = loop.loop-i.invariant in
    let some = c.loop-i-test.true in
    let k = loop.known_row-k.ensures in
    let d0 = c.if-depth-eq0.false in
    let pre = loop.requires.pairs_ready in
    let asked = key-asked inv.0 some d0 k in
    record { p_len_bound = (asked.1, asked.2, asked.3, asked.4, asked.5); i_in_bounds = key-room inv.0 some d0 k inv.1 pre.1 }

pub returns-in_err-key_content : goal.returns-in_err-key_content
returns-in_err-key_content c =
    let (_, is, same) = err_from_is_err_and c.from_residual.result c.from_residual.ensures.1 in
    rw (is, same)
    (λ R. key-failed c.loop-i.invariant.0 c.loop-i-test.true c.if-depth-eq0.false c.known_row-k.ensures c.next_key.ensures (ap told_span c.in_err-key_content.was) R tt)

pub content-requires : goal.content-requires
content-requires c =
    let at = goal.at.content-requires c in
    leaf-asked (leaf at.After-known_row-v) c.if-depth-eq0.false (keyed at.In_ok-key_content).ready

pub returns-in_err-content : goal.returns-in_err-content
returns-in_err-content c =
    let at = goal.at.returns-in_err-content c in
    let (_, is, same) = err_from_is_err_and c.from_residual-in_err-content.result c.from_residual-in_err-content.ensures.1 in
    rw (is, same)
    (λ R. leaf-stops (keyed at.In_ok-key_content) c.if-depth-eq0.false (leaf at.After-known_row-v) c.content.ensures (ap told_span c.in_err-content.was) R tt)

pub loop-i-preserved : goal.loop-i-preserved
loop-i-preserved c =
    let at = goal.at.loop-i-preserved c in (
      leaf-turn (keyed at.In_ok-key_content) c.if-depth-eq0.false (leaf at.After-known_row-v) c.content.ensures (ap told_span c.in_ok-content.was) (omega arith) c.put_row.ensures,
      c.next_key.auto.keys ∙ c.loop-i.invariant.1,
    )

pub returns : goal.returns
returns c = λ R. along-end c.loop-i.invariant.0 (omega (arith, c.loop-i-test.false)) c.put_row-2.ensures (omega (arith, c.key_comparisons.ensures)) R tt
