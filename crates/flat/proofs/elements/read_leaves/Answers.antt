-- `flat::elements::read_leaves` meets its contract. The invariant: what is left of the elements gives the same end, whatever is shown.
use mathlib.Core.Path.{refl, ap}
use Prim.Native.Nat.{◌-◌}
use Rattle.std.proofs.Math.Nat.{sub-zero}
use native.Mathlib.Omega.{arith}
use Rattle.walks.specs.Shape.{shape_in}
use Rattle.flat.proofs.Steps.{IsLeaf, is_leaf, leaf-asked, leaf-stop, leaf-past}
use Rattle.flat.proofs.Turns.{reading-deep, reading-end, reading-first, reading-on, reading-ready, reading-stop}
use Rattle.walks.proofs.Items.{elements-none, elements-more}
use Rattle.flat.proofs.elements.read_leaves.Goals.{After-type_row-t}
use Rattle.flat.specs.Told.{told_span}
use Rattle.std.proofs.lemmas.Result.{err_from_is_err_and}
use Rattle.flat.proofs.elements.read_leaves.Goals as goal

-- The elements' type.
leaf : (c : After-type_row-t) → let args = c.args in IsLeaf args.source.now.schema.bytes.now args.elem c.type_row-t.result
leaf c =
    let pre = c.requires.kind_nonzero in
    let is = c.type_row-t.ensures in
    is_leaf is (rw is pre.0) (rw is pre.1)

pub loop-init : goal.loop-init
loop-init c = let start = c in rw (sub-zero c.args.n) (reading-first start.requires.ready (shape_in start.args.source.now.schema.bytes.now) tt _)

pub returns-then-depth-eq0 : goal.returns-then-depth-eq0
returns-then-depth-eq0 c = rw c.at.ensures λ R. reading-deep c.loop.invariant (elements-more _ c.loop-test.true) c.if-depth-eq0.true R tt

pub content-requires : goal.content-requires
content-requires c = let loop = c in leaf-asked (leaf (goal.at.content-requires c).After-type_row-t) c.if-depth-eq0.false (reading-ready loop.loop.invariant (elements-more _ c.loop-test.true))

pub returns-in_err-content : goal.returns-in_err-content
returns-in_err-content c =
    let stop = leaf-stop (leaf (goal.at.returns-in_err-content c).After-type_row-t) c.if-depth-eq0.false c.content.ensures (ap told_span c.in_err-content.was) in
    let (_, is, same) = err_from_is_err_and c.from_residual.result c.from_residual.ensures.1 in
    rw (is, same)
    (λ R. reading-stop c.loop.invariant (elements-more _ c.loop-test.true) {m = c.loop.sheet} (λ R ok. stop R) refl R tt)

pub loop-preserved : goal.loop-preserved
loop-preserved c =
    let past = leaf-past (leaf (goal.at.loop-preserved c).After-type_row-t) c.if-depth-eq0.false
    c.content.ensures (ap told_span c.in_ok-content.was) c.loop.invariant.behind c.put_row.ensures in
    reading-on c.loop.invariant (elements-more _ c.loop-test.true) (λ R ok. past R) refl

pub returns : goal.returns
returns c =
    let inv = c.loop.invariant in
    λ R. reading-end inv (elements-none _ (c.args.n - c.loop.counter) (omega (arith, c.loop-test.false))) c.put_row-2.ensures (omega arith) inv.forth R tt
