-- `flat::elements::elements_of` meets its contract. The invariant: what is left of the elements gives the same end, whatever is shown.
use mathlib.Core.Path.{◌≡◌, refl, ap}
use Prim.Native.Nat.{ℕ, suc, ◌+◌, ◌-◌}
use Rattle.std.proofs.Math.Nat.{sub-zero}
use native.Mathlib.Omega.{arith}
use Rattle.schema.specs.Table.{Shape}
use Rattle.walks.specs.Shape.{shape_in}
use Rattle.flat.specs.Walk.{value_in, told, Walked}
use Rattle.flat.proofs.Turns.{described_own, lifted, reading-below, reading-deep, reading-end, reading-first, reading-on, reading-stop, reading-sum}
use Rattle.walks.proofs.Items.{elements-none, elements-more}
use Rattle.flat.proofs.elements.elements_of.Goals.{After-element}
use Rattle.flat.specs.Told.{told_walk}
use Rattle.std.proofs.lemmas.Result.{err_from_is_err_and}
use Rattle.flat.proofs.elements.elements_of.Goals as goal

-- After an element, which was read by what was prepared.
walked : (c : After-element) →
    let args = c.args in
    let loop = c.loop in
    (R : ℕ → Shape) → R args.elem ≡ shape_in args.source.now.schema.bytes.now args.elem
    → Walked args.source.now.payload.now (loop.here + 1) (told R (shape_in args.source.now.schema.bytes.now) args.elem) (value_in args.source.now.schema.bytes.now args.source.now.payload.now args.depth args.elem loop.here) loop.below
    loop.sheet (told_walk c.element.result) c.element.new.sheet
walked c =
    let args = c.args in
    let same = c.prepared_of-f.ensures.same in
    lifted (λ R. R args.elem ≡ shape_in args.source.now.schema.bytes.now args.elem) args.source.now.schema.bytes.now args.depth c.loop.here same c.if-depth-eq0.false (λ R shown. c.element.ensures R (rw same shown))

pub loop-init : goal.loop-init
loop-init c = let args = c.args in let pre = c.requires in rw (sub-zero c.args.n) (reading-first pre.0 (shape_in args.source.now.schema.bytes.now) refl _)

pub returns-then-depth-eq0 : goal.returns-then-depth-eq0
returns-then-depth-eq0 c = rw c.at.ensures (reading-deep c.loop.invariant (elements-more _ c.loop-test.true) c.if-depth-eq0.true)

pub element-requires : goal.element-requires
element-requires c =
    let loop = c in
    let args = loop.args in
    let pre = loop.requires in
    let ready = reading-below loop.loop.invariant (elements-more _ c.loop-test.true) c.if-depth-eq0.false in
    let f = loop.prepared_of-f in
    let level : args.depth ≡ suc (args.depth - 1) = omega (arith, c.if-depth-eq0.false) in (
      rw f.ensures.same ready,
      described_own args.source.now.schema.bytes.now args.elem f.result f.ensures,
      rw (f.ensures.same, ← level) pre.1,
    )

pub returns-in_err-past : goal.returns-in_err-past
returns-in_err-past c =
    let call = (goal.at.returns-in_err-past c).After-element in
    let (_, is, same) = err_from_is_err_and c.from_residual.result c.from_residual.ensures.1 in
    rw (is, same)
    (reading-stop call.loop.invariant (elements-more _ call.loop-test.true) (walked call) (ap told_walk c.in_err-past.was))

pub overflow_add-sum : goal.overflow_add-sum
overflow_add-sum c =
    let call = (goal.at.overflow_add-sum c).After-element in
    let most = reading-sum call.loop.invariant (elements-more _ call.loop-test.true) (walked call) (ap told_walk c.in_ok-past.was) in omega (arith, most)

pub loop-preserved : goal.loop-preserved
loop-preserved c =
    let call = (goal.at.loop-preserved c).After-element in
    reading-on call.loop.invariant (elements-more _ call.loop-test.true) (walked call) (ap told_walk c.in_ok-past.was)

pub returns : goal.returns
returns c =
    let inv = c.loop.invariant in
    reading-end inv (elements-none _ (c.args.n - c.loop.counter) (omega (arith, c.loop-test.false))) c.put_row.ensures (omega arith) inv.forth
