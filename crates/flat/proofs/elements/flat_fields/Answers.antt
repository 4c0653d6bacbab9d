-- `flat::elements::flat_fields` meets its contract. The invariant: what is left of the fields gives the same end, whatever is known.
use mathlib.Core.Path.{ap}
use native.Mathlib.Omega.{arith}
use Rattle.walks.proofs.Masks.{standing-less}
use Rattle.flat.proofs.Turns.{going-first, going-skip, going-asked, going-stop, going_on, going-rows, going_end}
use Rattle.flat.specs.Told.{told_span}
use Rattle.std.proofs.lemmas.Result.{err_from_is_err_and}
use Rattle.flat.proofs.elements.flat_fields.Goals as goal

pub loop-bits-init : goal.loop-bits-init
loop-bits-init c = going-first c.requires.0 _

pub content-requires : goal.content-requires
content-requires c =
    let field = c in
    going-asked field.loop-bits.invariant field.loop-bits-test.true field.field_row-d.ensures c.row-t.ensures field.if-bits-eq1.true

pub returns-in_err-content : goal.returns-in_err-content
returns-in_err-content c =
    let (_, is, same) = err_from_is_err_and c.from_residual.result c.from_residual.ensures.1 in
    rw (is, same)
    (going-stop c.loop-bits.invariant c.loop-bits-test.true c.field_row-d.ensures c.row-t.ensures c.if-bits-eq1.true c.content.ensures (ap told_span c.in_err-content.was))

pub loop-bits-preserved-then-bits-eq1 : goal.loop-bits-preserved-then-bits-eq1
loop-bits-preserved-then-bits-eq1 c =
    going_on c.loop-bits.invariant c.loop-bits-test.true c.field_row-d.ensures c.row-t.ensures c.if-bits-eq1.true
    c.content.ensures (ap told_span c.in_ok-content.was) c.put_row.ensures

pub loop-bits-smaller : goal.loop-bits-smaller
loop-bits-smaller c = standing-less c.loop-bits.invariant.on (omega (arith, c.loop-bits-test.true)) c.zeros_in-k.ensures.0 c.if-bits-eq1.false

pub loop-bits-preserved : goal.loop-bits-preserved
loop-bits-preserved c = going-skip c.loop-bits.invariant c.loop-bits-test.true c.zeros_in-k.ensures.0

pub overflow_sub-below : goal.overflow_sub-below
overflow_sub-below c = omega (arith, (going-rows c.loop-bits.invariant c.loop-bits-test.false).1)

pub overflow_sub-below-2 : goal.overflow_sub-below-2
overflow_sub-below-2 c = omega (arith, (going-rows c.loop-bits.invariant c.loop-bits-test.false).1)

pub returns : goal.returns
returns c = going_end c.loop-bits.invariant c.loop-bits-test.false c.put_row-2.ensures
