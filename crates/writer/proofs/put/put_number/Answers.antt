-- `writer::put::put_number` meets its contract: the groups still to be put give what all of them give.
use mathlib.Core.Path.{refl, ◌∙◌}
use native.Mathlib.Omega.{arith}
use Rattle.writer.proofs.Puts.{groups-near, groups-more, groups-last, groups-done}
use Rattle.writer.proofs.put.put_number.Goals as goal

pub loop-y-init : goal.loop-y-init
loop-y-init c = (refl, (9, omega arith, (refl, refl)))

pub overflow_add-at : goal.overflow_add-at
overflow_add-at c =
    let args = c.args in
    let loop = c.loop-y in
    let h = groups-near args.out.now args.pos args.x loop.out loop.at loop.y loop.invariant.1 (omega arith) in
    omega arith

pub loop-y-preserved : goal.loop-y-preserved
loop-y-preserved c =
    let args = c.args in
    let loop = c.loop-y in
    let loop-test = c.loop-y-test in
    let put_byte = c.put_byte in
    (put_byte.auto.out ∙ loop.invariant.0, groups-more args.out.now args.pos args.x loop.out loop.at loop.y loop.invariant.1 _ put_byte.ensures loop-test.true)

pub overflow_add-at-2 : goal.overflow_add-at-2
overflow_add-at-2 c =
    let args = c.args in
    let loop = c.loop-y in
    let h = groups-near args.out.now args.pos args.x loop.out loop.at loop.y loop.invariant.1 (omega arith) in
    omega arith

pub overflow_sub-at : goal.overflow_sub-at
overflow_sub-at c =
    let args = c.args in
    let loop = c.loop-y in
    let h = groups-last args.out.now args.pos args.x loop.out loop.at loop.y loop.invariant.1 (omega arith) in
    omega arith

pub returns : goal.returns
returns c =
    let args = c.args in
    let loop = c.loop-y in
    groups-done args.out.now args.pos args.x loop.out loop.at loop.y loop.invariant.1 (omega arith) _ c.put_byte-2.ensures _ c.further.ensures
