-- `reader::beside::known_fields` meets its contract. The invariant: the numbers of the types before i are there, and zeros after them.
use mathlib.Core.Path.{refl, ◌∙◌}
use native.Mathlib.Omega.{arith}
use lib.ListN.{length-set}
use Rattle.walks.proofs.Tables.{struct_row}
use Rattle.reader.proofs.Besides.{known-row, knows-none, knows_more, knows-all, types-few}
use Rattle.reader.proofs.beside.known_fields.Goals as goal

pub loop-i-init : goal.loop-i-init
loop-i-init c = (refl, knows-none c.args.ours.now.bytes.now)

pub fields_of-requires : goal.fields_of-requires
fields_of-requires c = λ k. (struct_row c.args.ours.now.bytes.now c.args.ours.now.good c.loop-i.i _ c.row.ensures k).1

pub bounds-shown-i : goal.bounds-shown-i
bounds-shown-i c =
    let few = types-few c.args.ours.now.bytes.now c.args.ours.now.good _ c.layout-l.ensures.is in
    omega (arith, few.1, c.loop-i-test.true, c.loop-i.invariant.0)

pub loop-i-preserved : goal.loop-i-preserved
loop-i-preserved c =
    let ours = c.args.ours.now.bytes.now in
    let loop = c.loop-i in
    let few = types-few ours c.args.ours.now.good _ c.layout-l.ensures.is in
    let is = c.fields_of.ensures ∙ known-row ours c.args.ours.now.good loop.i _ c.row.ensures in (
      rw length-set loop.invariant.0,
      knows_more ours c.args.ours.now.good loop.shown loop.i _ (omega (arith, few.1, loop.invariant.0, c.loop-i-test.true)) is loop.invariant.1,
    )

pub returns : goal.returns
returns c =
    let ours = c.args.ours.now.bytes.now in
    let loop = c.loop-i in
    let few = types-few ours c.args.ours.now.good _ c.layout-l.ensures.is in
    knows-all ours c.args.ours.now.good loop.shown loop.i (omega (arith, few.0, c.loop-i-test.false)) loop.invariant.1
