-- `flat::maps::maps_of` meets its contract. The invariant: what is left of the elements gives the same end, whatever is shown.
use mathlib.Core.Path.{ap, ◌∙◌}
use Prim.Native.Nat.{◌-◌}
use native.Mathlib.Omega.{arith}
use Rattle.flat.proofs.Turns.{reading-end, reading-on, reading-ready, reading-stop, reading-sum}
use Rattle.walks.proofs.Items.{elements-none, elements-more}
use Rattle.flat.specs.Told.{told_walk}
use Rattle.std.proofs.lemmas.Result.{err_from_is_err_and}
use Rattle.flat.proofs.maps.maps_of.Goals as goal

pub leaf_map-requires : goal.leaf_map-requires
leaf_map-requires c =
    let clear = c in
    let loop = clear.before in
    let pre = loop.requires in
    record { ready = (reading-ready loop.loop.invariant.0 (elements-more _ clear.loop-test.true), pre.ready.1); pairs_in = (pre.pairs_in, omega (arith, clear.clear_flags.auto.keys, loop.loop.invariant.1)) }

pub returns-in_err-past : goal.returns-in_err-past
returns-in_err-past c =
    let (_, is, same) = err_from_is_err_and c.from_residual.result c.from_residual.ensures.1 in
    rw (is, same)
    (reading-stop c.loop.invariant.0 (elements-more _ c.loop-test.true) c.leaf_map.ensures (ap told_walk c.in_err-past.was))

pub overflow_add-sum : goal.overflow_add-sum
overflow_add-sum c =
    omega (arith, reading-sum c.loop.invariant.0 (elements-more _ c.loop-test.true) c.leaf_map.ensures (ap told_walk c.in_ok-past.was))

pub loop-preserved : goal.loop-preserved
loop-preserved c = (
  reading-on c.loop.invariant.0 (elements-more _ c.loop-test.true) c.leaf_map.ensures (ap told_walk c.in_ok-past.was),
  c.leaf_map.auto.keys ∙ c.clear_flags.auto.keys ∙ c.loop.invariant.1,
)

pub returns : goal.returns
returns c =
    let inv = c.loop.invariant.0 in
    reading-end inv (elements-none _ (c.args.n - c.loop.counter) (omega (arith, c.loop-test.false))) c.put_row.ensures (omega arith) inv.forth
