-- `flat::maps::leaf_map` meets its contract.
use mathlib.Core.Path.{◌≡◌, ap}
use native.Mathlib.Omega.{arith}
use Rattle.flat.specs.Count.{Is}
use Rattle.flat.specs.Told.{told_count}
use Rattle.std.proofs.lemmas.Result.{IfErr-at_err, err_from_is_err_and}
use Rattle.flat.proofs.Pairs.{map-deep, counted-refused, counted-many, counted_ready, counted-held}
use Rattle.flat.proofs.maps.leaf_map.Goals.{In_ok-count}
use Rattle.flat.proofs.maps.leaf_map.Goals as goal

-- What the count is.
counted : (c : In_ok-count) → told_count c.map_count.result ≡ Is c.in_ok-count.count.n c.in_ok-count.count.start
counted c = ap told_count c.in_ok-count.was

pub returns-then-depth-eq0 : goal.returns-then-depth-eq0
returns-then-depth-eq0 c = let pre = c.requires.ready in rw c.at.ensures (map-deep pre.0 pre.1 c.if-depth-eq0.true)

pub returns-in_err-count : goal.returns-in_err-count
returns-in_err-count c =
    let pre = c.requires.ready in
    let place = IfErr-at_err (λ e. e.place ≡ c.args.at) c.in_err-count.was c.map_count.ensures.place in
    let (_, is, same) = err_from_is_err_and c.from_residual.result c.from_residual.ensures.1 in
    rw (is, same, place) (counted-refused pre.0 pre.1 c.if-depth-eq0.false c.map_count.ensures.told (ap told_count c.in_err-count.was))

pub returns-then-count-gt-MOST_PAIRS : goal.returns-then-count-gt-MOST_PAIRS
returns-then-count-gt-MOST_PAIRS c =
    let pre = c.requires.ready in
    let is = counted (goal.at.returns-then-count-gt-MOST_PAIRS c).In_ok-count in
    rw c.at-then-count-gt-MOST_PAIRS.ensures (counted-many pre.0 pre.1 c.if-depth-eq0.false c.map_count.ensures.told is c.if-count-gt-MOST_PAIRS.true)

pub leaf_pairs-requires : goal.leaf_pairs-requires
leaf_pairs-requires c =
    let pre = c.requires in
    let few = c.if-count-gt-MOST_PAIRS.false in
    let leaves = pre.pairs_in.0 in
    let is = counted (goal.at.leaf_pairs-requires c).In_ok-count in
    record {
      pairs_ready = (counted_ready pre.ready.0 pre.ready.1 c.if-depth-eq0.false c.map_count.ensures.told is few leaves.0 leaves.1, λ j. omega (arith, few, pre.pairs_in.1));
      kind_nonzero = (leaves.2, leaves.3);
    }

pub returns : goal.returns
returns c =
    let pre = c.requires.ready in
    let is = counted (goal.at.returns c).In_ok-count in
    counted-held pre.0 pre.1 c.if-depth-eq0.false c.map_count.ensures.told is c.if-count-gt-MOST_PAIRS.false _ c.leaf_pairs.ensures
