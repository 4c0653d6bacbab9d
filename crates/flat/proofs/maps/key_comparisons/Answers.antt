-- `flat::maps::key_comparisons` meets its contract.
use Rattle.flat.proofs.Composites.{own-comparisons}
use Rattle.flat.proofs.maps.key_comparisons.Goals as goal

pub returns-then-n-eq0 : goal.returns-then-n-eq0
returns-then-n-eq0 c = rw c.if-n-eq0.true (own-comparisons 0)

pub returns : goal.returns
returns c = own-comparisons c.args.n
