-- `walks::key::has_digest` meets its contract. The invariant: what was found among the digests looked at.
use Rattle.std.proofs.Common.{◌≡◌, ◌≤◌}
use Rattle.walks.specs.Keys.{has_digest}
use Rattle.walks.proofs.key.has_digest.Given as goal

abbrev pub invariant-loop-kept : goal.invariant-loop-kept
invariant-loop-kept l = (l.found ≡ has_digest l.keys l.kept-index l.d) × (l.kept-index ≤ l.n)
