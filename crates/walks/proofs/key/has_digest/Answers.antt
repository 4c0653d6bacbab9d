-- `walks::key::has_digest` meets its contract. The invariant: what was found among the digests looked at.
use Rattle.std.proofs.Common.{◌≡◌, ◌<◌, length, take, arith}
use Rattle.std.proofs.lemmas.List.{get_or-take, length-take-le}
use Rattle.walks.proofs.Keys.{has-digest-first, has-digest-step}
use Rattle.walks.proofs.key.has_digest.Goals as goal

pub loop-kept-init : goal.loop-kept-init
loop-kept-init c = (has-digest-first c.args.keys.now c.args.d, omega arith)

pub loop-kept-preserved : goal.loop-kept-preserved
loop-kept-preserved c =
    let l = c.loop-kept in
    let long : length (take c.args.n c.args.keys.now) ≡ c.args.n = length-take-le c.args.n c.args.keys.now c.requires in
    let first : l.kept-index < c.args.n = rw long at c.loop-kept-test.true in
    (rw (get_or-take c.args.n c.args.keys.now l.kept-index 0 first) (has-digest-step c.args.keys.now l.kept-index c.args.d l.found l.invariant.0), omega arith)
