-- `walks::siphash::compress` meets its contract.
use Rattle.walks.proofs.Digests.{compressed-made}
use Rattle.walks.proofs.siphash.compress.Goals as goal

pub returns : goal.returns
returns c = let args = c.args in compressed-made args.v args.m _ c.sip_round-r.ensures
