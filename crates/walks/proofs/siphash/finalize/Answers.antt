-- `walks::siphash::finalize` meets its contract.
use Rattle.walks.proofs.Digests.{finalized-made}
use Rattle.walks.proofs.siphash.finalize.Goals as goal

pub returns : goal.returns
returns c =
    let rounds = c in
    finalized-made rounds.args.v _ _ _
    rounds.sip_round-first.ensures rounds.sip_round.ensures rounds.sip_round-r.ensures
