-- `walks::siphash::sip_round` meets its contract.
use Rattle.walks.proofs.Digests.{round-made}
use Rattle.walks.proofs.siphash.sip_round.Goals as goal

pub returns : goal.returns
returns c =
    let third = c in
    let first = third.before in
    round-made first.args.v _ _ _ _ _ _ _ _ _ _
    first.wrapping_add_usize-a.ensures.value
    third.rotate_left.ensures
    third.wrapping_add_usize-c.ensures.value
    third.rotate_left-2.ensures
    third.rotate_left-3.ensures
    c.wrapping_add_usize-e.ensures.value
    c.wrapping_add_usize-f.ensures.value
    c.rotate_left-4.ensures
    c.rotate_left-5.ensures
    c.rotate_left-6.ensures
