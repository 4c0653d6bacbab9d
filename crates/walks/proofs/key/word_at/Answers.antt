-- `walks::key::word_at` meets its contract.
use Rattle.walks.proofs.Digests.{word-eight, word-other}
use Rattle.walks.proofs.key.word_at.Goals as goal

pub returns-then-n-eq-WORD : goal.returns-then-n-eq-WORD
returns-then-n-eq-WORD c =
    let first = c in
    let args = first.args in
    word-eight args.s.now args.place args.n first.requires _ c.if-n-eq-WORD.true c.number.ensures

pub returns : goal.returns
returns c =
    let first = c in
    let args = first.args in
    word-other args.s.now args.place args.n first.requires c.if-n-eq-WORD.false
