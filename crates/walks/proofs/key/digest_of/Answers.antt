-- `walks::key::digest_of` meets its contract, by the length of the content.
use Rattle.walks.proofs.Digests.{digest-short, digest-word, digest-long}
use Rattle.walks.proofs.key.digest_of.Goals as goal

pub returns-then-n-lt-WORD : goal.returns-then-n-lt-WORD
returns-then-n-lt-WORD c j =
    let first = c in
    let args = first.args in
    digest-short args.s.now args.place args.n first.requires _ c.if-n-lt-WORD.true c.last_word.ensures

pub returns-then-x : goal.returns-then-x
returns-then-x c j =
    let first = c in
    let args = first.args in
    digest-word args.s.now args.place args.n first.requires _ c.word_at-x.ensures c.if-n-lt-WORD.false c.if-x.true

pub returns : goal.returns
returns c j =
    let first = c in
    let args = first.args in
    digest-long args.s.now args.place args.n first.requires _ c.word_at-x.ensures c.if-n-lt-WORD.false _ c.if-x.false c.hash.ensures
