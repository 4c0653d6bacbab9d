-- `walks::siphash::hash` meets its contract. The invariant: the state after the words passed.
use Rattle.std.proofs.Common.{sym, arith}
use Rattle.walks.proofs.Digests.{words-none, words_step, words-end}
use Rattle.walks.proofs.siphash.hash.Goals as goal

pub loop-i-init : goal.loop-i-init
loop-i-init c = let args = c.args in (sym (words-none args.s.now args.place args.n c.requires), omega arith)

pub loop-i-preserved : goal.loop-i-preserved
loop-i-preserved c =
    let loop = c.loop-i in
    let first = c in
    let args = first.args in
    (words_step args.s.now args.place args.n first.requires loop.i loop.v loop.invariant.0 _ _ c.compress-v.ensures c.loop-i-test.true c.number.ensures, omega arith)

pub returns : goal.returns
returns c =
    let loop = c.loop-i in
    let first = c in
    let args = first.args in
    words-end args.s.now args.place args.n first.requires loop.i loop.v loop.invariant.0 _ _ _
    c.last_word.ensures c.compress.ensures c.finalize.ensures loop.invariant.1 c.loop-i-test.false
