-- `index::judge::is_shaped` meets its contract.
use Rattle.index.proofs.Shapes.{too_short, shape-read}
use Rattle.index.proofs.judge.is_shaped.Goals as goal

pub returns-then-size-lt-TRAILER : goal.returns-then-size-lt-TRAILER
returns-then-size-lt-TRAILER c = too_short c.args.index.now c.if-size-lt-TRAILER.true

pub returns : goal.returns
returns c =
    let s = c.args.index.now in
    shape-read s c.u32_at.result c.u32_at-2.result c.u32_at-3.result c.if-size-lt-TRAILER.false
    c.u32_at.ensures c.u32_at-2.ensures c.u32_at-3.ensures
