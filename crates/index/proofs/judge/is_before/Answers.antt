-- `index::judge::is_before` meets its contract.
use Rattle.index.proofs.Shapes.{before-read}
use Rattle.index.proofs.judge.is_before.Goals as goal

pub returns : goal.returns
returns c =
    let a = c.args in
    before-read a.index.now a.at _ _ _ _ c.number-a.ensures c.number-b.ensures c.u32_at.ensures c.u32_at-2.ensures
