-- `salvage::pieces::starts` meets its contract.
use Rattle.salvage.proofs.Magics.{no_start}
use Rattle.salvage.proofs.pieces.starts.Goals as goal

pub returns-then-not-has_magic : goal.returns-then-not-has_magic
returns-then-not-has_magic c =
    let m = c.has_magic in let a = c.args in
    no_start a.bytes.now a.at m.result m.ensures c.if-not-has_magic.true
