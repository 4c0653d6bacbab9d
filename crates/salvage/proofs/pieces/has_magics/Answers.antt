-- `salvage::pieces::has_magics` meets its contract. The invariant: what was found after the places looked at.
use Rattle.salvage.proofs.Magics.{among_first, among-step}
use Rattle.salvage.proofs.pieces.has_magics.Goals as goal

pub loop-i-init : goal.loop-i-init
loop-i-init c = among_first c.args.bytes.now c.args.at

pub loop-i-preserved : goal.loop-i-preserved
loop-i-preserved c =
    let l = c.loop-i in
    among-step c.args.bytes.now c.args.at l.i l.found l.invariant c.has_magic-found.result c.has_magic-found.ensures
