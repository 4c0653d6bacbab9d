-- `salvage::pieces::first_piece` meets its contract.
use Rattle.salvage.proofs.Turns.{piece-skipped, piece-kept}
use Rattle.salvage.proofs.pieces.first_piece.Goals as goal

pub returns-in-Some : goal.returns-in-Some
returns-in-Some c = piece-kept c.args.bytes.now c.in-Some.n c.in-Some.ensures

pub returns-in-None : goal.returns-in-None
returns-in-None c = piece-skipped c.args.bytes.now c.in-None.ensures c.forward.result c.forward.ensures
