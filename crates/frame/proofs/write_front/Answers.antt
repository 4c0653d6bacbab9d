-- `frame::write_front` meets its contract: each store follows the one before it.
use Rattle.frame.proofs.Writes.{front-wrote}
use Rattle.frame.proofs.write_front.Goals as goal

pub returns : goal.returns
returns c =
    let s = c in
    let start = s.before in
    front-wrote start.args.out.now start.args.header start.args.n start.requires.0
    s.copy.ensures
    s.store.ensures
    c.store-2.ensures
    c.store-3.ensures
    c.store-4.ensures
    c.write.ensures.1
