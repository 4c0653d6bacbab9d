-- `reader::walk::end_root` meets its contract.
use Rattle.reader.specs.Root.{whole, faulty}
use Rattle.reader.proofs.Roots.{ending-surplus, ending-short, ending-fits, surplus-told, no-surplus}
use Rattle.reader.proofs.walk.end_root.Goals as goal

pub returns-then-unknown-rest : goal.returns-then-unknown-rest
returns-then-unknown-rest c =
    let args = c.args in
    let told = surplus-told _ _ c.if-unknown-rest.true in
    rw c.at.ensures (faulty 27 (ending-surplus args.p.now args.past.next args.unknown told.0 told.1))

pub returns-then-rest-unknown : goal.returns-then-rest-unknown
returns-then-rest-unknown c = let args = c.args in rw c.at-then-rest-unknown.ensures (faulty 20 (ending-short args.p.now args.past.next args.unknown c.if-rest-unknown.true))

pub returns : goal.returns
returns c = let args = c.args in whole (ending-fits args.p.now args.past.next args.unknown c.if-rest-unknown.false (no-surplus _ _ c.if-unknown-rest.false))
