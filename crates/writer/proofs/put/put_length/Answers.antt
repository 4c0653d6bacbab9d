-- `writer::put::put_length` meets its contract.
use Rattle.writer.proofs.Puts.{length_none}
use Rattle.writer.proofs.put.put_length.Goals as goal

pub returns-then-kind : goal.returns-then-kind
returns-then-kind c = length_none _ _ c.args.kind c.args.n c.if-kind.true c.requires
