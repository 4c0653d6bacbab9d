-- `reader::pairs::read_childless` meets its contract.
use Rattle.std.proofs.Common.{ap}
use Rattle.flat.specs.Told.{told_span}
use Rattle.reader.proofs.Told.{exit}
use Rattle.reader.proofs.Childless.{none_read, childless-stop, childless-past}
use Rattle.reader.proofs.pairs.read_childless.Goals as goal

pub returns-then-t : goal.returns-then-t
returns-then-t c = none_read c.requires c.if-t.true c.put_row.ensures

pub returns-in_err-content : goal.returns-in_err-content
returns-in_err-content c =
    rw (exit c.from_residual.result c.from_residual.ensures.1) (childless-stop c.requires c.if-t.false c.content.ensures (ap told_span c.in_err-content.was))

pub returns : goal.returns
returns c = childless-past c.requires c.if-t.false c.content.ensures (ap told_span c.in_ok-content.was) c.put_row-2.ensures
