-- `call_record::at_limit` meets its contract: what no frame's kind is, is no element.
use Rattle.std.proofs.Common.{sym}
use Rattle.connection.proofs.NoKind.{limit-none}
use Rattle.connection.proofs.call_record.at_limit.Goals as goal

pub returns-in-Err : goal.returns-in-Err
returns-in-Err c = sym (limit-none c.args.kind c.in-Err.ensures.1 c.args.call)
