-- `call_record::allows` meets its contract: no call allows what no frame's kind is.
use Rattle.std.proofs.Common.{sym}
use Rattle.connection.proofs.NoKind.{allowed-none}
use Rattle.connection.proofs.call_record.allows.Goals as goal

pub returns-in-Err : goal.returns-in-Err
returns-in-Err c = sym (allowed-none c.args.kind c.in-Err.ensures.1 c.args.row c.args.call)
