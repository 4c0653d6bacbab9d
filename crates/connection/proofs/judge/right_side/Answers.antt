-- `judge::right_side` meets its contract: no side sends what no frame's kind is.
use Rattle.std.proofs.Common.{sym}
use Rattle.connection.proofs.NoKind.{sent-none}
use Rattle.connection.proofs.judge.right_side.Goals as goal

pub returns-in-Err : goal.returns-in-Err
returns-in-Err c = sym (sent-none c.args.kind c.in-Err.ensures.1 c.args.side)
