-- `judge::payload_of` meets its contract: what no frame's kind is, holds nothing.
use Rattle.std.proofs.Common.{sym}
use Rattle.connection.proofs.NoKind.{payload-none}
use Rattle.connection.proofs.judge.payload_of.Goals as goal

pub returns-in-Err : goal.returns-in-Err
returns-in-Err c = sym (payload-none c.args.kind c.in-Err.ensures.1 c.args.m)
