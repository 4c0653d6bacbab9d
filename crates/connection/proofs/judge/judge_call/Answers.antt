-- `judge::judge_call` meets its contract: what no frame's kind is, is not allowed.
use Rattle.std.proofs.Common.{sym, ◌∙◌}
use Rattle.connection.proofs.NoKind.{allowed-none, late-none}
use Rattle.connection.proofs.judge.judge_call.Goals as goal

pub returns-in-Err : goal.returns-in-Err
returns-in-Err c =
    let other = c.in-Err.ensures.1 in
    rw (sym c.is_named.ensures ∙ c.if-not-is_named.false, allowed-none c.args.f.kind other _ c.args.call, late-none c.args.f.kind other c.args.call)
