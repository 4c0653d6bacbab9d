-- `call_record::after` meets its contract: what no frame's kind is, marks nothing.
use Rattle.std.proofs.Common.{sym, ◌∙◌}
use Rattle.connection.proofs.NoKind.{after-none}
use Rattle.connection.proofs.call_record.after.Goals as goal

pub returns-in-Err : goal.returns-in-Err
returns-in-Err c = c.after_kind-in-Err.ensures ∙ sym (after-none c.args.kind c.in-Err.ensures.1 c.args.row c.args.call)
