-- `reader::judge_payload` meets its contract: 64 fields of each struct are all.
use mathlib.Core.Path.{ap, ◌∙◌}
use lib.ListN.{get_or-replicate}
use Rattle.reader.specs.Entry.{number_in}
use Rattle.reader.proofs.Besides.{shown-all}
use Rattle.reader.proofs.judge_payload.Goals as goal

pub returns : goal.returns
returns c =
    let args = c.args in
    c.judge_shown.ensures
    ∙ ap number_in (shown-all args.schema.now.bytes.now args.schema.now.good args.ty args.payload.now args.sheet.now _ (λ t l. get_or-replicate 256 t 64 0 l))
