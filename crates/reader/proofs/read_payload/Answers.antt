-- `reader::read_payload` meets its contract: 64 fields of each struct are all.
use mathlib.Core.Path.{◌∙◌}
use lib.ListN.{get_or-replicate}
use Rattle.reader.proofs.Besides.{shown-all}
use Rattle.reader.proofs.read_payload.Goals as goal

pub returns : goal.returns
returns c =
    let args = c.args in
    c.read_shown.ensures ∙ shown-all args.schema.now.bytes.now args.schema.now.good args.ty args.payload.now args.sheet.now _ (λ t l. get_or-replicate 256 t 64 0 l)
