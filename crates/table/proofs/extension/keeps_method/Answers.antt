-- `table::extension::keeps_method` meets its contract.
use Rattle.std.proofs.Common.{◌∙◌}
use Rattle.schema.specs.File.{table_of}
use Rattle.schema.specs.Check.{find_among}
use Rattle.table.proofs.Files.{laid_methods}
use Rattle.table.proofs.Extensions.{method-there}
use Rattle.table.proofs.extension.keeps_method.Goals as goal

pub returns-in-Some : goal.returns-in-Some
returns-in-Some c =
    let new = c.args.new.now in
    let m = c.args.m in
    let found = c.find_among.ensures ∙ (λ i. find_among (table_of new.bytes.now) (laid_methods _ _ new.laid i) (c.of.ensures i).«package» (c.of.ensures i).service (c.of.ensures i).method) in
    c.same_method.ensures ∙ method-there (table_of new.bytes.now) m _ found _ _ c.method.ensures c.in-Some.is
