-- `table::extension::keeps_methods` meets its contract.
use Rattle.std.proofs.Common.{rules, ℕ, ap, ◌∙◌}
use Rattle.schema.specs.Check.{method_row}
use Rattle.schema.specs.File.{table_of}
use Rattle.schema.specs.Extend.{every, method_kept}
use Rattle.table.proofs.Files.{laid_methods}
use Rattle.table.proofs.Lowest.{every-is}
use Rattle.table.proofs.extension.keeps_methods.Goals as goal

pub returns : goal.returns
returns c =
    let old = c.args.old.now in
    let new = c.args.new.now in
    every-is c.every.ensures _ (λ k b h t. search rules)
    ∙ ap (λ (n : ℕ). every (λ i. method_kept (table_of new.bytes.now) (method_row (table_of old.bytes.now) i)) n) (laid_methods _ _ old.laid)
