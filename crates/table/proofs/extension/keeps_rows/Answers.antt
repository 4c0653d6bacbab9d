-- `table::extension::keeps_rows` meets its contract.
use Rattle.std.proofs.Common.{rules, ℕ, ap, ◌∙◌}
use Rattle.schema.specs.Table.{row_at}
use Rattle.schema.specs.File.{table_of}
use Rattle.schema.specs.Extend.{every, row_kept_of}
use Rattle.table.proofs.Files.{laid_types}
use Rattle.table.proofs.Lowest.{every-is}
use Rattle.table.proofs.extension.keeps_rows.Goals as goal

pub returns : goal.returns
returns c =
    let old = c.args.old.now in
    let new = c.args.new.now in
    every-is c.every.ensures _ (λ k b h t. search rules)
    ∙ ap (λ (n : ℕ). every (λ t. row_kept_of (table_of old.bytes.now) (table_of new.bytes.now) (row_at (table_of old.bytes.now) t) (row_at (table_of new.bytes.now) t)) n) (laid_types _ _ old.laid)
