-- `table::checking::bad_field` meets its contract.
use Rattle.std.proofs.Common.{rules, ℕ, not, ap, ◌∙◌}
use Rattle.schema.specs.File.{table_of}
use Rattle.schema.specs.Check.{lowest, good_field, bad_field}
use Rattle.table.proofs.Files.{laid_fields}
use Rattle.table.proofs.Lowest.{lowest-is}
use Rattle.table.proofs.checking.bad_field.Goals as goal

pub returns : goal.returns
unfolding bad_field
returns c =
    let file = c.args.file.now in
    lowest-is c.lowest.ensures _ (λ k b h t. search rules)
    ∙ ap (λ (n : ℕ). lowest (λ i. not (good_field (table_of file.bytes.now) i)) 0 n) (laid_fields _ _ file.laid)
