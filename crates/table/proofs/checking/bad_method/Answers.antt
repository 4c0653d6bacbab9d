-- `table::checking::bad_method` meets its contract.
use Rattle.std.proofs.Common.{rules, ◌∙◌}
use Rattle.table.proofs.Checks.{methods-whole}
use Rattle.table.proofs.Lowest.{lowest-is}
use Rattle.table.proofs.checking.bad_method.Goals as goal

pub returns-then-n-le-FEW_METHODS : goal.returns-then-n-le-FEW_METHODS
returns-then-n-le-FEW_METHODS c =
    let file = c.args.file.now in
    lowest-is c.lowest.ensures _ (λ k b h t. search rules) ∙ methods-whole _ _ file.laid
