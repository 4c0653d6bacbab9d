-- `table::rows::Sections::find_among` meets its contract: each call of the closure tests a method's identifiers.
use Rattle.std.proofs.Common.{rules}
use Rattle.schema.specs.Check.{find_among}
use Rattle.table.proofs.Lowest.{lowest-is}
use Rattle.table.proofs.rows.Sections.find_among.Goals as goal

pub returns : goal.returns
unfolding find_among
returns c = lowest-is c.lowest.ensures _ (λ k b h t. search rules)
