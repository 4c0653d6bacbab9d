-- `table::extension::keeps_struct` meets its contract.
use Rattle.std.proofs.Common.{rules, le-leb}
use Rattle.table.proofs.Lowest.{every-is}
use Rattle.table.proofs.extension.keeps_struct.Goals as goal

pub returns-then-r-q : goal.returns-then-r-q
returns-then-r-q c = rw (le-leb _ _ c.if-r-q.true) (every-is c.every.ensures _ (λ k b h t. search rules))
