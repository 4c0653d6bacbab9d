-- `table::checking::row_is_good` meets its contract: the tests, where the rows read are the table's.
use Rattle.std.proofs.Common.{◌||◌, ◌∙◌}
use Rattle.table.proofs.Checks.{row-judged}
use Rattle.table.proofs.checking.row_is_good.Goals as goal

pub returns : goal.returns
returns c =
    let file = c.args.file.now in
    (λ i. c.is_plain.ensures i || (c.is_array.ensures i || (c.is_map.ensures i || c.is_struct.ensures i)))
    ∙ row-judged file.bytes.now file.layout file.laid c.args.t c.row-r.result c.row-key.result c.row-r.ensures c.row-key.ensures
