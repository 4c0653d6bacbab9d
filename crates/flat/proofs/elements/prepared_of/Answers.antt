-- `flat::elements::prepared_of` meets its contract.
use Rattle.walks.proofs.Tables.{struct_row}
use Rattle.flat.proofs.elements.prepared_of.Goals as goal

pub required_of-required-requires : goal.required_of-required-requires
required_of-required-requires c =
    let few = struct_row _ c.args.schema.now.good _ _ (rw c.sections-file.ensures at c.row-t.ensures) c.if-t.false in
    (c.args.schema.now.good, rw c.sections-file.ensures at c.sections-file.result.laid, few.1, few.2)
