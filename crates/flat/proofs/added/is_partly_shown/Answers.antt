-- `flat::added::is_partly_shown` meets its contract.
use Rattle.schema.specs.File.{table_of}
use Rattle.walks.proofs.Tables.{struct_row, struct_type, shape-struct}
use Rattle.flat.proofs.added.is_partly_shown.Goals as goal

pub shown_of-requires : goal.shown_of-requires
shown_of-requires c =
    let args = c.args in
    let t = c.type_row-t in
    (struct_type args.s.now c.requires args.ty _ (shape-struct (table_of args.s.now) args.ty t.result t.ensures c.if-t.false)).1

pub are_leaves-requires : goal.are_leaves-requires
are_leaves-requires c =
    let good = c.requires in
    (good, (struct_row _ good _ _ c.type_row-t.ensures c.if-t.false).2)
