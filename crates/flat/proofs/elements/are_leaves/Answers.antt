-- `flat::elements::are_leaves` meets its contract. The invariant: the fields before i are scalars, strings or bytes.
use native.Mathlib.Omega.{arith}
use Rattle.schema.proofs.Checks.{good-shaped, good-laid}
use Rattle.walks.proofs.Tables.{few-fields}
use Rattle.flat.proofs.elements.are_leaves.Goals as goal

pub layout_of-l-requires : goal.layout_of-l-requires
layout_of-l-requires c = good-shaped _ c.requires.0

pub overflow_add-i-end : goal.overflow_add-i-end
overflow_add-i-end c = let pre = c.requires in omega (arith, few-fields _ pre.0, pre.1)

pub field_row-f-requires : goal.field_row-f-requires
field_row-f-requires c = good-laid _ _ c.requires.0 c.layout_of-l.ensures

pub row-t-requires : goal.row-t-requires
row-t-requires c = good-laid _ _ c.requires.0 c.layout_of-l.ensures
