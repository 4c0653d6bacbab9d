-- `flat::added::added_fields` meets its contract.
use native.Mathlib.Omega.{arith}
use Rattle.walks.proofs.Tables.{few-fields}
use Rattle.flat.proofs.added.added_fields.Goals as goal

pub part_of-requires : goal.part_of-requires
part_of-requires c = let pre = c.requires in omega (arith, pre.fields.in_table, few-fields _ pre.fields.ready.good)

pub returns : goal.returns
returns c = (_, _, rw (c.part_of.ensures, c.low_bits.ensures) at c.leaf_fields.ensures)
