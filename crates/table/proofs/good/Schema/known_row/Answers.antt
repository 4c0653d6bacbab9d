-- `table::good::Schema::known_row` meets its contract: a row past the last has the kind 0, so this one is there.
use Rattle.std.proofs.Common.{◌∙◌, refl, arith}
use Rattle.schema.proofs.Checks.{good-laid}
use Rattle.table.proofs.Files.{reach, laid_row, there}
use Rattle.table.proofs.good.Schema.known_row.Goals as goal

pub overflow_mul-t : goal.overflow_mul-t
overflow_mul-t c = let laid = good-laid _ _ c.args.self.now.good refl in omega (arith, there _ _ laid c.args.t c.requires, (reach _ _ laid).types)

pub type_at-requires : goal.type_at-requires
type_at-requires c = let laid = good-laid _ _ c.args.self.now.good refl in omega (arith, there _ _ laid c.args.t c.requires, (reach _ _ laid).types)

pub returns : goal.returns
returns c = let laid = good-laid _ _ c.args.self.now.good refl in c.type_at.ensures ∙ laid_row _ _ laid _ (there _ _ laid c.args.t c.requires)
