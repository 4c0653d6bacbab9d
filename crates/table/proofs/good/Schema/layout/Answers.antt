-- `table::good::Schema::layout` meets its contract: a good file has the shape.
use Rattle.schema.proofs.Checks.{good-shaped, good-laid}
use Rattle.table.proofs.good.Schema.layout.Goals as goal

pub layout_of-requires : goal.layout_of-requires
layout_of-requires c = good-shaped _ c.args.self.now.good

pub returns : goal.returns
returns c = good-laid _ _ c.args.self.now.good c.layout_of.ensures
