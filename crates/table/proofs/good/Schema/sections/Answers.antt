-- `table::good::Schema::sections` meets its contract: a good file has the shape.
use Rattle.schema.proofs.Checks.{good-shaped}
use Rattle.table.proofs.good.Schema.sections.Goals as goal

pub of-requires : goal.of-requires
of-requires c = good-shaped _ c.args.self.now.good
