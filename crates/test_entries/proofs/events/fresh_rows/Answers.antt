-- A good table has at most 256 methods.
use Rattle.std.proofs.Common.{arith}
use Rattle.schema.proofs.Goods.{good-table}
use Rattle.test_entries.proofs.events.fresh_rows.Goals as goal

pub returns-in-Ok : goal.returns-in-Ok
returns-in-Ok c = omega (arith, c.method_count.ensures, (good-table c.in-Ok.schema.bytes.now c.in-Ok.schema.good).few_methods)
