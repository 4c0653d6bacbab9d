-- `Record::is_good` meets its contract: free, no more than open, or any other.
use Rattle.std.proofs.Common.{arith}
use Rattle.schema.specs.File.{table_of}
use Rattle.schema.proofs.Goods.{good-table}
use Rattle.cells.proofs.Slots.{free-good, opened-good}
use Rattle.cells.proofs.records.Record.is_good.Goals as goal

pub returns-then-self : goal.returns-then-self
returns-then-self c =
    let a = c.args in
    free-good (table_of a.schema.now.bytes.now) a.self.correlation a.self.method a.self.marks c.if-self.true

pub returns-then-self-eq1 : goal.returns-then-self-eq1
returns-then-self-eq1 c =
    let a = c.args in
    let s = a.schema.now.bytes.now in
    opened-good (table_of s) a.self.correlation a.self.method a.self.marks c.method_count.result c.method_count.ensures (omega (arith, c.method_count.ensures, (good-table s a.schema.now.good).few_methods)) c.if-self-eq1.true
