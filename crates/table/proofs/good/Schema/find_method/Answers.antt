-- `table::good::Schema::find_method` meets its contract: it looks among all methods of the table.
use Rattle.std.proofs.Common.{ℕ, ap, ◌∙◌}
use Rattle.schema.specs.File.{table_of}
use Rattle.schema.specs.Check.{find_among}
use Rattle.table.proofs.Files.{laid_methods}
use Rattle.table.proofs.good.Schema.find_method.Goals as goal

pub returns : goal.returns
returns c =
    let a = c.args in
    let file = c.sections-file in
    let whole = ap (λ (n : ℕ). find_among (table_of file.result.bytes.now) n a.«package» a.service a.method) (laid_methods _ _ file.result.laid) in
    rw (ap (λ x. x.now) file.ensures) at (c.find_among.ensures ∙ whole)
