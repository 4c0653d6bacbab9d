-- `Cells::front` meets its contract: of the cells none past the 384th is a record's.
use Rattle.cells.proofs.Slots.{same_taken}
use Rattle.cells.proofs.records.Cells.front.Goals as goal

pub returns : goal.returns
returns c = same_taken c.args.cells.now
