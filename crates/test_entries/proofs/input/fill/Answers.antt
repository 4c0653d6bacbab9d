-- Each cell is read after those before it.
use Rattle.files.proofs.Readings.{GivesSome-trans}
use Rattle.test_entries.proofs.input.fill.Goals as goal

pub returns-in_err-cell : goal.returns-in_err-cell
returns-in_err-cell g c = record { left = GivesSome-trans _ _ _ c.loop-cell.invariant c.word.ensures.left }

pub loop-cell-preserved : goal.loop-cell-preserved
loop-cell-preserved g c = GivesSome-trans _ _ _ c.loop-cell.invariant c.word.ensures.left
