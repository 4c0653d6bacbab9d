-- The cells are read after their number.
use Rattle.files.proofs.Readings.{GivesSome-trans}
use Rattle.test_entries.proofs.input.sheet.Goals as goal

pub returns-in_err-fill-clause-left : goal.returns-in_err-fill-clause-left
returns-in_err-fill-clause-left g c = GivesSome-trans _ _ _ c.cells.ensures.left c.fill.ensures.left

pub returns-clause-left : goal.returns-clause-left
returns-clause-left g c = GivesSome-trans _ _ _ c.cells.ensures.left c.fill.ensures.left
