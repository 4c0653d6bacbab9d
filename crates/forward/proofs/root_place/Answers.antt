-- `forward::root_place` meets its contract.
use mathlib.Core.Path.{◌∙◌}
use Rattle.forward.proofs.Entries.{place_none, place-first}
use Rattle.forward.proofs.root_place.Goals as goal

pub returns-then-sheet-lt-ROW_CELLS : goal.returns-then-sheet-lt-ROW_CELLS
returns-then-sheet-lt-ROW_CELLS c = place_none _ c.if-sheet-lt-ROW_CELLS.true

pub returns : goal.returns
returns c = c.wide.ensures.0 ∙ place-first _ c.if-sheet-lt-ROW_CELLS.false
