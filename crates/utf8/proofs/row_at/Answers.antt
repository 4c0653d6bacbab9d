-- `utf8::row_at` meets its contract: the table of the code is that of the definition.
use mathlib.Core.Path.{refl}
use Rattle.utf8.specs.Utf8.{rows}
use Rattle.utf8.proofs.row_at.Goals as goal

pub returns : goal.returns
unfolding rows
returns c = refl
