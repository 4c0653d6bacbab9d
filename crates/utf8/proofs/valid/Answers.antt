-- `utf8::valid` meets its contract: what is passed in front changes nothing.
use mathlib.Core.Path.{◌∙◌}
use Rattle.utf8.proofs.valid.Goals as goal

pub returns : goal.returns
returns c = c.valid_runs.ensures ∙ c.skip_ascii.ensures.1
