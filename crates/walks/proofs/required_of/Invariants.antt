-- `walks::required_of` meets its contract. The invariant: the bits of the fields from i on.
use Rattle.std.proofs.Common.{◌+◌, ◌-◌, ◌^◌, ◌<◌, ◌≤◌}
use Rattle.schema.specs.File.{table_of}
use Rattle.walks.specs.Shape.{fields_from}
use Rattle.walks.specs.Required.{Requires}
use Rattle.walks.proofs.required_of.Given as goal

abbrev pub invariant-loop-i : goal.invariant-loop-i
invariant-loop-i l = (l.i ≤ l.n) × (l.required < 2 ^ (l.n - l.i)) × Requires l.required (fields_from (table_of l.s) (l.first + l.i) (l.n - l.i))
