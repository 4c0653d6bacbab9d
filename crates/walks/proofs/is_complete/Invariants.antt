-- `walks::is_complete` meets its contract. The invariant: the fields not yet looked at decide.
use Rattle.std.proofs.Common.{◌≡◌, ◌+◌, ◌-◌}
use Rattle.schema.specs.File.{table_of}
use Rattle.value.specs.Read.{required_set}
use Rattle.walks.specs.Shape.{fields_from}
use Rattle.walks.proofs.is_complete.Given as goal

abbrev pub invariant-loop-i : goal.invariant-loop-i
invariant-loop-i l = required_set (fields_from (table_of l.s) l.i (l.first + l.n - l.i)) l.bits ≡ required_set (fields_from (table_of l.s) l.first l.n) l.word
