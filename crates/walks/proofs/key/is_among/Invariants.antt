-- `walks::key::is_among` meets its contract. The invariant: the keys not yet looked at decide.
use Rattle.std.proofs.Common.{◌≡◌, ◌≤◌}
use Rattle.buffer.specs.Span.{span}
use Rattle.value.specs.Read.{among}
use Rattle.walks.specs.Keys.{keys_in}
use Rattle.walks.proofs.key.is_among.Given as goal

abbrev pub invariant-loop-j : goal.invariant-loop-j
invariant-loop-j l = (among (span l.s l.place l.n) (keys_in l.s l.keys l.j) ≡ among (span l.s l.place l.n) (keys_in l.s l.keys l.held)) × (l.j ≤ l.held)
