-- `walks::key::is_same` meets its contract. The invariant: what is left of the two spans decides.
use Rattle.std.proofs.Common.{◌≡◌, ◌+◌, ◌-◌, ◌≤◌}
use Rattle.buffer.specs.Span.{span}
use Rattle.value.specs.Read.{same}
use Rattle.walks.proofs.key.is_same.Given as goal

abbrev pub invariant-loop-i : goal.invariant-loop-i
invariant-loop-i l = (same (span l.s (l.a + l.i) (l.n - l.i)) (span l.s (l.b + l.i) (l.m - l.i)) ≡ same (span l.s l.a l.n) (span l.s l.b l.m)) × (l.i ≤ l.n)
