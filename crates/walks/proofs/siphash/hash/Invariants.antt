-- `walks::siphash::hash` meets its contract. The invariant: the state after the words passed.
use Rattle.std.proofs.Common.{◌≡◌, ◌/◌, ◌≤◌}
use Rattle.buffer.specs.Span.{span}
use Rattle.walks.specs.Siphash.{words}
use Rattle.walks.proofs.siphash.hash.Given as goal

abbrev pub invariant-loop-i : goal.invariant-loop-i
invariant-loop-i l = (l.v ≡ words (span l.s l.place l.n) l.i) × (l.i ≤ l.n / 8)
