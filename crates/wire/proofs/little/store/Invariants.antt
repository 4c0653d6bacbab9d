-- `wire::little::store` meets its contract: the bytes still to be stored, stored, give what all of them give.
use mathlib.Core.Path.{◌≡◌}
use Prim.Native.Nat.{◌+◌, ◌-◌}
use lib.ListN.{length}
use lib.Seq.{sets}
use Rattle.wire.specs.Little.{bytes}
use Rattle.wire.proofs.little.store.Given as goal

abbrev pub invariant-loop-i : goal.invariant-loop-i
invariant-loop-i l = (length l.d ≡ length l.initial.d) × (sets l.d (l.at + l.i) (bytes (l.n - l.i) l.rest) ≡ sets l.initial.d l.at (bytes l.n l.x))
