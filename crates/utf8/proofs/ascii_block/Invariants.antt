-- `utf8::ascii_block` meets its contract: the words passed are ASCII.
use mathlib.Core.Path.{◌≡◌}
use mathlib.Core.Bool.{true}
use Prim.Native.Nat.{◌*◌}
use lib.ListN.{take, drop}
use Rattle.utf8.specs.Utf8.{ascii}
use Rattle.utf8.proofs.ascii_block.Given as goal

abbrev pub invariant-loop-k : goal.invariant-loop-k
invariant-loop-k l = ascii (take (8 * l.k) (drop l.at l.s)) ≡ true
