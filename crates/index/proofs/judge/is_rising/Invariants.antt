-- `index::judge::is_rising` meets its contract: what is left rises exactly where all rows do.
use mathlib.Core.Path.{◌≡◌}
use Prim.Native.Nat.{◌*◌, ◌-◌}
use lib.ListN.{drop}
use Rattle.index.specs.Row.{is_rising}
use Rattle.index.specs.IsIndex.{rows_in}
use Rattle.index.proofs.judge.is_rising.Given as goal

abbrev pub invariant-loop-next : goal.invariant-loop-next
invariant-loop-next l = is_rising (rows_in (l.n - (l.next - 1)) (drop (16 * (l.next - 1)) l.index)) ≡ is_rising (rows_in l.n l.index)
