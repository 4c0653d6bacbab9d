-- The call table read from cells, record by record.
use mathlib.Core.Path.{◌≡◌, refl, ap}
use mathlib.Core.Bool.{false}
use mathlib.Core.List.{List}
use Prim.Native.Nat.{ℕ, zero, suc, ◌<◌}
use borrow.Author.Tests.{lt-leb}
use lib.ListN.{length}
use Rattle.cells.specs.Records.{calls_from, are_calls}

-- ---- read

pub calls-long : (cells : List ℕ) (i n : ℕ) → length (calls_from cells i n) ≡ n
unfolding calls_from
calls-long cells i zero = refl
calls-long cells i (suc n) = ap suc (calls-long cells (suc i) n)

-- ---- judged

pub too_few : (cells : List ℕ) → length cells < 384 → false ≡ are_calls cells
unfolding are_calls
too_few cells h = rw (lt-leb 384 (length cells) h)
