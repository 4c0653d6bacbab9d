-- What the searches of a call table share.
use Rattle.std.specs.Prelude.{Bool, true, cond, ◌&&◌, List, ℕ, zero, suc, Option, Some, None}
use Rattle.schema.specs.Table.{Table}
use Rattle.calls.specs.declared.Call.{Call}
use Rattle.calls.specs.Slots.{count_open, good_table}

-- n slots from the i-th on pass.
unfoldable pub all_from : (ℕ → Bool) → (i n : ℕ) → Bool
all_from p i zero = true
all_from p i (suc n) = p i && all_from p (suc i) n

-- How many calls are open in a table whose records fit their form and are good.
abbrev pub good_count : (fits : ℕ → Bool) → Table → List Call → Option ℕ
good_count fits T l = cond (all_from fits 0 128 && good_table T l) (Some (count_open l)) None
