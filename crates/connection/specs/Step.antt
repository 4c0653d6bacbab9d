-- The call table by value: the fresh one, and the next one beside the answer's number.
use Rattle.std.specs.Prelude.{ℕ, List}
use Rattle.calls.specs.declared.Call.{Call}
use Rattle.calls.specs.Judged.{Judged}
use Rattle.calls.specs.Slots.{fresh_slots}
use Rattle.calls.specs.Step.{after_judged}
use Rattle.calls.specs.Told.{told_number}
use Rattle.connection.specs.declared.CallTable.{CallTable}
use Rattle.connection.specs.declared.Stepped as answered

-- The table at the start.
abbrev pub fresh_table : CallTable
fresh_table = record { slots = fresh_slots }

-- The answer's number and the next table.
pub record Stepped : Type 0 where
  pub number : ℕ
  pub table : CallTable

unfoldable pub step_of : Judged → (payload : ℕ) → List Call → Stepped
step_of J p l = record { number = (after_judged J p l).number; table = record { slots = (after_judged J p l).slots } }

-- What the code's answer tells.
abbrev pub told_step : {E : Type 0} → (number : E → ℕ) → answered.Stepped E → Stepped
told_step number s = record { number = told_number number s.answer; table = s.table }
