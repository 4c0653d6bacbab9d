-- A cancelled call: what CANCEL changes in its record, what is answered to its frames kind by kind, and that the mark may stand in any open record.
use mathlib.Core.Path.{◌≡◌}
use mathlib.Core.Bool.{Bool, true, false}
use mathlib.Core.List.{[], ◌∷◌, map as each}
use Rattle.schema.specs.Table.{Table}
use Rattle.schema.proofs.Bools.{or-none}
use Rattle.calls.specs.declared.Call.{Call}
use Rattle.calls.specs.declared.FormRow.{FormRow}
use Rattle.calls.specs.Record.{allowed, not_allowed, marked, with_mark}
use Rattle.calls.specs.Good.{GoodCall}

-- CANCEL sets the mark of a call that has none, and nothing else.
pub cancel-marks : (c : Call) → c.cancelled ≡ false → marked 8 c ≡ with_mark true c
cancel-marks c e = rw (e, or-none c.responded, or-none c.input_closed, or-none c.output_closed)

-- Of the kinds 2 to 8 a cancelled call allows ERROR alone.
pub error-alone : (row : FormRow) (c : Call) → c.cancelled ≡ true →
    each (λ k. allowed row k c) (2 ∷ 3 ∷ 4 ∷ 5 ∷ 6 ∷ 7 ∷ 8 ∷ []) ≡ false ∷ false ∷ false ∷ false ∷ false ∷ true ∷ false ∷ []
error-alone row c e = rw e

-- The server's others (OUT_STREAM, OUT_CLOSE, RESPONSE) are 16, the client's (IN_STREAM, IN_CLOSE, CANCEL) 14.
pub dropped-kinds : (c : Call) → c.cancelled ≡ true → each (λ k. not_allowed k c) (2 ∷ 3 ∷ 4 ∷ 5 ∷ 6 ∷ 8 ∷ []) ≡ 14 ∷ 14 ∷ 16 ∷ 16 ∷ 16 ∷ 14 ∷ []
dropped-kinds c e = rw e

-- Of a call that is not cancelled all are 14.
pub late-kinds : (c : Call) → c.cancelled ≡ false → each (λ k. not_allowed k c) (2 ∷ 3 ∷ 4 ∷ 5 ∷ 6 ∷ 8 ∷ []) ≡ 14 ∷ 14 ∷ 14 ∷ 14 ∷ 14 ∷ 14 ∷ []
late-kinds c e = rw e

-- A good table may hold the mark in any open record.
pub any_open : (T : Table) (c : Call) (b : Bool) → GoodCall T c → GoodCall T (with_mark b c)
any_open T c b g =
    record {
      method_exists = g.method_exists;
      input_closed_of = g.input_closed_of;
      output_closed_of = g.output_closed_of;
      after_response = g.after_response;
      input_elements_of = g.input_elements_of;
      output_elements_of = g.output_elements_of;
      not_complete = g.not_complete;
    }
