-- One frame with fresh tally rows, and the run of a record that keeps none.
use Rattle.std.specs.Prelude.{List, [], ◌∷◌, ℕ}
use Rattle.schema.specs.File.{table_of}
use Rattle.calls.specs.declared.Call.{Call}
use Rattle.receiver.specs.Received.{Received}
use Rattle.receiver.specs.Receive.{received}
use Rattle.receiver.specs.Run.{Input, Event, input, fresh_tallies}

-- An answer with the sheet as it is left.
pub record FreshEffect : Type 0 where
  pub answer : Received
  pub sheet : List ℕ

abbrev pub fresh_effect : Received → List ℕ → FreshEffect
fresh_effect r sheet = record { answer = r; sheet = sheet }

-- The answer with a row of zeros for each method.
unfoldable pub received_fresh : (schema : List ℕ) (side : ℕ) (bytes sheet : List ℕ) → List Call → FreshEffect
received_fresh schema side bytes sheet l =
    let a = received schema side bytes sheet (fresh_tallies (table_of schema)) l in fresh_effect a.answer a.sheet

-- ---- a run of inputs, the last first

-- The same as events.
abbrev pub inputs : List Input → List Event
inputs [] = []
inputs (i ∷ is) = input i ∷ inputs is

-- The calls after it, where each frame is answered with fresh rows.
unfoldable pub fresh_run : (schema : List ℕ) → List Input → List Call → List Call
fresh_run schema [] l = l
fresh_run schema (i ∷ is) l = (received_fresh schema i.side i.bytes i.sheet (fresh_run schema is l)).answer.table.slots
