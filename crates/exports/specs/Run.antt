-- The call table and the tally rows over a history of frames and releases, kept from event to event in cells that the caller lends.
use Rattle.std.specs.Prelude.{List, [], ◌∷◌, ℕ}
use Rattle.receiver.specs.Run.{Event, input, release, State}
use Rattle.cells.specs.Records.{calls_of, rows_of, row_cells}
use Rattle.exports.specs.Answers.{receiving, releasing, call_cells}

-- The cells of the call table and those of the tally rows.
pub record Cells : Type 0 where
  pub table : List ℕ
  pub tallies : List ℕ

-- What they hold.
abbrev pub state_of : Cells → State
state_of c = record { calls = calls_of c.table; tallies = rows_of c.tallies }

-- The cells after one event: it is judged against the table and the rows that the cells hold, and the next ones are stored there.
abbrev pub cells_after : (schema : List ℕ) → Event → Cells → Cells
cells_after schema (input i) c =
    let a = receiving c.table schema i.side i.bytes i.sheet c.tallies in
    record { table = call_cells c.table a.answer.table.slots; tallies = row_cells c.tallies a.tallies }
cells_after schema (release id) c =
    let a = releasing c.table schema id c.tallies in
    record { table = call_cells c.table a.answer.table.slots; tallies = row_cells c.tallies a.tallies }

-- The cells after a history, its last event first.
unfoldable pub run_cells : (schema : List ℕ) → (start : Cells) → List Event → Cells
run_cells schema start [] = start
run_cells schema start (e ∷ es) = cells_after schema e (run_cells schema start es)
