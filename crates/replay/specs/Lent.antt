-- The same run by whoever lends tally rows and carries them along: fresh tallies, counted from entry to entry.
use Rattle.std.specs.Prelude.{cond, List, [], ◌∷◌, ℕ, zero, suc, ◌+◌, length, drop}
use Rattle.schema.specs.File.{table_of}
use Rattle.receiver.specs.Receive.{received}
use Rattle.receiver.specs.Run.{State, fresh_state}
use Rattle.replay.specs.Run.{sheet, stops, entry_of, Run, halted, onward}

-- The run from a place on, with these calls and rows.
unfoldable pub lent_from : (schema : List ℕ) → (most place : ℕ) → (left : List ℕ) → State → Run
lent_from schema zero place left st = halted 0 0
lent_from schema (suc n) place [] st = halted 0 0
lent_from schema (suc n) place (side ∷ bytes) st =
    let x = received schema side bytes sheet st.tallies st.calls in
    let a = x.answer in
    cond (stops side a.number a.used) (halted a.number (length (side ∷ bytes)))
    (onward (entry_of place side bytes a) (lent_from schema n (place + 1 + a.used) (drop a.used bytes) (record { calls = a.table.slots; tallies = x.tallies })))

-- The run of a whole record from no calls and a row of zeros for each method.
unfoldable pub lent_run : (schema entries : List ℕ) → Run
lent_run schema entries = lent_from schema (length entries) 0 entries (fresh_state (table_of schema))
