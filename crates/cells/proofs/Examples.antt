-- The marks of a record in cells and its elements, each alone; and tally rows in cells.
use mathlib.Core.Path.{◌≡◌, refl}
use mathlib.Core.Bool.{true, false}
use mathlib.Core.List.{List, [], ◌∷◌, map as each}
use Rattle.calls.specs.declared.Call.{Call}
use Rattle.calls.specs.declared.Tally.{Tally}
use Rattle.cells.specs.Records.{call_of, marks_of, rows_of, row_cells}

-- Call 9 of method 3: open; RESPONSE; input closed; output closed; cancelled; three input elements; three output elements.
abbrev pub alone : List Call
alone =
    record { correlation = 9; method = 3; «open» = true; responded = false; input_closed = false; output_closed = false; cancelled = false; input_elements = 0; output_elements = 0 } ∷
    record { correlation = 9; method = 3; «open» = false; responded = true; input_closed = false; output_closed = false; cancelled = false; input_elements = 0; output_elements = 0 } ∷
    record { correlation = 9; method = 3; «open» = false; responded = false; input_closed = true; output_closed = false; cancelled = false; input_elements = 0; output_elements = 0 } ∷
    record { correlation = 9; method = 3; «open» = false; responded = false; input_closed = false; output_closed = true; cancelled = false; input_elements = 0; output_elements = 0 } ∷
    record { correlation = 9; method = 3; «open» = false; responded = false; input_closed = false; output_closed = false; cancelled = true; input_elements = 0; output_elements = 0 } ∷
    record { correlation = 9; method = 3; «open» = false; responded = false; input_closed = false; output_closed = false; cancelled = false; input_elements = 3; output_elements = 0 } ∷
    record { correlation = 9; method = 3; «open» = false; responded = false; input_closed = false; output_closed = false; cancelled = false; input_elements = 0; output_elements = 3 } ∷ []

-- They are told as 1, 2, 4, 8, 16, three times 32, and three times 2097152,
pub marks-alone : each marks_of alone ≡ 1 ∷ 2 ∷ 4 ∷ 8 ∷ 16 ∷ 96 ∷ 6291456 ∷ []
marks-alone = refl

-- and read from these.
pub marks-read : each (call_of 9 3) (1 ∷ 2 ∷ 4 ∷ 8 ∷ 16 ∷ 96 ∷ 6291456 ∷ []) ≡ alone
unfolding call_of
marks-read = refl

-- Two rows in twelve cells: opened, completed, errored, cancelled, failed; two cells are left over.
abbrev pub two_rows : List Tally
two_rows =
    record { opened = 1; completed = 2; errored = 3; cancelled = 4; failed = 5 } ∷
    record { opened = 6; completed = 7; errored = 8; cancelled = 9; failed = 10 } ∷ []

pub rows-read : rows_of (1 ∷ 2 ∷ 3 ∷ 4 ∷ 5 ∷ 6 ∷ 7 ∷ 8 ∷ 9 ∷ 10 ∷ 11 ∷ 12 ∷ []) ≡ two_rows
unfolding rows_of
rows-read = refl

pub rows_told : row_cells (0 ∷ 0 ∷ 0 ∷ 0 ∷ 0 ∷ 0 ∷ 0 ∷ 0 ∷ 0 ∷ 0 ∷ 11 ∷ 12 ∷ []) two_rows ≡ 1 ∷ 2 ∷ 3 ∷ 4 ∷ 5 ∷ 6 ∷ 7 ∷ 8 ∷ 9 ∷ 10 ∷ 11 ∷ 12 ∷ []
unfolding row_cells
rows_told = refl
