-- The table of the forms (docs/FORMAT.md): the streaming kinds that each form allows, and the letters of a form.
use Rattle.std.specs.Prelude.{ℕ, ◌/◌, ◌%◌, Bool, true, false, List, [], ◌∷◌, get_or, eqb}
use Rattle.calls.specs.declared.FormRow.{FormRow}

abbrev pub Y : Bool
Y = true

abbrev pub N : Bool
N = false

-- The columns IN_STREAM, IN_CLOSE, OUT_STREAM, OUT_CLOSE of the forms NNNN to YYYY.
abbrev pub table_one : List FormRow
table_one =
    (N, N, N, N)  -- NNNN
    ∷ (N, N, Y, Y)  -- NNNY
    ∷ (Y, Y, N, N)  -- NNYN
    ∷ (Y, Y, Y, Y)  -- NNYY
    ∷ (N, N, N, N)  -- NYNN
    ∷ (N, N, Y, Y)  -- NYNY
    ∷ (Y, Y, N, N)  -- NYYN
    ∷ (Y, Y, Y, Y)  -- NYYY
    ∷ (N, N, N, N)  -- YNNN
    ∷ (N, N, Y, Y)  -- YNNY
    ∷ (Y, Y, N, N)  -- YNYN
    ∷ (Y, Y, Y, Y)  -- YNYY
    ∷ (N, N, N, N)  -- YYNN
    ∷ (N, N, Y, Y)  -- YYNY
    ∷ (Y, Y, N, N)  -- YYYN
    ∷ (Y, Y, Y, Y)  -- YYYY
    ∷ []

-- Past the last form nothing is allowed.
unfoldable pub row_of_form : ℕ → FormRow
row_of_form form = get_or table_one form (N, N, N, N)

-- Form letters count 8 (input), 4 (output), 2 (input stream), 1 (output stream).
abbrev pub letter : ℕ → ℕ → Bool
letter weight form = eqb (form / weight % 2) 1

-- The row by the letters: the input kinds where the form has an input stream, the output kinds where it has an output stream.
abbrev pub letters_row : ℕ → FormRow
letters_row form = (letter 2 form, letter 2 form, letter 1 form, letter 1 form)
