-- The sheet as a list of cells: rows of four, of which only whole ones count.
use Rattle.std.specs.Prelude.{cond, List, [], ◌∷◌, ◌++◌, ℕ, ◌+◌, ◌*◌, leb, length, set, drop}
use Rattle.value.specs.declared.Row.{Row}
use Rattle.value.specs.Sheet.{cells_of}

-- A sheet whose first rows are these, and whose other cells are as they were.
abbrev pub shown_in : List ℕ → List Row → List ℕ
shown_in sheet rs = cells_of rs ++ drop (4 * length rs) sheet

-- ---- as a walk writes it: a row is written where the sheet has it

-- The four cells of a row from cell b on.
unfoldable pub put4 : List ℕ → ℕ → Row → List ℕ
put4 l b r = set (set (set (set l b r.ty) (b + 1) r.place) (b + 2) r.length) (b + 3) r.count

-- Row i, where the sheet has it.
unfoldable pub put_row : List ℕ → ℕ → Row → List ℕ
put_row l i r = cond (leb (4 * i + 4) (length l)) (put4 l (4 * i) r) l

-- Rows from row i on.
unfoldable pub put_rows : List ℕ → ℕ → List Row → List ℕ
put_rows l i [] = l
put_rows l i (r ∷ rs) = put_row (put_rows l (i + 1) rs) i r
