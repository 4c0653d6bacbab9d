-- The sheet (01's term): rows of four cells each.
use Rattle.std.specs.Prelude.{List, [], ◌∷◌, ℕ, ◌+◌, ◌*◌, get_or}
use Rattle.value.specs.declared.Row.{Row}

-- The rows of a sheet's cells. Cells after the last whole row don't count.
unfoldable pub rows_of : List ℕ → List Row
rows_of [] = []
rows_of (a ∷ []) = []
rows_of (a ∷ b ∷ []) = []
rows_of (a ∷ b ∷ c ∷ []) = []
rows_of (a ∷ b ∷ c ∷ d ∷ cells) = record { ty = a; place = b; length = c; count = d } ∷ rows_of cells

-- The cells of rows.
unfoldable pub cells_of : List Row → List ℕ
cells_of [] = []
cells_of (r ∷ rs) = r.ty ∷ r.place ∷ r.length ∷ r.count ∷ cells_of rs

-- The four cells of row k.
abbrev pub row_at : List ℕ → ℕ → Row
row_at cells k = record {
  ty = get_or cells (4 * k) 0;
  place = get_or cells (4 * k + 1) 0;
  length = get_or cells (4 * k + 2) 0;
  count = get_or cells (4 * k + 3) 0;
}
