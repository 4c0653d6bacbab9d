-- The cells that a caller lends for the numbers of an answer.
use Rattle.std.specs.Prelude.{List, ◌++◌, ℕ, length, take, drop}

-- The values in the place of the first cells, as many as there are cells for; the other cells as they were.
unfoldable pub stored : (cells values : List ℕ) → List ℕ
stored cells values = take (length cells) values ++ drop (length values) cells
