-- The lines of a page, each ended by one LF (10). A line's number counts from 0.
use Rattle.std.specs.Prelude.{Bool, true, cond, not, ◌&&◌, List, [], ◌∷◌, ◌++◌, ℕ, zero, suc, eqb}

-- The line with a number, without its LF; empty where the page has no such line.
unfoldable pub line_of : ℕ → (page : List ℕ) → List ℕ
line_of n [] = []
line_of zero (b ∷ s) = cond (eqb b 10) [] (b ∷ line_of zero s)
line_of (suc n) (b ∷ s) = cond (eqb b 10) (line_of n s) (line_of (suc n) s)

-- The page that has these lines, in order.
unfoldable pub page_of : List (List ℕ) → List ℕ
page_of [] = []
page_of (l ∷ ls) = l ++ (10 ∷ page_of ls)

-- The text has no LF in it.
unfoldable pub one_line : List ℕ → Bool
one_line [] = true
one_line (b ∷ s) = not (eqb b 10) && one_line s

unfoldable pub one_lines : List (List ℕ) → Bool
one_lines [] = true
one_lines (l ∷ ls) = one_line l && one_lines ls

-- The entry with a number, counted from 0; empty where the list has none.
unfoldable pub page_entry : ℕ → List (List ℕ) → List ℕ
page_entry n [] = []
page_entry zero (l ∷ ls) = l
page_entry (suc n) (l ∷ ls) = page_entry n ls
