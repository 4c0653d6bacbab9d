-- The text of a look-up, as ASCII codes. Each line ends in one LF (10); its words have single blanks (32) between.
use Rattle.std.specs.Prelude.{cond, List, [], ◌∷◌, ◌++◌, ℕ, eqb}
use Rattle.text.specs.Decimal.{decimal}
use Rattle.text.specs.Text.{field}
use Rattle.replay.specs.Run.{Entry}
use Rattle.index.specs.Row.{Row}

-- The heading: place answer.
abbrev pub heading : List ℕ
heading = 112 ∷ 108 ∷ 97 ∷ 99 ∷ 101 ∷ 32 ∷ 97 ∷ 110 ∷ 115 ∷ 119 ∷ 101 ∷ 114 ∷ 10 ∷ []

-- The line of a row.
unfoldable pub line_text : (place answer : ℕ) → List ℕ
line_text place answer = decimal place ++ field answer ++ (10 ∷ [])

unfoldable pub lines_text : List Row → List ℕ
lines_text [] = []
lines_text (r ∷ rows) = line_text r.place r.answer ++ lines_text rows

-- The last line: stopped N.
unfoldable pub stopped_text : (number : ℕ) → List ℕ
stopped_text number = (115 ∷ 116 ∷ 111 ∷ 112 ∷ 112 ∷ 101 ∷ 100 ∷ []) ++ field number ++ (10 ∷ [])

-- The whole text: heading, the rows, and last `stopped` with 0 or a refusal's number.
unfoldable pub text_of : List Row → (number : ℕ) → List ℕ
text_of rows number = heading ++ lines_text rows ++ stopped_text number

-- ---- the same by a record's entries, beside the index

-- A line for each entry of one correlation, in order: its place and the number of its answer.
unfoldable pub call_lines : (correlation : ℕ) → List Entry → List ℕ
call_lines c [] = []
call_lines c (e ∷ es) = cond (eqb e.header.correlation c) (line_text e.place e.answer.number ++ call_lines c es) (call_lines c es)

-- The whole text of a look-up that finds these.
unfoldable pub call_text : (correlation : ℕ) → List Entry → List ℕ
call_text c es = heading ++ call_lines c es ++ stopped_text 0
