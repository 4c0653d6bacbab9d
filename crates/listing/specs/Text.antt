-- The lines of a listing, as ASCII codes. Each ends in one LF (10); its words have single blanks (32) between.
use Rattle.std.specs.Prelude.{List, [], ◌∷◌, ◌++◌, ℕ}
use Rattle.frame.specs.declared.Header.{Header}
use Rattle.receiver.specs.Received.{Received}
use Rattle.text.specs.Decimal.{decimal}
use Rattle.text.specs.Text.{field}

-- The heading: frame side kind call answer place rows open.
abbrev pub heading : List ℕ
heading =
    102 ∷ 114 ∷ 97 ∷ 109 ∷ 101 ∷ 32 ∷ 115 ∷ 105 ∷ 100 ∷ 101 ∷ 32 ∷ 107 ∷ 105 ∷ 110 ∷ 100 ∷ 32 ∷ 99 ∷ 97 ∷ 108 ∷ 108 ∷ 32 ∷
    97 ∷ 110 ∷ 115 ∷ 119 ∷ 101 ∷ 114 ∷ 32 ∷ 112 ∷ 108 ∷ 97 ∷ 99 ∷ 101 ∷ 32 ∷ 114 ∷ 111 ∷ 119 ∷ 115 ∷ 32 ∷
    111 ∷ 112 ∷ 101 ∷ 110 ∷ 10 ∷ []

-- The line of an entry: its number, side, kind and correlation, then answer, place, rows, and the calls open afterwards.
unfoldable pub line_start : (entry side : ℕ) → Header → List ℕ
line_start entry side h = decimal entry ++ (32 ∷ []) ++ (side ∷ []) ++ field h.kind ++ field h.correlation

unfoldable pub line_text : (entry side : ℕ) → Header → Received → List ℕ
line_text entry side h a = line_start entry side h ++ field a.number ++ field a.place ++ field a.rows ++ field a.«open» ++ (10 ∷ [])

-- The last line: stopped N left M.
unfoldable pub stopped_text : (number left : ℕ) → List ℕ
stopped_text number left =
    (115 ∷ 116 ∷ 111 ∷ 112 ∷ 112 ∷ 101 ∷ 100 ∷ [])
    ++ field number
    ++ (32 ∷ 108 ∷ 101 ∷ 102 ∷ 116 ∷ [])
    ++ field left
    ++ (10 ∷ [])
