-- What the verbs salvage and index say of the files that they have made, as ASCII codes. Each line ends in one LF.
use Rattle.std.specs.Prelude.{cond, List, ◌++◌, ℕ, eqb}
use Rattle.text.specs.Codes.{codes}
use Rattle.text.specs.Decimal.{decimal}

-- A number of things, with the word for one or that for any other number.
unfoldable pub count_text : (n : ℕ) (one many : List ℕ) → List ℕ
count_text n one many = decimal n ++ cond (eqb n 1) one many

-- As in: kept 6 entries, 305 bytes; left out 2 spans.
unfoldable pub kept_text : (entries bytes spans : ℕ) → List ℕ
kept_text entries bytes spans =
    codes "kept "
    ++ count_text entries (codes " entry, ") (codes " entries, ")
    ++ count_text bytes (codes " byte; left out ") (codes " bytes; left out ")
    ++ count_text spans (codes " span\n") (codes " spans\n")

-- As in: left out 99 bytes from place 101 on.
unfoldable pub left_text : (place bytes : ℕ) → List ℕ
left_text place bytes =
    codes "left out " ++ count_text bytes (codes " byte from place ") (codes " bytes from place ") ++ decimal place ++ codes " on\n"

-- As in: indexed 9 entries, 160 bytes.
unfoldable pub indexed_text : (entries bytes : ℕ) → List ℕ
indexed_text entries bytes = codes "indexed " ++ count_text entries (codes " entry, ") (codes " entries, ") ++ count_text bytes (codes " byte\n") (codes " bytes\n")
