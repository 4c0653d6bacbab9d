-- The texts of the verbs check, extends and explain, as ASCII codes. Each line ends in one LF.
use Rattle.std.specs.Prelude.{Option, Some, None, cond, List, [], ◌∷◌, ◌++◌, ℕ, eqb, ltb, length}
use Prim.Native.String.{String}
use Rattle.schema.specs.Checked.{Checked}
use Rattle.schema.specs.Checked.{Good, Refused as Faulty}
use Rattle.schema.specs.Extended.{Extended}
use Rattle.schema.specs.Extended.{Yes, No, Refused}
use Rattle.schema.specs.Check.{checked}
use Rattle.schema.specs.Extend.{extension}
use Rattle.text.specs.Codes.{codes}
use Rattle.text.specs.Decimal.{decimal}
use Rattle.text.specs.Text.{field}
use Rattle.text.specs.Page.{page_entry, page_of}
use Rattle.words.specs.Reasons.{meanings, advices}
use Rattle.words.specs.Number.{parsed_of}

-- ---- a number in words

unfoldable pub all_codes : List String → List (List ℕ)
all_codes [] = []
all_codes (s ∷ ss) = codes s ∷ all_codes ss

-- What a number means, after the number itself, and what to do about it; nothing for a number that means nothing.
unfoldable pub meaning_of : ℕ → List ℕ
meaning_of n = page_entry n (all_codes meanings)

unfoldable pub advice_of : ℕ → List ℕ
advice_of n = page_entry n (all_codes advices)

-- The same, a line for each number from 0 on.
unfoldable pub meanings_page : List ℕ
meanings_page = page_of (all_codes meanings)

unfoldable pub advices_page : List ℕ
advices_page = page_of (all_codes advices)

unfoldable pub unknown : ℕ → List ℕ
unknown n = decimal n ++ codes ": no number of this format\n"

-- A line for the meaning, and one for what to do.
unfoldable pub explained : ℕ → List ℕ
explained n = cond (eqb (length (meaning_of n)) 0) (unknown n) (meaning_of n ++ (10 ∷ []) ++ advice_of n ++ (10 ∷ []))

-- A refusal: refused N place P, and the number in words.
unfoldable pub refusal : (number place : ℕ) → List ℕ
refusal number place = codes "refused" ++ field number ++ codes " place" ++ field place ++ (10 ∷ []) ++ explained number

-- ---- check

abbrev pub by_check : Checked → List ℕ
by_check Good = codes "good\n"
by_check (Faulty number place) = refusal number place

-- A file of more than 65,536 bytes is refused with 45, as the listing does; then the table's verdict.
unfoldable pub check_text : (schema : List ℕ) → List ℕ
check_text schema = cond (ltb 65536 (length schema)) (refusal 45 0) (by_check (checked schema))

-- ---- extends

-- The file that the refusal is about: the old one where that is not good, else the new one.
unfoldable pub which_of : (old : Checked) → List ℕ
which_of Good = codes "new "
which_of (Faulty number place) = codes "old "

abbrev pub by_extension : (old : Checked) → Extended → List ℕ
by_extension old Yes = codes "yes\n"
by_extension old No = codes "no\n"
by_extension old (Refused number place) = which_of old ++ refusal number place

-- 45 for either file, the old one first; then the answer for two files.
unfoldable pub extends_text : (old new : List ℕ) → List ℕ
extends_text old new =
    cond (ltb 65536 (length old)) (codes "old " ++ refusal 45 0)
    (cond (ltb 65536 (length new)) (codes "new " ++ refusal 45 0)
    (by_extension (checked old) (extension old new)))

-- ---- explain

abbrev pub by_number : Option ℕ → List ℕ
by_number (Some n) = explained n
by_number None = codes "no number\n"

unfoldable pub explain_text : (word : List ℕ) → List ℕ
explain_text word = by_number (parsed_of word)
