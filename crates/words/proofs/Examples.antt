-- The tables of texts, held to the numbers; and worked texts, whole.
use mathlib.Core.Path.{◌≡◌, refl}
use mathlib.Core.Bool.{true}
use mathlib.Core.List.{List, [], ◌∷◌}
use Prim.Native.Nat.{ℕ}
use Rattle.wire.specs.Little as little
use Rattle.schema.specs.Table as table
use Rattle.schema.specs.File as file
use Rattle.schema.specs.Check as check
use Rattle.schema.specs.Extend as extend
use Rattle.schema.proofs.Examples as example
use Rattle.text.specs.Codes.{codes}
use Rattle.text.specs.Decimal as decimal
use Rattle.text.specs.Text as text
use Rattle.text.specs.Page as page
use Rattle.words.specs.Reasons.{meanings, advices}
use Rattle.std.specs.Prelude.{Some, None}
use Rattle.words.specs.Number as number
use Rattle.words.specs.Words as words
use Rattle.words.specs.Numbered as numbered

-- ---- the tables

-- Each meaning stands at its own number.
pub meanings-numbered : numbered.numbered 0 (words.all_codes meanings) ≡ true
unfolding codes words.all_codes numbered.starts_with numbered.numbered decimal.digits decimal.decimal
meanings-numbered = refl

-- The numbers that have a meaning (docs/FORMAT.md, "Numbers that come back"). Just these have advice.
abbrev pub numbers : List ℕ
numbers =
    0 ∷ 1 ∷ 2 ∷ 3 ∷ 4 ∷ 5 ∷ 6 ∷ 7 ∷ 8 ∷ 9 ∷ 10 ∷ 11 ∷ 12 ∷ 13 ∷ 14 ∷ 15 ∷ 16 ∷ 17 ∷ 18 ∷ 19 ∷
    20 ∷ 21 ∷ 22 ∷ 23 ∷ 24 ∷ 25 ∷ 26 ∷ 27 ∷ 28 ∷ 29 ∷ 30 ∷ 31 ∷
    40 ∷ 41 ∷ 42 ∷ 43 ∷ 44 ∷ 45 ∷ 46 ∷ 47 ∷ 50 ∷ 51 ∷ 52 ∷ 53 ∷ 65 ∷ 66 ∷ []

pub meanings-present : numbered.numbers_with_text 0 (words.all_codes meanings) ≡ numbers
unfolding codes words.all_codes numbered.numbers_with_text
meanings-present = refl

pub advices-present : numbered.numbers_with_text 0 (words.all_codes advices) ≡ numbers
unfolding codes words.all_codes numbered.numbers_with_text
advices-present = refl

-- ---- numbers read

pub numbers-read : (number.parsed_of (codes "26") ≡ Some 26) × (number.parsed_of (codes "026") ≡ Some 26)
    × (number.parsed_of (codes "18446744073709551615") ≡ Some 18446744073709551615) × (number.parsed_of (codes "18446744073709551616") ≡ None)
    × (number.parsed_of (codes "") ≡ None) × (number.parsed_of (codes "2x") ≡ None) × (number.parsed_of (codes "-2") ≡ None)
unfolding codes number.number_from number.parsed_of
numbers-read = (refl, refl, refl, refl, refl, refl, refl)

-- ---- whole texts

explains : List ℕ → List ℕ
unfolding codes number.number_from number.parsed_of page.page_entry decimal.digits decimal.decimal text.field words.all_codes words.meaning_of words.advice_of words.unknown
    words.explained words.explain_text
explains w = words.explain_text w

pub explains_16 : words.explain_text (codes "16") ≡ codes "16: a frame of the server to a cancelled call, which is dropped\nWe cancelled the call, and this answer was already on its way. Nothing to do; what it says was not read.\n"
unfolding explains
explains_16 = refl

pub explains_99 : words.explain_text (codes "99") ≡ codes "99: no number of this format\n"
unfolding explains
explains_99 = refl

checks : List ℕ → List ℕ
unfolding explains little.little table.shape file.cell file.shaped file.layout_of file.tabulate file.table_of check.lowest check.good_row check.good_field check.find_among
    check.good_method check.small check.bad_row check.bad_field check.bad_method check.checked_table check.checked words.refusal words.check_text
checks s = words.check_text s

-- table T's file, and a file without bytes
pub checks-good : words.check_text example.file ≡ codes "good\n"
unfolding checks
checks-good = refl

pub checks-empty : words.check_text [] ≡ codes "refused 40 place 0\n40: the shape of the schema file is wrong\nThe file is no schema file, or was cut or changed on its way. Get it anew.\n"
unfolding checks
checks-empty = refl

extends_of : List ℕ → List ℕ → List ℕ
unfolding checks extend.every extend.field_kept extend.row_kept_of extend.method_kept extend.widened extend.bitmap_kept extend.extended extend.extension words.which_of words.extends_text
extends_of old new = words.extends_text old new

pub extends-itself : words.extends_text example.file example.file ≡ codes "yes\n"
unfolding extends_of
extends-itself = refl

pub extends-old : words.extends_text [] example.file ≡ codes "old refused 40 place 0\n40: the shape of the schema file is wrong\nThe file is no schema file, or was cut or changed on its way. Get it anew.\n"
unfolding extends_of
extends-old = refl

pub extends-new : words.extends_text example.file [] ≡ codes "new refused 40 place 0\n40: the shape of the schema file is wrong\nThe file is no schema file, or was cut or changed on its way. Get it anew.\n"
unfolding extends_of
extends-new = refl
