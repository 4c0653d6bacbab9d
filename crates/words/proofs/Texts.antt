-- The pages of texts, line by line, and a number in words.
use Rattle.std.specs.Prelude.{◌≢◌}
use mathlib.Core.Path.{◌≡◌, refl}
use mathlib.Core.Bool.{true}
use mathlib.Core.List.{[], ◌∷◌, ◌++◌}
use Prim.Native.Nat.{ℕ}
use borrow.Author.Tests.{eq-eqb, ne_eqb}
use lib.ListN.{length}
use Rattle.text.specs.Codes.{codes}
use Rattle.text.specs.Page.{line_of, one_line, one_lines}
use Rattle.text.proofs.Pages.{line-of_page}
use Rattle.words.specs.Reasons.{meanings, advices}
use Rattle.words.specs.Words.{all_codes, meaning_of, advice_of, meanings_page, advices_page, unknown, explained}

-- ---- the pages

one-meanings : one_lines (all_codes meanings) ≡ true
unfolding one_lines one_line all_codes codes
one-meanings = refl

one-advices : one_lines (all_codes advices) ≡ true
unfolding one_lines one_line all_codes codes
one-advices = refl

pub meaning_line : (n : ℕ) → line_of n meanings_page ≡ meaning_of n
unfolding meaning_of meanings_page
meaning_line n = line-of_page (all_codes meanings) n one-meanings

pub advice_line : (n : ℕ) → line_of n advices_page ≡ advice_of n
unfolding advice_of advices_page
advice_line n = line-of_page (all_codes advices) n one-advices

-- ---- a number in words

pub explained_unknown : (n : ℕ) → length (meaning_of n) ≡ 0 → explained n ≡ unknown n
unfolding explained
explained_unknown n e = rw (eq-eqb (length (meaning_of n)) 0 e)

pub explained_known : (n : ℕ) → length (meaning_of n) ≢ 0 → explained n ≡ meaning_of n ++ (10 ∷ []) ++ advice_of n ++ (10 ∷ [])
unfolding explained
explained_known n e = rw (ne_eqb (length (meaning_of n)) 0 e)
