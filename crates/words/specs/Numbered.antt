-- What the tables of texts are held to, apart from the code that looks a number up in them.
use Rattle.std.specs.Prelude.{Bool, true, cond, ◌&&◌, ◌||◌, List, [], ◌∷◌, ◌++◌, ℕ, suc, eqb, length}
use Rattle.text.specs.Codes.{codes}
use Rattle.text.specs.Decimal.{decimal}

unfoldable pub starts_with : (word text : List ℕ) → Bool
starts_with [] text = true
starts_with (a ∷ word) [] = eqb 0 1
starts_with (a ∷ word) (b ∷ text) = eqb a b && starts_with word text

-- Every text begins with its own number, counted from n on, a colon and a blank, or is empty.
unfoldable pub numbered : (n : ℕ) → List (List ℕ) → Bool
numbered n [] = true
numbered n (t ∷ ts) = (eqb (length t) 0 || starts_with (decimal n ++ codes ": ") t) && numbered (suc n) ts

-- The numbers, counted from n on, whose text is not empty.
unfoldable pub numbers_with_text : (n : ℕ) → List (List ℕ) → List ℕ
numbers_with_text n [] = []
numbers_with_text n (t ∷ ts) = cond (eqb (length t) 0) [] (n ∷ []) ++ numbers_with_text (suc n) ts
