-- Laws of a number read: each turn of the code that reads it, and that just the decimal texts of numbers of 64 bits, leading zeros aside, are read.
use mathlib.Core.Path.{◌≡◌, refl, ap, ◌∙◌}
use mathlib.Core.Bool.{true, false}
use mathlib.Core.List.{List, [], ◌∷◌}
use Prim.Native.Nat.{ℕ, suc, ◌+◌, ◌*◌, ◌-◌, ◌^◌, ◌≤◌, ◌<◌}
use native.Mathlib.Omega.{arith}
use borrow.Author.Tests.{leb-true, le-leb, lt-leb}
use lib.Dec.{leb}
use lib.ListN.{length, get_or, drop, drop_of_length-le}
use lib.Seq.{drop-cons}
use Rattle.wire.proofs.Cases.{differ, chosen}
use Rattle.schema.proofs.Bools.{and_left, and_right}
use Rattle.text.specs.Decimal.{decimal, decimal_value, Digits}
use Rattle.text.proofs.Decimals.{decimal-right}
use Rattle.std.specs.Prelude.{Some, None}
use Rattle.words.specs.Number.{is_digit, number_from, parsed_of}

pub digit-least : (b : ℕ) → is_digit b ≡ true → 48 ≤ b
digit-least b e = leb-true 48 b (and_left (leb 48 b) (leb b 57) e)

pub digit-most : (b : ℕ) → is_digit b ≡ true → b ≤ 57
digit-most b e = leb-true b 57 (and_right (leb 48 b) (leb b 57) e)

-- ---- as the code reads it

pub number_first : (word : List ℕ) → 0 < length word → parsed_of word ≡ number_from 0 word
unfolding parsed_of
number_first [] h = absurd (omega arith)
number_first (d ∷ ds) h = refl

pub number_none : (word : List ℕ) → length word ≡ 0 → parsed_of word ≡ None
unfolding parsed_of
number_none [] z = refl
number_none (d ∷ ds) z = absurd (omega (arith, z))

pub number_end : (word : List ℕ) (i x : ℕ) → length word ≤ i → number_from x (drop i word) ≡ Some x
unfolding number_from
number_end word i x h = rw (drop_of_length-le word h)

module _ (word : List ℕ) (i x : ℕ) (h : i < length word) where
  split : drop i word ≡ get_or word i 0 ∷ drop (i + 1) word
  split = let e : i + 1 ≡ suc i = omega arith in rw e (drop-cons word i 0 h)

  pub number_stray : is_digit (get_or word i 0) ≡ false → number_from x (drop i word) ≡ None
  unfolding number_from
  number_stray e = rw (split, e)

  pub number_long : is_digit (get_or word i 0) ≡ true → 18446744073709551615 < 10 * x + (get_or word i 0 - 48) → number_from x (drop i word) ≡ None
  unfolding number_from
  number_long e l = rw (split, e, lt-leb (10 * x + (get_or word i 0 - 48)) 18446744073709551615 l)

  pub number_turn : is_digit (get_or word i 0) ≡ true → x * 10 + (get_or word i 0 - 48) < 18446744073709551616
      → number_from x (drop i word) ≡ number_from (x * 10 + (get_or word i 0 - 48)) (drop (i + 1) word)
  unfolding number_from
  number_turn e l =
      let swap : x * 10 + (get_or word i 0 - 48) ≡ 10 * x + (get_or word i 0 - 48) = omega arith in
      rw (swap, split, e, le-leb (10 * x + (get_or word i 0 - 48)) 18446744073709551615 (omega (arith, l)))

-- Each turn of the code that reads a number.
pub ruleset number_turns = (number_first, number_none, number_end, number_stray, number_long, number_turn)

-- ---- what is read

value-least : (x : ℕ) (ds : List ℕ) → x ≤ decimal_value x ds
unfolding decimal_value
value-least x [] = omega arith
value-least x (d ∷ ds) = omega (arith, value-least (10 * x + (d - 48)) ds)

digits-read : (x : ℕ) (ds : List ℕ) → Digits ds → decimal_value x ds < 2 ^ 64 → number_from x ds ≡ Some (decimal_value x ds)
unfolding decimal_value number_from
digits-read x [] w h = refl
digits-read x (d ∷ ds) w h =
    let fits : 10 * x + (d - 48) ≤ 18446744073709551615 = omega (arith, h, value-least (10 * x + (d - 48)) ds) in
    rw (le-leb 48 d w.0, le-leb d 57 w.1, le-leb (10 * x + (d - 48)) 18446744073709551615 fits) (digits-read (10 * x + (d - 48)) ds w.2 h)

-- A number of 64 bits is read from its decimal text.
pub decimal-read : (n : ℕ) → n < 2 ^ 64 → parsed_of (decimal n) ≡ Some n
decimal-read n h =
    let w = decimal-right n in
    let fits : decimal_value 0 (decimal n) < 2 ^ 64 = omega (arith, h, w.value) in
    number_first (decimal n) w.some ∙ digits-read 0 (decimal n) w.all fits ∙ ap Some w.value

nothing-number : {n : ℕ} → None ≡ Some n → ⊥
nothing-number e = differ cc

digits-alone : (x n : ℕ) (ds : List ℕ) → number_from x ds ≡ Some n → Digits ds × (decimal_value x ds ≡ n)
unfolding decimal_value number_from
digits-alone x n [] e = (tt, cc)
digits-alone x n (d ∷ ds) e =
    let digit = chosen (is_digit d) _ None nothing-number e in
    let fits = chosen (leb (10 * x + (d - 48)) 18446744073709551615) _ None nothing-number digit.1 in
    let rest = digits-alone (10 * x + (d - 48)) n ds fits.1 in
    ((digit-least d digit.0, digit-most d digit.0, rest.0), rest.1)

-- What is read has digits alone, at least one, and they give the number.
pub read-decimal : (n : ℕ) (word : List ℕ) → parsed_of word ≡ Some n → (0 < length word) × Digits word × (decimal_value 0 word ≡ n)
unfolding parsed_of
read-decimal n [] e = absurd (nothing-number e)
read-decimal n (d ∷ ds) e = let w = digits-alone 0 n (d ∷ ds) e in (omega arith, w.0, w.1)
