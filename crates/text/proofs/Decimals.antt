-- Laws of decimal numbers: how the digits of n follow from those of n / 10, that there are at most 20 where n has 64 bits, and that the text is n in
-- decimal.
use mathlib.Core.Path.{◌≡◌, refl, sym, ap, subst, ◌∙◌}
use mathlib.Core.List.{List, [], ◌∷◌, ◌++◌}
use Prim.Native.Nat.{ℕ, zero, suc, ◌+◌, ◌*◌, ◌-◌, ◌/◌, ◌%◌, ◌^◌, ◌≤◌, ◌<◌}
use native.Mathlib.Nat.{pow-succ'}
use native.Mathlib.Omega.{arith}
use native.Mathlib.Decide.{dec_le}
use borrow.Author.Tests.{lt-ltb, le-ltb}
use lib.ListN.{length, get_or, length-append}
use Rattle.text.specs.Decimal.{digits, decimal, decimal_value, Digits, IsDecimal}

-- ---- one digit more

digits-small : (k n : ℕ) → n < 10 → digits (suc k) n ≡ (48 + n) ∷ []
unfolding digits
digits-small k n h = let e : n % 10 ≡ n = omega arith in rw (lt-ltb n 10 h, e)

digits_more : (k n : ℕ) → 10 ≤ n → digits (suc k) n ≡ digits k (n / 10) ++ ((48 + n % 10) ∷ [])
unfolding digits
digits_more k n h = rw (le-ltb n 10 h)

-- room for more digits than n has changes nothing
digits-enough : (j k n : ℕ) → n < j → n < k → digits j n ≡ digits k n
digits-enough zero k n h g = absurd (omega arith)
digits-enough (suc j) zero n h g = absurd (omega arith)
digits-enough (suc j) (suc k) n h g = elim (dec_le 10 n) [
  | no l ↦ digits-small j n (omega arith) ∙ sym (digits-small k n (omega arith))
  | yes l ↦
      digits_more j n l
      ∙ ap (λ (ds : List ℕ). ds ++ ((48 + n % 10) ∷ [])) (digits-enough j k (n / 10) (omega arith) (omega arith))
      ∙ sym (digits_more k n l)
]

pub decimal_small : (n : ℕ) → n < 10 → decimal n ≡ (48 + n) ∷ []
unfolding decimal
decimal_small n h = digits-small n n h

pub decimal_more : (n : ℕ) → 10 ≤ n → decimal n ≡ decimal (n / 10) ++ ((48 + n % 10) ∷ [])
unfolding decimal
decimal_more n h =
    digits_more n n h
    ∙ ap (λ (ds : List ℕ). ds ++ ((48 + n % 10) ∷ [])) (digits-enough n (suc (n / 10)) (n / 10) (omega arith) (omega arith))

-- ---- how many digits

decimal-length : (k n : ℕ) → n < 10 ^ suc k → length (decimal n) ≤ suc k
decimal-length zero n h = rw (decimal_small n (omega arith)) (omega arith)
decimal-length (suc k) n h = elim (dec_le 10 n) [
  | no l ↦ rw (decimal_small n (omega arith)) (omega arith)
  | yes l ↦
      let p : n < 10 * 10 ^ suc k = rw pow-succ' at h in
      let q : n / 10 < 10 ^ suc k = omega arith in
      rw (decimal_more n l, length-append) (omega (arith, decimal-length k (n / 10) q))
]

pub twenty : (n : ℕ) → n < 2 ^ 64 → length (decimal n) ≤ 20
twenty n h = decimal-length 19 n (omega arith)

-- ---- the text is n in decimal

value-append : (x : ℕ) (ds : List ℕ) (d : ℕ) → decimal_value x (ds ++ (d ∷ [])) ≡ 10 * decimal_value x ds + (d - 48)
unfolding decimal_value
value-append x [] d = refl
value-append x (e ∷ ds) d = value-append (10 * x + (e - 48)) ds d

digits_append : (ds : List ℕ) (d : ℕ) → Digits ds → 48 ≤ d → d ≤ 57 → Digits (ds ++ (d ∷ []))
digits_append [] d w low high = (low, high, tt)
digits_append (e ∷ ds) d w low high = (w.0, w.1, digits_append ds d w.2 low high)

is-small : (n : ℕ) → n < 10 → IsDecimal n ((48 + n) ∷ [])
unfolding decimal_value
is-small n h = record { value = omega arith; some = omega arith; all = (omega arith, omega arith, tt); first = λ _. refl }

first_more : (n : ℕ) → 10 ≤ n → (ds : List ℕ) (d : ℕ) → IsDecimal (n / 10) ds → get_or (ds ++ (d ∷ [])) 0 0 ≡ 48 → length (ds ++ (d ∷ [])) ≡ 1
unfolding decimal_value
first_more n h [] d w z = absurd (omega (arith, w.some))
first_more n h (x ∷ []) d w z = absurd (omega (arith, w.value, z))
first_more n h (x ∷ y ∷ ds) d w z = absurd (omega (arith, w.first z))

is-more : (n : ℕ) → 10 ≤ n → (ds : List ℕ) → IsDecimal (n / 10) ds → IsDecimal n (ds ++ ((48 + n % 10) ∷ []))
is-more n h ds w =
    record {
      value = rw (value-append 0 ds (48 + n % 10), w.value) (omega arith);
      some = rw length-append (omega arith);
      all = digits_append ds (48 + n % 10) w.all (omega arith) (omega arith);
      first = first_more n h ds (48 + n % 10) w;
    }

is-decimal : (k n : ℕ) → n < k → IsDecimal n (decimal n)
is-decimal zero n h = absurd (omega arith)
is-decimal (suc k) n h = elim (dec_le 10 n) [
  | no g ↦ subst (IsDecimal n) (sym (decimal_small n (omega arith))) (is-small n (omega arith))
  | yes l ↦ subst (IsDecimal n) (sym (decimal_more n l)) (is-more n l (decimal (n / 10)) (is-decimal k (n / 10) (omega arith)))
]

-- Digits only, which give n, the first of them 0 only in the text of 0.
pub decimal-right : (n : ℕ) → IsDecimal n (decimal n)
decimal-right n = is-decimal (suc n) n (omega arith)
