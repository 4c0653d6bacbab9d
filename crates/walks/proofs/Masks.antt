-- Laws of a struct's bits by the word: the bits that are required, and the next bit that is set.
use Rattle.std.proofs.Common.{◌≡◌, ℕ, zero, suc, ◌+◌, ◌-◌, ◌*◌, ◌/◌, ◌%◌, ◌^◌, ◌<◌, ◌≤◌, min, Bool, true, false, cond, ◌&&◌, ◌||◌, eqb, List, [], ◌∷◌, length, take, drop, sym, refl, ap, ◌∙◌, div-one, arith, drop-drop, pow_mono, shr_lt, eq-eqb, ne_eqb, eqb-true}
use native.Mathlib.Nat.{div-eq_of_lt, pow-succ'}
use native.Mathlib.Decide.{dec_lt}
use borrow.Author.Tests.{eqb-false}
use lib.Bits.{bit_and, and_step, and_zero_l}
use lib.Count.{under, count_trailing_zeros}
use lib.Pow.{shr_le}
use lib.Seq.{drop-nil}
use Rattle.schema.specs.declared.Field.{Field}
use Rattle.schema.specs.declared.TypeRow.{TypeRow}
use Rattle.schema.specs.Table.{Table, row_at}
use Rattle.schema.specs.File.{table_of}
use Rattle.schema.specs.Check.{IsGood, field_row_of}
use Rattle.value.specs.Read.{Item, plain_item, present, required_set}
use Rattle.value.proofs.Bits.{half_pow, present-none}
use Rattle.walks.specs.Shape.{fields_from}
use Rattle.walks.specs.Required.{required_bit, Requires}
use Rattle.walks.proofs.Tables.{field_row}
use Rattle.walks.proofs.Presence.{complete-more, complete-end, present-set}

-- ---- bits that are required

same_test : (a b c d : ℕ) → (a ≡ b → c ≡ d) → (c ≡ d → a ≡ b) → eqb a b ≡ eqb c d
same_test a b c d f g = go (eqb c d) refl
  where
    go : (t : Bool) → eqb c d ≡ t → eqb a b ≡ t
    go true e = eq-eqb a b (g (eqb-true c d e))
    go false e = ne_eqb a b (λ q. eqb-false c d e (f q))

and-more : (r b m : ℕ) → b ≤ 1 → bit_and (2 * r + b) m ≡ bit_and r (m / 2) * 2 + min b (m % 2)
and-more r b m h =
    let half : (2 * r + b) / 2 ≡ r = omega arith in
    let low : (2 * r + b) % 2 ≡ b = omega arith in
    and_step (2 * r + b) m ∙ rw (half, low)

-- no field asks for a bit
pub required-none : (T : Table) (i left : ℕ) → left ≤ 0 → Requires 0 (fields_from T i left)
required-none T i left none word = ap (λ (x : ℕ). eqb x 0) (and_zero_l word) ∙ sym (complete-end T i left none word)

-- a field more, with its own bit below the others
pub required-more : (T : Table) (i left r : ℕ) → 0 < left → i + left ≤ length T.fields → (f : Field) → f ≡ field_row_of T i
    → Requires r (fields_from T (i + 1) (left - 1)) → Requires (2 * r + required_bit f.optional) (fields_from T i left)
required-more T i left r some room f is h word =
    go (eqb f.optional 1) (eqb (word % 2) 1) refl (required_set (fields_from T (i + 1) (left - 1)) (word / 2)) (h (word / 2)) ∙ sym (complete-more T i left some room word f is)
  where
    go : (o b : Bool) → eqb (word % 2) 1 ≡ b → (rest : Bool) → eqb (bit_and r (word / 2)) r ≡ rest
        → eqb (bit_and (2 * r + cond o 0 1) word) (2 * r + cond o 0 1) ≡ ((o || b) && rest)
    go true b e rest h =
        let x = bit_and r (word / 2) in
        rw (and-more r 0 word (omega arith)) (same_test (x * 2 + min 0 (word % 2)) (2 * r + 0) x r (λ q. omega arith) (λ q. omega arith) ∙ h)
    go false true e rest h =
        let x = bit_and r (word / 2) in
        let odd : word % 2 ≡ 1 = eqb-true (word % 2) 1 e in
        rw (and-more r 1 word (omega arith)) (same_test (x * 2 + min 1 (word % 2)) (2 * r + 1) x r (λ q. omega arith) (λ q. omega arith) ∙ h)
    go false false e rest h =
        let x = bit_and r (word / 2) in
        let even : word % 2 ≡ 1 → ⊥ = eqb-false (word % 2) 1 e in
        rw (and-more r 1 word (omega arith)) (ne_eqb (x * 2 + min 1 (word % 2)) (2 * r + 1) (λ q. omega arith))

-- a bit more
pub bit-fits : (r b k : ℕ) → r < 2 ^ k → b ≤ 1 → 2 * r + b < 2 ^ suc k
bit-fits r b k h l = omega (arith, pow-succ' 2 k)

-- ---- the next bit that is set

-- it stands above the zeros
zeros-odd : (k m : ℕ) → 0 < m → m < 2 ^ k → m / 2 ^ count_trailing_zeros k m % 2 ≡ 1
unfolding count_trailing_zeros
zeros-odd zero m p h = absurd (omega arith)
zeros-odd (suc k) m p h = go (m % 2) refl (λ q. zeros-odd k (m / 2) q (omega (arith, pow-succ' 2 k)))
  where
    go : (b : ℕ) → m % 2 ≡ b → (0 < m / 2 → m / 2 / 2 ^ count_trailing_zeros k (m / 2) % 2 ≡ 1) → m / 2 ^ under b (count_trailing_zeros k (m / 2)) % 2 ≡ 1
    go zero e ih = rw (half_pow m (count_trailing_zeros k (m / 2))) (ih (omega arith))
    go (suc b) e ih = rw (div-one m) (omega arith)

present_even : (f : Field) (fs : List Field) (m : ℕ) → m % 2 ≡ 0 → present (f ∷ fs) m ≡ present fs (m / 2)
unfolding present
present_even f fs m e = rw e

-- the fields of the zeros are absent
present-skip : (k : ℕ) (fs : List Field) (m : ℕ) → present fs m ≡ present (drop (count_trailing_zeros k m) fs) (m / 2 ^ count_trailing_zeros k m)
unfolding count_trailing_zeros present
present-skip zero fs m = rw (div-one m)
present-skip (suc k) [] m = rw (drop-nil (under (m % 2) (count_trailing_zeros k (m / 2))))
present-skip (suc k) (f ∷ fs) m = go (m % 2) refl (present-skip k fs (m / 2))
  where
    go : (b : ℕ) → m % 2 ≡ b → present fs (m / 2) ≡ present (drop (count_trailing_zeros k (m / 2)) fs) (m / 2 / 2 ^ count_trailing_zeros k (m / 2))
        → present (f ∷ fs) m ≡ present (drop (under b (count_trailing_zeros k (m / 2))) (f ∷ fs)) (m / 2 ^ under b (count_trailing_zeros k (m / 2)))
    go zero e ih = present_even f fs m e ∙ rw (half_pow m (count_trailing_zeros k (m / 2))) ih
    go (suc b) e ih = rw (div-one m)

take-nil : (n : ℕ) → ◌≡◌ {A = List Field} (take n []) []
take-nil zero = refl
take-nil (suc n) = refl

drop-fields : (k : ℕ) (T : Table) (i left : ℕ) → drop k (fields_from T i left) ≡ fields_from T (i + k) (left - k)
unfolding fields_from
drop-fields k T i left = go k left (drop i T.fields) ∙ rw (drop-drop k i T.fields)
  where
    go : (k left : ℕ) (l : List Field) → drop k (take left l) ≡ take (left - k) (drop k l)
    go zero left l = let e : left - 0 ≡ left = omega arith in rw e
    go (suc k) zero l = let e : 0 - suc k ≡ 0 = omega arith in rw e
    go (suc k) (suc left) [] = sym (take-nil (suc left - suc k))
    go (suc k) (suc left) (x ∷ l) = let e : suc left - suc k ≡ left - k = omega arith in rw e (go k left l)

module _ (bits z : ℕ) (is : z ≡ count_trailing_zeros 64 bits) where
  zeros-skip : (T : Table) (i left : ℕ) → present (fields_from T (i + z) (left - z)) (bits / 2 ^ z) ≡ present (fields_from T i left) bits
  zeros-skip T i left = rw is (rw (← drop-fields (count_trailing_zeros 64 bits) T i left) (sym (present-skip 64 (fields_from T i left) bits)))

  module _ (some : 0 < bits) (word : bits < 2 ^ 64) where
    zeros-below : (left : ℕ) → bits < 2 ^ left → z < left
    zeros-below left fits = elim (dec_lt z left) [
      | yes l ↦ l
      | no g ↦
          let le : left ≤ z = omega arith in
          let none : bits / 2 ^ z ≡ 0 = div-eq_of_lt (omega (arith, pow_mono {i = left} {j = z} le)) in
          let odd : bits / 2 ^ z % 2 ≡ 1 = rw is (zeros-odd 64 bits some word) in
          absurd (omega arith)
    ]

    zeros-fit : (left : ℕ) → bits < 2 ^ left → bits / 2 ^ z < 2 ^ (left - z)
    zeros-fit left fits =
        let l = zeros-below left fits in
        let e : left ≡ left - z + z = omega arith in
        shr_lt (left - z) z (rw (← e) fits)

    zeros-less : (bits % 2 ≡ 1 → ⊥) → bits / 2 ^ z < bits
    zeros-less even = go z (rw is (zeros-odd 64 bits some word))
      where
        go : (y : ℕ) → bits / 2 ^ y % 2 ≡ 1 → bits / 2 ^ y < bits
        go zero o = absurd (even (rw (div-one bits) at o))
        go (suc y) o = rw (half_pow bits y) (omega (arith, shr_le (bits / 2) y))

-- one bit fewer
half-fits : (bits left : ℕ) → 0 < bits → bits < 2 ^ left → (0 < left) × (bits / 2 < 2 ^ (left - 1))
half-fits bits zero some h = absurd (omega arith)
half-fits bits (suc left) some h =
    let e : suc left - 1 ≡ left = omega arith in
    (omega arith, rw e (omega (arith, pow-succ' 2 left)))

-- ---- a loop over the bits that are set

-- Where it stands over the b fields from a on, at most 64: at field i, with these bits left.
pub record Standing (a b i bits : ℕ) : Type 0 where
  pub few : b ≤ 64
  pub first : a ≤ i
  pub last : i ≤ a + b
  pub fits : bits < 2 ^ (a + b - i)

-- The items that are left there.
abbrev pub bits_left : Table → (a b i bits : ℕ) → List Item
bits_left T a b i bits = present (fields_from T i (a + b - i)) bits

pub standing-first : {a b known : ℕ} → b ≤ 64 → known < 2 ^ b → Standing a b a known
standing-first {a} {b} {known} few fits =
    let e : a + b - a ≡ b = omega arith in
    record { few = few; first = omega arith; last = omega arith; fits = rw e fits }

module _ {a b i bits : ℕ} (g : Standing a b i bits) (some : 0 < bits) where
  word : bits < 2 ^ 64
  word =
      let le : a + b - i ≤ 64 = omega (arith, g.first, g.few) in
      omega (arith, g.fits, pow_mono {i = a + b - i} {j = 64} le)

  -- there is a field left
  pub standing-some : 0 < a + b - i
  standing-some = (half-fits bits (a + b - i) some g.fits).0

  -- past one field
  pub standing-next : Standing a b (i + 1) (bits / 2)
  standing-next =
      let h = half-fits bits (a + b - i) some g.fits in
      let e : a + b - (i + 1) ≡ a + b - i - 1 = omega arith in
      record { few = g.few; first = omega (arith, g.first); last = omega (arith, h.0); fits = rw e h.1 }

  -- the field of a bit that is set comes before the others
  pub standing-field : (T : Table) → a + b ≤ length T.fields → (f : Field) → f ≡ field_row_of T i → bits % 2 ≡ 1
      → bits_left T a b i bits ≡ plain_item f.ty ∷ bits_left T a b (i + 1) (bits / 2)
  standing-field T room f is odd =
      let e : a + b - (i + 1) ≡ a + b - i - 1 = omega arith in
      rw e (present-set T i (a + b - i) standing-some (omega (arith, g.last)) bits f is odd)

  -- its type is one of the table's
  pub standing-kind : (s : List ℕ) → IsGood s → a + b ≤ length (table_of s).fields → (f : Field) → f ≡ field_row_of (table_of s) i → (r : TypeRow) → r ≡ row_at (table_of s) f.ty → 0 < r.kind
  standing-kind s good room = field_row s good i (a + b - i) standing-some (omega (arith, g.last))

  -- past the zeros, whose fields are absent
  module _ {z : ℕ} (is : z ≡ count_trailing_zeros 64 bits) where
    pub standing-shift : z < 64
    standing-shift = zeros-below bits z is some word 64 word

    pub standing-less : (bits % 2 ≡ 1 → ⊥) → bits / 2 ^ z < bits
    standing-less = zeros-less bits z is some word

    after : a + b - (i + z) ≡ a + b - i - z
    after = omega arith

    pub standing-skip : Standing a b (i + z) (bits / 2 ^ z)
    standing-skip =
        let l = zeros-below bits z is some word (a + b - i) g.fits in
        record { few = g.few; first = omega (arith, g.first); last = omega (arith, l, g.last); fits = rw after (zeros-fit bits z is some word (a + b - i) g.fits) }

    pub standing-same : (T : Table) → bits_left T a b (i + z) (bits / 2 ^ z) ≡ bits_left T a b i bits
    standing-same T = rw after (zeros-skip bits z is T i (a + b - i))

-- no bit is left
pub standing-end : (T : Table) (a b i : ℕ) {bits : ℕ} → bits ≡ 0 → bits_left T a b i bits ≡ []
standing-end T a b i e = rw e (present-none (fields_from T i (a + b - i)))
