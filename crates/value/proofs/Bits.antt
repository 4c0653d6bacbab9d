-- Presence bits: the fields present in a longer struct, and how many bits are set.
use mathlib.Core.Path.{◌≡◌, refl, sym, ap, ◌∙◌}
use mathlib.Core.Logic.{◌↔◌}
use mathlib.Core.List.{List, [], ◌∷◌, ◌++◌}
use mathlib.Core.Bool.{Bool, true, false, cond}
use Prim.Native.Nat.{ℕ, zero, suc, ◌+◌, ◌-◌, ◌*◌, ◌/◌, ◌%◌, ◌^◌, ◌≤◌, ◌<◌}
use native.Mathlib.Omega.{arith}
use native.Mathlib.Decide.{dec_lt}
use native.Mathlib.Nat.{pow-succ', div-div-eq-div-mul, div-one, zero-add, suc-add, mod-lt, mod-eq_of_lt, div-lt_iff_lt-mul, div-mul-le_self, mul-le-mul_right}
use native.Mathlib.Numerals.{add-one}
use borrow.Author.Tests.{eqb-true, eqb-false}
use lib.Count.{ones_in, ones}
use lib.Dec.{eqb}
use lib.ListN.{length, length-append}
use lib.Pow.{pow_pos, pow_mono, field, mod-mod-pow, mod-pow-add, shr-shr, shr_lt}
use Rattle.wire.proofs.Bitmaps.{ones_in_lem}
use Rattle.schema.specs.declared.Field.{Field}
use Rattle.schema.specs.Table.{struct, bitmap_bytes}
use Rattle.value.specs.Read.{Item, plain_item, present, row_count, required_set, known_bits, unknown_bits}
use Rattle.value.proofs.Shapes.{Optional}

pub half_pow : (m k : ℕ) → m / 2 ^ suc k ≡ m / 2 / 2 ^ k
half_pow m k = rw (pow-succ' 2 k) (sym (div-div-eq-div-mul m 2 (2 ^ k)))

-- ---- what is present

cond-append : (b : Bool) (x : Item) (xs ys : List Item) → cond b (x ∷ (xs ++ ys)) (xs ++ ys) ≡ cond b (x ∷ xs) xs ++ ys
cond-append true x xs ys = refl
cond-append false x xs ys = refl

pub present-append : (fs gs : List Field) (m : ℕ) → present (fs ++ gs) m ≡ present fs m ++ present gs (m / 2 ^ length fs)
unfolding present
present-append [] gs m = rw (div-one m)
present-append (f ∷ fs) gs m =
    rw (half_pow m (length fs), present-append fs gs (m / 2)) (cond-append (eqb (m % 2) 1) (plain_item f.ty) (present fs (m / 2)) _)

-- Only the known bits matter.
pub present_mod : (fs : List Field) (m : ℕ) → present fs (known_bits fs m) ≡ present fs m
unfolding present
present_mod [] m = refl
present_mod (f ∷ fs) m = rw (← add-one (length fs), mod-mod-pow m (length fs) 1, field m (length fs) 1, present_mod fs (m / 2))

-- As many fields are present as known bits are set.
pub length-present : (fs : List Field) (m : ℕ) → length (present fs m) ≡ ones_in (length fs) m
unfolding present ones_in
length-present [] m = refl
length-present (f ∷ fs) m = go (eqb (m % 2) 1) refl (length-present fs (m / 2))
  where
    go : (b : Bool) → eqb (m % 2) 1 ≡ b → length (present fs (m / 2)) ≡ ones_in (length fs) (m / 2)
        → length (cond b (plain_item f.ty ∷ present fs (m / 2)) (present fs (m / 2))) ≡ m % 2 + ones_in (length fs) (m / 2)
    go true e h = let l : m % 2 ≡ 1 = eqb-true (m % 2) 1 e in omega arith
    go false e h = let l : m % 2 ≡ 1 → ⊥ = eqb-false (m % 2) 1 e in omega arith

pub present-none : (fs : List Field) → present fs 0 ≡ []
unfolding present
present-none [] = refl
present-none (f ∷ fs) = present-none fs

pub present_gain : (fs gs : List Field) (m : ℕ) → m < 2 ^ length fs → present (fs ++ gs) m ≡ present fs m
unfolding present
present_gain [] gs m h = let z : m ≡ 0 = omega arith in rw z (present-none gs)
present_gain (f ∷ fs) gs m h = rw (present_gain fs gs (m / 2) (omega (arith, pow-succ' 2 (length fs))))

-- ---- what is required

complete-optional : (fs : List Field) (m : ℕ) → Optional fs → required_set fs m ≡ true
unfolding required_set
complete-optional [] m o = refl
complete-optional (f ∷ fs) m o =
    let h : f.optional ≡ 1 = o 0 (omega arith) in
    rw (h, complete-optional fs (m / 2) (λ i l. o (suc i) (omega arith)))

pub complete_gain : (fs gs : List Field) (m : ℕ) → Optional gs → required_set (fs ++ gs) m ≡ required_set fs m
unfolding required_set
complete_gain [] gs m o = complete-optional gs m o
complete_gain (f ∷ fs) gs m o = rw (complete_gain fs gs (m / 2) o)

-- Only the known bits matter.
pub complete_mod : (fs : List Field) (m : ℕ) → required_set fs (known_bits fs m) ≡ required_set fs m
unfolding required_set
complete_mod [] m = refl
complete_mod (f ∷ fs) m = rw (← add-one (length fs), mod-mod-pow m (length fs) 1, field m (length fs) 1, complete_mod fs (m / 2))

-- ---- the bits of a longer struct: those of fs, and those of gs after them

module _ (fs gs : List Field) (m : ℕ) where
  both-length : length (fs ++ gs) ≡ length gs + length fs
  both-length = simp length-append (omega arith)

  pub known-again : known_bits fs (known_bits (fs ++ gs) m) ≡ known_bits fs m
  known-again = rw (both-length, mod-mod-pow m (length gs) (length fs))

  pub present-known : present fs (known_bits (fs ++ gs) m) ≡ present fs m
  present-known = sym (present_mod fs _) ∙ ap (present fs) known-again ∙ present_mod fs m

  pub present-added : present gs (known_bits (fs ++ gs) m / 2 ^ length fs) ≡ present gs (m / 2 ^ length fs)
  present-added = rw (both-length, field m (length gs) (length fs), present_mod gs (m / 2 ^ length fs))

  -- The plan of the longer struct: the items of fs, then those of gs.
  pub plan-split : present (fs ++ gs) (known_bits (fs ++ gs) m) ≡ present fs m ++ present gs (m / 2 ^ length fs)
  plan-split = present_mod (fs ++ gs) m ∙ present-append fs gs m

pub ones-add : (j k m : ℕ) → ones_in (j + k) m ≡ ones_in j m + ones_in k (m / 2 ^ j)
unfolding ones_in
ones-add zero k m = rw (zero-add k, div-one m) (sym (zero-add _))
ones-add (suc j) k m = rw (suc-add j k, half_pow m j) (omega (arith, ones-add j k (m / 2)))

-- The bits beyond fs: those of gs, and those beyond them.
pub unknown-split : (fs gs : List Field) (m : ℕ) → bitmap_bytes (length (fs ++ gs)) ≡ bitmap_bytes (length fs)
    → unknown_bits fs m ≡ length (present gs (m / 2 ^ length fs)) + unknown_bits (fs ++ gs) m
unknown-split fs gs m b =
    let l = length-append fs gs in
    let k : 8 * bitmap_bytes (length fs) - length fs ≡ length gs + (8 * bitmap_bytes (length (fs ++ gs)) - length (fs ++ gs)) = omega arith in
    let d : m / 2 ^ length (fs ++ gs) ≡ m / 2 ^ length fs / 2 ^ length gs = rw (l, ← shr-shr m (length fs) (length gs)) in
    rw (k, ones-add (length gs), d, length-present gs)

pub ones_none : (k : ℕ) → ones_in k 0 ≡ 0
unfolding ones_in
ones_none zero = refl
ones_none (suc k) = omega (arith, ones_none k)

pub none-set : (k x : ℕ) → ones_in k x ≡ 0 → x % 2 ^ k ≡ 0
unfolding ones_in
none-set zero x e = omega arith
none-set (suc k) x e =
    let h : x / 2 % 2 ^ k ≡ 0 = none-set k (x / 2) (omega arith) in
    let z : x % 2 ≡ 0 = omega arith in
    rw (← add-one k, mod-pow-add x k 1, h) (omega arith)

-- Where no added bit is set, the longer struct has the bits of the shorter one.
pub no-added : (fs gs : List Field) (m : ℕ) → length (present gs (m / 2 ^ length fs)) ≡ 0 → known_bits (fs ++ gs) m ≡ known_bits fs m
no-added fs gs m e =
    let z : m / 2 ^ length fs % 2 ^ length gs ≡ 0 = none-set (length gs) _ (sym (length-present gs _) ∙ e) in
    rw (both-length fs gs m, mod-pow-add m (length gs) (length fs), z) (omega arith)

-- ---- counted as a machine counts: all ones of a word

-- The count of a struct's row, from the word of its bitmap.
pub known-ones : (fs : List Field) (m : ℕ) → row_count (struct fs) m ≡ ones (known_bits fs m)
known-ones fs m = ap length (sym (present_mod fs m)) ∙ length-present fs (known_bits fs m) ∙ sym (ones_in_lem (length fs) (known_bits fs m) (mod-lt m (pow_pos (length fs))))

-- Where no unknown bit is set, all bits are known.
pub all_known : (fs : List Field) (m : ℕ) → m < 2 ^ (8 * bitmap_bytes (length fs)) → unknown_bits fs m ≡ 0 → known_bits fs m ≡ m
all_known fs m h z =
    let k = 8 * bitmap_bytes (length fs) - length fs in
    let e : 8 * bitmap_bytes (length fs) ≡ k + length fs = omega arith in
    let high : m / 2 ^ length fs ≡ 0 = sym (mod-eq_of_lt (shr_lt k (length fs) (rw e at h))) ∙ none-set k (m / 2 ^ length fs) z in
    let none : m / 2 ^ length fs < 1 = omega arith in
    mod-eq_of_lt (omega (arith, (div-lt_iff_lt-mul (pow_pos (length fs))).0 none))

-- A bit at or beyond n is set exactly in the numbers from 2 ^ n on.
some-bit : (k x : ℕ) → x ≤ k → 0 < x → (j : ℕ) × (x / 2 ^ j % 2 ≡ 1)
some-bit zero x h p = absurd (omega arith)
some-bit (suc k) x h p = elim (dec_lt (x % 2) 1) [
  | yes l ↦
      let w = some-bit k (x / 2) (omega arith) (omega arith) in
      (suc w.0, rw (half_pow x w.0) w.1)
  | no l ↦ (0, rw (div-one x) (omega arith))
]

pub bit-beyond : (n m : ℕ) → (2 ^ n ≤ m) ↔ ((i : ℕ) × (n ≤ i) × (m / 2 ^ i % 2 ≡ 1))
bit-beyond n m = (there, λ w. back w.0 w.1 w.2)
  where
    there : 2 ^ n ≤ m → (i : ℕ) × (n ≤ i) × (m / 2 ^ i % 2 ≡ 1)
    there h = elim (dec_lt (m / 2 ^ n) 1) [
      | yes l ↦ absurd (omega (arith, (div-lt_iff_lt-mul (pow_pos n)).0 l))
      | no l ↦
          let w = some-bit (m / 2 ^ n) (m / 2 ^ n) (omega arith) (omega arith) in
          (n + w.0, omega arith, rw (← shr-shr m n w.0) w.1)
    ]

    back : (i : ℕ) → n ≤ i → m / 2 ^ i % 2 ≡ 1 → 2 ^ n ≤ m
    back i l e =
        let q : 1 ≤ m / 2 ^ i = omega arith in
        omega (arith, pow_mono {i = n} {j = i} l, div-mul-le_self m (2 ^ i), mul-le-mul_right (2 ^ i) q)
