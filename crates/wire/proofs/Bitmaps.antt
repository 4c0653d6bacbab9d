-- Laws of `specs/Bitmap.antt`: what the machine's counts of a word say of its bits.
use mathlib.Core.Path.{◌≡◌, refl, sym, ap, ap₂, ◌∙◌}
use mathlib.Core.List.{List, [], ◌∷◌, ◌++◌}
use Prim.Native.Nat.{ℕ, zero, suc, ◌+◌, ◌-◌, ◌*◌, ◌/◌, ◌%◌, ◌^◌, ◌<◌, ◌≤◌}
use native.Mathlib.Nat.{le_refl, le_of_eq, mul_assoc, mod-lt, mod-one, div-one, suc-add, sub-zero, suc-sub-suc, pow-succ'}
use native.Mathlib.Numerals.{add-one, one-add}
use native.Mathlib.Omega.{arith}
use lib.Count.{ones, ones_in, ones_step, ones_cat}
use lib.ListN.{length, get_or, take, drop}
use lib.Seq.{take_all}
use lib.Pow.{pow_pos, split, field, mod-mod-pow, shr-shr}
use Rattle.wire.specs.Little.{little, Bytes}
use Rattle.wire.specs.Bitmap.{bits, bit_list, total}

-- a word's set bits, counted apart: those from n on, and the n lowest
pub ones_split : (x n : ℕ) → ones x ≡ ones (x / 2 ^ n) + ones (x % 2 ^ n)
ones_split x n = ap ones (sym (split x n)) ∙ ones_cat n (x / 2 ^ n) (x % 2 ^ n) (mod-lt x (pow_pos n))

shr_suc : (x n : ℕ) → x / 2 / 2 ^ n ≡ x / 2 ^ suc n
shr_suc x n = shr-shr x 1 n ∙ ap (λ (k : ℕ). x / 2 ^ k) (one-add n)

-- the set ones of a word of k digits
pub ones_in_lem : (k x : ℕ) → x < 2 ^ k → ones x ≡ ones_in k x
unfolding ones_in ones
ones_in_lem zero x h = let z : x ≡ 0 = omega arith in ap ones z
ones_in_lem (suc k) x h = ones_step x ∙ ap (λ (t : ℕ). x % 2 + t) (ones_in_lem k (x / 2) (omega arith))

-- and of its n lowest digits
pub ones_low : (n x : ℕ) → ones (x % 2 ^ n) ≡ ones_in n x
unfolding ones_in ones
ones_low zero x = ap ones (mod-one x)
ones_low (suc n) x =
    ap (λ (k : ℕ). ones (x % 2 ^ k)) (sym (add-one n)) ∙ ones_step (x % 2 ^ (n + 1))
    ∙ ap₂ (λ (a b : ℕ). a + ones b) (mod-mod-pow x n 1) (field x n 1) ∙ ap (λ (t : ℕ). x % 2 + t) (ones_low n (x / 2))

-- ---- the digits of a number, listed and counted

length-bits : (k x : ℕ) → length (bits k x) ≡ k
unfolding bits
length-bits zero x = refl
length-bits (suc k) x = ap suc (length-bits k (x / 2))

low-total : (k n x : ℕ) → n ≤ k → total (take n (bits k x)) ≡ ones_in n x
unfolding total bits ones_in
low-total k zero x h = refl
low-total zero (suc n) x h = absurd (omega arith)
low-total (suc k) (suc n) x h = ap (λ (t : ℕ). x % 2 + t) (low-total k n (x / 2) (omega arith))

high-total : (k n x : ℕ) → n ≤ k → total (drop n (bits k x)) ≡ ones_in (k - n) (x / 2 ^ n)
unfolding bits
high-total k zero x h = rw (take_all k (bits k x) (le_of_eq (length-bits k x))) at (low-total k k x (le_refl k)) ∙ sym (ap₂ ones_in (sub-zero k) (div-one x))
high-total zero (suc n) x h = absurd (omega arith)
high-total (suc k) (suc n) x h = high-total k n (x / 2) (omega arith) ∙ ap₂ ones_in (sym (suc-sub-suc k n)) (shr_suc x n)

bit_at : (k i x : ℕ) → i < k → get_or (bits k x) i 0 ≡ x / 2 ^ i % 2
unfolding bits
bit_at zero i x h = absurd (omega arith)
bit_at (suc k) zero x h = ap (λ (y : ℕ). y % 2) (sym (div-one x))
bit_at (suc k) (suc i) x h = bit_at k i (x / 2) (omega arith) ∙ ap (λ (y : ℕ). y % 2) (shr_suc x i)

-- the bits of the bytes are the bits of their number
bits_cat : (j k a r : ℕ) → r < 2 ^ j → bits (j + k) (r + 2 ^ j * a) ≡ bits j r ++ bits k a
unfolding bits
bits_cat zero k a r h =
    let e : 0 + k ≡ k = omega arith in
    let f : r + 1 * a ≡ a = omega arith in
    ap₂ bits e f
bits_cat (suc j) k a r h =
    let x = r + 2 ^ suc j * a in
    let p : 2 ^ suc j * a ≡ 2 * (2 ^ j * a) = ap (λ (y : ℕ). y * a) (pow-succ' 2 j) ∙ mul_assoc 2 (2 ^ j) a in
    let odd : x % 2 ≡ r % 2 = omega arith in
    let half : x / 2 ≡ r / 2 + 2 ^ j * a = omega arith in
    ap (λ (n : ℕ). bits n x) (suc-add j k)
    ∙ ap₂ {C = List ℕ} ◌∷◌ odd (ap (bits (j + k)) half ∙ bits_cat j k a (r / 2) (omega arith))

pub bitmap-little : (s : List ℕ) → Bytes s → bit_list s ≡ bits (8 * length s) (little s)
unfolding bit_list bits little
bitmap-little [] h = refl
bitmap-little (b ∷ s) h =
    let e : 8 * suc (length s) ≡ 8 + 8 * length s = omega arith in
    ap (λ (l : List ℕ). bits 8 b ++ l) (bitmap-little s (λ i. h (suc i)))
    ∙ sym (ap (λ (k : ℕ). bits k (b + 256 * little s)) e ∙ bits_cat 8 (8 * length s) (little s) b (h 0))

-- ---- the bitmap, by the number of its bytes
module _ (s : List ℕ) (n : ℕ) (bytes : Bytes s) where
  -- the known bits that are set
  pub known-count : n ≤ 8 * length s → total (take n (bit_list s)) ≡ ones_in n (little s)
  known-count h = ap (λ (l : List ℕ). total (take n l)) (bitmap-little s bytes) ∙ low-total (8 * length s) n (little s) h

  -- and those above them
  pub unknown-count : n ≤ 8 * length s → total (drop n (bit_list s)) ≡ ones_in (8 * length s - n) (little s / 2 ^ n)
  unknown-count h = ap (λ (l : List ℕ). total (drop n l)) (bitmap-little s bytes) ∙ high-total (8 * length s) n (little s) h

  -- the bit n
  pub bitmap-bit : n < 8 * length s → get_or (bit_list s) n 0 ≡ little s / 2 ^ n % 2
  bitmap-bit h = ap (λ (l : List ℕ). get_or l n 0) (bitmap-little s bytes) ∙ bit_at (8 * length s) n (little s) h
