-- Laws of `specs/Little.antt`, over any width.
use mathlib.Core.Path.{◌≡◌, refl, sym, ap, subst, ◌∙◌}
use mathlib.Core.List.{List, [], ◌∷◌, ◌++◌}
use Prim.Native.Nat.{ℕ, zero, suc, ◌+◌, ◌-◌, ◌*◌, ◌/◌, ◌%◌, ◌^◌, ◌<◌, ◌≤◌}
use native.Mathlib.Nat.{one-mul, one-le-pow, pow-succ', pow-le-pow_right, lt_of_lt_of_le}
use native.Mathlib.Omega.{arith}
use lib.Dec.{lit<}
use lib.Pow.{pow-add, pow_mono, shl_exact}
use lib.ListN.{length, get_or, take, drop, length-drop}
use lib.Seq.{take-length, take-append_seam, drop-append_seam, drop-cons, get_or-drop, take-add, drop-drop, length-take-le}
use Rattle.wire.specs.Little.{little, bytes, Bytes}

pub bytes_drop : (s : List ℕ) (k : ℕ) → Bytes s → Bytes (drop k s)
bytes_drop s k h i = rw (get_or-drop k s i 0) (h (k + i))

pub bytes_take : (n : ℕ) (s : List ℕ) → Bytes s → Bytes (take n s)
bytes_take zero s h i = lit< tt
bytes_take (suc n) [] h i = lit< tt
bytes_take (suc n) (b ∷ s) h zero = h 0
bytes_take (suc n) (b ∷ s) h (suc i) = bytes_take n s (λ j. h (suc j)) i

-- the parts of bytes are bytes
pub bytes-parts : (s a b : List ℕ) → s ≡ a ++ b → Bytes s → Bytes a × Bytes b
bytes-parts s a b e h =
    let l : take (length a) s ≡ a = ap (take (length a)) e ∙ take-append_seam a b in
    let r : drop (length a) s ≡ b = ap (drop (length a)) e ∙ drop-append_seam a b in
    (subst Bytes l (bytes_take (length a) s h), subst Bytes r (bytes_drop s (length a) h))

-- one byte more, at the front
pub little_step : (s : List ℕ) (at n : ℕ) → at < length s
    → little (take (suc n) (drop at s)) ≡ get_or s at 0 + 256 * little (take n (drop (suc at) s))
unfolding little
little_step s at n h = rw (drop-cons s at 0)

-- likewise, with a name for the place behind it
pub little_next : (s : List ℕ) (i j k : ℕ) → i < length s → suc i ≡ j → little (take (suc k) (drop i s)) ≡ get_or s i 0 + 256 * little (take k (drop j s))
little_next s i j k h e = little_step s i k h ∙ ap (λ (n : ℕ). get_or s i 0 + 256 * little (take k (drop n s))) e

-- n bytes are a number below 256 ^ n
pub little-lt : (n : ℕ) (s : List ℕ) → Bytes s → little (take n s) < 256 ^ n
unfolding little
little-lt zero s h = lit< tt
little-lt (suc n) [] h = one-le-pow (suc n) 256 (lit< tt)
little-lt (suc n) (b ∷ s) h = omega (arith, h 0, little-lt n s (λ i. h (suc i)))

-- and below any greater power
pub little-le : (s : List ℕ) (at n k : ℕ) → Bytes s → n ≤ k → little (take n (drop at s)) < 256 ^ k
little-le s at n k h le = lt_of_lt_of_le (little-lt n (drop at s) (bytes_drop s at h)) (pow-le-pow_right (lit< tt) le)

pub little-append : (a b : List ℕ) → little (a ++ b) ≡ little a + 256 ^ length a * little b
unfolding little
little-append [] b = omega arith
little-append (x ∷ a) b = rw (little-append a b, pow-succ' 256 (length a)) (omega arith)

-- m bytes, and the n after them
pub little-split : (s : List ℕ) (at m n : ℕ) → at + m ≤ length s
    → little (take (m + n) (drop at s)) ≡ little (take m (drop at s)) + 256 ^ m * little (take n (drop (at + m) s))
little-split s at m n h =
    rw (take-add m n (drop at s), drop-drop m at s, little-append, length-take-le m (drop at s) (rw length-drop (omega arith)))

pub little-one : (s : List ℕ) (at : ℕ) → at < length s → little (take 1 (drop at s)) ≡ get_or s at 0
unfolding little
little-one s at h = rw (little_step s at 0 h) (omega arith)

pub length-bytes : (n x : ℕ) → length (bytes n x) ≡ n
unfolding bytes
length-bytes zero x = refl
length-bytes (suc n) x = ap suc (length-bytes n (x / 256))

-- what is stored is read back, at every width
pub little-bytes : (n x : ℕ) → x < 256 ^ n → little (bytes n x) ≡ x
unfolding little bytes
little-bytes zero x h = omega arith
little-bytes (suc n) x h = rw (little-bytes n (x / 256) (omega arith)) (omega arith)

-- bytes are what is stored for their number, so that a number of so many bytes has one spelling
pub bytes-little : (b : List ℕ) → Bytes b → bytes (length b) (little b) ≡ b
unfolding little bytes
bytes-little [] h = refl
bytes-little (x ∷ b) h =
    let low : (x + 256 * little b) % 256 ≡ x = omega (arith, h 0) in
    let high : (x + 256 * little b) / 256 ≡ little b = omega (arith, h 0) in
    rw (low, high, bytes-little b (λ i. h (suc i)))

-- ---- powers of two

pub pow-bytes : (k : ℕ) → 256 ^ k ≡ 2 ^ (8 * k)
pow-bytes zero = refl
pow-bytes (suc k) =
    let e : 8 * suc k ≡ 8 + 8 * k = omega arith in
    pow-succ' 256 k ∙ ap (λ (y : ℕ). 256 * y) (pow-bytes k) ∙ sym (ap (λ (n : ℕ). 2 ^ n) e ∙ pow-add 2 8 (8 * k))

-- `1 << n` at 64 bits
pub one_at : (n : ℕ) → n < 64 → (1 * 2 ^ n) % 2 ^ 64 ≡ 2 ^ n
one_at n h = shl_exact 1 n 64 (lit< tt) (omega arith) ∙ one-mul (2 ^ n)

-- a number of w bytes, and the weight of its sign bit
pub sign-weight : (w x : ℕ) → 0 < w → w ≤ 8 → x < 256 ^ w → (x < 2 ^ (8 * w - 1) + 2 ^ (8 * w - 1)) × (2 ^ (8 * w - 1) ≤ 2 ^ 63)
sign-weight w x p l h =
    let e : 8 * w ≡ suc (8 * w - 1) = omega arith in
    let twice : 2 ^ (8 * w) ≡ 2 ^ suc (8 * w - 1) = ap (λ (k : ℕ). 2 ^ k) e in
    (omega (arith, pow-bytes w), pow_mono {i = 8 * w - 1} {j = 63} (omega arith))

pub little-below : (s : List ℕ) (k : ℕ) → Bytes s → length s ≤ k → little s < 256 ^ k
little-below s k h l = lt_of_lt_of_le (rw take-length at (little-lt (length s) s h)) (pow-le-pow_right (lit< tt) l)
