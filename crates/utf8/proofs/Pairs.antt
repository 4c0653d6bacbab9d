-- Characters of the row UTF8-2: laws of `two_byte_chars` of `specs/Utf8.antt`, over any number of pairs of bytes.
use mathlib.Core.Path.{◌≡◌, refl, sym, ap, ap₂, subst, ◌∙◌}
use mathlib.Core.Bool.{Bool, true, false, ◌&&◌, not}
use mathlib.Core.List.{List, [], ◌∷◌, ◌++◌}
use Prim.Native.Nat.{ℕ, zero, suc, ◌+◌, ◌*◌, ◌/◌, ◌%◌, ◌^◌, ◌<◌, ◌≤◌}
use native.Mathlib.Nat.{zero-add, mod-eq_of_lt}
use native.Mathlib.Omega.{arith}
use borrow.Author.Tests.{eq-eqb, not-false}
use lib.Bits.{bit_and, and_le_r, and_zero_r, and_block, and_high}
use lib.Dec.{T, eqb, leb, lit<, eqb→eq, le→leb}
use lib.ListN.{length, take, drop}
use lib.Seq.{slice}
use Rattle.wire.specs.Little.{little, Bytes}
use Rattle.utf8.specs.Utf8.{rows, row_at, In, matches, is_char, utf8, two_byte_chars}
use Rattle.utf8.proofs.Utf8s.{and_both, both-and, in_range, row-mem, run-char, part-pass}

-- two tests that pass at the same time are one
both_ways : (a b : Bool) → (T a → T b) → (T b → T a) → a ≡ b
both_ways true true f g = refl
both_ways true false f g = absurd (f tt)
both_ways false true f g = absurd (g tt)
both_ways false false f g = refl

equal : (a b : ℕ) → a ≡ b → T (eqb a b)
equal a b e = subst T (sym (eq-eqb a b e)) tt

-- ---- n parts of 16 bits, each with the number k

abbrev pub each : ℕ → ℕ → ℕ
each k zero = 0
each k (suc n) = k + 65536 * each k n

-- the test of n pairs as one number: the top bits of each byte, and the lead's other bits but the lowest, which with 7E carry unless all are 0
abbrev pub shapes : ℕ → ℕ → Bool
shapes n w = eqb (bit_and w (each 0xC0E0 n)) (each 0x80C0 n)

abbrev pub carries : ℕ → ℕ → Bool
carries n w = eqb (bit_and (bit_and w (each 0x1E n) + each 0x7E n) (each 0x80 n)) (each 0x80 n)

-- part by part
part-equal : (x y a b : ℕ) → a < 65536 → b < 65536 → eqb (x * 2 ^ 16 + a) (y * 2 ^ 16 + b) ≡ eqb a b && eqb x y
part-equal x y a b h k =
    both_ways _ _
    (λ t. let e : x * 2 ^ 16 + a ≡ y * 2 ^ 16 + b = eqb→eq _ _ t in both-and (eqb a b) (eqb x y) (equal a b (omega arith)) (equal x y (omega arith)))
    (λ t. let both = and_both (eqb a b) (eqb x y) t in let p = eqb→eq a b both.0 in let q = eqb→eq x y both.1 in equal (x * 2 ^ 16 + a) (y * 2 ^ 16 + b) (omega arith))

module _ (n v w : ℕ) (h : v < 65536) where
  shapes-more : shapes (suc n) (w * 2 ^ 16 + v) ≡ eqb (bit_and v 0xC0E0) 0x80C0 && shapes n w
  shapes-more =
      let mask : each 0xC0E0 (suc n) ≡ each 0xC0E0 n * 2 ^ 16 + 0xC0E0 = omega arith in
      let due : each 0x80C0 (suc n) ≡ each 0x80C0 n * 2 ^ 16 + 0x80C0 = omega arith in
      ap₂ eqb (ap (bit_and (w * 2 ^ 16 + v)) mask ∙ and_block 16 w (each 0xC0E0 n) v 0xC0E0 h (lit< tt)) due
      ∙ part-equal (bit_and w (each 0xC0E0 n)) (each 0x80C0 n) (bit_and v 0xC0E0) 0x80C0 (omega (arith, and_le_r v 0xC0E0)) (lit< tt)

  carries-more : carries (suc n) (w * 2 ^ 16 + v) ≡ eqb (bit_and (bit_and v 0x1E + 0x7E) 0x80) 0x80 && carries n w
  carries-more =
      let mask : each 0x1E (suc n) ≡ each 0x1E n * 2 ^ 16 + 0x1E = omega arith in
      let top : each 0x80 (suc n) ≡ each 0x80 n * 2 ^ 16 + 0x80 = omega arith in
      let low = bit_and v 0x1E in
      let low_fits = and_le_r v 0x1E in
      let high = bit_and w (each 0x1E n) in
      let sum : bit_and (w * 2 ^ 16 + v) (each 0x1E (suc n)) + each 0x7E (suc n) ≡ (high + each 0x7E n) * 2 ^ 16 + (low + 0x7E) =
      let split : bit_and (w * 2 ^ 16 + v) (each 0x1E (suc n)) ≡ high * 2 ^ 16 + low = ap (bit_and (w * 2 ^ 16 + v)) mask ∙ and_block 16 w (each 0x1E n) v 0x1E h (lit< tt) in
      omega arith in
      ap₂ eqb (ap₂ bit_and sum top ∙ and_block 16 (high + each 0x7E n) (each 0x80 n) (low + 0x7E) 0x80 (omega arith) (lit< tt)) top
      ∙ part-equal (bit_and (high + each 0x7E n) (each 0x80 n)) (each 0x80 n) (bit_and (low + 0x7E) 0x80) 0x80 (omega (arith, and_le_r (low + 0x7E) 0x80)) (lit< tt)

-- ---- one pair: the test is the row's

-- two bytes as one number
byte-equal : (x y a b : ℕ) → a < 256 → b < 256 → x * 2 ^ 8 + a ≡ y * 2 ^ 8 + b → (x ≡ y) × (a ≡ b)
byte-equal x y a b h k e = (omega arith, omega arith)

-- by the bits that the masks leave: p of the byte c that follows, q and x of the lead byte b, and t of x
pair-bits : (b c p q x t : ℕ) → b < 256 → c < 256 → p ≡ c / 64 * 64 → q ≡ b / 32 * 32 → x ≡ b / 2 % 16 * 2 + 0x7E → t ≡ x / 128 % 2 * 128
    → (eqb (p * 2 ^ 8 + q) 0x80C0 && eqb t 0x80) ≡ is_char (row_at 1) (b ∷ c ∷ [])
unfolding rows matches
pair-bits b c p q x t h k is-p is-q is_x is-t =
    both_ways _ _
    (λ z.
    let both = and_both (eqb (p * 2 ^ 8 + q) 0x80C0) (eqb t 0x80) z in
    let (tail, lead) = byte-equal p 0x80 q 0xC0 (omega arith) (lit< tt) (eqb→eq (p * 2 ^ 8 + q) 0x80C0 both.0) in
    let top : t ≡ 0x80 = eqb→eq t 0x80 both.1 in
    let more : 1 ≤ b / 2 % 16 = omega arith in
    both-and (In (row_at 1).1 b) _ (both-and (leb 0xC2 b) _ (le→leb 0xC2 b (omega arith)) (le→leb b 0xDF (omega arith)))
    (both-and (In (row_at 1).2 c) true (both-and (leb 0x80 c) _ (le→leb 0x80 c (omega arith)) (le→leb c 0xBF (omega arith))) tt))
    (λ z.
    let both = and_both (In (row_at 1).1 b) (In (row_at 1).2 c && true) z in
    let lead = in_range (row_at 1).1 b both.0 in
    let tail = in_range (row_at 1).2 c (and_both (In (row_at 1).2 c) true both.1).0 in
    let least : 97 ≤ b / 2 = omega arith in
    let most : b / 2 ≤ 111 = omega arith in
    let more : 1 ≤ b / 2 % 16 = omega (arith, least, most) in
    let once : x / 128 ≡ 1 = omega (arith, more) in
    both-and (eqb (p * 2 ^ 8 + q) 0x80C0) (eqb t 0x80) (equal (p * 2 ^ 8 + q) 0x80C0 (omega arith)) (equal t 0x80 (is-t ∙ ap (λ (y : ℕ). y % 2 * 128) once)))

pair_is : (b c : ℕ) → b < 256 → c < 256
    → (eqb (bit_and (c * 2 ^ 8 + b) 0xC0E0) 0x80C0 && eqb (bit_and (bit_and (c * 2 ^ 8 + b) 0x1E + 0x7E) 0x80) 0x80) ≡ is_char (row_at 1) (b ∷ c ∷ [])
pair_is b c h k =
    let low : bit_and (c * 2 ^ 8 + b) 0x1E ≡ b / 2 % 16 * 2 = and_block 8 c 0 b 0x1E h (lit< tt) ∙ ap₂ (λ (x y : ℕ). x * 2 ^ 8 + y) (and_zero_r c) (and_high b 4 1) ∙ zero-add (b / 2 % 16 * 2) in
    let x = bit_and (c * 2 ^ 8 + b) 0x1E + 0x7E in
    let tail : bit_and c 0xC0 ≡ c / 64 * 64 = and_high c 2 6 ∙ ap (λ (y : ℕ). y * 64) (mod-eq_of_lt (omega arith)) in
    let lead : bit_and b 0xE0 ≡ b / 32 * 32 = and_high b 3 5 ∙ ap (λ (y : ℕ). y * 32) (mod-eq_of_lt (omega arith)) in
    ap (λ (u : ℕ). eqb u 0x80C0 && eqb (bit_and x 0x80) 0x80) (and_block 8 c 0xC0 b 0xE0 h (lit< tt))
    ∙ pair-bits b c (bit_and c 0xC0) (bit_and b 0xE0) x (bit_and x 0x80) h k tail lead (omega arith) (and_high x 1 7)

-- ---- and of n pairs

and-and : (a b c d : Bool) → ((a && b) && (c && d)) ≡ ((a && c) && (b && d))
and-and true true c d = refl
and-and true false true d = refl
and-and true false false d = refl
and-and false b c d = refl

pub word-pairs : (n : ℕ) (s : List ℕ) → Bytes s → length s ≡ 2 * n → (shapes n (little s) && carries n (little s)) ≡ two_byte_chars s
unfolding little two_byte_chars
word-pairs zero [] h e = refl
word-pairs (suc n) [] h e = absurd (omega arith)
word-pairs n (b ∷ []) h e = absurd (omega arith)
word-pairs zero (b ∷ c ∷ s) h e = absurd (omega arith)
word-pairs (suc n) (b ∷ c ∷ s) h e =
    let v = c * 2 ^ 8 + b in
    let fits : v < 65536 = omega (arith, h 0, h 1) in
    let is : b + 256 * (c + 256 * little s) ≡ little s * 2 ^ 16 + v = omega arith in
    ap (λ (w : ℕ). shapes (suc n) w && carries (suc n) w) is
    ∙ ap₂ ◌&&◌ (shapes-more n v (little s) fits) (carries-more n v (little s) fits)
    ∙ and-and (eqb (bit_and v 0xC0E0) 0x80C0) (shapes n (little s)) (eqb (bit_and (bit_and v 0x1E + 0x7E) 0x80) 0x80) (carries n (little s))
    ∙ ap₂ ◌&&◌ (pair_is b c (h 0) (h 1)) (word-pairs n s (λ i. h (suc (suc i))) (omega arith))

-- ---- pairs in front are passed

pairs-skip : (c s : List ℕ) → T (two_byte_chars c) → utf8 (c ++ s) ≡ utf8 s
unfolding two_byte_chars
pairs-skip [] s t = refl
pairs-skip (b ∷ []) s t = absurd t
pairs-skip (b ∷ d ∷ c) s t =
    let both = and_both (is_char (row_at 1) (b ∷ d ∷ [])) (two_byte_chars c) t in
    run-char (row_at 1) (b ∷ d ∷ []) (c ++ s) (row-mem 1 (row_at 1) (lit< tt) refl) both.0 ∙ pairs-skip c s both.1

-- a word that the test r found to be pairs
pub pairs-pass : (s : List ℕ) (i to : ℕ) (r : Bool) → i + 8 ≤ to → r ≡ two_byte_chars (take 8 (drop i s)) → not r ≡ false → utf8 (slice (i + 8) to s) ≡ utf8 (slice i to s)
pairs-pass s i to r l is t = part-pass s i 8 to l (λ u. pairs-skip (take 8 (drop i s)) u (subst T (sym (not-false r t) ∙ is) tt))
