-- Characters of the row UTF8-1: laws of `ascii` of `specs/Utf8.antt`, over any number of bytes.
use mathlib.Core.Path.{◌≡◌, refl, sym, ap, ap₂, subst, ◌∙◌}
use mathlib.Core.Bool.{Bool, true, false, ◌&&◌, not, and-true, and-false, and_assoc}
use mathlib.Core.List.{List, [], ◌∷◌, ◌++◌}
use Prim.Native.Nat.{ℕ, zero, suc, ◌+◌, ◌-◌, ◌*◌, ◌^◌, ◌<◌, ◌≤◌}
use native.Mathlib.Nat.{suc_inj, zero-add}
use native.Mathlib.Decide.{dec_lt}
use native.Mathlib.Omega.{arith}
use borrow.Author.Tests.{eq-eqb, ne_eqb, le-leb, lt-leb, not-false}
use lib.Bits.{bit_and, and_comm, and_shifted, and_block}
use lib.Dec.{T, eqb, leb, lit<}
use lib.ListN.{length, get_or, take, drop, length-drop}
use lib.Seq.{slice, drop-cons, drop-drop, take-add, length-take-le}
use Rattle.wire.specs.Little.{little, Bytes}
use Rattle.utf8.specs.Utf8.{rows, row_at, In, matches, is_char, utf8, ascii}
use Rattle.wire.proofs.Numbers.{bytes_drop, bytes_take}
use Rattle.utf8.proofs.Utf8s.{and_both, both-and, row-mem, run-char, part-pass}

-- ---- the top bits of n bytes, as one number

abbrev pub tops : ℕ → ℕ
tops zero = 0
tops (suc n) = 128 + 256 * tops n

-- the top bit is not set exactly in the bytes of the row UTF8-1
top_bit : (b : ℕ) → b < 256 → eqb (bit_and b 128) 0 ≡ is_char (row_at 0) (b ∷ [])
unfolding rows matches
top_bit b h = elim (dec_lt b 128) [
  | yes l ↦ eq-eqb (bit_and b 128) 0 (and_comm b 128 ∙ and_shifted 1 7 b l) ∙ sym (rw (le-leb 0 b (omega arith), le-leb b 0x7F (omega arith)))
  | no n ↦
      let r = b - 128 in
      let is : b ≡ 1 * 2 ^ 7 + r = omega arith in
      let set : bit_and b 128 ≡ 1 * 2 ^ 7 + bit_and r 0 = ap (λ (x : ℕ). bit_and x 128) is ∙ and_block 7 1 1 r 0 (omega arith) (lit< tt) in
      ne_eqb (bit_and b 128) 0 (λ z. omega arith) ∙ sym (rw (lt-leb b 0x7F (omega arith), and-false (leb 0 b)))
]

zero-sum : (x y : ℕ) → eqb (x * 2 ^ 8 + y) 0 ≡ eqb y 0 && eqb x 0
zero-sum zero y = rw (zero-add y) (sym (and-true (eqb y 0)))
zero-sum (suc x) y = rw (ne_eqb (suc x * 2 ^ 8 + y) 0 (λ e. omega arith), ne_eqb (suc x) 0 (λ e. omega arith)) (sym (and-false (eqb y 0)))

-- none of them is set exactly when the bytes are ASCII
tops-ascii : (n : ℕ) (s : List ℕ) → Bytes s → length s ≡ n → eqb (bit_and (little s) (tops n)) 0 ≡ ascii s
unfolding little ascii
tops-ascii n [] h e = refl
tops-ascii zero (b ∷ s) h e = absurd (omega arith)
tops-ascii (suc n) (b ∷ s) h e =
    let left : b + 256 * little s ≡ little s * 2 ^ 8 + b = omega arith in
    let right : 128 + 256 * tops n ≡ tops n * 2 ^ 8 + 128 = omega arith in
    ap (λ (x : ℕ). eqb x 0) (ap₂ bit_and left right ∙ and_block 8 (little s) (tops n) b 128 (h 0) (lit< tt))
    ∙ zero-sum (bit_and (little s) (tops n)) (bit_and b 128)
    ∙ ap₂ ◌&&◌ (top_bit b (h 0)) (tops-ascii n s (λ i. h (suc i)) (suc_inj e))

-- the same of n bytes at a place, read as the number x
pub tops-at : (n : ℕ) (s : List ℕ) (at x : ℕ) → Bytes s → at + n ≤ length s → x ≡ little (take n (drop at s)) → eqb (bit_and x (tops n)) 0 ≡ ascii (take n (drop at s))
tops-at n s at x h l e =
    ap (λ (y : ℕ). eqb (bit_and y (tops n)) 0) e
    ∙ tops-ascii n (take n (drop at s)) (bytes_take n (drop at s) (bytes_drop s at h)) (length-take-le n (drop at s) (rw length-drop (omega arith)))

-- ---- a part of ASCII in front is passed

ascii-skip : (c s : List ℕ) → T (ascii c) → utf8 (c ++ s) ≡ utf8 s
unfolding ascii
ascii-skip [] s t = refl
ascii-skip (b ∷ c) s t =
    let both = and_both (is_char (row_at 0) (b ∷ [])) (ascii c) t in
    run-char (row_at 0) (b ∷ []) (c ++ s) (row-mem 0 (row_at 0) (lit< tt) refl) both.0 ∙ ascii-skip c s both.1

-- ---- bytes after others

ascii-append : (a b : List ℕ) → ascii (a ++ b) ≡ ascii a && ascii b
unfolding ascii
ascii-append [] b = refl
ascii-append (x ∷ a) b = ap (λ (t : Bool). is_char (row_at 0) (x ∷ []) && t) (ascii-append a b) ∙ sym (and_assoc (is_char (row_at 0) (x ∷ [])) (ascii a) (ascii b))

ascii-parts : (s : List ℕ) (at m n : ℕ) → ascii (take (m + n) (drop at s)) ≡ ascii (take m (drop at s)) && ascii (take n (drop (at + m) s))
ascii-parts s at m n = rw (take-add m n (drop at s), drop-drop m at s) (ascii-append (take m (drop at s)) (take n (drop (at + m) s)))

-- a word after k others, which are ASCII
module _ (s : List ℕ) (at k : ℕ) where
  pub ascii-word-more : ascii (take (8 * k) (drop at s)) ≡ true → ascii (take 8 (drop (at + 8 * k) s)) ≡ true → ascii (take (8 * (k + 1)) (drop at s)) ≡ true
  ascii-word-more e w =
      let more : 8 * (k + 1) ≡ 8 * k + 8 = omega arith in
      rw more (ascii-parts s at (8 * k) 8 ∙ ap₂ ◌&&◌ e w)

  pub ascii-word-bad : k < 8 → ascii (take (8 * k) (drop at s)) ≡ true → ascii (take 8 (drop (at + 8 * k) s)) ≡ false → false ≡ ascii (take 64 (drop at s))
  ascii-word-bad h e w =
      let rest = 56 - 8 * k in
      let all : 64 ≡ 8 * k + (8 + rest) = omega arith in
      sym (ap (λ (n : ℕ). ascii (take n (drop at s))) all
      ∙ ascii-parts s at (8 * k) (8 + rest)
      ∙ ap₂ ◌&&◌ e (ascii-parts s (at + 8 * k) 8 rest ∙ ap (λ (t : Bool). t && ascii (take rest (drop (at + 8 * k + 8) s))) w))

-- k bytes that the test r found to be ASCII
pub ascii-pass : (k : ℕ) (s : List ℕ) (i next to : ℕ) (r : Bool) → next ≡ i + k → next ≤ to → r ≡ ascii (take k (drop i s)) → not r ≡ false
    → utf8 (slice next to s) ≡ utf8 (slice i to s)
ascii-pass k s i next to r e l is t =
    ap (λ (j : ℕ). utf8 (slice j to s)) e ∙ part-pass s i k to (omega arith) (λ u. ascii-skip (take k (drop i s)) u (subst T (sym (not-false r t) ∙ is) tt))

-- a byte
pub byte-pass : (s : List ℕ) (i to : ℕ) → i < to → to ≤ length s → In (row_at 0).1 (get_or s i 0) ≡ true → utf8 (slice (i + 1) to s) ≡ utf8 (slice i to s)
unfolding rows matches
byte-pass s i to l h is =
    let inside : i < length s = omega arith in
    part-pass s i 1 to (omega arith)
    (λ t. rw (drop-cons s i 0 inside) (run-char (row_at 0) (get_or s i 0 ∷ []) t (row-mem 0 (row_at 0) (lit< tt) refl) (both-and (In (row_at 0).1 (get_or s i 0)) true (subst T (sym is) tt) tt)))
