-- Laws of digests: each step of the hash as its code computes it, and the words of a content.
use Rattle.std.proofs.Common.{◌≡◌, ℕ, suc, ◌+◌, ◌-◌, ◌*◌, ◌/◌, ◌%◌, ◌^◌, ◌<◌, ◌≤◌, true, false, List, length, take, drop, sym, refl, ap, ◌∙◌, arith, take-take, drop-drop, take-add, drop_at, le-ltb, lt-ltb, eq-eqb, ne_eqb}
use lib.Bits.{bit_or, bit_xor}
use Rattle.buffer.specs.Span.{span}
use Rattle.buffer.proofs.Spans.{length-span}
use Rattle.wire.specs.Little.{little}
use Rattle.walks.specs.declared.siphash.SipState.{SipState}
use Rattle.walks.specs.Siphash.{turned, sip_round, compressed, finalized, last_word, words, siphash}
use Rattle.walks.specs.Keys.{word_of, is_word, digest}

-- ---- the hash

module _ (v : SipState) where
  -- the sums and the words turned, in the order of the code
  pub round-made : (a p c q r e f s t u : ℕ) → a ≡ (v.v0 + v.v1) % 2 ^ 64 → p ≡ turned v.v1 13 → c ≡ (v.v2 + v.v3) % 2 ^ 64 → q ≡ turned v.v3 16
      → r ≡ turned a 32 → e ≡ (r + bit_xor q c) % 2 ^ 64 → f ≡ (c + bit_xor p a) % 2 ^ 64 → s ≡ turned (bit_xor p a) 17 → t ≡ turned f 32 → u ≡ turned (bit_xor q c) 21
      → record { v0 = e; v1 = bit_xor s f; v2 = t; v3 = bit_xor u e } ≡ sip_round v
  unfolding sip_round
  round-made a p c q r e f s t u is-a is-p is_c is-q is-r is-e is_f is-s is-t is-u =
      rw (is-s, is-t, is-u, is-e, is_f, is-r, is-p, is-q, is-a, is_c)

  pub compressed-made : (m : ℕ) (r : SipState) → r ≡ sip_round (record { v0 = v.v0; v1 = v.v1; v2 = v.v2; v3 = bit_xor v.v3 m })
      → record { v0 = bit_xor r.v0 m; v1 = r.v1; v2 = r.v2; v3 = r.v3 } ≡ compressed v m
  unfolding compressed
  compressed-made m r is = rw is

  pub finalized-made : (p q r : SipState) → p ≡ sip_round (record { v0 = v.v0; v1 = v.v1; v2 = bit_xor v.v2 255; v3 = v.v3 }) → q ≡ sip_round p → r ≡ sip_round q
      → bit_xor (bit_xor r.v0 r.v1) (bit_xor r.v2 r.v3) ≡ finalized v
  unfolding finalized
  finalized-made p q r is-p is-q is-r = rw (is-r, is-q, is-p)

pub last_made : (rest : List ℕ) (n w : ℕ) → w ≡ little rest → bit_or w (n * 2 ^ 56 % 2 ^ 64) ≡ last_word rest n
unfolding last_word
last_made rest n w is = rw is

-- ---- the words of a content

module _ (B : List ℕ) (p n : ℕ) (ends : p + n ≤ length B) where
  rest_in : (a : ℕ) → a ≤ n → drop a (span B p n) ≡ span B (p + a) (n - a)
  rest_in a h =
      let e : n ≡ a + (n - a) = omega arith in
      let l : length (take a (drop p B)) ≡ a = length-span B p a (omega arith) in
      ap (λ (k : ℕ). drop a (take k (drop p B))) e
      ∙ ap (drop a) (take-add a (n - a) (drop p B))
      ∙ drop_at (take a (drop p B)) (take (n - a) (drop a (drop p B))) a l
      ∙ ap (take (n - a)) (drop-drop a p B)

  word_in : (i : ℕ) → i < n / 8 → little (span B (p + 8 * i) 8) ≡ little (take 8 (drop (8 * i) (span B p n)))
  word_in i h =
      let l : 8 ≤ n - 8 * i = omega arith in
      ap little (sym (ap (take 8) (rest_in (8 * i) (omega arith)) ∙ take-take 8 (n - 8 * i) (drop (p + 8 * i) B) l))

  pub words-none : words (span B p n) 0 ≡ record { v0 = 0x736f6d6570736575; v1 = 0x646f72616e646f6d; v2 = 0x6c7967656e657261; v3 = 0x7465646279746573 }
  unfolding words
  words-none = refl

  module _ (i : ℕ) (v : SipState) (so_far : v ≡ words (span B p n) i) where
    pub words_step : (w : ℕ) (r : SipState) → r ≡ compressed v w → i < n / 8 → w ≡ little (span B (p + 8 * i) 8) → r ≡ words (span B p n) (i + 1)
    unfolding words
    words_step w r is h e =
        let q : i + 1 ≡ suc i = omega arith in
        rw q (is ∙ (λ j. compressed (so_far j) ((e ∙ word_in i h) j)))

    pub words-end : (w : ℕ) (r : SipState) (x : ℕ) → w ≡ last_word (span B (p + 8 * (n / 8)) (n % 8)) n → r ≡ compressed v w → x ≡ finalized r → i ≤ n / 8 → n / 8 ≤ i
        → x ≡ siphash (span B p n)
    unfolding siphash
    words-end w r x e is ends-in l h =
        let q : i ≡ n / 8 = omega arith in
        let left : n - 8 * (n / 8) ≡ n % 8 = omega arith in
        let rest = rest_in (8 * (n / 8)) (omega arith) ∙ ap (span B (p + 8 * (n / 8))) left in
        rw (length-span B p n ends, rest)
        (ends-in ∙ ap finalized (is ∙ (λ j. compressed ((so_far ∙ ap (words (span B p n)) q) j) (e j))))

  -- ---- the digest, by the length

  pub digest-short : (x : ℕ) → n < 8 → x ≡ last_word (span B p (n % 8)) n → x ≡ digest (span B p n)
  unfolding digest
  digest-short x h is =
      let e : n % 8 ≡ n = omega arith in
      rw (length-span B p n ends, lt-ltb n 8 h) (is ∙ ap (λ (k : ℕ). last_word (span B p k) n) e)

  pub word-eight : (x : ℕ) → n ≡ 8 → x ≡ little (span B p 8) → x ≡ word_of (span B p n)
  unfolding word_of
  word-eight x e is = rw (length-span B p n ends, eq-eqb n 8 e) (is ∙ ap (λ (k : ℕ). little (span B p k)) (sym e))

  pub word-other : (n ≡ 8 → ⊥) → 0x0700_0000_0000_0000 ≡ word_of (span B p n)
  unfolding word_of
  word-other other = rw (length-span B p n ends, ne_eqb n 8 other)

  module _ (w : ℕ) (word : w ≡ word_of (span B p n)) (h : 8 ≤ n) where
    pub digest-word : is_word w ≡ true → w ≡ digest (span B p n)
    unfolding digest
    digest-word t = rw (length-span B p n ends, le-ltb n 8 h, sym word, t)

    pub digest-long : (x : ℕ) → is_word w ≡ false → x ≡ siphash (span B p n) → x ≡ digest (span B p n)
    unfolding digest
    digest-long x t is = rw (length-span B p n ends, le-ltb n 8 h, sym word, t) is
