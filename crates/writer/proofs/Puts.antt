-- Laws of the output: bytes put one after the other, and the place after them as far as it matters.
use mathlib.Core.Path.{◌≡◌, refl, sym, ap, ◌∙◌}
use mathlib.Core.List.{List, [], ◌∷◌, ◌++◌}
use Prim.Native.Nat.{ℕ, suc, ◌+◌, ◌-◌, ◌%◌, ◌/◌, ◌^◌, ◌≤◌, ◌<◌}
use native.Mathlib.Omega.{arith}
use native.Mathlib.Decide.{dec_le, dec_lt}
use borrow.Author.Tests.{lt-ltb, le-ltb}
use lib.ListN.{length, length-append}
use Rattle.buffer.specs.Span.{span}
use Rattle.buffer.specs.Store.{put}
use Rattle.buffer.proofs.Spans.{length-span}
use Rattle.buffer.proofs.Stores.{put-more, put-end, put-append, length-put, put-past}
use Rattle.wire.specs.Little.{bytes}
use Rattle.wire.specs.Varuint.{shortest, varuint_bytes}
use Rattle.wire.proofs.Numbers.{length-bytes}
use Rattle.wire.proofs.Varuints.{Rest, rest_more, rest-done, shortest-le}
use Rattle.value.specs.Spell.{leaf_bytes}
use Rattle.writer.specs.Emit.{cap, PutAt, length_bytes}
use Rattle.walks.specs.Shape.{leaf_shape}

-- the place where the next bytes go matters only in an output of at most 16,384
put-cap : (out : List ℕ) (pos : ℕ) (a b : List ℕ) → length out ≤ 16384 → put (put out pos a) (cap (pos + length a)) b ≡ put out pos (a ++ b)
put-cap out pos a b h = elim (dec_le (pos + length a) 16384) [
  | yes l ↦
      let k : cap (pos + length a) ≡ pos + length a = omega arith in
      rw (k, put-append)
  | no g ↦
      let n = length-put out pos a in
      rw (put-append, put-past (put out pos a) (cap (pos + length a)) b (omega arith), put-past (put out pos a) (pos + length a) b (omega arith))
]

-- bytes put after bytes
pub put-after : (out : List ℕ) (pos : ℕ) (a b : List ℕ) (next : ℕ) (mid : List ℕ) (r : ℕ) (after : List ℕ) → length out ≤ 16384
    → PutAt out pos a next mid → PutAt mid next b r after → PutAt out pos (a ++ b) r after
put-after out pos a b next mid r after h p q =
    record {
      holds = q.holds ∙ rw (p.holds, p.further) (put-cap out pos a b h);
      further = let f = p.further in let g = q.further in rw length-append (omega arith);
      capped = q.capped;
    }

-- ---- a number's groups and bytes, one after the other

bytes-more : (n i y : ℕ) → i < n → bytes (n - i) y ≡ y % 256 ∷ bytes (n - (i + 1)) (y / 256)
unfolding bytes
bytes-more n i y h = let e : n - i ≡ suc (n - (i + 1)) = omega arith in rw e

bytes-end : (n i y : ℕ) → n ≤ i → bytes (n - i) y ≡ []
unfolding bytes
bytes-end n i y h = let e : n - i ≡ 0 = omega arith in rw e

-- ---- a VarUInt, group by group

-- what is left of the groups of x, put at `at`, gives what all of them give
abbrev pub Groups : (out₀ : List ℕ) (pos x : ℕ) (out : List ℕ) (at : ℕ) → List ℕ → Type 0
Groups out₀ pos x out at l = (put out at l ≡ put out₀ pos (shortest 9 x)) × (at + length l ≡ pos + length (shortest 9 x))

module _ (out₀ : List ℕ) (pos x : ℕ) (out : List ℕ) (at y : ℕ) (rest : Rest (Groups out₀ pos x out at) y) where
  pub groups-near : x < 2 ^ 64 → at ≤ pos + 10
  groups-near h = let l = shortest-le 9 x (omega arith) in omega (arith, rest.2.1)

  pub groups-more : (out' : List ℕ) → out' ≡ put out at ((y % 128 + 128) ∷ []) → 128 ≤ y → Rest (Groups out₀ pos x out' (at + 1)) (y / 128)
  groups-more out' e h =
      rest_more (Groups out₀ pos x out at) (Groups out₀ pos x out' (at + 1)) y (λ l p. (put-more out out' at (y % 128 + 128) l e ∙ p.0, omega (arith, p.1))) h rest

  pub groups-last : y < 128 → (put out at (y ∷ []) ≡ put out₀ pos (shortest 9 x)) × (at + 1 ≡ pos + length (shortest 9 x))
  groups-last h = rest-done (Groups out₀ pos x out at) y h rest

  pub groups-done : y < 128 → (out' : List ℕ) → out' ≡ put out at (y ∷ []) → (r : ℕ) → (r ≡ cap (pos + (at + 1 - pos))) × (r ≤ 16385) → PutAt out₀ pos (varuint_bytes x) r out'
  unfolding varuint_bytes
  groups-done h out' e r f =
      let w = groups-last h in
      record { holds = e ∙ w.0; further = omega (arith, w.1, f.0); capped = f.1 }

-- ---- a bitmap, byte by byte

module _ (out₀ : List ℕ) (pos n x : ℕ) where
  pub bits-first : put out₀ (pos + 0) (bytes (n - 0) x) ≡ put out₀ pos (bytes n x)
  bits-first =
      let e : n - 0 ≡ n = omega arith in
      let g : pos + 0 ≡ pos = omega arith in
      rw (e, g)

  module _ (out : List ℕ) (i y : ℕ) (inv : put out (pos + i) (bytes (n - i) y) ≡ put out₀ pos (bytes n x)) where
    pub bits-turn : i < n → (out' : List ℕ) → out' ≡ put out (pos + i) (y % 256 ∷ []) → put out' (pos + (i + 1)) (bytes (n - (i + 1)) (y / 256)) ≡ put out₀ pos (bytes n x)
    bits-turn h out' e =
        let g : pos + (i + 1) ≡ pos + i + 1 = omega arith in
        rw g (put-more out out' (pos + i) (y % 256) (bytes (n - (i + 1)) (y / 256)) e ∙ ap (put out (pos + i)) (sym (bytes-more n i y h)) ∙ inv)

    pub bits-done : n ≤ i → (r : ℕ) → (r ≡ cap (pos + n)) × (r ≤ 16385) → PutAt out₀ pos (bytes n x) r out
    bits-done h r f =
        record {
          holds = sym (put-end out (pos + i)) ∙ ap (put out (pos + i)) (sym (bytes-end n i y h)) ∙ inv;
          further = rw (length-bytes n x) f.0;
          capped = f.1;
        }

-- ---- bytes put, and the place after them

pub put-there : {out after : List ℕ} (pos : ℕ) (B : List ℕ) (from n : ℕ) {r : ℕ} → from + n ≤ length B → after ≡ put out pos (span B from n)
    → (r ≡ cap (pos + n)) × (r ≤ 16385) → PutAt out pos (span B from n) r after
put-there pos B from n l e f = record { holds = e; further = rw (length-span B from n l) f.0; capped = f.1 }

-- ---- a content

pub length_none : (out : List ℕ) (pos kind n : ℕ) → kind < 12 → pos ≤ 16385 → PutAt out pos (length_bytes kind n) pos out
unfolding put
length_none out pos kind n h l = rw (lt-ltb kind 12 h) (record { holds = refl; further = omega arith; capped = l })

pub length_some : (out : List ℕ) (pos kind n r : ℕ) (after : List ℕ) → 12 ≤ kind → PutAt out pos (varuint_bytes n) r after → PutAt out pos (length_bytes kind n) r after
length_some out pos kind n r after h p = rw (le-ltb kind 12 h) p

leaf-bytes : (kind : ℕ) (x : List ℕ) → leaf_bytes (leaf_shape kind) x ≡ length_bytes kind (length x) ++ x
unfolding leaf_shape
leaf-bytes kind x = elim (dec_lt kind 12) [
  | yes l ↦ rw (lt-ltb kind 12 l)
  | no g ↦ let h : 12 ≤ kind = omega arith in rw (le-ltb kind 12 h)
]

pub content-put : (out : List ℕ) (pos kind : ℕ) (x : List ℕ) (next : ℕ) (mid : List ℕ) (r : ℕ) (after : List ℕ) → length out ≤ 16384
    → PutAt out pos (length_bytes kind (length x)) next mid → PutAt mid next x r after → PutAt out pos (leaf_bytes (leaf_shape kind) x) r after
content-put out pos kind x next mid r after l p q =
    rw (leaf-bytes kind x) (put-after out pos (length_bytes kind (length x)) x next mid r after l p q)
