-- Laws of stores one after the other.
use mathlib.Core.Path.{◌≡◌, refl, sym, ap, ◌∙◌}
use mathlib.Core.List.{List, [], ◌∷◌, ◌++◌, append_assoc}
use Prim.Native.Nat.{ℕ, zero, suc, ◌+◌, ◌-◌, ◌≤◌, ◌<◌}
use native.Mathlib.Nat.{add-zero}
use native.Mathlib.Omega.{arith}
use lib.ListN.{length, get_or, take, drop, set, length-set, length-take, length-append}
use lib.Seq.{sets, length-sets, sets-eq, set_out, take-nil, take-take, take-length, take-append_seam, drop-cons, drop-drop, drop-append-add}
use Rattle.buffer.specs.Span.{span}
use Rattle.buffer.proofs.Spans.{length-span}
use Rattle.buffer.specs.Store.{put, written}

module _ {A : Type 0} where
  pub sets-append : (d : List A) (at : ℕ) (vs ws : List A) → sets d at (vs ++ ws) ≡ sets (sets d at vs) (at + length vs) ws
  sets-append d at [] ws = rw add-zero
  sets-append d at (v ∷ vs) ws = let e : at + suc (length vs) ≡ suc at + length vs = omega arith in rw e (sets-append (set d at v) (suc at) vs ws)

  -- Past the last cell, and past the first.
  pub sets-past : (d : List A) (at : ℕ) (vs : List A) → length d ≤ at → sets d at vs ≡ d
  sets-past d at [] h = refl
  sets-past d at (v ∷ vs) h = rw (set_out d at v h) (sets-past d (suc at) vs (omega arith))

  pub sets-later : (x : A) (d : List A) (at : ℕ) (vs : List A) → sets (x ∷ d) (suc at) vs ≡ x ∷ sets d at vs
  sets-later x d at [] = refl
  sets-later x d at (v ∷ vs) = sets-later x (set d at v) (suc at) vs

  -- What has no place need not be stored.
  pub sets-take : (d : List A) (at : ℕ) (vs : List A) (m : ℕ) → (m < length vs → length d ≤ at + m) → sets d at (take m vs) ≡ sets d at vs
  sets-take d at [] m h = rw (take-nil m)
  sets-take d at (v ∷ vs) zero h = sym (sets-past d at (v ∷ vs) (omega (arith, h (omega arith))))
  sets-take d at (v ∷ vs) (suc m) h = sets-take (set d at v) (suc at) vs m (λ l. rw length-set (omega (arith, h (omega arith))))

  -- The first of the values that are left, stored.
  pub sets-turn : (z : A) (d vs : List A) (at i : ℕ) → i < length vs → sets (set d at (get_or vs i z)) (at + 1) (drop (i + 1) vs) ≡ sets d at (drop i vs)
  sets-turn z d vs at i h =
      let next : at + 1 ≡ suc at = omega arith in
      let one : i + 1 ≡ suc i = omega arith in
      rw (next, one, drop-cons vs i z h)

-- ---- with room for all

pub sets-written : (d : List ℕ) (at : ℕ) (vs : List ℕ) → at + length vs ≤ length d → sets d at vs ≡ written d at vs
sets-written d at vs h = sets-eq vs d at h ∙ append_assoc (take at d) vs (drop (at + length vs) d)

-- ---- bytes put

pub put_one : (out : List ℕ) (pos b : ℕ) → set out pos b ≡ put out pos (b ∷ [])
unfolding put
put_one out pos b = refl

pub put-beyond : (out : List ℕ) (pos b : ℕ) → length out ≤ pos → out ≡ put out pos (b ∷ [])
unfolding put
put-beyond out pos b h = sym (set_out out pos b h)

-- A byte, and then the others.
pub put-more : (out out' : List ℕ) (pos b : ℕ) (bs : List ℕ) → out' ≡ put out pos (b ∷ []) → put out' (pos + 1) bs ≡ put out pos (b ∷ bs)
unfolding put
put-more out out' pos b bs e = let next : pos + 1 ≡ suc pos = omega arith in rw (e, next)

pub put-end : (out : List ℕ) (pos : ℕ) → put out pos [] ≡ out
unfolding put
put-end out pos = refl

pub put-append : (out : List ℕ) (pos : ℕ) (a b : List ℕ) → put out pos (a ++ b) ≡ put (put out pos a) (pos + length a) b
unfolding put
put-append out pos a b = sets-append out pos a b

pub length-put : (out : List ℕ) (pos : ℕ) (bs : List ℕ) → length (put out pos bs) ≡ length out
unfolding put
length-put out pos bs = length-sets out pos bs

pub put-past : (out : List ℕ) (pos : ℕ) (bs : List ℕ) → length out ≤ pos → put out pos bs ≡ out
unfolding put
put-past out pos bs h = sets-past out pos bs h

pub put_written : (out : List ℕ) (pos : ℕ) (bs : List ℕ) → pos + length bs ≤ length out → put out pos bs ≡ written out pos bs
unfolding put
put_written out pos bs h = sets-written out pos bs h

pub put_whole : (out bs : List ℕ) → length bs ≤ length out → put out 0 bs ≡ bs ++ drop (length bs) out
put_whole out bs h = let e : 0 + length bs ≡ length bs = omega arith in put_written out 0 bs (omega arith) ∙ ap (λ (k : ℕ). bs ++ drop k out) e

pub put-seam : (a out bs : List ℕ) → length bs ≤ length out → put (a ++ out) (length a) bs ≡ a ++ (bs ++ drop (length bs) out)
put-seam a out bs h =
    put_written (a ++ out) (length a) bs (simp length-append (omega arith))
    ∙ rw (take-append_seam, drop-append-add)

-- ---- a span put, byte by byte

module _ (out : List ℕ) (pos : ℕ) (B : List ℕ) (from : ℕ) where
  pub span-first : (m : ℕ) → put out (pos + 0) (take (m - 0) (drop (from + 0) B)) ≡ put out pos (take m (drop from B))
  span-first m =
      let e : m - 0 ≡ m = omega arith in
      let f : from + 0 ≡ from = omega arith in
      let g : pos + 0 ≡ pos = omega arith in
      rw (e, f, g)

  pub span-turn : (m i : ℕ) → i < m → from + m ≤ length B
      → put (set out (pos + i) (get_or B (from + i) 0)) (pos + (i + 1)) (take (m - (i + 1)) (drop (from + (i + 1)) B))
      ≡ put out (pos + i) (take (m - i) (drop (from + i) B))
  unfolding put
  span-turn m i h l =
      let e : m - i ≡ suc (m - (i + 1)) = omega arith in
      let f : from + (i + 1) ≡ suc (from + i) = omega arith in
      let g : pos + (i + 1) ≡ suc (pos + i) = omega arith in
      let k : from + i < length B = omega arith in
      rw (drop-cons B (from + i) 0 k, e, f, g)

  -- As much of it as fits is all of it.
  pub span-done : (m n : ℕ) (after : List ℕ) (i : ℕ) → put after (pos + i) (take (m - i) (drop (from + i) B)) ≡ put out pos (take m (drop from B)) → m ≤ i
      → m ≤ n → from + n ≤ length B → (m < n → length out ≤ pos + m) → after ≡ put out pos (span B from n)
  unfolding put
  span-done m n after i inv h le l k =
      let e : m - i ≡ 0 = omega arith in
      let all : sets out pos (take m (drop from B)) ≡ sets out pos (span B from n) =
      ap (sets out pos) (sym (take-take m n (drop from B) le)) ∙ sets-take out pos (span B from n) m (λ q. k (omega (arith, length-take n (drop from B)))) in
      rw e at inv ∙ all

-- ---- a whole slice put

pub put_all : (out : List ℕ) (pos : ℕ) (s : List ℕ) → put out pos (span s 0 (length s)) ≡ put out pos s
put_all out pos s = ap (put out pos) (take-length s)

-- ---- a span put at once

-- As much of it as has a place, stored at once.
pub put-fitting : (out : List ℕ) (pos : ℕ) (B : List ℕ) (from n m : ℕ) → m ≤ n → from + n ≤ length B → pos + m ≤ length out → (m < n → length out ≤ pos + m)
    → take pos out ++ (span B from m ++ drop m (drop pos out)) ≡ put out pos (span B from n)
unfolding put
put-fitting out pos B from n m le h room past =
    let size : length (span B from m) ≡ m = length-span B from m (omega arith) in
    let all : take pos out ++ (span B from m ++ drop m (drop pos out)) ≡ written out pos (span B from m) = rw (size, drop-drop m pos out) in
    all ∙ sym (sets-written out pos (span B from m) (omega arith))
    ∙ ap (sets out pos) (sym (take-take m n (drop from B) le))
    ∙ sets-take out pos (span B from n) m (λ q. past (omega (arith, q, length-take n (drop from B))))
