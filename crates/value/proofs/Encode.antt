-- What spells a value is its encoding: there is one spelling a value. A root's unknown bits and tail are apart from it.
use mathlib.Core.Path.{◌≡◌, refl, sym, ap, ap₂, subst, ◌∙◌}
use mathlib.Core.List.{List, [], ◌∷◌, ◌++◌, append-nil}
use Prim.Native.Nat.{ℕ, zero, suc, ◌*◌, ◌^◌, ◌≤◌, ◌<◌}
use native.Mathlib.Omega.{arith}
use lib.ListN.{length, take, drop, length-append}
use lib.Pow.{pow_mono}
use lib.Seq.{take_at, drop_at}
use Rattle.wire.specs.Little.{bytes, Bytes}
use Rattle.wire.proofs.Numbers.{length-bytes, bytes-little, bytes-parts, little-below, pow-bytes}
use Rattle.wire.proofs.Varuints.{spelled_is}
use Rattle.schema.specs.declared.Field.{Field}
use Rattle.schema.specs.Table.{Shape, unknown, scalar, text, array, map, struct, bitmap_bytes}
use Rattle.value.specs.Value.{Value, leaf, node, Values, none, some}
use Rattle.value.specs.Read.{Item, plan}
use Rattle.value.specs.Spell.{LeafSpells, BitmapSpells, HeadSpells, AllSpell, Spells, RootSpells, leaf_bytes, head_bytes, encode, encode_all}
use Rattle.value.proofs.Bits.{all_known}

-- The bits of the fields fit into the bitmap's bytes.
pub bits_fit : (j k m : ℕ) → j ≤ 8 * k → m < 2 ^ j → m < 256 ^ k
bits_fit j k m h l = omega (arith, pow_mono {i = j} {j = 8 * k} h, pow-bytes k)

-- ---- inner values

leaf-is : (s : Shape) (x u : List ℕ) → Bytes u → LeafSpells s x u → u ≡ leaf_bytes s x
leaf-is (scalar kind) x u b q = q.0
leaf-is (text kind) x u b q = q.1 ∙ ap (λ (l : List ℕ). l ++ x) (spelled_is (length x) q.0 (bytes-parts u q.0 x q.1 b).0 q.2)
leaf-is unknown x u b q = absurd q
leaf-is (array _) x u b q = absurd q
leaf-is (map _ _) x u b q = absurd q
leaf-is (struct _) x u b q = absurd q

bitmap-is : (fs : List Field) (m : ℕ) (u : List ℕ) → Bytes u → BitmapSpells fs m u → u ≡ bytes (bitmap_bytes (length fs)) m
bitmap-is fs m u b q = sym (bytes-little u b) ∙ ap₂ bytes q.0 q.1

head-is : (s : Shape) (h : ℕ) (u : List ℕ) → Bytes u → HeadSpells s h u → u ≡ head_bytes s h
head-is (array _) h u b q = spelled_is h u b q
head-is (map _ _) h u b q = spelled_is h u b q.0
head-is (struct fs) m u b q = bitmap-is fs m u b q.0
head-is unknown h u b q = absurd q
head-is (scalar _) h u b q = absurd q
head-is (text _) h u b q = absurd q

module _ (S : ℕ → Shape) where
  all-is : (P : ℕ → Value → List ℕ → Type 0) → ((t : ℕ) (v : Value) (u : List ℕ) → Bytes u → P t v u → u ≡ encode S v t)
      → (is : List Item) (vs : Values) (u : List ℕ) → Bytes u → AllSpell P is vs u → u ≡ encode_all S vs is
  unfolding encode_all
  all-is P h [] none u b q = q
  all-is P h [] (some v vs) u b q = absurd q
  all-is P h (i ∷ is) none u b q = absurd q
  all-is P h (i ∷ is) (some v vs) u b q =
      let (x, y, e, p, r) = q in
      let (bx, by) = bytes-parts u x y e b in
      e ∙ ap₂ ◌++◌ (h i.type v x bx p) (all-is P h is vs y by r)

  pub spelled_encoding : (d t : ℕ) (v : Value) (u : List ℕ) → Bytes u → Spells S d t v u → u ≡ encode S v t
  unfolding encode
  spelled_encoding zero t v u b q = absurd q
  spelled_encoding (suc d) t (leaf x) u b q = leaf-is (S t) x u b q
  spelled_encoding (suc d) t (node h vs) u b q =
      let (x, y, e, head, all, _) = q in
      let (bx, by) = bytes-parts u x y e b in
      e ∙ ap₂ ◌++◌ (head-is (S t) h x bx head) (all-is (Spells S d) (spelled_encoding d) (plan (S t) h) vs y by all)

  pub encoded : (d t : ℕ) (v : Value) (u : List ℕ) → Bytes u → Spells S d t v u → Spells S d t v (encode S v t)
  encoded d t v u b q = subst (Spells S d t v) (spelled_encoding d t v u b q) q

  -- ---- the root

  module _ (t : ℕ) (fs : List Field) (st : S t ≡ struct fs) where
    -- Its encoding is no longer than the payload.
    pub root-short : (v : Value) (u z : List ℕ) → Bytes u → RootSpells S fs v u z → length (encode S v t) ≤ length u
    unfolding encode
    root-short (leaf x) u z b q = absurd q
    root-short (node h vs) u z b q =
        let (m, x, y, e, bitmap, _, all, _) = q in
        let by = (bytes-parts (y ++ z) y z refl (bytes-parts u x (y ++ z) e b).1).0 in
        let is : y ≡ encode_all S vs (plan (struct fs) h) = all-is (Spells S 15) (spelled_encoding 15) (plan (struct fs) h) vs y by all in
        rw (e, st, ← is) (simp length-append (omega (arith, length-bytes (bitmap_bytes (length fs)) h, bitmap.0)))

    -- A payload is its own presence bytes, its value's encoding after the presence bytes of that, and the tail.
    pub root-parts : (v : Value) (u z : List ℕ) → Bytes u → RootSpells S fs v u z
        → u ≡ take (bitmap_bytes (length fs)) u ++ (drop (bitmap_bytes (length fs)) (encode S v t) ++ z)
    unfolding encode
    root-parts (leaf x) u z b q = absurd q
    root-parts (node h vs) u z b q =
        let (m, x, y, e, bitmap, _, all, _) = q in
        let k = bitmap_bytes (length fs) in
        let by = (bytes-parts (y ++ z) y z refl (bytes-parts u x (y ++ z) e b).1).0 in
        let is : y ≡ encode_all S vs (plan (struct fs) h) = all-is (Spells S 15) (spelled_encoding 15) (plan (struct fs) h) vs y by all in
        let front : take k u ≡ x = ap (take k) e ∙ take_at x (y ++ z) k bitmap.0 in
        let known : drop k (bytes k h ++ encode_all S vs (plan (struct fs) h)) ≡ y = drop_at (bytes k h) (encode_all S vs (plan (struct fs) h)) k (length-bytes k h) ∙ sym is in
        rw (st, front, known) e

    -- The encoding is the payload where there is no tail.
    pub root_encoding : (v : Value) (u : List ℕ) → Bytes u → RootSpells S fs v u [] → u ≡ encode S v t
    unfolding encode
    root_encoding (leaf x) u b q = absurd q
    root_encoding (node h vs) u b q =
        let (m, x, y, e, bitmap, known, all, bare) = q in
        let e' : u ≡ x ++ y = e ∙ ap (λ (l : List ℕ). x ++ l) (append-nil y) in
        let (bx, by) = bytes-parts u x y e' b in
        let low : m < 2 ^ (8 * bitmap_bytes (length fs)) = omega (arith, little-below x (bitmap_bytes (length fs)) bx (omega (arith, bitmap.0)), bitmap.1, pow-bytes (bitmap_bytes (length fs))) in
        let same : m ≡ h = sym (known ∙ all_known fs m low (omega (arith, bare.0))) in
        rw st
        (e' ∙ ap₂ ◌++◌ (bitmap-is fs m x bx bitmap ∙ ap (bytes (bitmap_bytes (length fs))) same)
        (all-is (Spells S 15) (spelled_encoding 15) (plan (struct fs) h) vs y by all))
