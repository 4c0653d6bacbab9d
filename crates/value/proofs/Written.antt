-- What the writer writes spells the value that its sheet shows.
use mathlib.Core.Path.{◌≡◌, refl, sym, ◌∙◌}
use mathlib.Core.List.{List, [], ◌∷◌, append-nil}
use mathlib.Core.Bool.{true}
use Prim.Native.Nat.{ℕ, zero, suc, ◌/◌, ◌^◌, ◌≤◌, ◌<◌}
use native.Mathlib.Omega.{arith}
use native.Mathlib.Nat.{mod-lt, mod-eq_of_lt, div-eq_of_lt}
use native.Mathlib.Numerals.{add-one}
use lib.ListN.{length, length-append, length-replicate}
use lib.Pow.{pow_pos, field, mod-mod-pow}
use Rattle.buffer.proofs.Spans.{length-span}
use Rattle.wire.specs.Varuint.{varuint_bytes}
use Rattle.wire.specs.Little.{bytes}
use Rattle.wire.proofs.Numbers.{length-bytes, little-bytes}
use Rattle.wire.proofs.Varuints.{shortest-spelled}
use Rattle.schema.specs.declared.Field.{Field}
use Rattle.schema.specs.Table.{Shape, unknown, scalar, text, array, map, struct, bitmap_bytes}
use Rattle.value.specs.Value.{Tree, tip, branch, Forest, stop, plus, Value, value, values}
use Rattle.value.specs.Read.{Item, plain_item, plan, required_set, known_bits, unknown_bits}
use Rattle.value.specs.Spell.{LeafSpells, HeadSpells, BitmapSpells, AllSpell, Spells, RootSpells, leaf_bytes, head_bytes, encode, encode_all}
use Rattle.value.proofs.Shapes.{Solid}
use Rattle.value.specs.Fits.{LeafFits, HeadFits, AllFit, Fits, RootFits}
use Rattle.value.proofs.Bits.{ones_none}
use Rattle.value.proofs.Complete.{takes, all_take, length_pairs}
use Rattle.value.proofs.Encode.{bits_fit}

module _ (B : List ℕ) where
  leaf-written : (s : Shape) (p n c : ℕ) (x : List ℕ) → LeafFits B s p n c x → length (leaf_bytes s x) ≤ 16384 → LeafSpells s x (leaf_bytes s x)
  leaf-written (scalar kind) p n c x q l = (refl, rw q.2.1 (length-span B p n q.2.0 ∙ q.0), q.3)
  leaf-written (text kind) p n c x q l =
      (varuint_bytes (length x), refl, shortest-spelled (length x) (omega (arith, simp length-append at l)), q.2)
  leaf-written unknown p n c x q l = absurd q
  leaf-written (array _) p n c x q l = absurd q
  leaf-written (map _ _) p n c x q l = absurd q
  leaf-written (struct _) p n c x q l = absurd q

  bits-written : (fs : List Field) (m : ℕ) → m < 2 ^ length fs → required_set fs m ≡ true → BitmapSpells fs m (bytes (bitmap_bytes (length fs)) m)
  bits-written fs m l e = (length-bytes _ m, little-bytes _ m (bits_fit (length fs) _ m (omega arith) l), e)

  head-written : (s : Shape) (p c h : ℕ) → HeadFits B s p c h → length (plan s h) ≤ 16384 → HeadSpells s h (head_bytes s h)
  head-written (array e) p c h q l = shortest-spelled h (omega (arith, length-replicate h (plain_item e)))
  head-written (map a b) p c h q l = (shortest-spelled h (omega (arith, length_pairs h a b)), q.1)
  head-written (struct fs) p c h q l = (bits-written fs h q.1 q.0.2, q.1)
  head-written unknown p c h q l = absurd q
  head-written (scalar _) p c h q l = absurd q
  head-written (text _) p c h q l = absurd q

module _ (S : ℕ → Shape) (P : ℕ → Value → List ℕ → Type 0) (Q : ℕ → Tree → Type 0)
    (QP : (t : ℕ) (tree : Tree) → Q t tree → length (encode S (value tree) t) ≤ 16384 → P t (value tree) (encode S (value tree) t))
  where
    all-written : (is : List Item) (ts : Forest) → AllFit Q is ts → length (encode_all S (values ts) is) ≤ 16384
        → AllSpell P is (values ts) (encode_all S (values ts) is)
    unfolding encode_all values
    all-written [] stop q l = refl
    all-written [] (plus t ts) q l = absurd q
    all-written (i ∷ is) stop q l = absurd q
    all-written (i ∷ is) (plus t ts) q l =
        let l' = simp length-append at l in
        (encode S (value t) i.type, encode_all S (values ts) is, refl, QP _ t q.0 (omega arith), all-written is ts q.1 (omega arith))

-- Only the known bits matter for what is required.
complete-known : (fs : List Field) (m : ℕ) → required_set fs (known_bits fs m) ≡ required_set fs m
unfolding required_set
complete-known [] m = refl
complete-known (f ∷ fs) m = rw (← add-one (length fs), mod-mod-pow m (length fs) 1, field m (length fs) 1, complete-known fs (m / 2))

-- No bit beyond the fields is set below 2 to their number.
pub none-unknown : (fs : List Field) (m : ℕ) → m < 2 ^ length fs → unknown_bits fs m ≡ 0
none-unknown fs m h = rw (div-eq_of_lt h) (ones_none _)

module _ (S : ℕ → Shape) (solid : (t : ℕ) → Solid (S t)) (B : List ℕ) where
  -- The encoding of what a tree that fits shows spells it.
  tree-written : (d t : ℕ) (tree : Tree) → Fits S B d t tree → length (encode S (value tree) t) ≤ 16384 → Spells S d t (value tree) (encode S (value tree) t)
  unfolding encode value
  tree-written zero t tree q l = absurd q
  tree-written (suc d) t (tip r x) q l = leaf-written B (S t) _ _ _ x q.1 l
  tree-written (suc d) t (branch r h ts) q l =
      let l' = simp length-append at l in
      let a = all-written S (Spells S d) (Fits S B d) (tree-written d) (plan (S t) h) ts q.2 (omega arith) in (
        head_bytes (S t) h,
        encode_all S (values ts) (plan (S t) h),
        refl,
        head-written B (S t) _ _ h q.1 (omega (arith, all_take (Spells S d) (takes S solid d) (plan (S t) h) (values ts) _ a)),
        a,
        q.3,
      )

  -- What is written for a root spells it, with no tail.
  pub root-written : (t : ℕ) (fs : List Field) → S t ≡ struct fs → (tree : Tree) → RootFits S B t fs tree → length (encode S (value tree) t) ≤ 16384
      → RootSpells S fs (value tree) (encode S (value tree) t) []
  unfolding encode value
  root-written t fs st (tip r x) q l = absurd q
  root-written t fs st (branch r h ts) q l =
      let b : h < 2 ^ length fs = rw q.3 (mod-lt q.0 (pow_pos (length fs))) in
      let l' = simp (st, length-append) at l in (
        h,
        bytes (bitmap_bytes (length fs)) h,
        encode_all S (values ts) (plan (struct fs) h),
        rw (st, append-nil),
        bits-written B fs h b (rw q.3 (complete-known fs q.0 ∙ q.2.2)),
        sym (mod-eq_of_lt b),
        all-written S (Spells S 15) (Fits S B 15) (tree-written 15) (plan (struct fs) h) ts q.5 (omega arith),
        (rw (none-unknown fs h b) (omega arith, λ _. refl)),
      )
