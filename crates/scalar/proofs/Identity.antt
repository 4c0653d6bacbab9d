-- Equal identities come from equal contents: what is handed out for a scalar determines its bytes, and floats are equal when their bits are.
use mathlib.Core.Path.{◌≡◌, refl, sym, ap, ap₂, ◌∙◌}
use mathlib.Core.Bool.{Bool, true, false, cond}
use mathlib.Core.List.{List}
use Prim.Native.Nat.{ℕ, zero, suc, ◌+◌, ◌-◌, ◌*◌, ◌^◌, ◌<◌}
use native.Mathlib.Omega.{arith}
use borrow.Author.Tests.{eqb-true}
use lib.Dec.{leb, ltb, eqb}
use lib.Ieee.{binary32, binary64, of_bits}
use lib.IntN.{pos, negsuc, pos-ne-negsuc}
use lib.ListN.{length}
use Rattle.wire.specs.Little.{little, twos, bytes, Bytes}
use Rattle.wire.proofs.Numbers.{bytes-little, little-below, sign-weight}
use Rattle.schema.specs.Table.{width}
use Rattle.scalar.specs.declared.Scalar.{Scalar}
use Rattle.scalar.specs.declared.Scalar.TheVariants.{Truth, Signed, Unsigned, Float32, Float64}
use Rattle.scalar.specs.Scalar.{value_of, identity, Content}
use Rattle.scalar.proofs.Widths.{width-bounds}

-- The value of a number, by the tests of its kind.
abbrev numbered : (a b c d : Bool) → (half n : ℕ) → Scalar
numbered a b c d half n =
    cond a (Truth (eqb n 1))
    (cond b (Signed (twos half n))
    (cond c (Unsigned n)
    (cond d (Float32 (of_bits binary32 n) n)
    (Float64 (of_bits binary64 n) n))))

-- A number of so many bytes has one spelling.
little-once : (x y : List ℕ) → Bytes x → Bytes y → length x ≡ length y → little x ≡ little y → x ≡ y
little-once x y p q l e = sym (bytes-little x p) ∙ ap₂ bytes l e ∙ bytes-little y q

-- And two's complement is one to one.
twos-once : (half m n : ℕ) → m < half + half → n < half + half → twos half m ≡ twos half n → m ≡ n
unfolding twos
twos-once half m n p q e = go (ltb m half) (ltb n half) e
  where
    go : (a b : Bool) → cond a (pos m) (negsuc (half + half - suc m)) ≡ cond b (pos n) (negsuc (half + half - suc n)) → m ≡ n
    go true true e = cc
    go true false e = absurd (pos-ne-negsuc m (half + half - suc n) e)
    go false true e = absurd (pos-ne-negsuc n (half + half - suc m) (sym e))
    go false false e = let d : half + half - suc m ≡ half + half - suc n = cc in omega arith

-- A bool is 0 or 1.
truth-once : (m n : ℕ) → m < 2 → n < 2 → ◌≡◌ {A = ℕ} (cond (eqb m 1) 1 0) (cond (eqb n 1) 1 0) → m ≡ n
truth-once zero zero p q e = refl
truth-once zero (suc zero) p q e = absurd (omega arith)
truth-once (suc zero) zero p q e = absurd (omega arith)
truth-once (suc zero) (suc zero) p q e = refl
truth-once zero (suc (suc n)) p q e = absurd (omega arith)
truth-once (suc zero) (suc (suc n)) p q e = absurd (omega arith)
truth-once (suc (suc m)) n p q e = absurd (omega arith)

pos-once : (m n : ℕ) → pos m ≡ pos n → m ≡ n
pos-once m n e = cc

-- The five cases of a kind, for two numbers with the sign bit's weight half.
number-once : (a b c d : Bool) (half m n : ℕ) → m < half + half → n < half + half → (a ≡ true → (m < 2) × (n < 2))
    → identity (numbered a b c d half m) ≡ identity (numbered a b c d half n) → m ≡ n
unfolding identity
number-once true b c d half m n p q t e = truth-once m n (t refl).0 (t refl).1 (pos-once _ _ e)
number-once false true c d half m n p q t e = twos-once half m n p q e
number-once false false true d half m n p q t e = pos-once m n e
number-once false false false true half m n p q t e = pos-once m n e
number-once false false false false half m n p q t e = pos-once m n e

module _ (kind : ℕ) (p : 0 < kind) (h : kind < 12) (x y : List ℕ) (cx : Content kind x) (cy : Content kind y) where
  below : (z : List ℕ) → Content kind z → little z < 2 ^ (8 * width kind - 1) + 2 ^ (8 * width kind - 1)
  below z c =
      let b = width-bounds kind p h in
      (sign-weight (width kind) (little z) b.0 b.1 (little-below z (width kind) c.bytes (omega (arith, c.wide)))).0

  -- Equal identities, equal contents.
  pub content-once : identity (value_of kind x) ≡ identity (value_of kind y) → x ≡ y
  unfolding value_of
  content-once e =
      little-once x y cx.bytes cy.bytes (cx.wide ∙ sym cy.wide)
      (number-once (eqb kind 1) (leb kind 5) (leb kind 9) (eqb kind 10) (2 ^ (8 * width kind - 1)) (little x) (little y)
      (below x cx) (below y cy) (λ a. (cx.truth (eqb-true kind 1 a), cy.truth (eqb-true kind 1 a)))
      (rw (cx.wide, cy.wide) at e))

  -- So is the value: what is handed out determines the bytes.
  pub value-once : value_of kind x ≡ value_of kind y → x ≡ y
  value-once e = content-once (ap identity e)
