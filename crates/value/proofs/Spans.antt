-- The byte of a bool in a span, and the tests of a scalar's, a string's and bytes' content by its kind.
use mathlib.Core.Path.{◌≡◌, ap, ◌∙◌}
use mathlib.Core.Bool.{true, false, not, ◌||◌}
use mathlib.Core.List.{List}
use Prim.Native.Nat.{ℕ, ◌+◌, ◌≤◌, ◌<◌}
use native.Mathlib.Omega.{arith}
use borrow.Author.Tests.{lt-ltb, le-ltb, ne_eqb}
use lib.Dec.{ltb, eqb}
use lib.ListN.{length, get_or}
use Rattle.buffer.specs.Span.{span}
use Rattle.wire.specs.Little.{little}
use Rattle.utf8.specs.Utf8.{utf8}
use Rattle.wire.proofs.Numbers.{little-one}
use Rattle.schema.specs.Table.{width}
use Rattle.schema.proofs.Bools.{or_right}

-- A bool's number is its byte.
pub truth-byte : (B : List ℕ) (kind p n : ℕ) → n ≡ width kind → p + n ≤ length B → kind ≡ 1 → little (span B p n) ≡ get_or B p 0
truth-byte B kind p n w inside k =
    let e : n ≡ 1 = w ∙ ap width k in
    rw e (little-one B p (omega arith))

module _ (B : List ℕ) (kind p n : ℕ) where
  module _ (w : n ≡ width kind) (inside : p + n ≤ length B) (k : kind ≡ 1) where
    pub scalar-truth : get_or B p 0 ≤ 1 → (not (eqb kind 1) || ltb (little (span B p n)) 2) ≡ true
    scalar-truth h = or_right (not (eqb kind 1)) (ltb (little (span B p n)) 2) (rw (truth-byte B kind p n w inside k) (lt-ltb (get_or B p 0) 2 (omega arith)))

    pub scalar_untrue : 1 < get_or B p 0 → ltb (little (span B p n)) 2 ≡ false
    scalar_untrue h = rw (truth-byte B kind p n w inside k) (le-ltb (get_or B p 0) 2 h)

  pub scalar-other : (kind ≡ 1 → ⊥) → (not (eqb kind 1) || ltb (little (span B p n)) 2) ≡ true
  scalar-other k = rw (ne_eqb kind 1 k)

  pub text-valid : utf8 (span B p n) ≡ true → (not (eqb kind 12) || utf8 (span B p n)) ≡ true
  text-valid e = or_right (not (eqb kind 12)) (utf8 (span B p n)) e

  pub text-plain : (kind ≡ 12 → ⊥) → (not (eqb kind 12) || utf8 (span B p n)) ≡ true
  text-plain k = rw (ne_eqb kind 12 k)
