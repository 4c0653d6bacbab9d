-- The answers to a row that is handed out, by the numbers of docs/FORMAT.md.
use mathlib.Core.Path.{◌≡◌, refl, ap, ap₂, ◌∙◌}
use mathlib.Core.Logic.{◌↔◌}
use mathlib.Core.Bool.{Bool, true, false, not, ◌||◌}
use mathlib.Core.List.{List}
use Prim.Native.Nat.{ℕ, ◌<◌}
use native.Mathlib.Omega.{arith}
use lib.Dec.{ltb, eqb, lit≤}
use Rattle.buffer.specs.Span.{span, inside}
use Rattle.wire.specs.Little.{little}
use Rattle.utf8.specs.Utf8.{utf8}
use Rattle.parse.specs.Test.{test}
use Rattle.schema.specs.Checked.{Checked}
use Rattle.schema.specs.Checked as check
use Rattle.schema.specs.Table.{Shape, unknown, scalar, text, array, map, struct, shape, width}
use Rattle.schema.specs.File.{table_of}
use Rattle.schema.specs.Check.{checked, IsGood}
use Rattle.schema.proofs.Numbered.{listed, listed-bounds}
use Rattle.value.specs.declared.Row.{Row}
use Rattle.scalar.specs.declared.Scalar.{Scalar}
use Rattle.scalar.specs.declared.Scalar.TheVariants.{Span}
use Rattle.scalar.specs.Answer.{Answer, Is, Refused}
use Rattle.scalar.specs.Scalar.{value_of, text_at, by_shape, scalar_of, after_table, scalar_by, scalar_number, place_of, scalar_at}
use Rattle.scalar.specs.Leaves.{ShowsLeaf}
use Rattle.scalar.specs.Reasons.{Reason}
use Rattle.scalar.proofs.Reasons.{refused-iff}

-- ---- a refusal

above : (schema : List ℕ) (n q : ℕ) → checked schema ≡ check.Refused n q → 0 < n
above schema n q e = omega (arith, (listed-bounds (table_of schema) (listed schema n q e)).0)

module _ (schema : List ℕ) (r : Row) (bytes : List ℕ) where
  -- A number above 0 comes back with a place exactly for its reason.
  pub number-iff-reason : (n q : ℕ) → 0 < n → ((scalar_number (scalar_by schema r bytes) ≡ n) × (place_of (scalar_by schema r bytes) ≡ q)) ↔ Reason schema bytes r n q
  unfolding scalar_number place_of
  number-iff-reason n q h = (
    λ (e, f). (refused-iff schema r bytes n q).0 (go (scalar_by schema r bytes) refl e f),
    λ w. let e = (refused-iff schema r bytes n q).1 w in (ap scalar_number e, ap place_of e),
  )
    where
      go : (a : Answer) → scalar_by schema r bytes ≡ a → scalar_number a ≡ n → place_of a ≡ q → scalar_by schema r bytes ≡ Refused n q
      go (Is x) e f g = absurd (omega (arith, h, f))
      go (Refused m p) e f g = e ∙ ap₂ Refused f g

-- ---- a value

-- an answer with the number 0 is the value x
data Zero (x : Scalar) : Answer → Type 0 where
  is : Zero x (Is x)
  other : {n q : ℕ} → 0 < n → Zero x (Refused n q)

test_zero : {x : Scalar} (b : Bool) (n q : ℕ) (next : Answer) → 0 < n → Zero x next → Zero x (test b (Refused n q) next)
test_zero true n q next h z = z
test_zero false n q next h z = other h

module _ (bytes : List ℕ) (r : Row) where
  scalar-zero : (kind : ℕ) → Zero (value_of kind (span bytes r.place r.length)) (by_shape (scalar kind) r bytes)
  unfolding scalar_at
  scalar-zero kind =
      let x = span bytes r.place r.length in
      test_zero (eqb r.count 0) 50 0 _ (lit≤ tt)
      (test_zero (eqb r.length (width kind)) 50 0 _ (lit≤ tt)
      (test_zero (inside bytes r.place r.length) 51 0 _ (lit≤ tt)
      (test_zero (not (eqb kind 1) || ltb (little x) 2) 22 r.place _ (lit≤ tt) is)))

  text-zero : (kind : ℕ) → Zero (Span r.place r.length) (by_shape (text kind) r bytes)
  unfolding text_at
  text-zero kind =
      test_zero (eqb r.count 0) 50 0 _ (lit≤ tt)
      (test_zero (inside bytes r.place r.length) 51 0 _ (lit≤ tt)
      (test_zero (not (eqb kind 12) || utf8 (span bytes r.place r.length)) 23 r.place _ (lit≤ tt) is))

  zero_is : {x : Scalar} (a : Answer) → Zero x a → scalar_number a ≡ 0 → a ≡ Is x
  unfolding scalar_number
  zero_is a is e = refl
  zero_is a (other h) e = absurd (omega arith)

  shape-shown : (s : Shape) → scalar_number (by_shape s r bytes) ≡ 0 → ShowsLeaf bytes s r (span bytes r.place r.length) (by_shape s r bytes)
  unfolding scalar_number
  shape-shown (scalar kind) e = zero_is (by_shape (scalar kind) r bytes) (scalar-zero kind) e
  shape-shown (text kind) e = (zero_is (by_shape (text kind) r bytes) (text-zero kind) e, refl)
  shape-shown unknown e = absurd (omega arith)
  shape-shown (array _) e = absurd (omega arith)
  shape-shown (map _ _) e = absurd (omega arith)
  shape-shown (struct _) e = absurd (omega arith)

  shown-zero : (s : Shape) (a : Answer) (x : List ℕ) → ShowsLeaf bytes s r x a → scalar_number a ≡ 0
  unfolding scalar_number
  shown-zero (scalar kind) a x e = ap scalar_number e
  shown-zero (text kind) a x (e, _) = ap scalar_number e
  shown-zero unknown a x w = absurd w
  shown-zero (array _) a x w = absurd w
  shown-zero (map _ _) a x w = absurd w
  shown-zero (struct _) a x w = absurd w

-- Number 0 comes back exactly for a good file and a leaf's row whose answer shows the bytes of its span: its value, or the span itself.
pub zero-iff-shown : (schema : List ℕ) (r : Row) (bytes : List ℕ)
    → (scalar_number (scalar_by schema r bytes) ≡ 0)
    ↔ (IsGood schema × ShowsLeaf bytes (shape (table_of schema) r.ty) r (span bytes r.place r.length) (scalar_by schema r bytes))
unfolding scalar_by scalar_of scalar_number
zero-iff-shown schema r bytes = (
  λ z. go (checked schema) refl z,
  λ (good, w). shown-zero bytes r (shape (table_of schema) r.ty) (scalar_by schema r bytes) (span bytes r.place r.length) w,
)
  where
    go : (c : Checked) → checked schema ≡ c → scalar_number (after_table c (by_shape (shape (table_of schema) r.ty) r bytes)) ≡ 0
        → IsGood schema × ShowsLeaf bytes (shape (table_of schema) r.ty) r (span bytes r.place r.length) (after_table c (by_shape (shape (table_of schema) r.ty) r bytes))
    go check.Good e z = (e, shape-shown bytes r (shape (table_of schema) r.ty) z)
    go (check.Refused n q) e z = absurd (omega (arith, above schema n q e, z))
