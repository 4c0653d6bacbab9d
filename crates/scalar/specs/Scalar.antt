-- One row of a sheet over its bytes as a value: the tests in order, and the value of a content by its kind.
use Rattle.std.specs.Prelude.{◌≡◌, List, not, ◌||◌, cond, ℕ, ◌-◌, ◌*◌, ◌^◌, ◌<◌, leb, ltb, eqb, ℤ, pos, length}
use Rattle.std.specs.Float.{binary32, binary64}
use Rattle.std.specs.Float.Ieee.{of_bits}
use Rattle.buffer.specs.Span.{span, inside}
use Rattle.wire.specs.Little.{little, twos, Bytes}
use Rattle.utf8.specs.Utf8.{utf8}
use Rattle.parse.specs.Test.{test, ◌>>◌}
use Rattle.schema.specs.Checked.{Checked}
use Rattle.schema.specs.Checked as check
use Rattle.schema.specs.Table.{Table, Shape, unknown, scalar, text, array, map, struct, shape, width}
use Rattle.schema.specs.File.{table_of}
use Rattle.schema.specs.Check.{checked}
use Rattle.value.specs.declared.Row.{Row}
use Rattle.scalar.specs.declared.Scalar.{Scalar}
use Rattle.scalar.specs.declared.Scalar.TheVariants.{Truth, Signed, Unsigned, Float32, Float64, Span}
use Rattle.scalar.specs.Answer.{Answer, Is, Refused}

-- The value of a scalar's bytes, by its kind: 1 bool, 2 to 5 signed, 6 to 9 unsigned, 10 float32, 11 float64.
unfoldable pub value_of : (kind : ℕ) → List ℕ → Scalar
value_of kind x =
    cond (eqb kind 1) (Truth (eqb (little x) 1))
    (cond (leb kind 5) (Signed (twos (2 ^ (8 * length x - 1)) (little x)))
    (cond (leb kind 9) (Unsigned (little x))
    (cond (eqb kind 10) (Float32 (of_bits binary32 (little x)) (little x))
    (Float64 (of_bits binary64 (little x)) (little x)))))

-- A scalar: its length is its width; its span lies in the bytes; a bool is 0 or 1.
unfoldable pub scalar_at : (kind place length : ℕ) → List ℕ → Answer
scalar_at kind place n bytes = do
  test (eqb n (width kind)) (Refused 50 0)
  test (inside bytes place n) (Refused 51 0)
  test (not (eqb kind 1) || ltb (little (span bytes place n)) 2) (Refused 22 place)
  Is (value_of kind (span bytes place n))

-- A string or bytes: its span lies in the bytes; a string is UTF-8.
unfoldable pub text_at : (kind place length : ℕ) → List ℕ → Answer
text_at kind place n bytes = do
  test (inside bytes place n) (Refused 51 0)
  test (not (eqb kind 12) || utf8 (span bytes place n)) (Refused 23 place)
  Is (Span place n)

-- A row of a type of each shape. Composite and unknown types are refused.
abbrev pub by_shape : Shape → Row → List ℕ → Answer
by_shape (scalar kind) r bytes = do
  test (eqb r.count 0) (Refused 50 0)
  scalar_at kind r.place r.length bytes
by_shape (text kind) r bytes = do
  test (eqb r.count 0) (Refused 50 0)
  text_at kind r.place r.length bytes
by_shape unknown r bytes = Refused 50 0
by_shape (array _) r bytes = Refused 50 0
by_shape (map _ _) r bytes = Refused 50 0
by_shape (struct _) r bytes = Refused 50 0

-- By a good table.
unfoldable pub scalar_of : Table → Row → List ℕ → Answer
scalar_of T r bytes = by_shape (shape T r.ty) r bytes

-- The table's refusals come first.
abbrev pub after_table : Checked → Answer → Answer
after_table check.Good next = next
after_table (check.Refused number place) next = Refused number place

-- By any schema file.
unfoldable pub scalar_by : (schema : List ℕ) → Row → List ℕ → Answer
scalar_by schema r bytes = after_table (checked schema) (scalar_of (table_of schema) r bytes)

-- The number and place of an answer (docs/FORMAT.md): 0 for a value.
unfoldable pub scalar_number : Answer → ℕ
scalar_number (Is x) = 0
scalar_number (Refused number place) = number

unfoldable pub place_of : Answer → ℕ
place_of (Is x) = 0
place_of (Refused number place) = place

-- What decides whether two scalars of one type are equal: the truth value as 1 or 0, the whole number, or a float's bits and not the float.
-- Spans have nothing of the kind: their bytes are compared.
unfoldable pub identity : Scalar → ℤ
identity (Truth b) = pos (cond b 1 0)
identity (Signed z) = z
identity (Unsigned n) = pos n
identity (Float32 f bits) = pos bits
identity (Float64 f bits) = pos bits
identity (Span place n) = pos 0

-- The bytes x are a content of the scalar kind.
pub record Content (kind : ℕ) (x : List ℕ) : Type 0 where
  pub bytes : Bytes x
  pub wide : length x ≡ width kind
  pub truth : kind ≡ 1 → little x < 2
