-- The number and the cells of a scalar's answer determine it.
use Rattle.std.specs.Prelude.{Result, Ok, Err}
use mathlib.Core.Path.{◌≡◌, refl, sym, ap, subst}
use mathlib.Core.Logic.{⊎_elim}
use mathlib.Core.Bool.{Bool, true, false, cond, not, ◌||◌}
use mathlib.Core.List.{List}
use Prim.Native.Nat.{ℕ, zero, suc, ◌+◌, ◌-◌, ◌*◌, ◌^◌, ◌≤◌, ◌<◌}
use native.Mathlib.Omega.{arith}
use lib.Dec.{eqb, leb, ltb, lit≤}
use lib.Ieee.{binary32, binary64, of_bits}
use lib.IntN.{negsuc}
use lib.ListN.{length, get_or, get_or-eq_default}
use borrow.Author.Tests.{eqb-true, leb-true, ltb-true, ltb-false, lt-ltb, le-ltb}
use Rattle.constants.specs.declared.refusal.Refused as error
use Rattle.constants.specs.Number.{number_of}
use Rattle.buffer.specs.Span.{span, inside}
use Rattle.buffer.proofs.Spans.{length-span}
use Rattle.wire.specs.Little.{little, twos}
use Rattle.utf8.specs.Utf8.{utf8}
use Rattle.wire.proofs.Cases.{cond-case}
use Rattle.wire.proofs.Numbers.{bytes_take, bytes_drop, sign-weight, little-below}
use Rattle.schema.specs.Checked.{Checked}
use Rattle.schema.specs.Checked as check
use Rattle.schema.specs.Table.{Shape, unknown, scalar, text, array, map, struct, shape, widths, width}
use Rattle.schema.specs.File.{table_of}
use Rattle.schema.specs.Check.{checked}
use Rattle.schema.proofs.Bools.{cases}
use Rattle.schema.proofs.Numbered.{listed, listed-bounds}
use Rattle.value.specs.declared.Row.{Row}
use Rattle.scalar.specs.declared.Scalar.{Scalar}
use Rattle.scalar.specs.declared.Scalar.TheVariants.{Truth, Signed, Unsigned, Float32, Float64, Span}
use Rattle.scalar.specs.Answer.{Answer}
use Rattle.scalar.specs.Answer.{Is, Refused}
use Rattle.scalar.specs.Told.{told}
use Rattle.scalar.specs.Scalar.{value_of, text_at, by_shape, scalar_of, after_table, scalar_by, scalar_number, scalar_at}
use Rattle.scalar.proofs.Widths.{width-bounds}
use Rattle.cells.specs.Scalars.{bits_of, told_by, scalar_cells, scalar_told}

-- A refusal tells its number and its place.
pub told-by : (a : Result Scalar error.Refused) → told_by (λ e. number_of e.refusal) (λ e. e.place) a ≡ told a
told-by (Ok x) = refl
told-by (Err e) = refl

-- ---- a value

-- what its cells have to keep: a signed number has 64 bits, and a float is that of its bits
Sound : Scalar → Type 0
Sound (Truth b) = Unit {0}
Sound (Signed z) = twos (2 ^ 63) (bits_of z) ≡ z
Sound (Unsigned n) = Unit {0}
Sound (Float32 x bits) = of_bits binary32 bits ≡ x
Sound (Float64 x bits) = of_bits binary64 bits ≡ x
Sound (Span place n) = Unit {0}

truth-told : (b : Bool) → eqb (cond b 1 0) 1 ≡ b
truth-told true = refl
truth-told false = refl

value-told : (x : Scalar) → Sound x → scalar_told 0 (scalar_cells (Is x)) ≡ Is x
unfolding Sound
value-told (Truth b) w = ap (λ (t : Bool). Is (Truth t)) (truth-told b)
value-told (Signed z) w = ap (λ n. Is (Signed n)) w
value-told (Unsigned n) w = refl
value-told (Float32 x bits) w = ap (λ f. Is (Float32 f bits)) w
value-told (Float64 x bits) w = ap (λ f. Is (Float64 f bits)) w
value-told (Span place n) w = refl

-- two's complement at a width of at most 64 bits
signed_back : (half x : ℕ) → half ≤ 2 ^ 63 → x < half + half → twos (2 ^ 63) (bits_of (twos half x)) ≡ twos half x
unfolding twos
signed_back half x most below = ⊎_elim (λ t. clear (ltb-true x half t) t) (λ t. negative (ltb-false x half t) t) (cases (ltb x half))
  where
    clear : x < half → ltb x half ≡ true → twos (2 ^ 63) (bits_of (twos half x)) ≡ twos half x
    clear h t = rw (t, lt-ltb x (2 ^ 63) (omega arith))

    negative : half ≤ x → ltb x half ≡ false → twos (2 ^ 63) (bits_of (twos half x)) ≡ twos half x
    negative h t =
        let k = half + half - suc x in
        let back : 2 ^ 63 + 2 ^ 63 - suc (2 ^ 64 - suc k) ≡ k = omega arith in
        rw (t, le-ltb (2 ^ 64 - suc k) (2 ^ 63) (omega arith)) (ap negsuc back)

number-sound : (a b c d : Bool) (half n : ℕ) → half ≤ 2 ^ 63 → n < half + half → Sound
    (cond a (Truth (eqb n 1))
    (cond b (Signed (twos half n)) (cond c (Unsigned n) (cond d (Float32 (of_bits binary32 n) n) (Float64 (of_bits binary64 n) n)))))
unfolding Sound
number-sound true b c d half n p q = tt
number-sound false true c d half n p q = signed_back half n p q
number-sound false false true d half n p q = tt
number-sound false false false true half n p q = refl
number-sound false false false false half n p q = refl

-- no width is above eight bytes
width-most : (kind : ℕ) → width kind ≤ 8
width-most zero = lit≤ tt
width-most (suc k) =
    ⊎_elim
    (λ t. (width-bounds (suc k) (omega arith) (ltb-true (suc k) 12 t)).1)
    (λ t. subst (λ (n : ℕ). n ≤ 8) (sym (get_or-eq_default widths 0 {n = suc k} (ltb-false (suc k) 12 t))) (lit≤ tt))
    (cases (ltb (suc k) 12))

weight : (w x : ℕ) → w ≤ 8 → x < 256 ^ w → (x < 2 ^ (8 * w - 1) + 2 ^ (8 * w - 1)) × (2 ^ (8 * w - 1) ≤ 2 ^ 63)
weight zero x most below = (omega arith, lit≤ tt)
weight (suc w) x most below = sign-weight (suc w) x (omega arith) most below

value-sound : (kind : ℕ) (x : List ℕ) → ((i : ℕ) → get_or x i 0 < 256) → length x ≤ 8 → Sound (value_of kind x)
unfolding value_of
value-sound kind x h most =
    let w = weight (length x) (little x) most (little-below x (length x) h (omega arith)) in
    number-sound (eqb kind 1) (leb kind 5) (leb kind 9) (eqb kind 10) (2 ^ (8 * length x - 1)) (little x) w.1 w.0

-- ---- the answer of the entry

data Told : Answer → Type 0 where
  is : {x : Scalar} → Sound x → Told (Is x)
  refuses : {n q : ℕ} → 1 ≤ n → Told (Refused n q)

module _ (schema : List ℕ) (r : Row) (bytes : List ℕ) (h : (i : ℕ) → get_or bytes i 0 < 256) where
  abbrev content : List ℕ
  content = span bytes r.place r.length

  number-told : (kind : ℕ) → Told (scalar_at kind r.place r.length bytes)
  unfolding scalar_at
  number-told kind =
      cond-case Told (eqb r.length (width kind)) _ (Refused 50 0)
      (λ t.
      cond-case Told (inside bytes r.place r.length) _ (Refused 51 0)
      (λ i.
      let wide = length-span bytes r.place r.length (leb-true (r.place + r.length) (length bytes) i) in
      let most : length content ≤ 8 = omega (arith, width-most kind, eqb-true r.length (width kind) t) in
      let sound = value-sound kind content (bytes_take r.length _ (bytes_drop bytes r.place h)) most in
      cond-case Told (not (eqb kind 1) || ltb (little content) 2) (Is (value_of kind content)) (Refused 22 r.place) (λ _. is sound) (λ _. refuses (lit≤ tt)))
      (λ _. refuses (lit≤ tt)))
      (λ _. refuses (lit≤ tt))

  text-told : (kind : ℕ) → Told (text_at kind r.place r.length bytes)
  unfolding text_at Sound
  text-told kind =
      cond-case Told (inside bytes r.place r.length) _ (Refused 51 0)
      (λ _. cond-case Told (not (eqb kind 12) || utf8 content) (Is (Span r.place r.length)) (Refused 23 r.place) (λ _. is tt) (λ _. refuses (lit≤ tt)))
      (λ _. refuses (lit≤ tt))

  shape-told : (s : Shape) → Told (by_shape s r bytes)
  shape-told (scalar kind) = cond-case Told (eqb r.count 0) _ (Refused 50 0) (λ _. number-told kind) (λ _. refuses (lit≤ tt))
  shape-told (text kind) = cond-case Told (eqb r.count 0) _ (Refused 50 0) (λ _. text-told kind) (λ _. refuses (lit≤ tt))
  shape-told unknown = refuses (lit≤ tt)
  shape-told (array _) = refuses (lit≤ tt)
  shape-told (map _ _) = refuses (lit≤ tt)
  shape-told (struct _) = refuses (lit≤ tt)

  row_told : Told (scalar_by schema r bytes)
  unfolding scalar_by scalar_of
  row_told = go (checked schema) refl
    where
      go : (v : Checked) → checked schema ≡ v → Told (after_table v (by_shape (shape (table_of schema) r.ty) r bytes))
      go check.Good e = shape-told (shape (table_of schema) r.ty)
      go (check.Refused n q) e = refuses {n = n} (omega (arith, (listed-bounds (table_of schema) (listed schema n q e)).0))

  -- The number and the cells determine the answer, for bytes below 256.
  pub scalar-entry : let a = scalar_by schema r bytes in scalar_told (scalar_number a) (scalar_cells a) ≡ a
  unfolding scalar_number
  scalar-entry = go row_told
    where
      go : {a : Answer} → Told a → scalar_told (scalar_number a) (scalar_cells a) ≡ a
      go (is {x = x} s) = value-told x s
      go (refuses {n = zero} l) = absurd (omega arith)
      go (refuses {n = suc n} l) = refl
