-- Laws of a struct's presence bits: the test for required fields, the fields present, and how many bits are set.
use Rattle.std.proofs.Common.{◌≡◌, ℕ, suc, ◌+◌, ◌-◌, ◌*◌, ◌/◌, ◌%◌, ◌^◌, ◌<◌, ◌≤◌, Bool, true, false, not, ◌&&◌, ◌||◌, eqb, ltb, List, [], ◌∷◌, length, take, drop, sym, ap, ◌∙◌, subst, le_refl, mod-lt, mod-eq_of_lt, div-lt_iff_lt-mul, add-one, arith, length-drop, length-take-le, drop-cons, pow_pos, shr_lt, le-ltb, lt-ltb, eq-eqb, ne_eqb}
use native.Mathlib.Nat.{div-eq_of_lt}
use native.Mathlib.Decide.{dec_lt}
use borrow.Author.Tests.{not-true, not-false}
use lib.Count.{ones_in}
use Rattle.buffer.specs.Span.{span}
use Rattle.buffer.proofs.Spans.{length-span}
use Rattle.wire.specs.Bitmap.{Present}
use Rattle.wire.specs.Little.{Bytes}
use Rattle.wire.proofs.Numbers.{little-below, pow-bytes, bytes_drop, bytes_take}
use Rattle.wire.proofs.Bitmaps.{known-count, unknown-count}
use Rattle.schema.specs.declared.Field.{Field}
use Rattle.schema.specs.Table.{Table, bitmap_bytes}
use Rattle.schema.specs.Check.{no_field, field_row_of}
use Rattle.value.specs.Read.{plain_item, present, required_set, known_bits, unknown_bits}
use Rattle.value.proofs.Bits.{length-present, present_mod, ones_none, none-set}
use Rattle.walks.specs.Shape.{fields_from}

-- ---- the fields of a struct, one after the other

pub length_fields : (T : Table) (first n : ℕ) → first + n ≤ length T.fields → length (fields_from T first n) ≡ n
unfolding fields_from
length_fields T first n h = length-take-le n (drop first T.fields) (rw length-drop (omega arith))

module _ (T : Table) (i left : ℕ) (some : 0 < left) (room : i + left ≤ length T.fields) where
  fields-cons : fields_from T i left ≡ field_row_of T i ∷ fields_from T (i + 1) (left - 1)
  unfolding fields_from
  fields-cons =
      let e : left ≡ suc (left - 1) = omega arith in
      let h : i < length T.fields = omega arith in
      ap (λ (l : List Field). take left l) (drop-cons T.fields i no_field h)
      ∙ ap (λ (k : ℕ). take k (field_row_of T i ∷ drop (suc i) T.fields)) e
      ∙ ap (λ (k : ℕ). field_row_of T i ∷ take (left - 1) (drop k T.fields)) (sym (add-one i))

  pub complete-more : (bits : ℕ) (f : Field) → f ≡ field_row_of T i →
      required_set (fields_from T i left) bits ≡ ((eqb f.optional 1 || eqb (bits % 2) 1) && required_set (fields_from T (i + 1) (left - 1)) (bits / 2))
  unfolding required_set
  complete-more bits f e = rw (fields-cons, e)

  pub present-set : (bits : ℕ) (f : Field) → f ≡ field_row_of T i → bits % 2 ≡ 1 →
      present (fields_from T i left) bits ≡ plain_item f.ty ∷ present (fields_from T (i + 1) (left - 1)) (bits / 2)
  unfolding present
  present-set bits f e b = rw (fields-cons, e, eq-eqb (bits % 2) 1 b)

  pub present-clear : (bits : ℕ) → (bits % 2 ≡ 1 → ⊥) → present (fields_from T i left) bits ≡ present (fields_from T (i + 1) (left - 1)) (bits / 2)
  unfolding present
  present-clear bits b = rw (fields-cons, ne_eqb (bits % 2) 1 b)

module _ (T : Table) (i left : ℕ) (none : left ≤ 0) where
  no_fields : fields_from T i left ≡ []
  unfolding fields_from
  no_fields = let e : left ≡ 0 = omega arith in rw e

  pub complete-end : (bits : ℕ) → required_set (fields_from T i left) bits ≡ true
  unfolding required_set
  complete-end bits = rw no_fields

  pub present-end : (bits : ℕ) → present (fields_from T i left) bits ≡ []
  unfolding present
  present-end bits = rw no_fields

-- a turn of the test, where the rest decides
module _ (T : Table) (i left : ℕ) (some : 0 < left) (room : i + left ≤ length T.fields) (bits : ℕ) (f : Field) (is : f ≡ field_row_of T i) (o : Bool)
    (inv : required_set (fields_from T i left) bits ≡ o) where
  pub complete-stop : not (eqb f.optional 1 || eqb (bits % 2) 1) ≡ true → false ≡ o
  complete-stop t =
      rw (complete-more T i left some room bits f is, not-true (eqb f.optional 1 || eqb (bits % 2) 1) t) at inv

  pub complete-on : not (eqb f.optional 1 || eqb (bits % 2) 1) ≡ false → required_set (fields_from T (i + 1) (left - 1)) (bits / 2) ≡ o
  complete-on t =
      rw (complete-more T i left some room bits f is, not-false (eqb f.optional 1 || eqb (bits % 2) 1) t) at inv

-- ---- counts of bits

-- no bit from n on is set exactly where the word is below 2 ^ n
none_above : (k n m : ℕ) → m < 2 ^ (k + n) → ltb m (2 ^ n) ≡ eqb (ones_in k (m / 2 ^ n)) 0
none_above k n m h = elim (dec_lt m (2 ^ n)) [
  | yes l ↦ rw (lt-ltb m (2 ^ n) l, div-eq_of_lt l, ones_none k)
  | no g ↦
      let above : 2 ^ n ≤ m = omega arith in
      rw (
        le-ltb m (2 ^ n) above,
        ne_eqb (ones_in k (m / 2 ^ n)) 0 (λ z.
            let q : m / 2 ^ n ≡ 0 = sym (mod-eq_of_lt (shr_lt k n h)) ∙ none-set k (m / 2 ^ n) z in
            let l : m / 2 ^ n < 1 = omega arith in
            let b : m < 1 * 2 ^ n = (div-lt_iff_lt-mul (pow_pos n)).0 l in
            omega arith),
      )
]

-- a word is below 2 ^ n where its low n bits are all of it, and only there
module _ {word known : ℕ} (n : ℕ) (low : known ≡ word % 2 ^ n) where
  pub word_below : word ≡ known → ltb word (2 ^ n) ≡ true
  word_below e = lt-ltb word (2 ^ n) (subst (λ (m : ℕ). m < 2 ^ n) (sym (e ∙ low)) (mod-lt word (pow_pos n)))

  pub word-above : (word ≡ known → ⊥) → ltb word (2 ^ n) ≡ false
  word-above h = elim (dec_lt word (2 ^ n)) [
    | yes l ↦ absurd (h (sym (low ∙ mod-eq_of_lt l)))
    | no g ↦ le-ltb word (2 ^ n) (omega arith)
  ]

-- what is read of the bitmap of a struct with n fields: the known bits and their count, the number of unknown ones,
-- and that there is none exactly where the word is below 2 ^ n
pub bits-read : (fs : List Field) {n : ℕ} → length fs ≡ n → (B : List ℕ) (p : ℕ) → p + (n + 7) / 8 ≤ length B → Bytes B → {word known ones unknown : ℕ}
    → Present (span B p ((n + 7) / 8)) n word known ones unknown
    → (known ≡ known_bits fs word) × (ones ≡ length (present fs known)) × (unknown ≡ unknown_bits fs word) × (ltb word (2 ^ length fs) ≡ eqb unknown 0)
bits-read fs {n} many B p inside all {word} {known} {ones} {unknown} is =
    let l = span B p ((n + 7) / 8) in
    let long = length-span B p ((n + 7) / 8) inside in
    let bytes : Bytes l = bytes_take ((n + 7) / 8) (drop p B) (bytes_drop B p all) in
    let some : n ≤ 8 * length l = omega arith in
    let above : ℕ = 8 * bitmap_bytes n - n in
    let whole : 8 * length l ≡ above + n = omega arith in
    let fits : word < 2 ^ (above + n) = rw (is.word-is, ← whole, ← pow-bytes (length l)) (little-below l (length l) bytes (le_refl (length l))) in
    let low : known ≡ known_bits fs word = rw many is.known_is in
    let unk : unknown ≡ ones_in above (word / 2 ^ n) = is.unknown-is ∙ unknown-count l n bytes some ∙ rw (long, is.word-is) in (
      low,
      is.ones-are ∙ known-count l n bytes some ∙ rw (low, present_mod fs word, length-present fs word, many, is.word-is),
      rw many unk,
      rw (many, unk) (none_above above n word fits),
    )
