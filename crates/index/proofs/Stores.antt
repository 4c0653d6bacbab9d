-- Rows and the trailer stored as bytes, one after the other.
use mathlib.Core.Path.{◌≡◌, refl, sym, ap, ap₂, ◌∙◌}
use mathlib.Core.List.{List, [], ◌∷◌, ◌++◌, append_assoc}
use Prim.Native.Nat.{ℕ, suc, ◌+◌, ◌*◌, ◌≤◌, ◌<◌}
use native.Mathlib.Omega.{arith}
use lib.ListN.{length, get_or, drop, length-append, drop_of_length-le}
use lib.Seq.{drop-cons, sets, length-sets}
use Rattle.buffer.specs.Store.{written}
use Rattle.buffer.proofs.Stores.{sets-written, sets-append}
use Rattle.wire.specs.Little.{bytes}
use Rattle.wire.proofs.Numbers.{length-bytes}
use Rattle.index.specs.Row.{Row}
use Rattle.index.specs.Index.{row_bytes, rows_bytes, trailer}

-- Bytes written behind those that were.
pub stored : (out o after : List ℕ) (at p : ℕ) (a b : List ℕ) → o ≡ sets out at a → p ≡ at + length a → p + length b ≤ length out → after ≡ written o p b
    → after ≡ sets out at (a ++ b)
stored out o after at p a b e q room w =
    let long : length o ≡ length out = ap length e ∙ length-sets out at a in
    w
    ∙ sym (sets-written o p b (omega arith))
    ∙ ap₂ (λ (l : List ℕ) (k : ℕ). sets l k b) e q
    ∙ sym (sets-append out at a b)

pub first-stored : (out after : List ℕ) (at : ℕ) (a : List ℕ) → at + length a ≤ length out → after ≡ written out at a → after ≡ sets out at a
first-stored out after at a h w = w ∙ sym (sets-written out at a h)

-- A row and a trailer, number by number.
module _ (out : List ℕ) (at : ℕ) (h : at + 16 ≤ length out) {o₁ o₂ o₃ : List ℕ} where
  pub row-stored : (x y z : ℕ) → o₁ ≡ written out at (bytes 8 x) → o₂ ≡ written o₁ (at + 8) (bytes 4 y) → o₃ ≡ written o₂ (at + 12) (bytes 4 z)
      → o₃ ≡ sets out at (bytes 8 x ++ (bytes 4 y ++ bytes 4 z))
  row-stored x y z e f g =
      let a = bytes 8 x in
      let b = bytes 4 y in
      let c = bytes 4 z in
      let p = length-bytes 8 x in
      let q = length-bytes 4 y in
      let r = length-bytes 4 z in
      let one = first-stored out o₁ at a (omega arith) e in
      let two = stored out o₁ o₂ at (at + 8) a b one (omega arith) (omega arith) f in
      let three = stored out o₂ o₃ at (at + 12) (a ++ b) c two (omega (arith, length-append a b)) (omega arith) g in
      three ∙ ap (sets out at) (append_assoc a b c)

  pub trailer-stored : (x y z w : ℕ) (o₄ : List ℕ) → o₁ ≡ written out at (bytes 4 x) → o₂ ≡ written o₁ (at + 4) (bytes 4 y) → o₃ ≡ written o₂ (at + 8) (bytes 4 z)
      → o₄ ≡ written o₃ (at + 12) (bytes 4 w) → o₄ ≡ sets out at ((bytes 4 x ++ bytes 4 y) ++ (bytes 4 z ++ bytes 4 w))
  trailer-stored x y z w o₄ e f g k =
      let a = bytes 4 x in
      let b = bytes 4 y in
      let c = bytes 4 z in
      let d = bytes 4 w in
      let p = length-bytes 4 x in
      let q = length-bytes 4 y in
      let r = length-bytes 4 z in
      let s = length-bytes 4 w in
      let one = first-stored out o₁ at a (omega arith) e in
      let two = stored out o₁ o₂ at (at + 4) a b one (omega arith) (omega arith) f in
      let three = stored out o₂ o₃ at (at + 8) (a ++ b) c two (omega (arith, length-append a b)) (omega arith) g in
      let four = stored out o₃ o₄ at (at + 12) ((a ++ b) ++ c) d three (omega (arith, length-append a b, length-append (a ++ b) c)) (omega arith) k in
      four ∙ ap (sets out at) (append_assoc (a ++ b) c d)

pub row_long : (r : Row) → length (row_bytes r) ≡ 16
unfolding bytes
row_long r = refl

pub trailer_long : (count size : ℕ) → length (trailer count size) ≡ 16
unfolding bytes
trailer_long count size = refl

pub rows-long : (rows : List Row) → length (rows_bytes rows) ≡ 16 * length rows
unfolding rows_bytes
rows-long [] = refl
rows-long (r ∷ rows) = length-append (row_bytes r) (rows_bytes rows) ∙ omega (arith, row_long r, rows-long rows)

-- ---- one row after the other

module _ (rows : List Row) (i : ℕ) (h : i < length rows) where
  pub store-turn : (out after : List ℕ) → after ≡ sets out (16 * i) (row_bytes (get_or rows i (record { correlation = 0; place = 0; answer = 0 })))
      → (sets after (16 * (i + 1)) (rows_bytes (drop (i + 1) rows)) ≡ sets out (16 * i) (rows_bytes (drop i rows))) × (length after ≡ length out)
  unfolding rows_bytes
  store-turn out after put =
      let none : Row = record { correlation = 0; place = 0; answer = 0 } in
      let x = get_or rows i none in
      let next : 16 * (i + 1) ≡ 16 * i + length (row_bytes x) = omega (arith, row_long x) in
      let more : suc i ≡ i + 1 = omega arith in
      let rest : drop i rows ≡ x ∷ drop (i + 1) rows = drop-cons rows i none h ∙ ap (λ (k : ℕ). x ∷ drop k rows) more in (
        ap₂ (λ (l : List ℕ) (k : ℕ). sets l k (rows_bytes (drop (i + 1) rows))) put next
            ∙ sym (sets-append out (16 * i) (row_bytes x) (rows_bytes (drop (i + 1) rows)))
            ∙ ap (λ (t : List Row). sets out (16 * i) (rows_bytes t)) (sym rest),
        ap length put ∙ length-sets out (16 * i) (row_bytes x),
      )

pub store-end : (rows : List Row) (out out₀ : List ℕ) (i : ℕ) → length rows ≤ i → sets out (16 * i) (rows_bytes (drop i rows)) ≡ sets out₀ 0 (rows_bytes rows) → out ≡ sets out₀ 0 (rows_bytes rows)
unfolding rows_bytes
store-end rows out out₀ i h e = sym (ap (λ (t : List Row). sets out (16 * i) (rows_bytes t)) (drop_of_length-le rows h)) ∙ e
