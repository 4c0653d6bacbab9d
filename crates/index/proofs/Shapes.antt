-- The judgement of an index, in the code's own terms.
use mathlib.Core.Path.{◌≡◌, refl, sym, ap, ◌∙◌}
use mathlib.Core.Bool.{Bool, true, false, ◌&&◌, ◌||◌}
use mathlib.Core.List.{List, [], ◌∷◌}
use Prim.Native.Nat.{ℕ, zero, suc, ◌+◌, ◌*◌, ◌-◌, ◌/◌, ◌%◌, ◌≤◌, ◌<◌}
use native.Mathlib.Omega.{arith}
use borrow.Author.Tests.{leb-true, le-leb, lt-leb, eqb-true, eq-eqb, ne_eqb}
use lib.Dec.{eqb, leb, ltb}
use lib.ListN.{length, take, drop}
use lib.Seq.{drop-drop}
use Rattle.schema.proofs.Bools.{and_left, and_right}
use Rattle.wire.specs.Little.{little}
use Rattle.index.specs.Row.{Row, is_before, is_rising}
use Rattle.index.specs.IsIndex.{row_at, rows_in, count_in, trailer_cell, size_in, is_shaped, is_ordered, is_index}
use Rattle.index.specs.LookUp.{stopped_number, looked}

-- ---- the shape

pub too_short : (s : List ℕ) → length s < 16 → false ≡ is_shaped s
unfolding is_shaped
too_short s h = rw (lt-leb 16 (length s) h)

-- a number of the trailer, as the code reads it
cell-read : (i x : ℕ) (s : List ℕ) → x ≡ little (take 4 (drop (length s - 16 + i) s)) → x ≡ trailer_cell i s
cell-read i x s e = e ∙ ap (λ (l : List ℕ). little (take 4 l)) (sym (drop-drop i (length s - 16) s))

pub shape-read : (s : List ℕ) (a b c : ℕ) → 16 ≤ length s → a ≡ little (take 4 (drop (length s - 16) s)) → b ≡ little (take 4 (drop (length s - 16 + 4) s))
    → c ≡ little (take 4 (drop (length s - 16 + 12) s))
    → (eqb (length s % 16) 0 && (eqb a 0 && (eqb b ((length s - 16) / 16) && eqb c 1))) ≡ is_shaped s
unfolding is_shaped
shape-read s a b c h e f g = rw (le-leb 16 (length s) h, e, cell-read 4 b s f, cell-read 12 c s g)

module _ (s : List ℕ) (is : is_shaped s ≡ true) where
  pub shape-long : 16 ≤ length s
  unfolding is_shaped
  shape-long = leb-true 16 (length s) (and_left (leb 16 (length s)) _ is)

  pub shape_even : length s % 16 ≡ 0
  unfolding is_shaped
  shape_even = eqb-true (length s % 16) 0 (and_left (eqb (length s % 16) 0) _ (and_right (leb 16 (length s)) _ is))

  pub shape-cells : (eqb (trailer_cell 0 s) 0 && (eqb (trailer_cell 4 s) (count_in s) && eqb (trailer_cell 12 s) 1)) ≡ true
  unfolding is_shaped
  shape-cells = and_right (eqb (length s % 16) 0) _ (and_right (leb 16 (length s)) _ is)

  pub shape-count : trailer_cell 4 s ≡ count_in s
  shape-count = eqb-true (trailer_cell 4 s) (count_in s) (and_left (eqb (trailer_cell 4 s) (count_in s)) (eqb (trailer_cell 12 s) 1) (and_right (eqb (trailer_cell 0 s) 0) _ shape-cells))

  pub rows_inside : 16 * count_in s + 16 ≡ length s
  rows_inside = omega (arith, shape-long, shape_even)

  pub count-read : (x : ℕ) → x ≡ little (take 4 (drop (length s - 16 + 4) s)) → x ≡ count_in s
  count-read x e = cell-read 4 x s e ∙ shape-count

-- ---- the order

pub before-read : (s : List ℕ) (at a b p q : ℕ) → a ≡ little (take 8 (drop at s)) → b ≡ little (take 8 (drop (at + 16) s)) → p ≡ little (take 4 (drop (at + 8) s))
    → q ≡ little (take 4 (drop (at + 24) s)) → (ltb a b || (eqb a b && ltb p q)) ≡ is_before (row_at (drop at s)) (row_at (drop (at + 16) s))
before-read s at a b p q e f g h =
    let sum : at + 24 ≡ at + 16 + 8 = omega arith in
    let place : p ≡ little (take 4 (drop 8 (drop at s))) = g ∙ ap (λ (l : List ℕ). little (take 4 l)) (sym (drop-drop 8 at s)) in
    let next : q ≡ little (take 4 (drop 8 (drop (at + 16) s))) =
    h ∙ ap (λ (k : ℕ). little (take 4 (drop k s))) sum ∙ ap (λ (l : List ℕ). little (take 4 l)) (sym (drop-drop 8 (at + 16) s)) in
    λ i. ltb (e i) (f i) || (eqb (e i) (f i) && ltb (place i) (next i))

-- the rows from one on
pub rows_on : (n i : ℕ) (s : List ℕ) → i < n → rows_in (n - i) (drop (16 * i) s) ≡ row_at (drop (16 * i) s) ∷ rows_in (n - (i + 1)) (drop (16 * (i + 1)) s)
unfolding rows_in
rows_on n i s h =
    let e : n - i ≡ suc (n - (i + 1)) = omega arith in
    let f : 16 * i + 16 ≡ 16 * (i + 1) = omega arith in
    ap (λ (k : ℕ). rows_in k (drop (16 * i) s)) e
    ∙ ap (λ (l : List ℕ). row_at (drop (16 * i) s) ∷ rows_in (n - (i + 1)) l) (drop-drop 16 (16 * i) s ∙ ap (λ (k : ℕ). drop k s) f)

pub rows-over : (n i : ℕ) (s : List ℕ) → n ≤ i → rows_in (n - i) (drop (16 * i) s) ≡ []
unfolding rows_in
rows-over n i s h = let e : n - i ≡ 0 = omega arith in ap (λ (k : ℕ). rows_in k (drop (16 * i) s)) e

abbrev rest_rising : (n i : ℕ) (s : List ℕ) → Bool
rest_rising n i s = is_rising (rows_in (n - i) (drop (16 * i) s))

-- one row at most rises
few-rising : (k : ℕ) (s : List ℕ) → k ≤ 1 → true ≡ is_rising (rows_in k s)
unfolding is_rising rows_in
few-rising zero s h = refl
few-rising (suc zero) s h = refl
few-rising (suc (suc k)) s h = absurd (omega arith)

-- the first two of the rows from one on
rising-on : (n i : ℕ) (s : List ℕ) → i + 1 < n
    → rest_rising n i s ≡ (is_before (row_at (drop (16 * i) s)) (row_at (drop (16 * i + 16) s)) && rest_rising n (i + 1) s)
unfolding is_rising
rising-on n i s h =
    let f : 16 * (i + 1) ≡ 16 * i + 16 = omega arith in
    let next = rows_on n (i + 1) s h in
    ap is_rising (rows_on n i s (omega arith))
    ∙ ap (λ (l : List Row). is_rising (row_at (drop (16 * i) s) ∷ l)) next
    ∙ ap (λ (l : List Row). is_before (row_at (drop (16 * i) s)) (row_at (drop (16 * (i + 1)) s)) && is_rising l) (sym next)
    ∙ ap (λ (k : ℕ). is_before (row_at (drop (16 * i) s)) (row_at (drop k s)) && rest_rising n (i + 1) s) f

pub rising-first : (n : ℕ) (s : List ℕ) → rest_rising n 0 s ≡ is_rising (rows_in n s)
rising-first n s = let e : n - 0 ≡ n = omega arith in ap (λ (k : ℕ). is_rising (rows_in k s)) e

module _ (n i : ℕ) (s : List ℕ) (sofar : rest_rising n i s ≡ is_rising (rows_in n s)) where
  pub rising-turn : i + 1 < n → (b : Bool) → b ≡ is_before (row_at (drop (16 * i) s)) (row_at (drop (16 * i + 16) s)) → b ≡ true → rest_rising n (i + 1) s ≡ is_rising (rows_in n s)
  rising-turn h b is e = ap (λ (x : Bool). x && rest_rising n (i + 1) s) (sym (sym is ∙ e)) ∙ sym (rising-on n i s h) ∙ sofar

  pub rising-fault : i + 1 < n → (b : Bool) → b ≡ is_before (row_at (drop (16 * i) s)) (row_at (drop (16 * i + 16) s)) → b ≡ false → false ≡ is_rising (rows_in n s)
  rising-fault h b is e = ap (λ (x : Bool). x && rest_rising n (i + 1) s) (sym (sym is ∙ e)) ∙ sym (rising-on n i s h) ∙ sofar

  pub rising-end : n ≤ i + 1 → true ≡ is_rising (rows_in n s)
  rising-end h = few-rising (n - i) (drop (16 * i) s) (omega arith) ∙ sofar

-- ---- the verdict

pub record JudgedAs (s : List ℕ) (size number rows : ℕ) : Type 0 where
  pub number_is : number ≡ stopped_number s size
  pub rows_is : rows ≡ looked s size
  pub inside : 16 * rows ≤ length s
  pub few : rows < 4294967296

module _ (s : List ℕ) (size : ℕ) where
  refused-index : is_index s ≡ false → (number rows : ℕ) → number ≡ 65 → rows ≡ 0 → JudgedAs s size number rows
  unfolding stopped_number looked
  refused-index e number rows n z =
      let v : stopped_number s size ≡ 65 = rw e in
      record {
        number_is = n ∙ sym v;
        rows_is = z ∙ rw v;
        inside = omega arith;
        few = omega arith;
      }

  pub judged-shape : is_shaped s ≡ false → (number rows : ℕ) → number ≡ 65 → rows ≡ 0 → JudgedAs s size number rows
  unfolding is_index
  judged-shape e = refused-index (rw e)

  module _ (shape : is_shaped s ≡ true) where
    pub judged-order : is_ordered s ≡ false → (number rows : ℕ) → number ≡ 65 → rows ≡ 0 → JudgedAs s size number rows
    unfolding is_index
    judged-order e = refused-index (ap (λ (b : Bool). b && is_ordered s) shape ∙ e)

    module _ (order : is_ordered s ≡ true) where
      accepted-index : is_index s ≡ true
      unfolding is_index
      accepted-index = ap (λ (b : Bool). b && is_ordered s) shape ∙ order

      pub judged-size : (x : ℕ) → x ≡ little (take 4 (drop (length s - 16 + 8) s)) → (x ≡ size → ⊥) → (number rows : ℕ) → number ≡ 66 → rows ≡ 0 → JudgedAs s size number rows
      unfolding stopped_number looked
      judged-size x e h number rows k z =
          let v : stopped_number s size ≡ 66 = rw (accepted-index, ne_eqb (size_in s) size (λ q. h (cell-read 8 x s e ∙ q))) in
          record {
            number_is = k ∙ sym v;
            rows_is = z ∙ rw v;
            inside = omega arith;
            few = omega arith;
          }

      pub judged-right : (x : ℕ) → x ≡ little (take 4 (drop (length s - 16 + 8) s)) → x ≡ size → (n : ℕ) → n ≡ count_in s → n < 4294967296 → JudgedAs s size 0 n
      unfolding stopped_number looked
      judged-right x e h n is few =
          let v : stopped_number s size ≡ 0 = rw (accepted-index, eq-eqb (size_in s) size (sym (cell-read 8 x s e) ∙ h)) in
          record {
            number_is = sym v;
            rows_is = is ∙ rw v;
            inside = omega (arith, rows_inside s shape, is);
            few = few;
          }
