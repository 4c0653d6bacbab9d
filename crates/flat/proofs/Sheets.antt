-- Laws of the sheet: rows at different places commute, rows written one run after another are the runs joined, and rows that fit are shown.
use mathlib.Core.Path.{◌≡◌, refl, sym, ap, ◌∙◌}
use mathlib.Core.Logic.{◌≢◌}
use mathlib.Core.List.{List, [], ◌∷◌, ◌++◌, append_assoc, append-nil}
use Prim.Native.Nat.{ℕ, suc, ◌+◌, ◌*◌, ◌≤◌, ◌<◌}
use native.Mathlib.Omega.{arith}
use native.Mathlib.Decide.{dec_le}
use borrow.Author.Tests.{le-leb, lt-leb}
use native.Mathlib.Numerals.{add-one, add-two, add-three}
use lib.ListN.{length, set, take, drop, length-set, take-append-drop}
use lib.Seq.{set-set, set_comm, sets-eq, length-take-le, take-append-le, take-take, take_at, drop_at, paste}
use Rattle.value.specs.declared.Row.{Row}
use Rattle.value.specs.Sheet.{cells_of}
use Rattle.value.proofs.Sheets.{length-cells}
use Rattle.flat.specs.Sheet.{put4, put_row, put_rows, shown_in}

length-put4 : (l : List ℕ) (b : ℕ) (r : Row) → length (put4 l b r) ≡ length l
unfolding put4
length-put4 l b r = simp length-set

pub put-fits : (l : List ℕ) (i : ℕ) (r : Row) → 4 * i + 4 ≤ length l → put_row l i r ≡ put4 l (4 * i) r
unfolding put_row
put-fits l i r h = rw (le-leb (4 * i + 4) (length l) h)

pub put-none : (l : List ℕ) (i : ℕ) (r : Row) → length l < 4 * i + 4 → put_row l i r ≡ l
unfolding put_row
put-none l i r h = rw (lt-leb (4 * i + 4) (length l) h)

pub length-put : (l : List ℕ) (i : ℕ) (r : Row) → length (put_row l i r) ≡ length l
length-put l i r = elim (dec_le (4 * i + 4) (length l)) [
  | yes h ↦ rw (put-fits l i r h) (length-put4 l (4 * i) r)
  | no g ↦ let h : length l < 4 * i + 4 = omega arith in rw (put-none l i r h)
]

put4-is :
    (l : List ℕ) (b : ℕ) (r : Row) → put4 l b r ≡ set (set (set (set l b r.ty) (b + 1) r.place) (b + 2) r.length) (b + 3) r.count
unfolding put4
put4-is l b r = refl

-- a cell outside a row
cell-comm : (l : List ℕ) (b : ℕ) (r : Row) (k v : ℕ) → b ≢ k → b + 1 ≢ k → b + 2 ≢ k → b + 3 ≢ k → set (put4 l b r) k v ≡ put4 (set l k v) b r
unfolding put4
cell-comm l b r k v h₀ h₁ h₂ h₃ =
    rw (set_comm _ (b + 3) k _ _ h₃, set_comm _ (b + 2) k _ _ h₂, set_comm _ (b + 1) k _ _ h₁, set_comm _ b k _ _ h₀)

-- the cells of two rows: all those of one are outside the other
put4-comm : (l : List ℕ) (b k : ℕ) (r q : Row) → b + 4 ≤ k → put4 (put4 l b r) k q ≡ put4 (put4 l k q) b r
put4-comm l b k r q h =
    rw (
      put4-is (put4 l b r) k q,
      cell-comm l b r k q.ty (omega arith) (omega arith) (omega arith) (omega arith),
      cell-comm (set l k q.ty) b r (k + 1) q.place (omega arith) (omega arith) (omega arith) (omega arith),
      cell-comm (set (set l k q.ty) (k + 1) q.place) b r (k + 2) q.length (omega arith) (omega arith) (omega arith) (omega arith),
      cell-comm (set (set (set l k q.ty) (k + 1) q.place) (k + 2) q.length) b r (k + 3) q.count (omega arith) (omega arith) (omega arith) (omega arith),
      ← put4-is l k q,
    )

row-comm : (l : List ℕ) (i j : ℕ) (r q : Row) → i < j → put_row (put_row l j q) i r ≡ put_row (put_row l i r) j q
row-comm l i j r q h = elim (dec_le (4 * j + 4) (length l)) [
  | yes fit ↦
      let one = length-put4 l (4 * j) q in
      let two = length-put4 l (4 * i) r in
      rw
      (put-fits l j q fit, put-fits l i r (omega arith), put-fits (put4 l (4 * j) q) i r (omega arith), put-fits (put4 l (4 * i) r) j q (omega arith))
      (sym (put4-comm l (4 * i) (4 * j) r q (omega arith)))
  | no g ↦
      let len = length-put l i r in
      rw (put-none l j q (omega arith), put-none (put_row l i r) j q (omega arith))
]

-- a row written twice
put4-twice : (l : List ℕ) (b : ℕ) (r q : Row) → put4 (put4 l b r) b q ≡ put4 l b q
unfolding put4
put4-twice l b r q =
    rw (
      set_comm _ (b + 3) b _ _ (omega arith),
      set_comm _ (b + 2) b _ _ (omega arith),
      set_comm _ (b + 1) b _ _ (omega arith),
      set-set l b,
      set_comm _ (b + 3) (b + 1) _ _ (omega arith),
      set_comm _ (b + 2) (b + 1) _ _ (omega arith),
      set-set _ (b + 1),
      set_comm _ (b + 3) (b + 2) _ _ (omega arith),
      set-set _ (b + 2),
      set-set _ (b + 3),
    )

pub put-twice : (l : List ℕ) (i : ℕ) (r q : Row) → put_row (put_row l i r) i q ≡ put_row l i q
put-twice l i r q = elim (dec_le (4 * i + 4) (length l)) [
  | yes h ↦
      let one = length-put4 l (4 * i) r in
      rw (put-fits l i r h, put-fits l i q h, put-fits (put4 l (4 * i) r) i q (omega arith)) (put4-twice l (4 * i) r q)
  | no g ↦ let h : length l < 4 * i + 4 = omega arith in rw (put-none l i r h)
]

rows-comm : (l : List ℕ) (i j : ℕ) (r : Row) (qs : List Row) → i < j → put_row (put_rows l j qs) i r ≡ put_rows (put_row l i r) j qs
unfolding put_rows
rows-comm l i j r [] h = refl
rows-comm l i j r (q ∷ qs) h =
    let k : i < j + 1 = omega arith in
    row-comm (put_rows l (j + 1) qs) i j r q h ∙ ap (λ (m : List ℕ). put_row m j q) (rows-comm l i (j + 1) r qs k)

-- a run of rows after another
pub rows_append : (l : List ℕ) (i : ℕ) (rs qs : List Row) → put_rows l i (rs ++ qs) ≡ put_rows (put_rows l i rs) (i + length rs) qs
unfolding put_rows
rows_append l i [] qs = let e : i + 0 ≡ i = omega arith in rw e
rows_append l i (r ∷ rs) qs =
    let e : i + suc (length rs) ≡ i + 1 + length rs = omega arith in
    let k : i < i + 1 + length rs = omega arith in
    rw (e, rows_append l (i + 1) rs qs) (rows-comm (put_rows l (i + 1) rs) i (i + 1 + length rs) r qs k)

pub length-rows : (l : List ℕ) (i : ℕ) (rs : List Row) → length (put_rows l i rs) ≡ length l
unfolding put_rows
length-rows l i [] = refl
length-rows l i (r ∷ rs) = length-put (put_rows l (i + 1) rs) i r ∙ length-rows l (i + 1) rs

-- ---- where all rows fit, they are one run of cells pasted over the sheet

abbrev cells4 : Row → List ℕ
cells4 r = r.ty ∷ r.place ∷ r.length ∷ r.count ∷ []

put4-cells : (l : List ℕ) (b : ℕ) (r : Row) → b + 4 ≤ length l → put4 l b r ≡ take b l ++ cells4 r ++ drop (b + 4) l
unfolding put4
put4-cells l b r h = rw (add-one, add-two, add-three) (sets-eq (r.ty ∷ r.place ∷ r.length ∷ r.count ∷ []) l b h)

rows-paste :
    (l : List ℕ) (i : ℕ) (rs : List Row) →
    4 * (i + length rs) ≤ length l →
    put_rows l i rs ≡ take (4 * i) l ++ cells_of rs ++ drop (4 * (i + length rs)) l
unfolding put_rows cells_of
rows-paste l i [] h =
    let e : i + 0 ≡ i = omega arith in
    rw (e, append-nil) (sym (take-append-drop (4 * i) l))
rows-paste l i (r ∷ rs) h =
    let e : i + suc (length rs) ≡ i + 1 + length rs = omega arith in
    let f : 4 * (i + 1) ≡ 4 * i + 4 = omega arith in
    let ih = rows-paste l (i + 1) rs (omega arith) in
    let tail : List ℕ = cells_of rs ++ drop (4 * (i + 1 + length rs)) l in
    let m : List ℕ = take (4 * (i + 1)) l ++ tail in
    let same : put_rows l (i + 1) rs ≡ m = ih ∙ append_assoc (take (4 * (i + 1)) l) (cells_of rs) (drop (4 * (i + 1 + length rs)) l) in
    let long : length m ≡ length l = ap length (sym same) ∙ length-rows l (i + 1) rs in
    let front : length (take (4 * (i + 1)) l) ≡ 4 * i + 4 = length-take-le (4 * (i + 1)) l (omega arith) ∙ f in
    let one : take (4 * i) m ≡ take (4 * i) l =
    take-append-le (4 * i) (take (4 * (i + 1)) l) tail (omega arith) ∙ take-take (4 * i) (4 * (i + 1)) l (omega arith) in
    let two : drop (4 * i + 4) m ≡ tail = drop_at (take (4 * (i + 1)) l) tail (4 * i + 4) front in
    rw (e, same, put-fits m i r (omega arith), put4-cells m (4 * i) r (omega arith), one, two)
    (sym (append_assoc (take (4 * i) l ++ cells4 r) (cells_of rs) (drop (4 * (i + 1 + length rs)) l))
    ∙ ap (λ (x : List ℕ). x ++ drop (4 * (i + 1 + length rs)) l) (append_assoc (take (4 * i) l) (cells4 r) (cells_of rs)))

-- From the first row on they are shown.
pub rows-shown : (l : List ℕ) (rs : List Row) → 4 * length rs ≤ length l → put_rows l 0 rs ≡ shown_in l rs
rows-shown l rs h =
    let e : 0 + length rs ≡ length rs = omega arith in
    rows-paste l 0 rs (omega arith) ∙ rw e

-- Rows that fit into another sheet, copied from there.
pub rows-copied : (few l : List ℕ) (rs : List Row) → 4 * length rs ≤ length few → paste l 0 (put_rows few 0 rs) (4 * length rs) ≡ shown_in l rs
rows-copied few l rs h =
    let long : length (cells_of rs) ≡ 4 * length rs = length-cells rs in
    let e : 0 + 4 * length rs ≡ 4 * length rs = omega arith in
    rw (rows-shown few rs h, take_at (cells_of rs) (drop (4 * length rs) few) (4 * length rs) long, e)
