-- The test and the relation agree: bytes are taken for an index exactly where they are the bytes of rows that rise strictly, with their trailer.
use mathlib.Core.Path.{◌≡◌, refl, sym, ap, ap₂, subst, ◌∙◌}
use mathlib.Core.Bool.{true, ◌&&◌}
use mathlib.Core.List.{List, [], ◌∷◌, ◌++◌, append_assoc}
use mathlib.Core.Logic.{◌↔◌, ⊎_elim}
use Prim.Native.Nat.{ℕ, zero, suc, ◌+◌, ◌*◌, ◌-◌, ◌%◌, ◌^◌, ◌≤◌, ◌<◌}
use native.Mathlib.Omega.{arith}
use borrow.Author.Tests.{le-leb, eq-eqb, lt-ltb, eqb-true, ltb-true}
use lib.Dec.{eqb, leb, ltb}
use lib.ListN.{length, take, drop, length-append, length-drop, take-append-drop}
use lib.Seq.{take_at, drop_at, take-add, drop-drop, take_all, length-take-le}
use Rattle.schema.proofs.Bools.{and_left, and_right, and_i, or_left, or_right, or_cases}
use Rattle.wire.specs.Little.{Bytes, little, bytes}
use Rattle.wire.proofs.Numbers.{bytes_drop, bytes_take, length-bytes, little-bytes, bytes-little, little-lt}
use Rattle.index.specs.Row.{Row, Before, lower, earlier, Rising, no_row, one-row, next_row, is_before, is_rising}
use Rattle.index.specs.Index.{row_bytes, rows_bytes, trailer, index_bytes}
use Rattle.index.specs.IsIndex.{row_at, rows_in, count_in, trailer_cell, size_in, is_shaped, is_index, Reads, RowFits, RowsFit, none_left, one-fits, IsIndex}
use Rattle.index.proofs.Shapes.{shape-cells, shape-count, rows_inside}

-- ---- the order

before-test : (a b : Row) → Before a b → is_before a b ≡ true
before-test a b (lower h) = or_left (ltb a.correlation b.correlation) _ (lt-ltb a.correlation b.correlation h)
before-test a b (earlier e h) =
    or_right (ltb a.correlation b.correlation) _
    (and_i (eqb a.correlation b.correlation) (ltb a.place b.place) (eq-eqb a.correlation b.correlation e) (lt-ltb a.place b.place h))

test-before : (a b : Row) → is_before a b ≡ true → Before a b
test-before a b t =
    ⊎_elim
    (λ h. lower (ltb-true a.correlation b.correlation h))
    (λ h. earlier (eqb-true a.correlation b.correlation (and_left (eqb a.correlation b.correlation) (ltb a.place b.place) h))
    (ltb-true a.place b.place (and_right (eqb a.correlation b.correlation) (ltb a.place b.place) h)))
    (or_cases (ltb a.correlation b.correlation) _ t)

rising-test : {rows : List Row} → Rising rows → is_rising rows ≡ true
unfolding is_rising
rising-test no_row = refl
rising-test one-row = refl
rising-test (next_row {a = a} {b = b} {rows = rows} f w) = and_i (is_before a b) (is_rising (b ∷ rows)) (before-test a b f) (rising-test w)

test_rising : (rows : List Row) → is_rising rows ≡ true → Rising rows
unfolding is_rising
test_rising [] t = no_row
test_rising (a ∷ []) t = one-row
test_rising (a ∷ b ∷ rows) t = next_row (test-before a b (and_left (is_before a b) (is_rising (b ∷ rows)) t)) (test_rising (b ∷ rows) (and_right (is_before a b) (is_rising (b ∷ rows)) t))

-- Rows pass the test exactly where each stands before the next.
pub rising-iff : (rows : List Row) → (is_rising rows ≡ true) ↔ Rising rows
rising-iff rows = (test_rising rows, rising-test)

-- ---- rows read back

pub row-long : (r : Row) → length (row_bytes r) ≡ 16
row-long r =
    length-append (bytes 8 r.correlation) (bytes 4 r.place ++ bytes 4 r.answer)
    ∙ omega (arith, length-append (bytes 4 r.place) (bytes 4 r.answer), length-bytes 8 r.correlation, length-bytes 4 r.place, length-bytes 4 r.answer)

pub rows_long : (rows : List Row) → length (rows_bytes rows) ≡ 16 * length rows
unfolding rows_bytes
rows_long [] = refl
rows_long (r ∷ rows) = length-append (row_bytes r) (rows_bytes rows) ∙ omega (arith, row-long r, rows_long rows)

-- a number at the front of some bytes
number-front : (n x : ℕ) (t : List ℕ) → x < 256 ^ n → little (take n (bytes n x ++ t)) ≡ x
number-front n x t h = ap little (take_at (bytes n x) t n (length-bytes n x)) ∙ little-bytes n x h

number_past : (n x : ℕ) (t : List ℕ) → drop n (bytes n x ++ t) ≡ t
number_past n x t = drop_at (bytes n x) t n (length-bytes n x)

row-front : (r : Row) (t : List ℕ) → RowFits r → row_at (row_bytes r ++ t) ≡ r
row-front r t f =
    let c = bytes 8 r.correlation in
    let p = bytes 4 r.place in
    let a = bytes 4 r.answer in
    let all : row_bytes r ++ t ≡ c ++ (p ++ (a ++ t)) = append_assoc c (p ++ a) t ∙ ap (λ (u : List ℕ). c ++ u) (append_assoc p a t) in
    let past : drop 8 (row_bytes r ++ t) ≡ p ++ (a ++ t) = ap (drop 8) all ∙ number_past 8 r.correlation (p ++ (a ++ t)) in
    let end : drop 12 (row_bytes r ++ t) ≡ a ++ t = sym (drop-drop 4 8 (row_bytes r ++ t)) ∙ ap (drop 4) past ∙ number_past 4 r.place (a ++ t) in
    let first : little (take 8 (row_bytes r ++ t)) ≡ r.correlation = ap (λ (u : List ℕ). little (take 8 u)) all ∙ number-front 8 r.correlation (p ++ (a ++ t)) f.correlation in
    let second : little (take 4 (drop 8 (row_bytes r ++ t))) ≡ r.place = ap (λ (u : List ℕ). little (take 4 u)) past ∙ number-front 4 r.place (a ++ t) f.place in
    let third : little (take 4 (drop 12 (row_bytes r ++ t))) ≡ r.answer = ap (λ (u : List ℕ). little (take 4 u)) end ∙ number-front 4 r.answer t f.answer in
    λ i. record { correlation = first i; place = second i; answer = third i }

-- What was written as rows is read as these rows, whatever follows.
rows_back : {rows : List Row} → RowsFit rows → (t : List ℕ) → rows_in (length rows) (rows_bytes rows ++ t) ≡ rows
unfolding rows_in rows_bytes
rows_back none_left t = refl
rows_back (one-fits {r = r} {rows = rows} f w) t =
    let all : (row_bytes r ++ rows_bytes rows) ++ t ≡ row_bytes r ++ (rows_bytes rows ++ t) = append_assoc (row_bytes r) (rows_bytes rows) t in
    ap (λ (u : List ℕ). row_at u ∷ rows_in (length rows) (drop 16 u)) all
    ∙ ap₂ (λ (x : Row) (u : List ℕ). x ∷ rows_in (length rows) u) (row-front r (rows_bytes rows ++ t) f) (drop_at (row_bytes r) (rows_bytes rows ++ t) 16 (row-long r))
    ∙ ap (λ (l : List Row). r ∷ l) (rows_back w t)

trailer-long : (count size : ℕ) → length (trailer count size) ≡ 16
trailer-long count size =
    length-append (bytes 4 0 ++ bytes 4 count) (bytes 4 size ++ bytes 4 1)
    ∙ omega (arith, length-append (bytes 4 0) (bytes 4 count), length-append (bytes 4 size) (bytes 4 1), length-bytes 4 0, length-bytes 4 count, length-bytes 4 size, length-bytes 4 1)

pub index-long : (rows : List Row) (size : ℕ) → length (index_bytes rows size) ≡ 16 * length rows + 16
unfolding index_bytes
index-long rows size = length-append (rows_bytes rows) (trailer (length rows) size) ∙ omega (arith, rows_long rows, trailer-long (length rows) size)

-- the four numbers of a trailer
record Four (t : List ℕ) (count size : ℕ) : Type 0 where
  first : little (take 4 t) ≡ 0
  rows : little (take 4 (drop 4 t)) ≡ count
  long : little (take 4 (drop 8 t)) ≡ size
  layout : little (take 4 (drop 12 t)) ≡ 1

four-back : (count size : ℕ) → count < 2 ^ 32 → size < 2 ^ 32 → Four (trailer count size) count size
four-back count size h g =
    let t = trailer count size in
    let a = bytes 4 0 in
    let b = bytes 4 count in
    let c = bytes 4 size in
    let d = bytes 4 1 in
    let all : t ≡ a ++ (b ++ (c ++ d)) = append_assoc a b (c ++ d) in
    let p : drop 4 t ≡ b ++ (c ++ d) = ap (drop 4) all ∙ number_past 4 0 (b ++ (c ++ d)) in
    let q : drop 8 t ≡ c ++ d = sym (drop-drop 4 4 t) ∙ ap (drop 4) p ∙ number_past 4 count (c ++ d) in
    let r : drop 12 t ≡ d = sym (drop-drop 4 8 t) ∙ ap (drop 4) q ∙ number_past 4 size d in
    let last : little (take 4 d) ≡ 1 = ap little (take_all 4 d (omega (arith, length-bytes 4 1))) ∙ little-bytes 4 1 (omega arith) in
    record {
      first = ap (λ (u : List ℕ). little (take 4 u)) all ∙ number-front 4 0 (b ++ (c ++ d)) (omega arith);
      rows = ap (λ (u : List ℕ). little (take 4 u)) p ∙ number-front 4 count (c ++ d) h;
      long = ap (λ (u : List ℕ). little (take 4 u)) q ∙ number-front 4 size d g;
      layout = ap (λ (u : List ℕ). little (take 4 u)) r ∙ last;
    }

-- An index passes, and is read as its rows and the record's length.
pub index_reads : {s : List ℕ} {rows : List Row} {size : ℕ} → IsIndex s rows size → Reads s rows size
unfolding is_index is_shaped index_bytes
index_reads {s} {rows} {size} w =
    let n = length rows in
    let t = trailer n size in
    let long : length s ≡ 16 * n + 16 = ap length w.is ∙ index-long rows size in
    let count : count_in s ≡ n = omega (arith, long) in
    let start : length s - 16 ≡ 16 * n = omega (arith, long) in
    let past : drop (length s - 16) s ≡ t = ap₂ (λ (k : ℕ) (l : List ℕ). drop k l) start w.is ∙ drop_at (rows_bytes rows) t (16 * n) (rows_long rows) in
    let four = four-back n size w.count w.small in
    let cell : (i x : ℕ) → little (take 4 (drop i t)) ≡ x → trailer_cell i s ≡ x = λ i x e. ap (λ (l : List ℕ). little (take 4 (drop i l))) past ∙ e in
    let all : rows_in (count_in s) s ≡ rows = ap₂ (λ (k : ℕ) (l : List ℕ). rows_in k l) count w.is ∙ rows_back w.fit t in
    let a : leb 16 (length s) ≡ true = le-leb 16 (length s) (omega (arith, long)) in
    let b : eqb (length s % 16) 0 ≡ true = eq-eqb (length s % 16) 0 (omega (arith, long)) in
    let c : eqb (trailer_cell 0 s) 0 ≡ true = eq-eqb (trailer_cell 0 s) 0 (cell 0 0 four.first) in
    let d : eqb (trailer_cell 4 s) (count_in s) ≡ true = eq-eqb (trailer_cell 4 s) (count_in s) (cell 4 n four.rows ∙ sym count) in
    let e : eqb (trailer_cell 12 s) 1 ≡ true = eq-eqb (trailer_cell 12 s) 1 (cell 12 1 four.layout) in
    let rises : is_rising (rows_in (count_in s) s) ≡ true = ap is_rising all ∙ rising-test w.rising in
    record {
      passes = λ i. (a i && (b i && (c i && (d i && e i)))) && rises i;
      rows_are = all;
      size_is = cell 8 size four.long;
    }

-- ---- bytes that pass are an index

-- the bytes of a number are those that it was read from
number_read : (n : ℕ) (s : List ℕ) → Bytes s → n ≤ length s → bytes n (little (take n s)) ≡ take n s
number_read n s b h =
    ap (λ (k : ℕ). bytes k (little (take n s))) (sym (length-take-le n s h)) ∙ bytes-little (take n s) (bytes_take n s b)

row_read : (s : List ℕ) → Bytes s → 16 ≤ length s → row_bytes (row_at s) ≡ take 16 s
row_read s b h =
    let long = length-drop 8 s in
    let first = number_read 8 s b (omega arith) in
    let second = number_read 4 (drop 8 s) (bytes_drop s 8 b) (omega arith) in
    let third = number_read 4 (drop 12 s) (bytes_drop s 12 b) (omega (arith, length-drop 12 s)) in
    ap₂ (λ (u : List ℕ) (v : List ℕ). u ++ v) first (ap₂ (λ (u : List ℕ) (v : List ℕ). u ++ v) second third)
    ∙ ap (λ (u : List ℕ). take 8 s ++ (take 4 (drop 8 s) ++ take 4 u)) (sym (drop-drop 4 8 s))
    ∙ ap (λ (u : List ℕ). take 8 s ++ u) (sym (take-add 4 4 (drop 8 s)))
    ∙ sym (take-add 8 8 s)

rows-read : (n : ℕ) (s : List ℕ) → Bytes s → 16 * n ≤ length s → rows_bytes (rows_in n s) ≡ take (16 * n) s
unfolding rows_in rows_bytes
rows-read zero s b h = refl
rows-read (suc n) s b h =
    let e : 16 * suc n ≡ 16 + 16 * n = omega arith in
    ap₂ (λ (u : List ℕ) (v : List ℕ). u ++ v) (row_read s b (omega arith)) (rows-read n (drop 16 s) (bytes_drop s 16 b) (omega (arith, length-drop 16 s)))
    ∙ sym (take-add 16 (16 * n) s)
    ∙ ap (λ (k : ℕ). take k s) (sym e)

rows_fit : (n : ℕ) (s : List ℕ) → Bytes s → RowsFit (rows_in n s)
unfolding rows_in
rows_fit zero s b = none_left
rows_fit (suc n) s b =
    one-fits
    (record { correlation = little-lt 8 s b; place = little-lt 4 (drop 8 s) (bytes_drop s 8 b); answer = little-lt 4 (drop 12 s) (bytes_drop s 12 b) })
    (rows_fit n (drop 16 s) (bytes_drop s 16 b))

rows-many : (n : ℕ) (s : List ℕ) → length (rows_in n s) ≡ n
unfolding rows_in
rows-many zero s = refl
rows-many (suc n) s = ap suc (rows-many n (drop 16 s))

-- sixteen bytes are their four numbers
trailer-read : (t : List ℕ) (count size : ℕ) → Bytes t → length t ≡ 16 → Four t count size → trailer count size ≡ t
trailer-read t count size b long f =
    let one : (i x : ℕ) → i ≤ 12 → little (take 4 (drop i t)) ≡ x → bytes 4 x ≡ take 4 (drop i t) =
    λ i x h e. ap (bytes 4) (sym e) ∙ number_read 4 (drop i t) (bytes_drop t i b) (omega (arith, length-drop i t)) in
    let last : take 4 (drop 12 t) ≡ drop 12 t = take_all 4 (drop 12 t) (omega (arith, length-drop 12 t)) in
    let half : take 4 (drop 8 t) ++ drop 12 t ≡ drop 8 t = ap (λ (u : List ℕ). take 4 (drop 8 t) ++ u) (sym (drop-drop 4 8 t)) ∙ take-append-drop 4 (drop 8 t) in
    let front : take 4 t ++ take 4 (drop 4 t) ≡ take 8 t = sym (take-add 4 4 t) in
    ap₂ (λ (u : List ℕ) (v : List ℕ). u ++ v)
    (ap₂ (λ (u : List ℕ) (v : List ℕ). u ++ v) (one 0 0 (omega arith) f.first) (one 4 count (omega arith) f.rows) ∙ front)
    (ap₂ (λ (u : List ℕ) (v : List ℕ). u ++ v) (one 8 size (omega arith) f.long) (one 12 1 (omega arith) f.layout ∙ last) ∙ half)
    ∙ take-append-drop 8 t

pub reads-index : (s : List ℕ) → Bytes s → is_index s ≡ true → IsIndex s (rows_in (count_in s) s) (size_in s)
unfolding is_index index_bytes
reads-index s b is =
    let n = count_in s in
    let shape : is_shaped s ≡ true = and_left (is_shaped s) (is_rising (rows_in n s)) is in
    let inside = rows_inside s shape in
    let t = drop (length s - 16) s in
    let many = rows-many n s in
    let cells = shape-cells s shape in
    let zero-first : trailer_cell 0 s ≡ 0 = eqb-true (trailer_cell 0 s) 0 (and_left (eqb (trailer_cell 0 s) 0) _ cells) in
    let rest = and_right (eqb (trailer_cell 0 s) 0) (eqb (trailer_cell 4 s) n && eqb (trailer_cell 12 s) 1) cells in
    let layout : trailer_cell 12 s ≡ 1 = eqb-true (trailer_cell 12 s) 1 (and_right (eqb (trailer_cell 4 s) n) (eqb (trailer_cell 12 s) 1) rest) in
    let long : length t ≡ 16 = length-drop (length s - 16) s ∙ omega (arith, inside) in
    let four : Four t n (size_in s) = record { first = zero-first; rows = shape-count s shape; long = refl; layout = layout } in
    let start : length s - 16 ≡ 16 * n = omega (arith, inside) in
    let few : n < 2 ^ 32 = subst (λ (k : ℕ). k < 2 ^ 32) (shape-count s shape) (little-lt 4 (drop 4 t) (bytes_drop t 4 (bytes_drop s (length s - 16) b))) in
    record {
      is = sym (take-append-drop (16 * n) s)
          ∙ ap₂ (λ (u : List ℕ) (v : List ℕ). u ++ v) (sym (rows-read n s b (omega (arith, inside))))
          (ap (λ (k : ℕ). drop k s) (sym start) ∙ sym (trailer-read t n (size_in s) (bytes_drop s (length s - 16) b) long four) ∙ ap (λ (k : ℕ). trailer k (size_in s)) (sym many));
      rising = test_rising (rows_in n s) (and_right (is_shaped s) (is_rising (rows_in n s)) is);
      fit = rows_fit n s b;
      count = subst (λ (k : ℕ). k < 2 ^ 32) (sym many) few;
      small = little-lt 4 (drop 8 t) (bytes_drop t 8 (bytes_drop s (length s - 16) b));
    }

-- Bytes pass the test exactly where they are the index of some rows for some record.
pub index-iff : (s : List ℕ) → Bytes s → (is_index s ≡ true) ↔ ((rows : List Row) × ((size : ℕ) × IsIndex s rows size))
index-iff s b = (λ e. (rows_in (count_in s) s, (size_in s, reads-index s b e)), λ w. (index_reads w.1.1).passes)
