-- Tally rows read from cells and stored into them.
use mathlib.Core.Path.{◌≡◌, refl, sym, ap, ◌∙◌}
use mathlib.Core.List.{List, [], ◌∷◌}
use Prim.Native.Nat.{ℕ, zero, suc, ◌+◌, ◌*◌, ◌/◌, ◌≤◌, ◌<◌}
use native.Mathlib.Omega.{arith}
use lib.ListN.{length, get_or, set, get_or-eq_default}
use lib.Seq.{sets, set_out}
use Rattle.buffer.proofs.Stores.{sets-later}
use Rattle.calls.specs.declared.Tally.{Tally}
use Rattle.calls.specs.Counting.{no_tally}
use Rattle.cells.specs.Records.{tally_of, tally_cells, rows_of, row_cells}

-- There are as many rows as five cells each.
pub rows_long : (cells : List ℕ) → length (rows_of cells) ≡ length cells / 5
unfolding rows_of
rows_long [] = refl
rows_long (a ∷ []) = refl
rows_long (a ∷ b ∷ []) = refl
rows_long (a ∷ b ∷ c ∷ []) = refl
rows_long (a ∷ b ∷ c ∷ d ∷ []) = refl
rows_long (a ∷ b ∷ c ∷ d ∷ e ∷ cells) = let h = rows_long cells in omega arith

-- ---- read

abbrev tally_at : List ℕ → ℕ → Tally
tally_at cells i = tally_of (get_or cells (5 * i) 0) (get_or cells (5 * i + 1) 0) (get_or cells (5 * i + 2) 0) (get_or cells (5 * i + 3) 0) (get_or cells (5 * i + 4) 0)

-- five cells more at the front, and one row later
later : (a b c d e : ℕ) (cells : List ℕ) (i : ℕ) → tally_at (a ∷ b ∷ c ∷ d ∷ e ∷ cells) (suc i) ≡ tally_at cells i
later a b c d e cells i =
    let four : 5 * suc i + 4 ≡ suc (suc (suc (suc (suc (5 * i + 4))))) = omega arith in
    let three : 5 * suc i + 3 ≡ suc (suc (suc (suc (suc (5 * i + 3))))) = omega arith in
    let two : 5 * suc i + 2 ≡ suc (suc (suc (suc (suc (5 * i + 2))))) = omega arith in
    let one : 5 * suc i + 1 ≡ suc (suc (suc (suc (suc (5 * i + 1))))) = omega arith in
    let none : 5 * suc i ≡ suc (suc (suc (suc (suc (5 * i))))) = omega arith in
    rw (four, three, two, one, none)

-- A row that is there,
pub row-there : (cells : List ℕ) (i : ℕ) → i < length cells / 5 → tally_at cells i ≡ get_or (rows_of cells) i no_tally
unfolding rows_of
row-there [] i h = absurd (omega arith)
row-there (a ∷ []) i h = absurd (omega arith)
row-there (a ∷ b ∷ []) i h = absurd (omega arith)
row-there (a ∷ b ∷ c ∷ []) i h = absurd (omega arith)
row-there (a ∷ b ∷ c ∷ d ∷ []) i h = absurd (omega arith)
row-there (a ∷ b ∷ c ∷ d ∷ e ∷ cells) zero h = refl
row-there (a ∷ b ∷ c ∷ d ∷ e ∷ cells) (suc i) h = later a b c d e cells i ∙ row-there cells i (omega arith)

-- and one that is not.
pub row-past : (cells : List ℕ) (i : ℕ) → length cells / 5 ≤ i → no_tally ≡ get_or (rows_of cells) i no_tally
row-past cells i h = sym (get_or-eq_default (rows_of cells) no_tally (omega (arith, rows_long cells, h)))

-- ---- stored

-- Rows that are read and stored again leave the cells as they were.
pub rows_same : (cells : List ℕ) → row_cells cells (rows_of cells) ≡ cells
unfolding rows_of row_cells
rows_same [] = refl
rows_same (a ∷ []) = refl
rows_same (a ∷ b ∷ []) = refl
rows_same (a ∷ b ∷ c ∷ []) = refl
rows_same (a ∷ b ∷ c ∷ d ∷ []) = refl
rows_same (a ∷ b ∷ c ∷ d ∷ e ∷ cells) = ap (λ (l : List ℕ). a ∷ b ∷ c ∷ d ∷ e ∷ l) (rows_same cells)

-- As many rows as there are cells for come back.
pub rows_back : (cells : List ℕ) (ts : List Tally) → length ts ≡ length cells / 5 → rows_of (row_cells cells ts) ≡ ts
unfolding rows_of row_cells
rows_back [] [] h = refl
rows_back [] (t ∷ ts) h = absurd (omega arith)
rows_back (a ∷ []) [] h = refl
rows_back (a ∷ []) (t ∷ ts) h = absurd (omega arith)
rows_back (a ∷ b ∷ []) [] h = refl
rows_back (a ∷ b ∷ []) (t ∷ ts) h = absurd (omega arith)
rows_back (a ∷ b ∷ c ∷ []) [] h = refl
rows_back (a ∷ b ∷ c ∷ []) (t ∷ ts) h = absurd (omega arith)
rows_back (a ∷ b ∷ c ∷ d ∷ []) [] h = refl
rows_back (a ∷ b ∷ c ∷ d ∷ []) (t ∷ ts) h = absurd (omega arith)
rows_back (a ∷ b ∷ c ∷ d ∷ e ∷ cells) [] h = absurd (omega arith)
rows_back (a ∷ b ∷ c ∷ d ∷ e ∷ cells) (t ∷ ts) h = ap (λ (l : List Tally). t ∷ l) (rows_back cells ts (omega arith))

sets-five : (a b c d e : ℕ) (cells : List ℕ) (k : ℕ) (vs : List ℕ) → sets (a ∷ b ∷ c ∷ d ∷ e ∷ cells) (suc (suc (suc (suc (suc k))))) vs ≡ a ∷ b ∷ c ∷ d ∷ e ∷ sets cells k vs
sets-five a b c d e cells k vs =
    sets-later a (b ∷ c ∷ d ∷ e ∷ cells) (suc (suc (suc (suc k)))) vs
    ∙ ap (◌∷◌ a) (sets-later b (c ∷ d ∷ e ∷ cells) (suc (suc (suc k))) vs
    ∙ ap (◌∷◌ b) (sets-later c (d ∷ e ∷ cells) (suc (suc k)) vs
    ∙ ap (◌∷◌ c) (sets-later d (e ∷ cells) (suc k) vs
    ∙ ap (◌∷◌ d) (sets-later e cells k vs))))

-- A row stored, where it is there,
row_put : (cells : List ℕ) (i : ℕ) (t : Tally) → i < length cells / 5 → sets cells (5 * i) (tally_cells t) ≡ row_cells cells (set (rows_of cells) i t)
unfolding rows_of row_cells
row_put [] i t h = absurd (omega arith)
row_put (a ∷ []) i t h = absurd (omega arith)
row_put (a ∷ b ∷ []) i t h = absurd (omega arith)
row_put (a ∷ b ∷ c ∷ []) i t h = absurd (omega arith)
row_put (a ∷ b ∷ c ∷ d ∷ []) i t h = absurd (omega arith)
row_put (a ∷ b ∷ c ∷ d ∷ e ∷ cells) zero t h =
    ap (λ (l : List ℕ). t.opened ∷ t.completed ∷ t.errored ∷ t.cancelled ∷ t.failed ∷ l) (sym (rows_same cells))
row_put (a ∷ b ∷ c ∷ d ∷ e ∷ cells) (suc i) t h =
    let five : 5 * suc i ≡ suc (suc (suc (suc (suc (5 * i))))) = omega arith in
    ap (λ (k : ℕ). sets (a ∷ b ∷ c ∷ d ∷ e ∷ cells) k (tally_cells t)) five
    ∙ sets-five a b c d e cells (5 * i) (tally_cells t)
    ∙ ap (λ (l : List ℕ). a ∷ b ∷ c ∷ d ∷ e ∷ l) (row_put cells i t (omega arith))

-- cell after cell,
pub row-stored : (cells : List ℕ) (i : ℕ) (t : Tally) → i < length cells / 5 →
    set (set (set (set (set cells (5 * i) t.opened) (5 * i + 1) t.completed) (5 * i + 2) t.errored) (5 * i + 3) t.cancelled) (5 * i + 4) t.failed
    ≡ row_cells cells (set (rows_of cells) i t)
row-stored cells i t h =
    let one : 5 * i + 1 ≡ suc (5 * i) = omega arith in
    let two : 5 * i + 2 ≡ suc (suc (5 * i)) = omega arith in
    let three : 5 * i + 3 ≡ suc (suc (suc (5 * i))) = omega arith in
    let four : 5 * i + 4 ≡ suc (suc (suc (suc (5 * i)))) = omega arith in
    rw (four, three, two, one) (row_put cells i t h)

-- and where it is not.
pub row-lost : (cells : List ℕ) (i : ℕ) (t : Tally) → length cells / 5 ≤ i → cells ≡ row_cells cells (set (rows_of cells) i t)
row-lost cells i t h = sym (ap (row_cells cells) (set_out (rows_of cells) i t (omega (arith, rows_long cells, h))) ∙ rows_same cells)
