-- Laws of a sheet's cells.
use mathlib.Core.Path.{◌≡◌, refl, ap}
use mathlib.Core.List.{List, [], ◌∷◌, ◌++◌}
use Prim.Native.Nat.{ℕ, zero, suc, ◌+◌, ◌*◌, ◌/◌, ◌≤◌, ◌<◌}
use native.Mathlib.Omega.{arith}
use lib.Seq.{drop-nil}
use lib.ListN.{length, drop}
use Rattle.value.specs.declared.Row.{Row}
use Rattle.value.specs.Sheet.{rows_of, cells_of, row_at}

-- Only whole rows count.
pub length-rows : (cells : List ℕ) → length (rows_of cells) ≡ length cells / 4
unfolding rows_of
length-rows [] = omega arith
length-rows (a ∷ []) = omega arith
length-rows (a ∷ b ∷ []) = omega arith
length-rows (a ∷ b ∷ c ∷ []) = omega arith
length-rows (a ∷ b ∷ c ∷ d ∷ cells) = omega (arith, length-rows cells)

pub length-cells : (rs : List Row) → length (cells_of rs) ≡ 4 * length rs
unfolding cells_of
length-cells [] = omega arith
length-cells (r ∷ rs) = omega (arith, length-cells rs)

-- Rows laid down as cells are those rows again, before the rows of what follows.
pub rows-cells : (rs : List Row) (cells : List ℕ) → rows_of (cells_of rs ++ cells) ≡ rs ++ rows_of cells
unfolding rows_of cells_of
rows-cells [] cells = refl
rows-cells (r ∷ rs) cells = ap (λ (l : List Row). r ∷ l) (rows-cells rs cells)

-- The rows from row k on: the one there, and those after it; or none.
pub rows-from : (cells : List ℕ) (k : ℕ) → k < length cells / 4 → drop k (rows_of cells) ≡ row_at cells k ∷ drop (suc k) (rows_of cells)
unfolding rows_of
rows-from [] k h = absurd (omega arith)
rows-from (a ∷ []) k h = absurd (omega arith)
rows-from (a ∷ b ∷ []) k h = absurd (omega arith)
rows-from (a ∷ b ∷ c ∷ []) k h = absurd (omega arith)
rows-from (a ∷ b ∷ c ∷ d ∷ cells) zero h = refl
rows-from (a ∷ b ∷ c ∷ d ∷ cells) (suc k) h =
    let e : 4 * suc k ≡ suc (suc (suc (suc (4 * k)))) = omega arith in
    let e₁ : 4 * suc k + 1 ≡ suc (suc (suc (suc (4 * k + 1)))) = omega arith in
    let e₂ : 4 * suc k + 2 ≡ suc (suc (suc (suc (4 * k + 2)))) = omega arith in
    let e₃ : 4 * suc k + 3 ≡ suc (suc (suc (suc (4 * k + 3)))) = omega arith in
    rw (e₁, e₂, e₃, e) (rows-from cells k (omega arith))

pub no_rows : (cells : List ℕ) (k : ℕ) → length cells / 4 ≤ k → drop k (rows_of cells) ≡ []
unfolding rows_of
no_rows [] k h = drop-nil k
no_rows (a ∷ []) k h = drop-nil k
no_rows (a ∷ b ∷ []) k h = drop-nil k
no_rows (a ∷ b ∷ c ∷ []) k h = drop-nil k
no_rows (a ∷ b ∷ c ∷ d ∷ cells) zero h = absurd (omega arith)
no_rows (a ∷ b ∷ c ∷ d ∷ cells) (suc k) h = no_rows cells k (omega arith)
