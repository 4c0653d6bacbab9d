-- The widths of the scalar kinds.
use mathlib.Core.Path.{◌≡◌, refl}
use mathlib.Core.Bool.{Bool, true, ◌&&◌}
use mathlib.Core.List.{List, [], ◌∷◌}
use Prim.Native.Nat.{ℕ, zero, suc, ◌≤◌, ◌<◌}
use native.Mathlib.Nat.{le_of_suc-le-suc, not-suc-le-zero}
use borrow.Author.Tests.{leb-true}
use lib.Dec.{leb}
use lib.ListN.{length, get_or}
use Rattle.schema.specs.Table.{widths, width}
use Rattle.schema.proofs.Bools.{and_left, and_right}

-- Each number of a list passes the test.
abbrev every : (ℕ → Bool) → List ℕ → Bool
every p [] = true
every p (x ∷ xs) = p x && every p xs

-- So does the one at each place.
every-at : (p : ℕ → Bool) (xs : List ℕ) → every p xs ≡ true → (k : ℕ) → k < length xs → p (get_or xs k 0) ≡ true
every-at p [] e k h = absurd (not-suc-le-zero h)
every-at p (x ∷ xs) e zero h = and_left (p x) (every p xs) e
every-at p (x ∷ xs) e (suc k) h = every-at p xs (and_right (p x) (every p xs) e) k (le_of_suc-le-suc h)

-- A width of 1 to 8 bytes.
abbrev small : ℕ → Bool
small x = leb 1 x && leb x 8

-- All widths but the first are 1 to 8.
pub width-bounds : (kind : ℕ) → 0 < kind → kind < 12 → (0 < width kind) × (width kind ≤ 8)
width-bounds zero p h = absurd (not-suc-le-zero p)
width-bounds (suc k) p h =
    let w = get_or widths (suc k) 0 in
    let e : small w ≡ true = every-at small (1 ∷ 1 ∷ 2 ∷ 4 ∷ 8 ∷ 1 ∷ 2 ∷ 4 ∷ 8 ∷ 4 ∷ 8 ∷ []) refl k (le_of_suc-le-suc h) in
    (leb-true 1 w (and_left (leb 1 w) (leb w 8) e), leb-true w 8 (and_right (leb 1 w) (leb w 8) e))
