-- Laws of both walks: a depth that is not yet used up, and lent memory of no cells.
use Rattle.std.proofs.Common.{◌≡◌, ℕ, suc, ◌-◌, List, [], ◌∷◌, ◌++◌, length, refl, arith}

pub deep : (d : ℕ) → (d ≡ 0 → ⊥) → d ≡ suc (d - 1)
deep d h = omega (arith, h)

pub deeper : (X : ℕ → Type 0) (d : ℕ) → (d ≡ 0 → ⊥) → X d → X (suc (d - 1))
deeper X d h x = let e : suc (d - 1) ≡ d = omega (arith, h) in rw e x

pub shallower : (X : ℕ → Type 0) (d : ℕ) → (d ≡ 0 → ⊥) → X (suc (d - 1)) → X d
shallower X d h x = let e : suc (d - 1) ≡ d = omega (arith, h) in rw e at x

-- a part of no cells comes back with no cells
pub nothing-before : (k l : List ℕ) → length k ≡ 0 → k ++ l ≡ l
nothing-before [] l h = refl
nothing-before (x ∷ k) l h = absurd (omega arith)
