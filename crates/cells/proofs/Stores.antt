-- Numbers copied at once give the cells as they are defined.
use mathlib.Core.Path.{◌≡◌, sym, ap, ◌∙◌}
use mathlib.Core.Path.{refl}
use mathlib.Core.Bool.{Bool, true, false}
use mathlib.Core.List.{List, [], ◌∷◌, ◌++◌}
use Prim.Native.Nat.{ℕ, ◌≤◌}
use native.Mathlib.Omega.{arith}
use Rattle.std.specs.Prelude.{min, leb}
use borrow.Author.Tests.{leb-true, leb-false}
use lib.ListN.{length, take, drop, drop_of_length-le}
use lib.Seq.{take_all, sets, take-nil}
use Rattle.buffer.proofs.Stores.{sets-past, sets-later}
use Rattle.cells.specs.Cells.{stored}

-- Numbers stored one after the other likewise.
pub sets-stored : (l vs : List ℕ) → sets l 0 vs ≡ stored l vs
unfolding stored
sets-stored l [] = ap (λ (r : List ℕ). r ++ l) (sym (take-nil (length l)))
sets-stored [] (v ∷ vs) = sets-past [] 1 vs (omega arith)
sets-stored (x ∷ l) (v ∷ vs) = sets-later v l 0 vs ∙ ap (λ (r : List ℕ). v ∷ r) (sets-stored l vs)

-- As many values as there are cells for, copied at once.
pub copied : (cells values : List ℕ) (n : ℕ) → n ≡ min (length values) (length cells) → take n values ++ drop n cells ≡ stored cells values
unfolding stored
copied cells values n e = go (leb (length values) (length cells)) refl
  where
    go : (b : Bool) → leb (length values) (length cells) ≡ b → take n values ++ drop n cells ≡ take (length cells) values ++ drop (length values) cells
    go true t =
        let h : length values ≤ length cells = leb-true (length values) (length cells) t in
        let m : n ≡ length values = omega (arith, e, h) in
        rw m (ap (λ (l : List ℕ). l ++ drop (length values) cells) (take_all (length values) values (omega arith) ∙ sym (take_all (length cells) values h)))
    go false t =
        let h : length cells ≤ length values = omega (arith, leb-false (length values) (length cells) t) in
        let m : n ≡ length cells = omega (arith, e, h) in
        rw m (ap (λ (l : List ℕ). take (length cells) values ++ l) (drop_of_length-le cells {i = length cells} (omega arith) ∙ sym (drop_of_length-le cells h)))

-- An answer a that is d, by its number n and its other numbers vs, which are stored.
pub told : {A : Type 0} (number : A → ℕ) (cells : A → List ℕ) (before : List ℕ) {a d : A} {n : ℕ} {vs after : List ℕ}
    → a ≡ d → n ≡ number a → vs ≡ cells a → after ≡ stored before vs → (n ≡ number d) × (after ≡ stored before (cells d))
told number cells before e n vs s = (n ∙ ap number e, s ∙ ap (stored before) (vs ∙ ap cells e))
