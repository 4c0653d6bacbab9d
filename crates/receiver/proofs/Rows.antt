-- The tally rows after a frame and after a release: one row is raised, as the calls' laws say, and the others stay.
use mathlib.Core.Path.{◌≡◌, refl, sym, ap, ◌∙◌}
use mathlib.Core.Logic.{◌⊎◌, ⊎_elim}
use mathlib.Core.Bool.{Bool, true, false, cond}
use mathlib.Core.List.{List, [], ◌∷◌}
use Prim.Native.Nat.{ℕ, zero, suc, ◌<◌}
use native.Mathlib.Omega.{arith}
use lib.Dec.{eqb, eqb-suc-suc}
use lib.ListN.{length, set, replicate}
use Rattle.schema.specs.Table.{Table}
use borrow.Author.Tests.{eqb-true, ne_eqb}
use Rattle.calls.specs.declared.Tally.{Tally}
use Rattle.calls.specs.declared.Figure.{Figure}
use Rattle.calls.specs.declared.Figure.TheVariants.{Nothing}
use Rattle.calls.specs.declared.Rise.{Rise}
use Rattle.calls.specs.Numbers.{ends_call}
use Rattle.calls.specs.Counting.{no_tally, no_rise, figure_by, raised}
use Rattle.calls.proofs.Rises.{row_after, no_figure}
use Rattle.receiver.specs.Claims.{row_for}
use Rattle.receiver.specs.Run.{fresh_tallies}
use Rattle.receiver.proofs.Ways.{same_row}

-- ---- one row set

set-row : (ts : List Tally) (i : ℕ) (x : Tally) → i < length ts → (m : ℕ) → row_for (set ts i x) m ≡ cond (eqb i m) x (row_for ts m)
set-row [] i x h m = absurd (omega arith)
set-row (t ∷ ts) zero x h zero = refl
set-row (t ∷ ts) zero x h (suc m) = rw (ne_eqb 0 (suc m) (λ e. omega arith))
set-row (t ∷ ts) (suc i) x h zero = rw (ne_eqb (suc i) 0 (λ e. omega arith))
set-row (t ∷ ts) (suc i) x h (suc m) = set-row ts i x (omega arith) m ∙ ap (λ (b : Bool). cond b x (row_for ts m)) (sym (eqb-suc-suc i m))

raised-none : (t : Tally) → raised t Nothing ≡ t
unfolding raised
raised-none t = refl

pub none-raised : (b : Bool) (t : Tally) → cond b (raised t Nothing) t ≡ t
unfolding raised
none-raised true t = refl
none-raised false t = refl

-- the row that rises, put back among the rows
abbrev pub rows_with : List Tally → Rise → (number : ℕ) → List Tally
rows_with ts r n = set ts r.row (raised (row_for ts r.row) (figure_by r n))

-- Every row afterwards, where nothing rises or the row is one of those lent.
pub rows-with : (ts : List Tally) (r : Rise) (n : ℕ) → (r ≡ no_rise) ⊎ (r.row < length ts) → (m : ℕ) → row_for (rows_with ts r n) m ≡ row_after m r n (row_for ts m)
rows-with ts r n w m = ⊎_elim none one w
  where
    none : r ≡ no_rise → row_for (rows_with ts r n) m ≡ row_after m r n (row_for ts m)
    none e =
        let f : figure_by r n ≡ Nothing = ap (λ (x : Rise). figure_by x n) e ∙ no_figure n in
        let back : rows_with ts r n ≡ ts = ap (λ (x : Figure). set ts r.row (raised (row_for ts r.row) x)) f ∙ ap (set ts r.row) (raised-none (row_for ts r.row)) ∙ same_row ts r.row in
        ap (λ (x : List Tally). row_for x m) back
        ∙ sym (ap (λ (x : Figure). cond (eqb r.row m) (raised (row_for ts m) x) (row_for ts m)) f ∙ none-raised (eqb r.row m) (row_for ts m))

    one : r.row < length ts → row_for (rows_with ts r n) m ≡ row_after m r n (row_for ts m)
    one h = set-row ts r.row (raised (row_for ts r.row) (figure_by r n)) h m ∙ go (eqb r.row m) refl
      where
        go : (b : Bool) → eqb r.row m ≡ b →
            cond b (raised (row_for ts r.row) (figure_by r n)) (row_for ts m) ≡ cond b (raised (row_for ts m) (figure_by r n)) (row_for ts m)
        go true e = ap (λ (k : ℕ). raised (row_for ts k) (figure_by r n)) (eqb-true r.row m e)
        go false e = refl

-- a number that raises nothing
pub unraised : (m : ℕ) (r : Rise) (n : ℕ) (t : Tally) → (n ≡ 0 → ⊥) → ends_call n ≡ false → row_after m r n t ≡ t
unfolding figure_by raised
unraised m r n t z k = rw (ne_eqb n 0 z, k) (go (eqb r.row m))
  where
    go : (b : Bool) → cond b t t ≡ t
    go true = refl
    go false = refl

-- rows alike one by one are the same
pub rows_alike : (xs ys : List Tally) → length xs ≡ length ys → ((m : ℕ) → row_for xs m ≡ row_for ys m) → xs ≡ ys
rows_alike [] [] n h = refl
rows_alike [] (y ∷ ys) n h = absurd (omega arith)
rows_alike (x ∷ xs) [] n h = absurd (omega arith)
rows_alike (x ∷ xs) (y ∷ ys) n h =
    let one : x ≡ y = h 0 in
    let more = rows_alike xs ys (omega arith) (λ m. h (suc m)) in
    λ i. (one i) ∷ (more i)

-- ---- fresh rows

fresh-rows : (n m : ℕ) → row_for (replicate n no_tally) m ≡ no_tally
fresh-rows zero m = refl
fresh-rows (suc n) zero = refl
fresh-rows (suc n) (suc m) = fresh-rows n m

-- A fresh row is one of zeros, whatever its method.
pub fresh-row : (T : Table) (m : ℕ) → row_for (fresh_tallies T) m ≡ no_tally
unfolding fresh_tallies
fresh-row T m = fresh-rows (length T.methods) m
