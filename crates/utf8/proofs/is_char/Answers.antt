-- `utf8::is_char` meets its contract: byte by byte, each in its range.
use mathlib.Core.Path.{◌≡◌, refl, sym, ap, ◌∙◌}
use mathlib.Core.Bool.{Bool, true, ◌&&◌, and-true}
use mathlib.Core.List.{List, [], ◌∷◌}
use Prim.Native.Nat.{ℕ, suc, ◌+◌, ◌<◌}
use native.Mathlib.Omega.{arith}
use lib.ListN.{take, drop, length, get_or}
use Rattle.utf8.specs.declared.Row.{Row}
use Rattle.utf8.specs.Utf8.{In, matches}
use Rattle.utf8.proofs.Utf8s.{byte_more}
use Rattle.utf8.proofs.is_char.Goals as goal

-- n bytes from a place on, in the ranges of the row after its first k
abbrev fit : Row → (n k : ℕ) → List ℕ → ℕ → Bool
fit r n k s at = matches (take n (drop k (r.1 ∷ r.2 ∷ r.3 ∷ r.4 ∷ []))) (take n (drop at s))

one : (r : Row) (s : List ℕ) (at n : ℕ) (w : Bool) → at < length s → w ≡ In r.1 (get_or s at 0)
    → fit r (suc n) 0 s at ≡ w && fit r n 1 s (at + 1)
one r s at n w h e = byte_more true w n at (at + 1) r.1 _ s refl h e

two : (r : Row) (s : List ℕ) (at n : ℕ) (w x : Bool) → at + 1 < length s → w ≡ In r.1 (get_or s at 0) → x ≡ In r.2 (get_or s (at + 1) 0)
    → fit r (suc (suc n)) 0 s at ≡ (w && x) && fit r n 2 s (at + 2)
two r s at n w x h d e = one r s at (suc n) w (omega arith) d ∙ byte_more w x n (at + 1) (at + 2) r.2 _ s (omega arith) h e

three : (r : Row) (s : List ℕ) (at n : ℕ) (w x y : Bool) → at + 2 < length s
    → w ≡ In r.1 (get_or s at 0) → x ≡ In r.2 (get_or s (at + 1) 0) → y ≡ In r.3 (get_or s (at + 2) 0)
    → fit r (suc (suc (suc n))) 0 s at ≡ ((w && x) && y) && fit r n 3 s (at + 3)
three r s at n w x y h d e f =
    two r s at (suc n) w x (omega arith) d e ∙ byte_more (w && x) y n (at + 2) (at + 3) r.3 _ s (omega arith) h f

pub returns-then-row-eq1 : goal.returns-then-row-eq1
unfolding matches
returns-then-row-eq1 c =
    let a = c.args in
    sym (ap (λ (n : ℕ). fit a.row n 0 a.s.now a.at) c.if-row-eq1.true ∙ one a.row a.s.now a.at 0 _ (omega arith) c.within-one.ensures ∙ and-true _)

pub returns-then-row-eq2 : goal.returns-then-row-eq2
unfolding matches
returns-then-row-eq2 c =
    let a = c.args in
    sym (ap (λ (n : ℕ). fit a.row n 0 a.s.now a.at) c.if-row-eq2.true
    ∙ two a.row a.s.now a.at 0 _ _ (omega arith) c.within-one.ensures c.within.ensures ∙ and-true _)

pub returns-then-row-eq3 : goal.returns-then-row-eq3
unfolding matches
returns-then-row-eq3 c =
    let a = c.args in
    sym (ap (λ (n : ℕ). fit a.row n 0 a.s.now a.at) c.if-row-eq3.true
    ∙ three a.row a.s.now a.at 0 _ _ _ (omega arith) c.within-one.ensures c.within.ensures c.within-2.ensures ∙ and-true _)

pub returns : goal.returns
unfolding matches
returns c =
    let a = c.args in
    let all : a.row.0 ≡ 4 = omega arith in
    sym (ap (λ (n : ℕ). fit a.row n 0 a.s.now a.at) all
    ∙ three a.row a.s.now a.at 1 _ _ _ (omega arith) c.within-one.ensures c.within.ensures c.within-2.ensures
    ∙ byte_more ((c.within-one.result && c.within.result) && c.within-2.result) c.within-3.result 0 (a.at + 3) (a.at + 4) a.row.4 [] a.s.now (omega arith) (omega arith) c.within-3.ensures
    ∙ and-true _)
