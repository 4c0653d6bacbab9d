-- The two tests of a number answer for exactly the numbers that 01 lists.
use mathlib.Core.Path.{◌≡◌, refl}
use mathlib.Core.Logic.{◌↔◌, ⊎_elim}
use mathlib.Core.Bool.{true, false, ◌&&◌, ◌||◌}
use Prim.Native.Nat.{ℕ, ◌≤◌}
use lib.Dec.{eqb, leb}
use borrow.Author.Tests.{eqb-true, leb-true, le-leb}
use Rattle.schema.proofs.Bools.{and_i, and_left, and_right, or_left, or_right, or_cases, is_false}
use Rattle.calls.specs.Numbers.{ends_call, uses_frame, EndsCall, payload, many-pairs, UsesFrame, accepted, call, dropped, refused, refused-pairs}

module _ (n : ℕ) where
  within : (a b : ℕ) → (leb a n && leb n b) ≡ true → (a ≤ n) × (n ≤ b)
  within a b t = (leb-true a n (and_left (leb a n) (leb n b) t), leb-true n b (and_right (leb a n) (leb n b) t))

  inside : (a b : ℕ) → a ≤ n → n ≤ b → (leb a n && leb n b) ≡ true
  inside a b low high = and_i (leb a n) (leb n b) (le-leb a n low) (le-leb n b high)

  ends-listed : ends_call n ≡ true → EndsCall n
  unfolding ends_call
  ends-listed t =
      ⊎_elim
      (λ r. let w = within 20 29 r in payload w.0 w.1)
      (λ z. rw (eqb-true n 31 z) many-pairs)
      (or_cases (leb 20 n && leb n 29) (eqb n 31) t)

listed-ends : {n : ℕ} → EndsCall n → ends_call n ≡ true
unfolding ends_call
listed-ends (payload {n} low high) = or_left (leb 20 n && leb n 29) (eqb n 31) (inside n 20 29 low high)
listed-ends many-pairs = refl

module _ (n : ℕ) where
  -- Payload refusals 20 to 29 and 31 end the open call, and no other number does.
  pub ends-iff : (ends_call n ≡ true) ↔ EndsCall n
  ends-iff = (ends-listed n, listed-ends)

  pub not_ending : (EndsCall n → ⊥) → ends_call n ≡ false
  not_ending h = is_false (ends_call n) (λ t. h (ends-listed n t))

ending-used : {n : ℕ} → EndsCall n → UsesFrame n
ending-used (payload low high) = refused low high
ending-used many-pairs = refused-pairs

used-listed : (n : ℕ) → uses_frame n ≡ true → UsesFrame n
unfolding uses_frame
used-listed n t =
    ⊎_elim
    (λ z. rw (eqb-true n 0 z) accepted)
    (λ o.
    ⊎_elim
    (λ c. let w = within n 8 14 c in call w.0 w.1)
    (λ e. ⊎_elim (λ z. rw (eqb-true n 16 z) dropped) (λ r. ending-used (ends-listed n r)) (or_cases (eqb n 16) (ends_call n) e))
    (or_cases (leb 8 n && leb n 14) (eqb n 16 || ends_call n) o))
    (or_cases (eqb n 0) ((leb 8 n && leb n 14) || (eqb n 16 || ends_call n)) t)

listed-used : {n : ℕ} → UsesFrame n → uses_frame n ≡ true
unfolding uses_frame ends_call
listed-used accepted = refl
listed-used (call {n} low high) =
    or_right (eqb n 0) ((leb 8 n && leb n 14) || (eqb n 16 || ends_call n)) (or_left (leb 8 n && leb n 14) (eqb n 16 || ends_call n) (inside n 8 14 low high))
listed-used dropped = refl
listed-used (refused {n} low high) =
    or_right (eqb n 0) ((leb 8 n && leb n 14) || (eqb n 16 || ends_call n))
    (or_right (leb 8 n && leb n 14) (eqb n 16 || ends_call n) (or_right (eqb n 16) (ends_call n) (listed-ends (payload low high))))
listed-used refused-pairs = refl

-- Bytes used: the frame's length for 0, 8 to 14, 16, 20 to 29 and 31, and for no other number.
pub uses-iff : (n : ℕ) → (uses_frame n ≡ true) ↔ UsesFrame n
uses-iff n = (used-listed n, listed-used)
