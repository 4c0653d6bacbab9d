-- Laws of the pieces: how far it goes forward, the first piece, and one piece after the other.
use mathlib.Core.Path.{◌≡◌, refl, sym, ap, subst, ◌∙◌}
use mathlib.Core.Logic.{⊎_elim}
use mathlib.Core.List.{List, [], ◌∷◌}
use Prim.Native.Nat.{ℕ, zero, suc, ◌≤◌, ◌<◌, ◌+◌}
use native.Mathlib.Omega.{arith}
use borrow.Author.Tests.{eq-eqb, ne_eqb, eqb-true, eqb-false}
use lib.Dec.{eqb}
use lib.ListN.{length, take, drop, length-drop}
use lib.Seq.{length-take-le}
use Rattle.schema.proofs.Bools.{cases}
use Rattle.record.specs.Entry.{entry_length}
use Rattle.record.proofs.Entries.{entry-inside}
use Rattle.salvage.specs.Pieces.{Piece, keep, skip, bytes_in, span_length, first_piece, pieces, pieces_of}

-- ---- how far it goes forward

pub forward-step : (b : ℕ) (s : List ℕ) → entry_length (b ∷ s) ≡ 0 → span_length (b ∷ s) ≡ suc (span_length s)
unfolding span_length
forward-step b s e = rw (eq-eqb (entry_length (b ∷ s)) 0 e)

pub forward-stop : (s : List ℕ) → (entry_length s ≡ 0 → ⊥) → span_length s ≡ 0
unfolding span_length
forward-stop [] h = refl
forward-stop (b ∷ s) h = rw (ne_eqb (entry_length (b ∷ s)) 0 h)

pub forward-end : span_length [] ≡ 0
unfolding span_length
forward-end = refl

-- a case of each test
pub by-entry : {A : Type 0} (s : List ℕ) → (entry_length s ≡ 0 → A) → ((entry_length s ≡ 0 → ⊥) → A) → A
by-entry s f g = ⊎_elim (λ e. f (eqb-true (entry_length s) 0 e)) (λ e. g (eqb-false (entry_length s) 0 e)) (cases (eqb (entry_length s) 0))

pub forward-inside : (s : List ℕ) → span_length s ≤ length s
forward-inside [] = omega (arith, forward-end)
forward-inside (b ∷ s) = by-entry (b ∷ s) (λ e. omega (arith, forward-step b s e, forward-inside s)) (λ h. omega (arith, forward-stop (b ∷ s) h))

-- no entry starts on the way
pub forward-none : (s : List ℕ) (i : ℕ) → i < span_length s → entry_length (drop i s) ≡ 0
forward-none [] i h = absurd (omega (arith, forward-end))
forward-none (b ∷ s) zero h = by-entry (b ∷ s) (λ e. e) (λ n. absurd (omega (arith, forward-stop (b ∷ s) n)))
forward-none (b ∷ s) (suc i) h =
    by-entry (b ∷ s) (λ e. forward-none s i (omega (arith, forward-step b s e))) (λ n. absurd (omega (arith, forward-stop (b ∷ s) n)))

-- it goes no further from where it came to
pub forward-there : (s : List ℕ) → span_length (drop (span_length s) s) ≡ 0
forward-there [] = rw forward-end forward-end
forward-there (b ∷ s) =
    by-entry (b ∷ s) (λ e. rw (forward-step b s e) (forward-there s)) (λ n. rw (forward-stop (b ∷ s) n) (forward-stop (b ∷ s) n))

-- what is left of the way
pub forward-split : (n : ℕ) (s : List ℕ) → n ≤ span_length s → span_length s ≡ n + span_length (drop n s)
forward-split zero s h = omega arith
forward-split (suc n) [] h = absurd (omega (arith, forward-end))
forward-split (suc n) (b ∷ s) h =
    by-entry (b ∷ s)
    (λ e. omega (arith, forward-step b s e, forward-split n s (omega (arith, forward-step b s e))))
    (λ z. absurd (omega (arith, forward-stop (b ∷ s) z)))

-- ---- the first piece

pub first-skip : (s : List ℕ) → entry_length s ≡ 0 → first_piece s ≡ skip (take (span_length s) s)
unfolding first_piece
first-skip s e = rw (eq-eqb (entry_length s) 0 e)

pub first-keep : (s : List ℕ) → (entry_length s ≡ 0 → ⊥) → first_piece s ≡ keep (take (entry_length s) s)
unfolding first_piece
first-keep s h = rw (ne_eqb (entry_length s) 0 h)

-- The bytes of the first piece are the first bytes.
pub record Front (s : List ℕ) (p : Piece) : Type 0 where
  pub some : 0 < length s → 0 < length (bytes_in p)
  pub inside : length (bytes_in p) ≤ length s
  pub is : bytes_in p ≡ take (length (bytes_in p)) s

front_of : (s : List ℕ) (n : ℕ) → n ≤ length s → (length (take n s) ≡ n) × (take n s ≡ take (length (take n s)) s)
front_of s n h = let e = length-take-le n s h in (e, ap (λ (k : ℕ). take k s) (sym e))

pub first-front : (s : List ℕ) → Front s (first_piece s)
first-front s = by-entry s skipped kept
  where
    ahead : (s : List ℕ) → entry_length s ≡ 0 → 0 < length s → 0 < span_length s
    ahead [] e h = absurd (omega arith)
    ahead (b ∷ s) e h = omega (arith, forward-step b s e)

    skipped : entry_length s ≡ 0 → Front s (first_piece s)
    skipped e =
        let f = front_of s (span_length s) (forward-inside s) in
        subst (Front s) (sym (first-skip s e)) (record { some = λ h. omega (arith, f.0, ahead s e h); inside = omega (arith, f.0, forward-inside s); is = f.1 })

    kept : (entry_length s ≡ 0 → ⊥) → Front s (first_piece s)
    kept h =
        let f = front_of s (entry_length s) (entry-inside s) in
        subst (Front s) (sym (first-keep s h)) (record { some = λ _. omega (arith, f.0, h); inside = omega (arith, f.0, entry-inside s); is = f.1 })

-- ---- piece after piece

abbrev rest_of : List ℕ → List ℕ
rest_of s = drop (length (bytes_in (first_piece s))) s

pieces_none : (k : ℕ) → pieces k [] ≡ []
unfolding pieces
pieces_none zero = refl
pieces_none (suc k) = refl

pub pieces_step : (k b : ℕ) (s : List ℕ) → pieces (suc k) (b ∷ s) ≡ first_piece (b ∷ s) ∷ pieces k (rest_of (b ∷ s))
unfolding pieces
pieces_step k b s = refl

-- what is left after the first piece is shorter
rest-shorter : (b : ℕ) (s : List ℕ) → length (rest_of (b ∷ s)) ≤ length s
rest-shorter b s = omega (arith, length-drop (length (bytes_in (first_piece (b ∷ s)))) (b ∷ s), (first-front (b ∷ s)).some (omega arith))

-- As many pieces as bytes are enough.
pub pieces-enough : (k j : ℕ) (s : List ℕ) → length s ≤ k → length s ≤ j → pieces k s ≡ pieces j s
pieces-enough zero j [] h g = pieces_none zero ∙ sym (pieces_none j)
pieces-enough zero j (b ∷ s) h g = absurd (omega arith)
pieces-enough (suc k) j [] h g = pieces_none (suc k) ∙ sym (pieces_none j)
pieces-enough (suc k) zero (b ∷ s) h g = absurd (omega arith)
pieces-enough (suc k) (suc j) (b ∷ s) h g =
    let l = rest-shorter b s in
    pieces_step k b s
    ∙ ap (λ (ps : List Piece). first_piece (b ∷ s) ∷ ps) (pieces-enough k j (rest_of (b ∷ s)) (omega (arith, l)) (omega (arith, l)))
    ∙ sym (pieces_step j b s)

pub pieces_end : pieces_of [] ≡ []
unfolding pieces_of
pieces_end = pieces_none 0

pub pieces-turn : (s : List ℕ) → 0 < length s → pieces_of s ≡ first_piece s ∷ pieces_of (rest_of s)
unfolding pieces_of
pieces-turn [] h = absurd (omega arith)
pieces-turn (b ∷ s) h =
    pieces_step (length s) b s
    ∙ ap (λ (ps : List Piece). first_piece (b ∷ s) ∷ ps) (pieces-enough (length s) (length (rest_of (b ∷ s))) (rest_of (b ∷ s)) (rest-shorter b s) (omega arith))

-- the two kinds of turn
with_first : (s : List ℕ) → 0 < length s → (p : Piece) → first_piece s ≡ p → (n : ℕ) → length (bytes_in p) ≡ n → pieces_of s ≡ p ∷ pieces_of (drop n s)
with_first s h p e n l =
    pieces-turn s h ∙ ap (λ (q : Piece). q ∷ pieces_of (drop (length (bytes_in q)) s)) e ∙ ap (λ (k : ℕ). p ∷ pieces_of (drop k s)) l

pub turn-skip : (s : List ℕ) → 0 < length s → entry_length s ≡ 0 → pieces_of s ≡ skip (take (span_length s) s) ∷ pieces_of (drop (span_length s) s)
turn-skip s h e = with_first s h (skip (take (span_length s) s)) (first-skip s e) (span_length s) (length-take-le (span_length s) s (forward-inside s))

pub turn-keep : (s : List ℕ) → (entry_length s ≡ 0 → ⊥) → pieces_of s ≡ keep (take (entry_length s) s) ∷ pieces_of (drop (entry_length s) s)
turn-keep s n =
    with_first s (omega (arith, n, entry-inside s)) (keep (take (entry_length s) s)) (first-keep s n) (entry_length s) (length-take-le (entry_length s) s (entry-inside s))
