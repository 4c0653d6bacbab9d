-- The pieces of a record are a cover of it, and the only one.
use mathlib.Core.Path.{◌≡◌, refl, sym, ap, ap₂, subst, ◌∙◌}
use mathlib.Core.Logic.{◌↔◌}
use mathlib.Core.List.{List, [], ◌∷◌, ◌++◌}
use Prim.Native.Nat.{ℕ, zero, suc, ◌≤◌, ◌<◌}
use native.Mathlib.Omega.{arith}
use lib.ListN.{length, take, drop, length-append, length-drop, take-append-drop}
use lib.Seq.{take_at, drop_at, length-take-le}
use Rattle.record.specs.Entry.{entry_length}
use Rattle.record.specs.IsEntry.{NoEntry}
use Rattle.record.proofs.Entries.{entry_found, entry-least, entry-there, none-iff}
use Rattle.salvage.specs.Pieces.{Piece, keep, skip, span_length, pieces_of}
use Rattle.salvage.specs.Cover.{NoSpan, NoneIn, Cover, end, entry, span}
use Rattle.salvage.proofs.Splits.{by-entry, forward-step, forward-stop, forward-end, forward-inside, forward-none, forward-there, pieces_end, turn-skip, turn-keep}

-- ---- the pieces are a cover

no_span : (s : List ℕ) → span_length s ≡ 0 → NoSpan (pieces_of s)
no_span [] h = subst NoSpan (sym pieces_end) tt
no_span (b ∷ s) h =
    by-entry (b ∷ s)
    (λ e. absurd (omega (arith, forward-step b s e, h)))
    (λ n. subst NoSpan (sym (turn-keep (b ∷ s) n)) tt)

-- the record, from its parts
joined : (n : ℕ) (s : List ℕ) (ps : List Piece) → Cover (take n s ++ drop n s) ps → Cover s ps
joined n s ps = subst (λ (l : List ℕ). Cover l ps) (take-append-drop n s)

skipped : (s : List ℕ) → 0 < length s → entry_length s ≡ 0 → Cover (drop (span_length s) s) (pieces_of (drop (span_length s) s)) → Cover s (pieces_of s)
skipped s h e w =
    let m = length-take-le (span_length s) s (forward-inside s) in
    let some : 0 < length (take (span_length s) s) = omega (arith, m, ahead s h e) in
    let none : NoneIn (take (span_length s) s) (drop (span_length s) s) = λ i l.
    subst (λ (t : List ℕ). NoEntry (drop i t)) (sym (take-append-drop (span_length s) s)) ((none-iff (drop i s)).0 (forward-none s i (omega (arith, m, l)))) in
    subst (Cover s) (sym (turn-skip s h e)) (joined (span_length s) s _ (span some none (no_span (drop (span_length s) s) (forward-there s)) w))
  where
    ahead : (s : List ℕ) → 0 < length s → entry_length s ≡ 0 → 0 < span_length s
    ahead [] h e = absurd (omega arith)
    ahead (b ∷ s) h e = omega (arith, forward-step b s e)

kept : (s : List ℕ) → (entry_length s ≡ 0 → ⊥) → Cover (drop (entry_length s) s) (pieces_of (drop (entry_length s) s)) → Cover s (pieces_of s)
kept s n w = subst (Cover s) (sym (turn-keep s n)) (joined (entry_length s) s _ (entry (entry-there s n).is w))

cover-within : (k : ℕ) (s : List ℕ) → length s ≤ k → Cover s (pieces_of s)
cover-within zero [] h = subst (Cover []) (sym pieces_end) end
cover-within zero (b ∷ s) h = absurd (omega arith)
cover-within (suc k) [] h = subst (Cover []) (sym pieces_end) end
cover-within (suc k) (b ∷ s) h =
    by-entry (b ∷ s)
    (λ e. skipped (b ∷ s) (omega arith) e (cover-within k (drop (span_length (b ∷ s)) (b ∷ s)) (rw length-drop (omega (arith, forward-step b s e)))))
    (λ n. kept (b ∷ s) n (cover-within k (drop (entry_length (b ∷ s)) (b ∷ s)) (rw length-drop (omega (arith, n)))))

pub covered : (s : List ℕ) → Cover s (pieces_of s)
covered s = cover-within (length s) s (omega arith)

-- ---- and the only one

-- a cover that starts with no span starts with an entry, or the record is at its end
stops-here : {s : List ℕ} {ps : List Piece} → Cover s ps → NoSpan ps → span_length s ≡ 0
stops-here end t = forward-end
stops-here (entry {e = e} {s = s} is w) t = forward-stop (e ++ s) (λ z. absurd (omega (arith, entry_found is s, entry-least is, z)))
stops-here (span some none apart w) t = absurd t

forward-gap : (g s : List ℕ) → ((i : ℕ) → i < length g → entry_length (drop i (g ++ s)) ≡ 0) → span_length s ≡ 0 → span_length (g ++ s) ≡ length g
forward-gap [] s h z = z
forward-gap (b ∷ g) s h z = forward-step b (g ++ s) (h 0 (omega arith)) ∙ ap suc (forward-gap g s (λ i l. h (suc i) (omega arith)) z)

pub one-cover : {s : List ℕ} {ps : List Piece} → Cover s ps → pieces_of s ≡ ps
one-cover end = pieces_end
one-cover (entry {e = e} {s = s} {ps = ps} is w) =
    let n = entry_found is s in
    turn-keep (e ++ s) (λ z. absurd (omega (arith, n, entry-least is, z)))
    ∙ ap (λ (k : ℕ). keep (take k (e ++ s)) ∷ pieces_of (drop k (e ++ s))) n
    ∙ ap₂ (λ (x : List ℕ) (y : List ℕ). keep x ∷ pieces_of y) (take_at e s (length e) refl) (drop_at e s (length e) refl)
    ∙ ap (λ (qs : List Piece). keep e ∷ qs) (one-cover w)
one-cover (span {g = g} {s = s} {ps = ps} some none apart w) =
    let nowhere : (i : ℕ) → i < length g → entry_length (drop i (g ++ s)) ≡ 0 = λ i l. (none-iff (drop i (g ++ s))).1 (none i l) in
    let n = forward-gap g s nowhere (stops-here w apart) in
    turn-skip (g ++ s) (omega (arith, length-append g s)) (nowhere 0 some)
    ∙ ap (λ (k : ℕ). skip (take k (g ++ s)) ∷ pieces_of (drop k (g ++ s))) n
    ∙ ap₂ (λ (x : List ℕ) (y : List ℕ). skip x ∷ pieces_of y) (take_at g s (length g) refl) (drop_at g s (length g) refl)
    ∙ ap (λ (qs : List Piece). skip g ∷ qs) (one-cover w)

-- The pieces are those of the one cover.
pub cover-iff : (s : List ℕ) (ps : List Piece) → (pieces_of s ≡ ps) ↔ Cover s ps
cover-iff s ps = (λ e. subst (Cover s) e (covered s), one-cover)
