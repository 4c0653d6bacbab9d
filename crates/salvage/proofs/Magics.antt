-- Where no magic stands one byte after a place, no entry starts there.
use mathlib.Core.Path.{◌≡◌, refl, sym, subst, ◌∙◌}
use mathlib.Core.Bool.{Bool, true, false, not, ◌||◌}
use mathlib.Core.List.{List, ◌++◌}
use Prim.Native.Nat.{ℕ, zero, suc, ◌+◌, ◌≤◌, ◌<◌, min}
use native.Mathlib.Omega.{arith}
use borrow.Author.Tests.{not-true, not-false, eq-eqb, eqb-true, eqb-false}
use lib.Dec.{eqb}
use lib.ListN.{length, drop}
use lib.Seq.{get_or-drop}
use Rattle.wire.proofs.Cases.{differ}
use Rattle.schema.proofs.Bools.{or-false}
use Rattle.frame.specs.IsFrame as frame
use Rattle.record.specs.Entry.{entry_length}
use Rattle.record.specs.IsEntry.{IsEntry, entry}
use Rattle.record.proofs.Entries.{entry-there}
use Rattle.salvage.specs.Pieces.{span_length, magic_after, magic_among}
use Rattle.salvage.proofs.Splits.{by-entry}
use Rattle.salvage.proofs.Turns.{place-passed, place_found}

-- an entry has the magic after its side byte
entry-magic : {e : List ℕ} → IsEntry e → (rest : List ℕ) → magic_after (e ++ rest) 0 ≡ true
entry-magic (entry side (frame.frame size low high p s m c spells small)) rest = refl

no-magic : (s : List ℕ) → magic_after s 0 ≡ false → entry_length s ≡ 0
no-magic s h =
    by-entry s (λ e. e)
    (λ n. let w = entry-there s n in
    let there : magic_after s 0 ≡ true = subst (λ (l : List ℕ). magic_after l 0 ≡ true) (sym w.split) (entry-magic w.is w.rest) in
    let never : true ≡ false = sym there ∙ h in
    differ cc)

pub none-starts : (s : List ℕ) (at : ℕ) → magic_after s at ≡ false → entry_length (drop at s) ≡ 0
none-starts s at h =
    let a = get_or-drop at s 1 0 in
    let b = get_or-drop at s 2 0 in
    no-magic (drop at s) (rw (a, b) h)

-- ---- whether one starts

module _ (s : List ℕ) (at : ℕ) where
  pub no_start : (b : Bool) → b ≡ magic_after s at → b ≡ false → false ≡ not (eqb (entry_length (drop at s)) 0)
  no_start b is h = rw (eq-eqb (entry_length (drop at s)) 0 (none-starts s at (sym is ∙ h)))

  -- what the answer tells
  module _ (far : ℕ) (sofar : at + span_length (drop at s) ≡ far) (b : Bool) (is : b ≡ not (eqb (entry_length (drop at s)) 0)) where
    pub start-found : b ≡ true → at ≡ far
    start-found h = place_found s at far sofar (eqb-false (entry_length (drop at s)) 0 (not-true _ (sym is ∙ h)))

    pub start-passed : at < length s → b ≡ false → (at + 1) + span_length (drop (at + 1) s) ≡ far
    start-passed l h = place-passed s at far sofar l (eqb-true (entry_length (drop at s)) 0 (not-false _ (sym is ∙ h)))

-- ---- of several places

pub among_first : (s : List ℕ) (at : ℕ) → false ≡ magic_among s at 0
unfolding magic_among
among_first s at = refl

pub among-step : (s : List ℕ) (at i : ℕ) (found : Bool) → found ≡ magic_among s at i → (b : Bool) → b ≡ magic_after s (at + i) → (found || b) ≡ magic_among s at (i + 1)
unfolding magic_among
among-step s at i found e b q = let next : i + 1 ≡ suc i = omega arith in rw (next, e, q)

-- none starts at any of them
none-among : (s : List ℕ) (at n far : ℕ) → magic_among s at n ≡ false → at + n ≤ length s → at + span_length (drop at s) ≡ far → (at + n) + span_length (drop (at + n) s) ≡ far
unfolding magic_among
none-among s at zero far h l sofar = let e : at + 0 ≡ at = omega arith in rw e sofar
none-among s at (suc n) far h l sofar =
    let w = or-false (magic_among s at n) (magic_after s (at + n)) h in
    let next : at + suc n ≡ at + n + 1 = omega arith in
    rw next (place-passed s (at + n) far (none-among s at n far w.0 (omega arith) sofar) (omega arith) (none-starts s (at + n) w.1))

pub block-passed : (s : List ℕ) (at n : ℕ) → magic_among s at n ≡ false → at + n ≤ length s → at + n ≡ at + min n (span_length (drop at s))
block-passed s at n h l = omega (arith, none-among s at n (at + span_length (drop at s)) h l (omega arith))
