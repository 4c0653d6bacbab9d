-- The answers of a salvage, in the code's own terms.
use mathlib.Core.Path.{◌≡◌, refl}
use mathlib.Core.List.{List, [], ◌∷◌}
use Prim.Native.Nat.{ℕ, ◌+◌, ◌*◌, ◌≤◌, ◌<◌}
use native.Mathlib.Omega.{arith}
use borrow.Author.Tests.{lt-ltb, le-ltb}
use lib.ListN.{length, length-append}
use Rattle.salvage.specs.declared.Salvaged.{Salvaged as Measure}
use Rattle.salvage.specs.Salvaging.{Salvaged, Refused}
use Rattle.salvage.specs.Pieces.{Piece, keep, skip, pieces_of, copy_of, span_count, spans_of}
use Rattle.salvage.specs.Salvage.{outcome, filled, done, salvage_of, measure_of}
use Rattle.salvage.specs.Cover.{Cover, end, entry, span}

-- Two cells a span.
pub spans-length : (at : ℕ) (ps : List Piece) → length (spans_of at ps) ≡ 2 * span_count ps
unfolding spans_of span_count
spans-length at [] = refl
spans-length at (keep e ∷ ps) = spans-length (at + length e) ps
spans-length at (skip g ∷ ps) = omega (arith, spans-length (at + length g) ps)

-- A record has at most as many spans as bytes.
pub spans-few : {s : List ℕ} {ps : List Piece} → Cover s ps → span_count ps ≤ length s
unfolding span_count
spans-few end = omega arith
spans-few (entry {e = e} {s = s} is w) = omega (arith, spans-few w, length-append e s)
spans-few (span {g = g} {s = s} some none apart w) = omega (arith, spans-few w, length-append g s, some)

-- ---- the answers

module _ (torn copy spans : List ℕ) where
  pub long-refused : 65536 < length torn → outcome (Refused 45) copy spans ≡ salvage_of torn copy spans
  unfolding salvage_of
  long-refused h = rw (lt-ltb 65536 (length torn) h)

  module _ (small : length torn ≤ 65536) where
    abbrev ps : List Piece
    ps = pieces_of torn

    pub copy-refused : length copy < length (copy_of ps) → outcome (Refused 52) copy spans ≡ salvage_of torn copy spans
    unfolding salvage_of
    copy-refused h = rw (le-ltb 65536 (length torn) small, lt-ltb (length copy) (length (copy_of ps)) h)

    module _ (fits : length (copy_of ps) ≤ length copy) where
      pub list-refused : length spans < length (spans_of 0 ps) → outcome (Refused 53) copy spans ≡ salvage_of torn copy spans
      unfolding salvage_of
      list-refused h = rw (le-ltb 65536 (length torn) small, le-ltb (length copy) (length (copy_of ps)) fits, lt-ltb (length spans) (length (spans_of 0 ps)) h)

      pub accepted : length (spans_of 0 ps) ≤ length spans → done ps copy spans ≡ salvage_of torn copy spans
      unfolding salvage_of
      accepted h = rw (le-ltb 65536 (length torn) small, le-ltb (length copy) (length (copy_of ps)) fits, le-ltb (length spans) (length (spans_of 0 ps)) h)

  -- by what was counted
  module _ (m : Measure) (is : m ≡ measure_of (pieces_of torn)) where
    pub all_done : (copied listed : List ℕ) → copied ≡ filled copy (copy_of (pieces_of torn)) → listed ≡ filled spans (spans_of 0 (pieces_of torn))
        → outcome (Salvaged m.entries m.bytes m.spans) copied listed ≡ done (pieces_of torn) copy spans
    unfolding done
    all_done copied listed c l =
        λ i. outcome (Salvaged (is i).entries (is i).bytes (is i).spans) (c i) (l i)
