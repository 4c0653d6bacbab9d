-- The room in both buffers: the fault where a record of its length always has room, the fault by what was counted, and the answers by the fault.
use mathlib.Core.Path.{◌≡◌, refl, sym, ap, ◌∙◌}
use mathlib.Core.Logic.{◌⊎◌, inl, inr, ⊎_elim}
use mathlib.Core.Bool.{Bool, true, false, cond}
use mathlib.Core.List.{List}
use Prim.Native.Nat.{ℕ, ◌*◌, ◌≤◌, ◌<◌}
use native.Mathlib.Omega.{arith}
use borrow.Author.Tests.{lt-ltb, le-ltb, ltb-true, ltb-false, leb-true}
use lib.Dec.{ltb, leb}
use lib.ListN.{length}
use Rattle.schema.proofs.Bools.{and_left, and_right}
use Rattle.salvage.specs.declared.Salvaged.{Salvaged as Measure}
use Rattle.salvage.specs.Salvaging.{Refused}
use Rattle.salvage.specs.Pieces.{Piece, pieces_of, copy_of, spans_of}
use Rattle.salvage.specs.Salvage.{outcome, salvage_of, measure_of, most_cells, room_for_any, room_fault}
use Rattle.salvage.proofs.Covers.{covered}
use Rattle.salvage.proofs.Outcomes.{spans-length, spans-few, copy-refused, list-refused}
use Rattle.salvage.proofs.Statements.{copy-shorter, spans-most}

module _ (torn : List ℕ) where
  abbrev ps : List Piece
  ps = pieces_of torn

  -- ---- the fault

  no-fault : (copy spans : ℕ) → length (copy_of ps) ≤ copy → length (spans_of 0 ps) ≤ spans → 0 ≡ room_fault ps copy spans
  no-fault copy spans f g = rw (le-ltb copy (length (copy_of ps)) f, le-ltb spans (length (spans_of 0 ps)) g)

  pub any-room : (copy spans : ℕ) (b : Bool) → b ≡ room_for_any (length torn) copy spans → b ≡ true → 0 ≡ room_fault ps copy spans
  any-room copy spans b is h =
      let n = length torn in
      let long = leb-true n copy (and_left (leb n copy) (leb (most_cells n) spans) (sym is ∙ h)) in
      let many = leb-true (most_cells n) spans (and_right (leb n copy) (leb (most_cells n) spans) (sym is ∙ h)) in
      no-fault copy spans (omega (arith, copy-shorter (covered torn), long)) (omega (arith, spans-length 0 ps, spans-most (covered torn), many))

  -- by what was counted
  module _ (m : Measure) (is : m ≡ measure_of ps) where
    bytes-are : m.bytes ≡ length (copy_of ps)
    bytes-are = ap (λ (x : Measure). x.bytes) is

    cells_are : 2 * m.spans ≡ length (spans_of 0 ps)
    cells_are = ap (λ (x : Measure). 2 * x.spans) is ∙ sym (spans-length 0 ps)

    pub few : m.spans ≤ length torn
    few = omega (arith, ap (λ (x : Measure). x.spans) is, spans-few (covered torn))

    module _ (copy spans : ℕ) where
      pub copy-fault : copy < m.bytes → 52 ≡ room_fault ps copy spans
      copy-fault h = rw (lt-ltb copy (length (copy_of ps)) (omega (arith, bytes-are, h)))

      pub list-fault : m.bytes ≤ copy → spans < 2 * m.spans → 53 ≡ room_fault ps copy spans
      list-fault f h = rw (le-ltb copy (length (copy_of ps)) (omega (arith, bytes-are, f)), lt-ltb spans (length (spans_of 0 ps)) (omega (arith, cells_are, h)))

      pub room-there : m.bytes ≤ copy → 2 * m.spans ≤ spans → 0 ≡ room_fault ps copy spans
      room-there f g = no-fault copy spans (omega (arith, bytes-are, f)) (omega (arith, cells_are, g))

  -- ---- the answers by the fault

  fault-cases : (a b : Bool) (n : ℕ) → n ≡ cond a 52 (cond b 53 0)
      → ((a ≡ true) × (n ≡ 52)) ⊎ (((a ≡ false) × (b ≡ true) × (n ≡ 53)) ⊎ ((a ≡ false) × (b ≡ false) × (n ≡ 0)))
  fault-cases true b n e = inl (refl, e)
  fault-cases false true n e = inr (inl (refl, refl, e))
  fault-cases false false n e = inr (inr (refl, refl, e))

  module _ (copy spans : List ℕ) (number : ℕ) (is : number ≡ room_fault ps (length copy) (length spans)) where
    by-fault : ((ltb (length copy) (length (copy_of ps)) ≡ true) × (number ≡ 52))
        ⊎ (((ltb (length copy) (length (copy_of ps)) ≡ false) × (ltb (length spans) (length (spans_of 0 ps)) ≡ true) × (number ≡ 53))
        ⊎ ((ltb (length copy) (length (copy_of ps)) ≡ false) × (ltb (length spans) (length (spans_of 0 ps)) ≡ false) × (number ≡ 0)))
    by-fault = fault-cases (ltb (length copy) (length (copy_of ps))) (ltb (length spans) (length (spans_of 0 ps))) number is

    pub room-refused : length torn ≤ 65536 → (number ≡ 0 → ⊥) → outcome (Refused number) copy spans ≡ salvage_of torn copy spans
    room-refused small n =
        ⊎_elim
        (λ w. rw w.1 (copy-refused torn copy spans small (ltb-true _ _ w.0)))
        (λ r. ⊎_elim
        (λ w. rw w.2 (list-refused torn copy spans small (ltb-false _ _ w.0) (ltb-true _ _ w.1)))
        (λ w. absurd (n w.2)) r)
        by-fault

    pub fits_both : number ≡ 0 → (length (copy_of ps) ≤ length copy) × (length (spans_of 0 ps) ≤ length spans)
    fits_both z =
        ⊎_elim
        (λ w. absurd (omega (arith, z, w.1)))
        (λ r. ⊎_elim (λ w. absurd (omega (arith, z, w.2))) (λ w. (ltb-false _ _ w.0, ltb-false _ _ w.1)) r)
        by-fault
