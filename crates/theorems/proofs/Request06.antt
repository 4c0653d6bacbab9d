-- Request 2026-06, one write for a whole frame: its sentences, and below each the theorems that state it, cited from the crate that proves them.
use mathlib.Core.List.{List, map, [], ◌∷◌}
use Prim.Native.Nat.{ℕ, ◌≤◌}
use lib.ListN.{length}
use mathlib.Core.Path.{◌≡◌}
use mathlib.Core.Logic.{◌↔◌}
use Rattle.schema.specs.Check.{IsGood}
use Rattle.schema.proofs.Examples.{file}
use Rattle.frame.specs.declared.Header.{Header}
use Rattle.value.specs.Write.{refusal as write-refusal}
use Rattle.writer.specs.Entry.{outcome as writer-outcome, payload_by}
use Rattle.writer.specs.Writing.{Written as writer-Written, Refused as writer-Refused}
use Rattle.valueframe.specs.Entry.{frame_outcome}
use Rattle.valueframe.specs.Claims.{InTurn, Unwritten}
use Rattle.valueframe.specs.Cases.{ValueFrameCase, header, worked as valueframe-worked, lent as valueframe-lent}
use Rattle.valueframe.proofs.InTurn as valueframe-InTurn
use Rattle.valueframe.proofs.Examples as valueframe-Examples

-- "However a value gets behind its header now, one new entry writes both straight to the output: the bytes the value writer and then the frame writer
-- give."
-- By the contract of `arf::write_value_frame`, answer and output afterwards are `frame_outcome`.

-- The one write accepts exactly where the two do with room enough between them, and gives their bytes.
pub written-iff_in_turn : (h : Header) (s : List ℕ) (ty : ℕ) (cells B out : List ℕ) (mid : List ℕ) → 16384 ≤ length mid → (m : ℕ) (out' : List ℕ)
    → (frame_outcome h s ty cells B out ≡ writer-outcome (writer-Written m) out') ↔ InTurn h s ty cells B mid out m out'
written-iff_in_turn = valueframe-InTurn.written-iff_in_turn

-- Where the value writer accepts, in any buffer, and then the frame writer, the one write accepts and gives their bytes.
pub in_turn-written : (h : Header) (s : List ℕ) (ty : ℕ) (cells B out : List ℕ)
    (mid : List ℕ) (m : ℕ) (out' : List ℕ) → InTurn h s ty cells B mid out m out' → frame_outcome h s ty cells B out ≡ writer-outcome (writer-Written m) out'
in_turn-written = valueframe-InTurn.in_turn-written

-- What it writes is read back:

-- Stated in other files: `Demand2.frame-read-back`, `Demand2.received-back`.

-- "An empty payload goes by a type number of 4294967295 and an empty sheet; a row there is left over."

-- No table has the type number 4294967295: the value writer answers 46.
pub no-type : (s : List ℕ) (ty : ℕ) (cells B mid : List ℕ) → IsGood s → ty ≡ 4294967295 → payload_by s ty cells B ≡ write-refusal 46 0
no-type = valueframe-InTurn.no-type

-- "Refusals: the table's, then 4, 46, the value writer's in its order, 7, 52."

-- The one write refuses exactly for these reasons, which stand in no order, and leaves the output as it was.
pub refused-iff-unwritten : (h : Header) (s : List ℕ) (ty : ℕ) (cells B out : List ℕ) (mid : List ℕ) (room : 16384 ≤ length mid)
    (n q : ℕ) (out' : List ℕ)
    → (frame_outcome h s ty cells B out ≡ writer-outcome (writer-Refused n q) out') ↔ (Unwritten h s ty cells B mid (length out) n q × (out' ≡ out))
refused-iff-unwritten = valueframe-InTurn.refused-iff-unwritten

-- Computed, case by case: the number, the place or the length, and every byte of the output.
pub cases-hold : map (λ (c : ValueFrameCase). frame_outcome (header c.kind) file c.type c.cells c.source c.out) valueframe-worked
    ≡ map (λ (c : ValueFrameCase). writer-outcome c.answer c.after) valueframe-worked
cases-hold = valueframe-Examples.cases-hold

-- No table: 40 before the kind, and where there is no value too.
pub table-first : map (λ (ty : ℕ). frame_outcome (header 9) [] ty [] [] (valueframe-lent 1)) (0 ∷ 4294967295 ∷ [])
    ≡ writer-outcome (writer-Refused 40 0) (valueframe-lent 1) ∷ writer-outcome (writer-Refused 40 0) (valueframe-lent 1) ∷ []
table-first = valueframe-Examples.table-first
