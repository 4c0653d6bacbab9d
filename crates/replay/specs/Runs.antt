-- Runs as a relation, beside the function and without a bound on the number of entries; and what an entry of a run has in the record.
use Rattle.std.specs.Prelude.{◌≡◌, List, [], ◌∷◌, ◌⊎◌, ℕ, ◌+◌, ◌<◌, length, get_or, drop}
use Rattle.frame.specs.FrameRead.{Frame}
use Rattle.frame.specs.Frame.{frame_of}
use Rattle.calls.specs.declared.Call.{Call}
use Rattle.receiver.specs.Received.{Received}
use Rattle.replay.specs.Run.{answer_to, Entry, entry_of, Run, halted, onward}

-- A side byte with this answer to its frame is an entry: the side is C (67) or S (83), and the answer uses bytes.
pub record GoesOn (side : ℕ) (a : Received) : Type 0 where
  pub is_side : (side ≡ 67) ⊎ (side ≡ 83)
  pub uses : a.used ≡ 0 → ⊥

-- The run of what is left of a record from a place on, with these calls open: it goes on as long as there are entries, and stops at the first place where
-- there is none.
pub data Runs (schema : List ℕ) : (place : ℕ) (left : List ℕ) → List Call → Run → Type 0 where
  at-end : {place : ℕ} {l : List Call} → Runs schema place [] l (halted 0 0)
  halting : {place side : ℕ} {bytes : List ℕ} {l : List Call}
      → (GoesOn side (answer_to schema side bytes l) → ⊥)
      → Runs schema place (side ∷ bytes) l (halted (answer_to schema side bytes l).number (length (side ∷ bytes)))
  answering : {place side : ℕ} {bytes : List ℕ} {l : List Call} {r : Run}
      → GoesOn side (answer_to schema side bytes l)
      → Runs schema (place + 1 + (answer_to schema side bytes l).used) (drop (answer_to schema side bytes l).used bytes) (answer_to schema side bytes l).table.slots r
      → Runs schema place (side ∷ bytes) l (onward (entry_of place side bytes (answer_to schema side bytes l)) r)

-- An entry of a run stands in the record: its side byte, C or S, at its place, and after that its whole frame, which has its header.
pub record StandsIn (entries : List ℕ) (e : Entry) : Type 0 where
  pub inside : e.place < length entries
  pub side : get_or entries e.place 0 ≡ e.side
  pub is : GoesOn e.side e.answer
  pub start : ℕ
  pub size : ℕ
  pub frame : frame_of (drop (e.place + 1) entries) ≡ Frame e.header start size
