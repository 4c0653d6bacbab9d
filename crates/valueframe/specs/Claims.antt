-- What the theorems of proofs/ claim: the one write beside the value writer and then the frame writer. mid is the buffer between the two.
use Rattle.std.specs.Prelude.{◌≡◌, List, [], ℕ, ◌≤◌, ◌<◌, length, take}
use Rattle.schema.specs.Check.{IsGood}
use Rattle.schema.specs.Faults.{TableFault}
use Rattle.frame.specs.declared.Header.{Header}
use Rattle.frame.specs.FrameWritten.{Written as Framed, Refused as Unframed}
use Rattle.frame.specs.Written.{written_of, output_of}
use Rattle.writer.specs.Writing.{Written, Refused}
use Rattle.writer.specs.Entry.{outcome, file_outcome}

-- The payload that goes into the frame: the bytes that the entry `write` writes into mid; without a value, by a good file and without a row, none.
pub data Payload (schema : List ℕ) (ty : ℕ) (cells B mid : List ℕ) : (payload : List ℕ) → Type 0 where
  value : (n : ℕ) (mid' : List ℕ) → file_outcome schema ty cells B mid ≡ outcome (Written n) mid' → Payload schema ty cells B mid (take n mid')
  none : IsGood schema → ty ≡ 4294967295 → length cells < 4 → Payload schema ty cells B mid []

-- The two in turn: the entry `write_frame` writes a frame of m bytes from the header and the payload, and leaves out'.
pub record InTurn (h : Header) (schema : List ℕ) (ty : ℕ) (cells B mid out : List ℕ) (m : ℕ) (out' : List ℕ) : Type 0 where
  pub payload : List ℕ
  pub first : Payload schema ty cells B mid payload
  pub then : written_of h payload (length out) ≡ Framed m
  pub after : out' ≡ output_of (Framed m) h payload out

-- Why a value is not written as a frame, with number and place: the file's fault; a kind that there is not; what the entry `write` refuses; a row left
-- over without a value; an output that is too small for the whole frame.
pub data Unwritten (h : Header) (schema : List ℕ) (ty : ℕ) (cells B mid : List ℕ) (room : ℕ) : (number place : ℕ) → Type 0 where
  table : (n q : ℕ) → TableFault schema n q → Unwritten h schema ty cells B mid room n q
  kind : IsGood schema → ((1 ≤ h.kind) × (h.kind ≤ 8) → ⊥) → Unwritten h schema ty cells B mid room 4 0
  value : 1 ≤ h.kind → h.kind ≤ 8 → (ty ≡ 4294967295 → ⊥) → (n q : ℕ) → file_outcome schema ty cells B mid ≡ outcome (Refused n q) mid
      → Unwritten h schema ty cells B mid room n q
  surplus : IsGood schema → 1 ≤ h.kind → h.kind ≤ 8 → ty ≡ 4294967295 → 4 ≤ length cells → Unwritten h schema ty cells B mid room 50 0
  full : (payload : List ℕ) → Payload schema ty cells B mid payload → written_of h payload room ≡ Unframed 52 → Unwritten h schema ty cells B mid room 52 0
