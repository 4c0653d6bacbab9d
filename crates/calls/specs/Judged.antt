-- A frame judged before its payload is read; or a release, which reads nothing.
use Rattle.std.specs.Prelude.{ℕ}
use Rattle.calls.specs.declared.Call.{Call}
use Rattle.calls.specs.declared.Payload.{Payload}

-- It is refused with this number; it opens a call at this slot, with this record; or it goes to the open call at this slot, whose record is this one once the
-- frame is accepted.
pub data Judged : Type 0 where
  Refused : (number : ℕ) → Judged
  Opens : (slot : ℕ) → Call → Payload → Judged
  Goes : (slot : ℕ) → Call → Payload → Judged
