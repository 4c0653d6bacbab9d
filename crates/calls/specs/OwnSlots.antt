-- What a judgement sees of the call table, its slot, and the judgement by that.
use Rattle.std.specs.Prelude.{ℕ, Bool, cond, List}
use Rattle.schema.specs.Table.{Table}
use Rattle.schema.specs.Check.{is_missing}
use Rattle.calls.specs.declared.Call.{Call}
use Rattle.calls.specs.declared.Frame.{Frame}
use Rattle.calls.specs.Judged.{Judged}
use Rattle.calls.specs.declared.OwnSlot.{OwnSlot}
use Rattle.calls.specs.Record.{is_call, is_free}
use Rattle.calls.specs.Slots.{first_slot, slot_of, own_of}
use Rattle.calls.specs.Judge.{verdict_of, placed}

-- The own record of a correlation with its slot; where a call is to be opened, the lowest free slot.
abbrev pub own_slot_of : (correlation : ℕ) → (opens : Bool) → List Call → OwnSlot
own_slot_of id opens l = record { own = own_of id l; slot = cond opens (first_slot is_free 0 l) (first_slot (is_call id) 0 l) }

-- The judgement of a frame at its slot.
unfoldable pub judged_at : Table → Frame → OwnSlot → Judged
judged_at T f slot = placed (slot_of slot.slot) (verdict_of T f slot.own (is_missing slot.slot))
