-- A frame and a release judged up to the payload, in this order (docs/FORMAT.md): the schema table (40 to 44), the call table (15), the number of tally rows (19), the
-- frame (2 to 7 by wire order, then 1), its side and its call (8 to 14, 16, 17). A plan names the tally row and what is left to do.
use Rattle.std.specs.Prelude.{ℕ, ◌+◌, ◌≤◌, Bool, cond, List, eqb, length}
use Rattle.schema.specs.Checked.{Checked}
use Rattle.schema.specs.Checked.{Good, Refused as Faulty}
use Rattle.schema.specs.Table.{Table}
use Rattle.schema.specs.File.{table_of}
use Rattle.schema.specs.Check.{checked, IsGood}
use Rattle.frame.specs.declared.Header.{Header}
use Rattle.frame.specs.FrameRead.{FrameRead, More, Frame as Whole, Refused}
use Rattle.frame.specs.Frame.{frame_of}
use Rattle.calls.specs.declared.Call.{Call}
use Rattle.calls.specs.declared.Frame.{Frame}
use Rattle.calls.specs.Judged.{Judged}
use Rattle.calls.specs.declared.Rise.{Rise}
use Rattle.calls.specs.declared.OwnSlot.{OwnSlot}
use Rattle.calls.specs.Slots.{slot_of, good_table}
use Rattle.calls.specs.Judge.{release_verdict, placed, judge_of, judge_release}
use Rattle.calls.specs.Counting.{rise_of, release_rise}
use Rattle.calls.specs.Apart.{verdict, verdict_rise, verdict_release_rise}
use Rattle.calls.specs.OwnSlots.{judged_at}
use Rattle.receiver.specs.Front.{Front}
use Rattle.receiver.specs.Front as front
use Rattle.receiver.specs.Plan.{Plan}
use Rattle.receiver.specs.Next.{Next}
use Rattle.receiver.specs.Next.{Refused as NextRefused, Settle}

-- Goes on where the table is good, and else stops with its number and row.
abbrev pub on_good : {A : Type 0} → Checked → (stop : ℕ → ℕ → A) → A → A
on_good Good stop next = next
on_good (Faulty number row) stop next = stop number row

-- Goes on with a whole frame, and else stops.
abbrev pub on_frame : {A : Type 0} → FrameRead → (stop : ℕ → A) → (Header → (place size : ℕ) → A) → A
on_frame More stop next = stop 1
on_frame (Refused number) stop next = stop number
on_frame (Whole h place n) stop next = next h place n

-- What a step sees of a frame.
abbrev pub frame_from : (side : ℕ) → Header → Frame
frame_from side h =
    record {
      side = side;
      kind = h.kind;
      «package» = h.«package»;
      service = h.service;
      method = h.method;
      correlation = h.correlation;
    }

-- A refusal, or 1: no row is asked for.
abbrev pub stop_plan : (number place : ℕ) → Plan
stop_plan number place = record { row = 0; next = NextRefused number place }

-- A judged frame or release asks for the row of its method.
abbrev pub judged_plan : Judged → Rise → (place end : ℕ) → Plan
judged_plan J r place end = record { row = r.row; next = Settle J r place end }

-- A whole frame, whose payload stands between these places.
abbrev pub frame_plan : Table → Frame → List Call → (place end : ℕ) → Plan
frame_plan T f l place end = judged_plan (judge_of T f l) (rise_of f.kind l (judge_of T f l)) place end

-- Under a call table that is good, or is not, with so many tally rows.
abbrev pub on_calls : {A : Type 0} → (good : Bool) (rows : ℕ) → Table → (stop : ℕ → A) → A → A
on_calls good rows T stop next = cond good (cond (eqb rows (length T.methods)) next (stop 19)) (stop 15)

-- Under good tables, with as many tally rows as methods.
abbrev pub on_tables : {A : Type 0} → (schema : List ℕ) → List Call → (rows : ℕ) → (stop : ℕ → ℕ → A) → A → A
on_tables schema l rows stop next =
    on_good (checked schema) stop (on_calls (good_table (table_of schema) l) rows (table_of schema) (λ number. stop number 0) next)

-- The frame at the front of the bytes.
unfoldable pub bytes_plan : Table → (side : ℕ) (bytes : List ℕ) → List Call → Plan
bytes_plan T side bytes l =
    on_frame (frame_of bytes) (λ number. stop_plan number 0) (λ h place n. frame_plan T (frame_from side h) l place (place + n))

-- Any schema file, side byte, bytes, number of tally rows and call table.
unfoldable pub plan_of : (schema : List ℕ) (side : ℕ) (bytes : List ℕ) (rows : ℕ) → List Call → Plan
plan_of schema side bytes rows l = on_tables schema l rows stop_plan (bytes_plan (table_of schema) side bytes l)

-- A release: 11 for a call that is not open, 14 for one that is not cancelled. It uses no bytes.
unfoldable pub release_plan : (schema : List ℕ) → List Call → (correlation rows : ℕ) → Plan
release_plan schema l id rows = on_tables schema l rows stop_plan (judged_plan (judge_release id l) (release_rise l (judge_release id l)) 0 0)

-- ---- the same, for a call table by value or in cells

-- 15, 19 or 0.
abbrev pub tables_fault : (good : Bool) (rows : ℕ) → Table → ℕ
tables_fault good rows T = on_calls good rows T (λ number. number) 0

-- The frame at the front of the bytes, after the call table and the tally rows.
abbrev pub front_of : (good : Bool) (rows : ℕ) → Table → (side : ℕ) (bytes : List ℕ) → Front
front_of good rows T side bytes =
    on_calls good rows T front.Refused (on_frame (frame_of bytes) front.Refused (λ h place n. front.Whole (frame_from side h) place (place + n)))

-- A whole frame and a release at their slot.
abbrev pub slot_plan : Table → Frame → OwnSlot → (place end : ℕ) → Plan
slot_plan T f slot place end = let J = judged_at T f slot in judged_plan J (verdict_rise f.kind slot.own (verdict J)) place end

abbrev pub call_plan : OwnSlot → Plan
call_plan slot =
    let J = placed (slot_of slot.slot) (release_verdict slot.own) in judged_plan J (verdict_release_rise slot.own (verdict J)) 0 0

-- The frame's plan under a good schema table.
abbrev pub good_plan : (good : Bool) (rows : ℕ) → Table → (side : ℕ) (bytes : List ℕ) → List Call → Plan
good_plan good rows T side bytes l = on_calls good rows T (λ number. stop_plan number 0) (bytes_plan T side bytes l)

-- What is left to do suits the schema and the bytes: the schema is good, and the payload lies in the bytes.
pub data Fitted (schema bytes : List ℕ) : Next → Type 0 where
  stops : {n q : ℕ} → Fitted schema bytes (NextRefused n q)
  settles : {J : Judged} {r : Rise} {place end : ℕ} → IsGood schema → place ≤ end → end ≤ length bytes → Fitted schema bytes (Settle J r place end)
