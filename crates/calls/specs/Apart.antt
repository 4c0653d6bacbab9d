-- Calls kept apart: the answer and the own record afterwards by the judgement without a slot; and what frees a slot.
use Rattle.std.specs.Prelude.{◌≡◌, ℕ, true, cond, eqb, None, Option, Some}
use Rattle.schema.specs.Table.{Table}
use Rattle.schema.specs.Check.{find_method}
use Rattle.calls.specs.declared.Call.{Call}
use Rattle.calls.specs.declared.Frame.{Frame}
use Rattle.calls.specs.declared.Payload.{Payload}
use Rattle.calls.specs.declared.Payload.TheVariants.{Unread}
use Rattle.calls.specs.Judged.{Judged}
use Rattle.calls.specs.Judged.{Refused, Opens, Goes}
use Rattle.calls.specs.declared.Figure.TheVariants.{Nothing, Opened, Cancelled, Failed}
use Rattle.calls.specs.declared.Rise.{Rise}
use Rattle.calls.specs.Numbers.{ends_call}
use Rattle.calls.specs.Counting.{no_rise, ending}
use Rattle.calls.specs.Record.{is_call, complete, marked}
use Rattle.calls.specs.Slots.{form_row}
use Rattle.calls.specs.Judge.{Verdict, stop, opens, goes}
use Rattle.calls.specs.Event.{Event, frame, release, identifier}

-- A judgement without its slot.
abbrev pub verdict : Judged → Verdict
verdict (Refused n) = stop n
verdict (Opens j c due) = opens c due
verdict (Goes i c due) = goes c due

-- ---- the answer and the own record afterwards, by the verdict
abbrev pub verdict_due : Verdict → Payload
verdict_due (stop n) = Unread
verdict_due (opens c due) = due
verdict_due (goes c due) = due

abbrev pub verdict_number : Verdict → (payload : ℕ) → ℕ
verdict_number (stop n) p = n
verdict_number (opens c due) p = p
verdict_number (goes c due) p = p

-- An ended call has no record.
abbrev pub kept : Call → Option Call
kept c = cond c.«open» (Some c) None

abbrev pub verdict_own : Verdict → (payload : ℕ) → Option Call → Option Call
verdict_own (stop n) p own = own
verdict_own (opens c due) p own = cond (eqb p 0) (kept c) own
verdict_own (goes c due) p own = cond (eqb p 0) (kept c) (cond (ends_call p) None own)

-- The method of the call that a frame is about, by its own record: the call's, or for INVOKE the one that its identifiers name.
abbrev pub call_method : Table → Frame → Option Call → Option ℕ
call_method T f None = cond (eqb f.kind 1) (find_method T f.«package» f.service f.method) None
call_method T f (Some c) = cond (eqb f.kind 1) (find_method T f.«package» f.service f.method) (Some c.method)

-- The figure that an event with this verdict raises, and in which tally row.
abbrev pub verdict_rise : (kind : ℕ) → Option Call → Verdict → Rise
verdict_rise kind own (stop n) = no_rise
verdict_rise kind own (opens c due) = record { row = c.method; accepted = Opened; refused = Nothing }
verdict_rise kind None (goes c due) = no_rise
verdict_rise kind (Some x) (goes c due) = record { row = x.method; accepted = ending kind x c; refused = Failed }

abbrev pub verdict_release_rise : Option Call → Verdict → Rise
verdict_release_rise own (stop n) = no_rise
verdict_release_rise own (opens c due) = no_rise
verdict_release_rise None (goes c due) = no_rise
verdict_release_rise (Some x) (goes c due) = record { row = x.method; accepted = Cancelled; refused = Nothing }

-- ---- the slots

-- The slot that acceptance changes.
abbrev pub touched : Judged → Option ℕ
touched (Refused n) = None
touched (Opens j c due) = Some j
touched (Goes i c due) = Some i

-- Why an event that is answered with this number frees the slot of an open call c of its identifier: a payload refusal; the accepted frame that makes it
-- complete; an accepted ERROR; the release of a cancelled call.
pub data Cause (T : Table) (c : Call) : Event → (number : ℕ) → Type 0 where
  refusal : (f : Frame) {n : ℕ} → ends_call n ≡ true → Cause T c (frame f) n
  completion : (f : Frame) → complete (form_row T c) (marked f.kind c) ≡ true → Cause T c (frame f) 0
  error : (f : Frame) → f.kind ≡ 7 → Cause T c (frame f) 0
  released : (id : ℕ) → c.cancelled ≡ true → Cause T c (release id) 0

-- It is the event's own call, and there is a cause.
pub record Freed (T : Table) (e : Event) (number : ℕ) (c : Call) : Type 0 where
  pub is_own : is_call (identifier e) c ≡ true
  pub cause : Cause T c e number

-- What ends a cancelled call: its ERROR, accepted, or its release.
pub data EndsCancelled : Event → (number : ℕ) → Type 0 where
  its_error : (f : Frame) → f.kind ≡ 7 → EndsCancelled (frame f) 0
  its_release : (id : ℕ) → EndsCancelled (release id) 0
