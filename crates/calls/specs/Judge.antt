-- A frame judged before its payload is read (8; INVOKE 9, 10, 13; the others 11, 12, 14 or 16, 17), and what its payload holds.
-- The judgement is a function of the frame, of its own call's record and, for INVOKE, of whether 128 calls are open; the slot is added last.
use Rattle.std.specs.Prelude.{ℕ, Bool, true, false, cond, ◌&&◌, ◌||◌, List, eqb, leb, None, Option, Some}
use Rattle.schema.specs.declared.Method.{Method}
use Rattle.schema.specs.Table.{Table}
use Rattle.schema.specs.Check.{method_row, named, find_method}
use Rattle.calls.specs.declared.Call.{Call}
use Rattle.calls.specs.declared.Frame.{Frame}
use Rattle.calls.specs.declared.Payload.{Payload}
use Rattle.calls.specs.declared.Payload.TheVariants.{Struct, Empty, Unread}
use Rattle.calls.specs.Judged.{Judged}
use Rattle.calls.specs.Judged.{Refused, Opens, Goes}
use Rattle.calls.specs.Forms.{row_of_form}
use Rattle.calls.specs.Record.{is_call, is_free, empty_call, opened_call, allowed, not_allowed, at_limit, after_frame}
use Rattle.calls.specs.Slots.{first_slot, slot_of, own_of, full}

-- The client (C) sends 1 INVOKE, 2 IN_STREAM, 3 IN_CLOSE and 8 CANCEL, the server (S) 4 OUT_STREAM, 5 OUT_CLOSE, 6 RESPONSE and 7 ERROR.
abbrev pub right_side : (side kind : ℕ) → Bool
right_side side kind =
    (eqb side 67 && ((leb 1 kind && leb kind 3) || eqb kind 8)) || (eqb side 83 && (leb 4 kind && leb kind 7))

-- ---- the payload

-- The struct type of a letter Y; an N has 4294967295.
abbrev pub typed : ℕ → Payload
typed t = cond (eqb t 4294967295) Empty (Struct t)

-- INVOKE holds the input, IN_STREAM the input stream's type, OUT_STREAM the output stream's, RESPONSE the output; ERROR holds any bytes; closes and
-- CANCEL are empty.
unfoldable pub payload_of : Method → (kind : ℕ) → Payload
payload_of m kind =
    cond (eqb kind 1) (typed m.input)
    (cond (eqb kind 2) (typed m.input_stream)
    (cond (eqb kind 4) (typed m.output_stream)
    (cond (eqb kind 6) (typed m.output) (cond (eqb kind 7) Unread Empty))))

-- ---- the judgement, by the own call's record

-- The frame is refused with this number; it opens a call with this record; or it goes to the open call, whose record is this one once it is accepted.
pub data Verdict : Type 0 where
  stop : ℕ → Verdict
  opens : Call → Payload → Verdict
  goes : Call → Payload → Verdict

-- INVOKE of a known method: 10, 13.
abbrev pub open_verdict : Call → Payload → Option Call → (full : Bool) → Verdict
open_verdict new p (Some c) f = stop 10
open_verdict new p None true = stop 13
open_verdict new p None false = opens new p

-- INVOKE: 9 first.
abbrev pub invoke_verdict : Table → (correlation : ℕ) → Option ℕ → Option Call → (full : Bool) → Verdict
invoke_verdict T id None own f = stop 9
invoke_verdict T id (Some m) own f = open_verdict (opened_call m id) (payload_of (method_row T m) 1) own f

-- The frame's three identifiers are those of method entry m.
abbrev pub names_method : Frame → Method → Bool
names_method f m = named f.«package» f.service f.method m

-- A frame to the open call c, of method entry m: 12, then 14 or 16, then 17.
abbrev pub call_verdict : Method → Frame → Call → Verdict
call_verdict m f c =
    cond (names_method f m)
    (cond (allowed (row_of_form m.form) f.kind c)
    (cond (at_limit f.kind c) (stop 17) (goes (after_frame (row_of_form m.form) f.kind c) (payload_of m f.kind)))
    (stop (not_allowed f.kind c)))
    (stop 12)

-- The others: 11 first.
abbrev pub other_verdict : Table → Frame → Option Call → Verdict
other_verdict T f None = stop 11
other_verdict T f (Some c) = call_verdict (method_row T c.method) f c

-- The method entry that a frame's identifiers name.
abbrev pub method_of : Table → Frame → Option ℕ
method_of T f = find_method T f.«package» f.service f.method

-- Every frame; `full` says that 128 calls are open.
unfoldable pub verdict_of : Table → Frame → Option Call → (full : Bool) → Verdict
verdict_of T f own full =
    cond (right_side f.side f.kind)
    (cond (eqb f.kind 1)
    (invoke_verdict T f.correlation (method_of T f) own full)
    (other_verdict T f own))
    (stop 8)

-- A release: 11 for a call that is not open, 14 for one that is not cancelled. A released call's slot is zeroed, and nothing is read.
abbrev pub release_verdict : Option Call → Verdict
release_verdict None = stop 11
release_verdict (Some c) = cond c.cancelled (goes empty_call Unread) (stop 14)

-- ---- the slot

abbrev pub placed : ℕ → Verdict → Judged
placed i (stop n) = Refused n
placed i (opens c due) = Opens i c due
placed i (goes c due) = Goes i c due

-- A new call takes the lowest free slot; any other frame goes to its own call's.
abbrev pub slot_for : Frame → List Call → ℕ
slot_for f l = cond (eqb f.kind 1) (slot_of (first_slot is_free 0 l)) (slot_of (first_slot (is_call f.correlation) 0 l))

unfoldable pub judge_of : Table → Frame → List Call → Judged
judge_of T f l = placed (slot_for f l) (verdict_of T f (own_of f.correlation l) (full l))

unfoldable pub judge_release : (correlation : ℕ) → List Call → Judged
judge_release id l = placed (slot_of (first_slot (is_call id) 0 l)) (release_verdict (own_of id l))
