-- The order of a call's frames as a relation on the kinds accepted for it since its INVOKE, without its record; the stream elements that these count;
-- and what both say of a frame and of a release.
use Rattle.std.specs.Prelude.{◌≡◌, Bool, true, false, cond, ◌&&◌, ◌||◌, List, [], ◌∷◌, ℕ, ◌+◌, ◌<◌, eqb, length, None, Option, Some}
use Rattle.schema.specs.Table.{Table}
use Rattle.schema.specs.Check.{method_row, named, find_method}
use Rattle.calls.specs.declared.Call.{Call}
use Rattle.calls.specs.declared.Frame.{Frame}
use Rattle.calls.specs.declared.Payload.{Payload}
use Rattle.calls.specs.Forms.{letter}
use Rattle.calls.specs.Numbers.{ends_call}
use Rattle.calls.specs.Record.{implies, counting}
use Rattle.calls.specs.Slots.{contains, own_of}
use Rattle.calls.specs.Judge.{right_side}
use Rattle.calls.specs.Event.{Event, frame, release, identifier}
use Rattle.calls.specs.Belongs.{Belongs}

-- The kinds accepted since INVOKE, the last first. `contains k h` says that kind k came.

-- The call is cancelled: CANCEL was accepted.
abbrev pub cancelled : List ℕ → Bool
cancelled h = contains 8 h

-- What may come next in an open call of this form.
pub data MayCome (form : ℕ) (h : List ℕ) : ℕ → Type 0 where
  -- Stream frames need their stream in the form and not closed.
  in_stream : cancelled h ≡ false → letter 2 form ≡ true → contains 3 h ≡ false → MayCome form h 2
  in_close : cancelled h ≡ false → letter 2 form ≡ true → contains 3 h ≡ false → MayCome form h 3
  -- Output frames follow RESPONSE.
  out_stream : cancelled h ≡ false → letter 1 form ≡ true → contains 5 h ≡ false → contains 6 h ≡ true → MayCome form h 4
  out_close : cancelled h ≡ false → letter 1 form ≡ true → contains 5 h ≡ false → contains 6 h ≡ true → MayCome form h 5
  -- RESPONSE comes once, for every form.
  response : cancelled h ≡ false → contains 6 h ≡ false → MayCome form h 6
  -- ERROR is accepted after CANCEL too.
  error : MayCome form h 7
  cancel : cancelled h ≡ false → MayCome form h 8

-- A frame that crosses our cancel: one of the server's kinds, of a cancelled call, and no ERROR.
pub record Crosses (h : List ℕ) (kind : ℕ) : Type 0 where
  pub is_cancelled : cancelled h ≡ true
  pub from_server : right_side 83 kind ≡ true
  pub no_error : kind ≡ 7 → ⊥

-- A call is complete after RESPONSE and the close of each stream it has.
abbrev pub all_came : (form : ℕ) → List ℕ → Bool
all_came form h = contains 6 h && (implies (letter 2 form) (contains 3 h) && implies (letter 1 form) (contains 5 h))

-- ERROR ends it at once.
abbrev pub over : (form : ℕ) → List ℕ → Bool
over form h = contains 7 h || all_came form h

-- Kinds in an order that the rules allow, of a call that is not over: each might come when it came, and none ended the call.
pub data Came (form : ℕ) : List ℕ → Type 0 where
  begun : Came form []
  next : {h : List ℕ} {kind : ℕ} → Came form h → MayCome form h kind → over form (kind ∷ h) ≡ false → Came form (kind ∷ h)

-- ---- stream elements

-- The stream elements accepted each way.
pub record Elements : Type 0 where
  pub inputs : ℕ
  pub outputs : ℕ

abbrev pub no_elements : Elements
no_elements = record { inputs = 0; outputs = 0 }

-- How often a kind came.
abbrev pub times : (kind : ℕ) → List ℕ → ℕ
times k [] = 0
times k (x ∷ xs) = counting (eqb x k) (times k xs)

-- Those that were counted before, and each IN_STREAM and OUT_STREAM since; closes are no elements.
abbrev pub inputs_of : Elements → List ℕ → ℕ
inputs_of b h = b.inputs + times 2 h

abbrev pub outputs_of : Elements → List ℕ → ℕ
outputs_of b h = b.outputs + times 4 h

-- An element more of this kind would be above 65,535.
pub data TooManyElements (b : Elements) (h : List ℕ) : (kind : ℕ) → Type 0 where
  inputs : inputs_of b h ≡ 65535 → TooManyElements b h 2
  outputs : outputs_of b h ≡ 65535 → TooManyElements b h 4

-- Elements are counted only where the form has the stream.
pub record Streams (form : ℕ) (b : Elements) : Type 0 where
  pub inputs : letter 2 form ≡ false → b.inputs ≡ 0
  pub outputs : letter 1 form ≡ false → b.outputs ≡ 0

-- ---- what has been heard under one identifier

-- No call is open, or one of this method, with the elements counted before and the kinds accepted since. A call that INVOKE opens starts with none of both;
-- a call of a table that is lent may have any.
pub data Past : Type 0 where
  closed : Past
  since : (method : ℕ) → Elements → List ℕ → Past

-- A past that the rules allow.
pub data Lawful (T : Table) : Past → Type 0 where
  idle : Lawful T closed
  calling : (m : ℕ) (b : Elements) (h : List ℕ) → m < length T.methods → Streams (method_row T m).form b → Came (method_row T m).form h
      → Lawful T (since m b h)

-- An event and the number that was answered.
pub record Heard : Type 0 where
  pub event : Event
  pub number : ℕ

abbrev pub opened : Option ℕ → Past
opened None = closed
opened (Some m) = since m no_elements []

abbrev pub continued : Table → (kind : ℕ) → Past → Past
continued T kind closed = closed
continued T kind (since m b h) = cond (over (method_row T m).form (kind ∷ h)) closed (since m b (kind ∷ h))

-- A released call has ended.
abbrev pub accepted : Table → Event → Past → Past
accepted T (frame f) past =
    cond (eqb f.kind 1) (opened (find_method T f.«package» f.service f.method)) (continued T f.kind past)
accepted T (release id) past = closed

-- An accepted frame is kept, or ends the call; payload refusals end the open call, and an INVOKE so refused opens none.
abbrev pub after : Table → Heard → Past → Past
after T e past = cond (eqb e.number 0) (accepted T e.event past) (cond (ends_call e.number) closed past)

-- The past of an identifier after what was heard, the last first, from the past that it had before.
unfoldable pub past_of : Table → (correlation : ℕ) → Past → List Heard → Past
past_of T id start [] = start
past_of T id start (e ∷ es) = cond (eqb (identifier e.event) id) (after T e (past_of T id start es)) (past_of T id start es)

-- ---- what the rules say of a frame, by the past of its identifier

-- It is refused with this number, or it may come and this belongs in its payload.
pub data Ruling : Type 0 where
  refused : ℕ → Ruling
  comes : Payload → Ruling

module _ (T : Table) (f : Frame) where
  abbrev pub method_named : Option ℕ
  method_named = find_method T f.«package» f.service f.method

  -- A side that may send the kind; and for a call of method m, the call's identifiers.
  abbrev pub sent : Type 0
  sent = right_side f.side f.kind ≡ true

  abbrev pub same : ℕ → Bool
  same m = named f.«package» f.service f.method (method_row T m)

-- `full` says that 128 calls are open.
module _ (T : Table) (f : Frame) (full : Bool) where
  pub data Ruled : Past → Ruling → Type 0 where
    wrong_side : (past : Past) → right_side f.side f.kind ≡ false → Ruled past (refused 8)
    -- INVOKE: 9, 10, 13, payload.
    unknown : (past : Past) → sent T f → f.kind ≡ 1 → method_named T f ≡ None → Ruled past (refused 9)
    already : (m n : ℕ) (b : Elements) (h : List ℕ) → sent T f → f.kind ≡ 1 → method_named T f ≡ Some n → Ruled (since m b h) (refused 10)
    no_room : (n : ℕ) → sent T f → f.kind ≡ 1 → method_named T f ≡ Some n → full ≡ true → Ruled closed (refused 13)
    opens : (n : ℕ) (d : Payload) → sent T f → f.kind ≡ 1 → method_named T f ≡ Some n → full ≡ false → Belongs (method_row T n) 1 d → Ruled closed (comes d)
    -- The others: 11, 12, 14 or 16, 17, payload.
    not_open : sent T f → (f.kind ≡ 1 → ⊥) → Ruled closed (refused 11)
    differ : (m : ℕ) (b : Elements) (h : List ℕ) → sent T f → (f.kind ≡ 1 → ⊥) → same T f m ≡ false → Ruled (since m b h) (refused 12)
    not_now : (m : ℕ) (b : Elements) (h : List ℕ) → sent T f → (f.kind ≡ 1 → ⊥) → same T f m ≡ true → (MayCome (method_row T m).form h f.kind → ⊥)
        → (Crosses h f.kind → ⊥) → Ruled (since m b h) (refused 14)
    -- 16 stands where 14 would.
    dropped : (m : ℕ) (b : Elements) (h : List ℕ) → sent T f → same T f m ≡ true → Crosses h f.kind → Ruled (since m b h) (refused 16)
    too_many : (m : ℕ) (b : Elements) (h : List ℕ) → sent T f → (f.kind ≡ 1 → ⊥) → same T f m ≡ true → MayCome (method_row T m).form h f.kind
        → TooManyElements b h f.kind → Ruled (since m b h) (refused 17)
    goes : (m : ℕ) (b : Elements) (h : List ℕ) (d : Payload) → sent T f → (f.kind ≡ 1 → ⊥) → same T f m ≡ true → MayCome (method_row T m).form h f.kind
        → (TooManyElements b h f.kind → ⊥) → Belongs (method_row T m) f.kind d → Ruled (since m b h) (comes d)

-- What the rules say of a release: 11 for a call not open, 14 for one not cancelled.
pub data Releases : Past → (number : ℕ) → Type 0 where
  no_call : Releases closed 11
  not_cancelled : (m : ℕ) (b : Elements) (h : List ℕ) → cancelled h ≡ false → Releases (since m b h) 14
  released : (m : ℕ) (b : Elements) (h : List ℕ) → cancelled h ≡ true → Releases (since m b h) 0

-- ---- the record reflects the past

-- The marks of an open call's record, by the kinds accepted, and its elements.
pub record Marks (m : ℕ) (b : Elements) (h : List ℕ) (c : Call) : Type 0 where
  pub method : c.method ≡ m
  pub responded : c.responded ≡ contains 6 h
  pub input_closed_of : c.input_closed ≡ contains 3 h
  pub output_closed_of : c.output_closed ≡ contains 5 h
  pub is_cancelled : c.cancelled ≡ cancelled h
  pub input_elements_of : c.input_elements ≡ inputs_of b h
  pub output_elements_of : c.output_elements ≡ outputs_of b h
  pub no_error : contains 7 h ≡ false

pub data Reflects : Past → Option Call → Type 0 where
  nothing : Reflects closed None
  call : (m : ℕ) (b : Elements) (h : List ℕ) (c : Call) → Marks m b h c → Reflects (since m b h) (Some c)

-- The record is that of a call whose kinds came in an order that the rules allow.
pub record LawfulRecord (T : Table) (c : Call) : Type 0 where
  pub before : Elements
  pub kinds : List ℕ
  pub lawful : Lawful T (since c.method before kinds)
  pub marks : Marks c.method before kinds c

-- A past of an identifier that the rules allow and that the call table reflects.
pub record PastIn (T : Table) (l : List Call) (correlation : ℕ) : Type 0 where
  pub past : Past
  pub lawful : Lawful T past
  pub reflects : Reflects past (own_of correlation l)
