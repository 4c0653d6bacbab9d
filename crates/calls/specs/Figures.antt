-- The figures of a method, by the history of what was heard: accepted frames, releases and payload refusals. They ask no record.
use Rattle.std.specs.Prelude.{◌≡◌, Bool, false, cond, ◌&&◌, List, [], ◌∷◌, ℕ, ◌+◌, eqb, None, Option, Some}
use Rattle.schema.specs.Table.{Table}
use Rattle.schema.specs.Check.{method_row, find_method}
use Rattle.calls.specs.declared.Call.{Call}
use Rattle.calls.specs.declared.Tally.{Tally}
use Rattle.calls.specs.declared.Figure.{Figure}
use Rattle.calls.specs.declared.Figure.TheVariants.{Nothing, Opened, Completed, Errored, Cancelled, Failed}
use Rattle.calls.specs.Numbers.{ends_call}
use Rattle.calls.specs.Record.{counting}
use Rattle.calls.specs.Event.{Event, frame, release, identifier}
use Rattle.calls.specs.Order.{cancelled, all_came, Past, closed, since, Heard, past_of}

-- ---- one event, by the past of its identifier

-- An accepted frame: INVOKE opens a call. ERROR counts as cancelled after CANCEL, and else as errored; the frame that completes the call counts as completed.
abbrev pub accepted_as : Table → (kind : ℕ) → Past → Figure
accepted_as T kind closed = Opened
accepted_as T kind (since m b h) =
    cond (eqb kind 7) (cond (cancelled h) Cancelled Errored) (cond (all_came (method_row T m).form (kind ∷ h)) Completed Nothing)

-- A payload refusal: an INVOKE counts nowhere.
abbrev pub refused_as : Past → Figure
refused_as closed = Nothing
refused_as (since m b h) = Failed

-- A release counts as cancelled. Any other number counts nowhere.
abbrev pub event_as : Table → Event → (number : ℕ) → Past → Figure
event_as T (frame f) n past = cond (eqb n 0) (accepted_as T f.kind past) (cond (ends_call n) (refused_as past) Nothing)
event_as T (release id) n past = cond (eqb n 0) Cancelled Nothing

abbrev pub counts_as : Table → Heard → Past → Figure
counts_as T e past = event_as T e.event e.number past

-- The method that it is counted for: the open call's, or the one that INVOKE names.
abbrev pub method_in : Table → Event → Past → Option ℕ
method_in T e (since m b h) = Some m
method_in T (frame f) closed = find_method T f.«package» f.service f.method
method_in T (release id) closed = None

-- ---- a history, its last event first, from a start without calls

abbrev pub is_method : ℕ → Option ℕ → Bool
is_method m None = false
is_method m (Some k) = eqb k m

-- The columns of a tally row, from 1 on; an event that raises none has no column.
abbrev pub column : Figure → ℕ
column Nothing = 0
column Opened = 1
column Completed = 2
column Errored = 3
column Cancelled = 4
column Failed = 5

abbrev pub counts : Table → (method column : ℕ) → Heard → Past → Bool
counts T m k e past = is_method m (method_in T e.event past) && eqb (column (counts_as T e past)) k

-- How many events count in this column for the method.
unfoldable pub counted : Table → (method column : ℕ) → List Heard → ℕ
counted T m k [] = 0
counted T m k (e ∷ es) = counting (counts T m k e (past_of T (identifier e.event) closed es)) (counted T m k es)

-- The figures of a method.
abbrev pub figures : Table → (method : ℕ) → List Heard → Tally
figures T m es =
    record {
      opened = counted T m 1 es;
      completed = counted T m 2 es;
      errored = counted T m 3 es;
      cancelled = counted T m 4 es;
      failed = counted T m 5 es;
    }

-- ---- the limit

-- A tally at 4294967295 would rise no more: the figure of this row is full.
pub data Full (t : Tally) : Figure → Type 0 where
  opened_full : t.opened ≡ 4294967295 → Full t Opened
  completed_full : t.completed ≡ 4294967295 → Full t Completed
  errored_full : t.errored ≡ 4294967295 → Full t Errored
  cancelled_full : t.cancelled ≡ 4294967295 → Full t Cancelled
  failed_full : t.failed ≡ 4294967295 → Full t Failed

-- ---- the calls of a method

-- How many of a method are open now.
abbrev pub open_of : (method : ℕ) → List Call → ℕ
open_of m [] = 0
open_of m (x ∷ xs) = counting (x.«open» && eqb x.method m) (open_of m xs)

-- Opened is the other four and the calls of that method now open.
pub record Balanced (m : ℕ) (t : Tally) (l : List Call) : Type 0 where
  pub balance : t.opened ≡ t.completed + t.errored + t.cancelled + t.failed + open_of m l
