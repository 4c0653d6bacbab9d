-- Tally rows, one a method: which figure of which row a judged frame or release raises, when that figure is full, and the row afterwards.
use Rattle.std.specs.Prelude.{ℕ, ◌+◌, Bool, cond, List, eqb}
use Rattle.calls.specs.declared.Call.{Call}
use Rattle.calls.specs.Judged.{Judged}
use Rattle.calls.specs.Judged.{Refused, Opens, Goes}
use Rattle.calls.specs.declared.Tally.{Tally}
use Rattle.calls.specs.declared.Figure.{Figure}
use Rattle.calls.specs.declared.Figure.TheVariants.{Nothing, Opened, Completed, Errored, Cancelled, Failed}
use Rattle.calls.specs.declared.Rise.{Rise}
use Rattle.calls.specs.Numbers.{ends_call}
use Rattle.calls.specs.Slots.{slot}

-- A fresh row.
abbrev pub no_tally : Tally
no_tally = record { opened = 0; completed = 0; errored = 0; cancelled = 0; failed = 0 }

-- ---- which figure rises

abbrev pub no_rise : Rise
no_rise = record { row = 0; accepted = Nothing; refused = Nothing }

-- An accepted frame of this kind to the call c, whose record it makes `next`: ERROR counts as cancelled or errored, the frame that completes the call
-- as completed. The others raise nothing: the call is still open.
abbrev pub ending : (kind : ℕ) (c next : Call) → Figure
ending kind c next = cond (eqb kind 7) (cond c.cancelled Cancelled Errored) (cond next.«open» Nothing Completed)

-- A frame of this kind, judged: INVOKE counts as opened once it is accepted, and nowhere where its payload is refused; a payload refusal of a frame to an
-- open call counts as failed.
unfoldable pub rise_of : (kind : ℕ) → List Call → Judged → Rise
rise_of kind l (Refused n) = no_rise
rise_of kind l (Opens j c due) = record { row = c.method; accepted = Opened; refused = Nothing }
rise_of kind l (Goes i c due) = record { row = (slot l i).method; accepted = ending kind (slot l i) c; refused = Failed }

-- A release, judged: it counts as cancelled.
unfoldable pub release_rise : List Call → Judged → Rise
release_rise l (Refused n) = no_rise
release_rise l (Opens j c due) = no_rise
release_rise l (Goes i c due) = record { row = (slot l i).method; accepted = Cancelled; refused = Nothing }

-- By the number that the payload gives: accepted, refused, or neither.
unfoldable pub figure_by : Rise → (number : ℕ) → Figure
figure_by r n = cond (eqb n 0) r.accepted (cond (ends_call n) r.refused Nothing)

-- ---- the row

abbrev pub amount_in : Tally → Figure → ℕ
amount_in t Nothing = 0
amount_in t Opened = t.opened
amount_in t Completed = t.completed
amount_in t Errored = t.errored
amount_in t Cancelled = t.cancelled
amount_in t Failed = t.failed

-- A tally at 4294967295 would rise no more.
abbrev pub full_at : Tally → Figure → Bool
full_at t f = eqb (amount_in t f) 4294967295

unfoldable pub raised : Tally → Figure → Tally
raised t Nothing = t
raised t Opened = record { opened = t.opened + 1; completed = t.completed; errored = t.errored; cancelled = t.cancelled; failed = t.failed }
raised t Completed = record { opened = t.opened; completed = t.completed + 1; errored = t.errored; cancelled = t.cancelled; failed = t.failed }
raised t Errored = record { opened = t.opened; completed = t.completed; errored = t.errored + 1; cancelled = t.cancelled; failed = t.failed }
raised t Cancelled = record { opened = t.opened; completed = t.completed; errored = t.errored; cancelled = t.cancelled + 1; failed = t.failed }
raised t Failed = record { opened = t.opened; completed = t.completed; errored = t.errored; cancelled = t.cancelled; failed = t.failed + 1 }

-- The row of method m after a step: raised where the step is about that method.
abbrev pub row_after : ℕ → Rise → (number : ℕ) → Tally → Tally
row_after m r n t = cond (eqb r.row m) (raised t (figure_by r n)) t

-- The number that is answered: the payload's, or 18 where the figure that would rise is full.
abbrev pub counted_number : Tally → Rise → (payload : ℕ) → ℕ
counted_number t r p = cond (full_at t (figure_by r p)) 18 p
