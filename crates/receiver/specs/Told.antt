-- What the code's answers tell, by the numbers of the refusals.
use Rattle.std.specs.Prelude.{ℕ, ◌≤◌, List, length, Result, Ok, Err, ⊤}
use Rattle.schema.specs.Check.{IsGood}
use Rattle.constants.specs.declared.refusal.Refusal.{Refusal}
use Rattle.constants.specs.declared.refusal.Refused as error
use Rattle.constants.specs.Number.{number_of}
use Rattle.calls.specs.declared.Stop.{Stop}
use Rattle.calls.specs.declared.Stop.TheVariants as stop
use Rattle.calls.specs.Told.{told_number, number_of_stop}
use Rattle.calls.specs.Told as calls
use Rattle.calls.specs.Judged as judged
use Rattle.calls.specs.declared.Tally.{Tally}
use Rattle.reader.specs.declared.Shown as shown
use Rattle.reader.specs.Reading as reading
use Rattle.reader.specs.Told as reader
use Rattle.receiver.specs.declared.Received as received
use Rattle.receiver.specs.declared.Released as released
use Rattle.receiver.specs.declared.Settled as settled
use Rattle.receiver.specs.declared.SettledRelease as settled_release
use Rattle.receiver.specs.declared.Done as done
use Rattle.receiver.specs.declared.Placed as placed
use Rattle.receiver.specs.declared.Whole as whole
use Rattle.receiver.specs.declared.Settle as settle
use Rattle.receiver.specs.declared.Halt.{Halt}
use Rattle.receiver.specs.declared.Halt.TheVariants as halt
use Rattle.receiver.specs.Received.{Received}
use Rattle.receiver.specs.Released.{Released}
use Rattle.receiver.specs.Settled.{Settled}
use Rattle.receiver.specs.SettledRelease.{SettledRelease}
use Rattle.receiver.specs.Done.{Done}
use Rattle.receiver.specs.Front.{Front}
use Rattle.receiver.specs.Front as front
use Rattle.receiver.specs.Next.{Next}
use Rattle.receiver.specs.Next as next
use Rattle.receiver.specs.Plan.{Plan}

-- ---- the answers

-- What a refusal is, is a parameter.
abbrev pub told_by : {V : Type 0} → (number : V → ℕ) → received.Received V → Received
told_by number r =
    record {
      number = told_number number r.verdict;
      place = r.place;
      used = r.used;
      rows = r.rows;
      tail_place = r.tail_place;
      tail_length = r.tail_length;
      «open» = r.«open»;
      comparisons = r.comparisons;
      table = r.table;
    }

abbrev pub told_released_by : {V : Type 0} → (number : V → ℕ) → released.Released V → Released
told_released_by number r = record { number = told_number number r.verdict; place = r.place; «open» = r.«open»; table = r.table }

-- The same of the answers that the entries give.
abbrev pub told : received.Received Stop → Received
told = told_by number_of_stop

abbrev pub told_released : released.Released Stop → Released
told_released = told_released_by number_of_stop

-- What a release answers of a frame's answer.
abbrev pub released_in : Received → Released
released_in r = record { number = r.number; place = r.place; «open» = r.«open»; table = r.table }

-- ---- before the call is judged

abbrev pub told_front : Result whole.Whole Stop → Front
told_front (Ok w) = front.Whole w.frame w.place w.end
told_front (Err e) = front.Refused (number_of_stop e)

-- A stop has place 0.
abbrev pub halted : Stop → Halt
halted stop.More = halt.More
halted (stop.Refused refusal) = halt.Refused (record { place = 0; refusal = refusal })

abbrev pub number_of_halt : Halt → ℕ
number_of_halt halt.More = 1
number_of_halt (halt.Refused e) = number_of e.refusal

abbrev pub place_of_halt : Halt → ℕ
place_of_halt halt.More = 0
place_of_halt (halt.Refused e) = e.place

abbrev pub stop_of : Halt → Stop
stop_of halt.More = stop.More
stop_of (halt.Refused e) = stop.Refused e.refusal

-- ---- what is left to do; what a refusal and a halt are, is a parameter

module _ {E H : Type 0} (number : E → ℕ) (halt_number halt_place : H → ℕ) where
  abbrev pub told_next_by : Result (settle.Settle E) H → Next
  told_next_by (Ok s) = next.Settle (calls.told number s.judged) s.rise s.place s.end
  told_next_by (Err h) = next.Refused (halt_number h) (halt_place h)

  -- A plan settled with this tally row. What ends before the call is judged uses no bytes and raises nothing.
  abbrev pub told_done_by : Tally → Result (done.Done E error.Refused) H → Done
  told_done_by t (Ok d) = record { row = d.row; judged = calls.told number d.judged; reading = reader.told d.reading; size = d.size }
  told_done_by t (Err h) =
      record { row = t; judged = judged.Refused (halt_number h); reading = reading.Refused (halt_number h) (halt_place h); size = 0 }

-- A plan that goes on asks for the row that it may raise.
abbrev pub row_of : {E H : Type 0} → Result (settle.Settle E) H → ℕ
row_of (Ok s) = s.rise.row
row_of (Err h) = 0

abbrev pub told_plan_by : {E H : Type 0} → (number : E → ℕ) → (halt_number halt_place : H → ℕ) → Result (settle.Settle E) H → Plan
told_plan_by number n q p = record { row = row_of p; next = told_next_by number n q p }

-- The same of the code's own plans.
abbrev pub told_plan : Result (settle.Settle Refusal) Halt → Plan
told_plan p = record { row = row_of p; next = told_next_by number_of number_of_halt place_of_halt p }

abbrev pub told_done : Tally → Result (done.Done Refusal error.Refused) Halt → Done
told_done = told_done_by number_of number_of_halt place_of_halt

-- A reading that is refused at its place, whatever a refusal is, and a settled plan with one.
abbrev pub told_reading : {E : Type 0} → (number : E → ℕ) → Result shown.Shown (placed.Placed E) → reading.Reading
told_reading number (Ok r) = reading.Shown r.rows r.tail_place r.tail_length r.comparisons
told_reading number (Err e) = reading.Refused (number e.refusal) e.place

abbrev pub told_placed : {E : Type 0} → (number : E → ℕ) → done.Done E (placed.Placed E) → Done
told_placed number d = record { row = d.row; judged = calls.told number d.judged; reading = told_reading number d.reading; size = d.size }

-- The payload of what goes on lies in the bytes, and the schema is good.
abbrev pub Fits : {E H : Type 0} → (schema bytes : List ℕ) → Result (settle.Settle E) H → Type 0
Fits schema bytes (Ok s) = IsGood schema × (s.place ≤ s.end) × (s.end ≤ length bytes)
Fits schema bytes (Err h) = ⊤

abbrev pub told_settled : settled.Settled Stop → Settled
told_settled x = record { row = x.row; answer = told x.answer }

abbrev pub told_settled_release_by : {V : Type 0} → (number : V → ℕ) → settled_release.SettledRelease V → SettledRelease
told_settled_release_by number x = record { row = x.row; answer = told_released_by number x.answer }

abbrev pub told_settled_release : settled_release.SettledRelease Stop → SettledRelease
told_settled_release = told_settled_release_by number_of_stop
