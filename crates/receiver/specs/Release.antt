-- The release of a cancelled call, in the order of docs/FORMAT.md: the schema table (40 to 44), the call table (15), the number of tally rows (19), the
-- call (11, 14), the tally that would rise (18). It uses no bytes.
use Rattle.std.specs.Prelude.{ℕ, List, length, get_or, set}
use Rattle.calls.specs.declared.Call.{Call}
use Rattle.calls.specs.declared.Tally.{Tally}
use Rattle.calls.specs.Slots.{count_open}
use Rattle.calls.specs.Step.{Afterwards, after_judged}
use Rattle.connection.specs.Step.{step_of}
use Rattle.calls.specs.Counting.{no_tally, figure_by, raised, counted_number}
use Rattle.receiver.specs.Next.{Next}
use Rattle.receiver.specs.Next.{Refused, Settle}
use Rattle.receiver.specs.Released.{Released}
use Rattle.reader.specs.Entry.{numbers}
use Rattle.receiver.specs.Done.{Done}
use Rattle.receiver.specs.SettledRelease.{SettledRelease}
use Rattle.receiver.specs.Planning.{release_plan}

-- An answer with the tally rows as they are left.
pub record ReleaseEffect : Type 0 where
  pub answer : Released
  pub tallies : List Tally

abbrev pub release_effect : Released → List Tally → ReleaseEffect
release_effect a ts = record { answer = a; tallies = ts }

-- The answer by its number and place and by the records that it leaves; the calls open are those of the next table.
unfoldable pub release_answer : (number place : ℕ) → List Call → Released
release_answer number place l = record { number = number; place = place; «open» = count_open l; table = record { slots = l } }

abbrev pub stepped_answer : Afterwards → Released
stepped_answer x = release_answer x.number 0 x.slots

-- A plan settled up to the call table, as the row and the answer over the call table l.
abbrev pub release_in : Done → List Call → SettledRelease
release_in d l =
    let x = step_of d.judged (numbers d.reading).number l in
    record { row = d.row; answer = release_answer x.number (numbers d.reading).place x.table.slots }

-- What is left to do of a plan, with the row that it asks for. A refusal changes no call and no row.
unfoldable pub release_settled : List Call → Tally → Next → SettledRelease
release_settled l t (Refused number place) = record { row = t; answer = release_answer number place l }
release_settled l t (Settle J r place end) =
    let n = counted_number t r 0 in
    record { row = raised t (figure_by r n); answer = stepped_answer (after_judged J n l) }

-- Any schema file, call table, correlation and tally rows.
unfoldable pub released : (schema : List ℕ) → List Call → (correlation : ℕ) → List Tally → ReleaseEffect
released schema l id ts =
    let plan = release_plan schema l id (length ts) in
    let x = release_settled l (get_or ts plan.row no_tally) plan.next in
    release_effect x.answer (set ts plan.row x.row)
