-- The whole judgement of a frame in the order of docs/FORMAT.md: a plan (40 to 44, 15, 19, 2 to 7, 1, 8 to 14, 16, 17), its payload (20 to 31), and last the tally
-- that would rise (18).
use Rattle.std.specs.Prelude.{◌≡◌, ℕ, ◌-◌, List, length, take, drop, get_or}
use Rattle.schema.specs.File.{table_of}
use Rattle.calls.specs.declared.Call.{Call}
use Rattle.calls.specs.declared.Frame.{Frame}
use Rattle.calls.specs.Judged.{Judged}
use Rattle.calls.specs.declared.Rise.{Rise}
use Rattle.calls.specs.declared.Tally.{Tally}
use Rattle.calls.specs.Judge.{judge_of}
use Rattle.calls.specs.Step.{due_of}
use Rattle.connection.specs.Step.{step_of}
use Rattle.calls.specs.Counting.{no_tally, rise_of, figure_by, raised}
use Rattle.reader.specs.Entry.{Outcome, reading_in, sheet_in}
use Rattle.receiver.specs.Received.{Received}
use Rattle.receiver.specs.Next.{Next}
use Rattle.receiver.specs.Next.{Refused, Settle}
use Rattle.receiver.specs.Answer.{Effect, RowEffect, row_effect, in_row, stopped, payload_read, number_in, tallied, answer_of}
use Rattle.receiver.specs.Planning.{plan_of}

-- A judged frame whose payload gave this outcome: the row of its method is raised by the payload's number.
abbrev pub answered : (size : ℕ) → List Call → Judged → Rise → Tally → Outcome → RowEffect
answered size l J r t o = row_effect (answer_of size (step_of J (number_in o) l) (reading_in o)) (sheet_in o) (raised t (figure_by r (number_in o)))

-- A judged frame of so many bytes: its payload is read as what it holds, unless the figure that would rise is full.
unfoldable pub frame_settled : (schema : List ℕ) → Judged → Rise → (payload : List ℕ) (size : ℕ) (sheet : List ℕ) → Tally → List Call → RowEffect
frame_settled schema J r payload size sheet t l = answered size l J r t (tallied t r sheet (payload_read schema (due_of J) payload sheet))

-- What is left to do of a plan, with the row that it asks for.
unfoldable pub settled : (schema bytes sheet : List ℕ) → List Call → Tally → Next → RowEffect
settled schema bytes sheet l t (Refused number place) = row_effect (stopped l number place) sheet t
settled schema bytes sheet l t (Settle J r place end) = frame_settled schema J r (take (end - place) (drop place bytes)) end sheet t l

-- An answer and a sheet that are those of a settled plan, whose row is not kept.
abbrev pub Unkept : RowEffect → Received → (sheet : List ℕ) → Type 0
Unkept x r sheet = (r ≡ x.answer) × (sheet ≡ x.sheet)

-- What a frame raises.
abbrev pub frame_rise : (schema : List ℕ) → Frame → List Call → Rise
frame_rise schema f l = rise_of f.kind l (judge_of (table_of schema) f l)

-- A whole frame with the lent rows.
unfoldable pub frame_effect : (schema : List ℕ) → Frame → (payload : List ℕ) (size : ℕ) (sheet : List ℕ) → List Tally → List Call → Effect
frame_effect schema f payload size sheet ts l =
    let J = judge_of (table_of schema) f l in
    let r = rise_of f.kind l J in
    in_row ts r.row (frame_settled schema J r payload size sheet (get_or ts r.row no_tally) l)

-- Any schema file, side byte, bytes, sheet, tally rows and call table.
unfoldable pub received : (schema : List ℕ) (side : ℕ) (bytes sheet : List ℕ) → List Tally → List Call → Effect
received schema side bytes sheet ts l =
    let plan = plan_of schema side bytes (length ts) l in
    in_row ts plan.row (settled schema bytes sheet l (get_or ts plan.row no_tally) plan.next)
