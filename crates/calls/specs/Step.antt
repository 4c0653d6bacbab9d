-- The step of the call table on a judged frame, by the number that its payload's reading gave.
use Rattle.std.specs.Prelude.{◌≡◌, ℕ, cond, List, length, set, eqb}
use Rattle.schema.specs.Table.{Table}
use Rattle.calls.specs.declared.Call.{Call}
use Rattle.calls.specs.declared.Frame.{Frame}
use Rattle.calls.specs.declared.Payload.{Payload}
use Rattle.calls.specs.declared.Payload.TheVariants.{Unread}
use Rattle.calls.specs.Judged.{Judged}
use Rattle.calls.specs.Judged.{Refused, Opens, Goes}
use Rattle.calls.specs.declared.Change.{Change}
use Rattle.calls.specs.Numbers.{ends_call}
use Rattle.calls.specs.Record.{empty_call}
use Rattle.calls.specs.Judge.{judge_of, judge_release}

-- The answer's number: the judgement's, or else the payload's.
abbrev pub number_after : Judged → (payload : ℕ) → ℕ
number_after (Refused n) p = n
number_after (Opens j c due) p = p
number_after (Goes i c due) p = p

-- The records afterwards, where p is 0 for a payload that is right. An INVOKE refused for its payload opens none.
abbrev pub slots_after : Judged → (payload : ℕ) → List Call → List Call
slots_after (Refused n) p l = l
slots_after (Opens j c due) p l = cond (eqb p 0) (set l j c) l
slots_after (Goes i c due) p l = cond (eqb p 0) (set l i c) (cond (ends_call p) (set l i empty_call) l)

-- The answer: its number, and the records afterwards.
pub record Afterwards : Type 0 where
  pub number : ℕ
  pub slots : List Call

abbrev pub after_judged : Judged → (payload : ℕ) → List Call → Afterwards
after_judged J p l = record { number = number_after J p; slots = slots_after J p l }

-- What the answer to a judgement changes, for every table of 128 records; none is changed by a judgement that stops.
pub record Changes (J : Judged) (payload : ℕ) (change : Change) : Type 0 where
  pub after : (l : List Call) → length l ≡ 128 → set l change.slot change.call ≡ slots_after J payload l
  pub nowhere : (n : ℕ) → J ≡ Refused n → change.slot ≡ 128

-- ---- a frame from its judgement to the records afterwards

-- What the payload of a judged frame holds; that of a refused one is not read.
abbrev pub due_of : Judged → Payload
due_of (Refused n) = Unread
due_of (Opens j c due) = due
due_of (Goes i c due) = due

-- `reading` gives the number of the payload by what it holds.
unfoldable pub receive : Table → Frame → (reading : Payload → ℕ) → List Call → Afterwards
receive T f reading l = after_judged (judge_of T f l) (reading (due_of (judge_of T f l))) l

-- The release of a call reads nothing; `number` is 0, or the refusal of its tally.
unfoldable pub release : (correlation number : ℕ) → List Call → Afterwards
release id number l = after_judged (judge_release id l) number l
