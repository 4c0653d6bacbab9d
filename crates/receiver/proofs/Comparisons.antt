-- The key comparisons that an answer tells.
use mathlib.Core.List.{List}
use Prim.Native.Nat.{ℕ, ◌+◌, ◌≤◌}
use native.Mathlib.Omega.{arith}
use lib.Dec.{eqb}
use lib.ListN.{length, take, drop, get_or}
use Rattle.wire.proofs.Cases.{cond-case}
use Rattle.schema.specs.File.{table_of}
use Rattle.schema.specs.Check.{IsGood}
use Rattle.calls.specs.declared.Call.{Call}
use Rattle.calls.specs.declared.Tally.{Tally}
use Rattle.calls.specs.declared.Frame.{Frame}
use Rattle.calls.specs.declared.Payload.{Payload}
use Rattle.calls.specs.declared.Payload.TheVariants.{Struct, Empty, Unread}
use Rattle.calls.specs.Judge.{judge_of}
use Rattle.calls.specs.declared.Rise.{Rise}
use Rattle.calls.specs.Step.{due_of}
use Rattle.calls.specs.Counting.{no_tally, rise_of, figure_by, full_at}
use Rattle.reader.specs.Reading.{Reading}
use Rattle.reader.specs.Reading.{Shown, Refused}
use Rattle.reader.specs.Entry.{Outcome, outcome, numbers}
use Rattle.reader.proofs.Entries.{comparisons_in, payload-within}
use Rattle.receiver.specs.Answer.{Effect, stopped, payload_read, number_in, tallied}
use Rattle.receiver.specs.Planning.{frame_from}
use Rattle.receiver.specs.Receive.{frame_settled, frame_effect, received}
use Rattle.receiver.proofs.Ways.{Way, stops, judges, ways}

module _ (s p sheet : List ℕ) (g : IsGood s) where
  payload-few : (d : Payload) → comparisons_in (payload_read s d p sheet) ≤ 258048
  unfolding payload_read
  payload-few (Struct t) = payload-within s g t p sheet
  payload-few Empty = cond-case (λ (r : Reading). (numbers r).comparisons ≤ 258048) (eqb (length p) 0) (Shown 0 0 0 0) (Refused _ _) (λ _. omega arith) (λ _. omega arith)
  payload-few Unread = omega arith

  tallied-few : (t : Tally) (r : Rise) (d : Payload) → comparisons_in (tallied t r sheet (payload_read s d p sheet)) ≤ 258048
  tallied-few t r d =
      let o = payload_read s d p sheet in
      cond-case (λ (x : Outcome). comparisons_in x ≤ 258048) (full_at t (figure_by r (number_in o))) (outcome (Refused 18 0) sheet) o (λ _. omega arith) (λ _. payload-few d)

  frame-few : (f : Frame) (size : ℕ) (ts : List Tally) (l : List Call) → (frame_effect s f p size sheet ts l).answer.comparisons ≤ 258048
  unfolding frame_effect frame_settled
  frame-few f size ts l = let J = judge_of (table_of s) f l in let r = rise_of f.kind l J in tallied-few (get_or ts r.row no_tally) r (due_of J)

stop-few : (l : List Call) (n q : ℕ) → (stopped l n q).comparisons ≤ 258048
unfolding stopped
stop-few l n q = omega arith

-- They are never above 258,048.
pub comparisons-within : (s : List ℕ) (side : ℕ) (bytes sheet : List ℕ) (ts : List Tally) (l : List Call) → (received s side bytes sheet ts l).answer.comparisons ≤ 258048
comparisons-within s side bytes sheet ts l = go (ways s side bytes sheet ts l)
  where
    go : {x : Effect} → Way s side bytes sheet ts l x → x.answer.comparisons ≤ 258048
    go (stops {n} {q} w) = stop-few l n q
    go (judges h place n w e) = frame-few s (take n (drop place bytes)) sheet w.schema_good (frame_from side h) (place + n) ts l
