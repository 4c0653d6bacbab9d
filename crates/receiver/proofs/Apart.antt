-- Calls kept apart: what the answer to a frame depends on.
use Rattle.std.specs.Prelude.{Some}
use mathlib.Core.Path.{◌≡◌, refl, sym, ap, subst, ◌∙◌}
use mathlib.Core.Logic.{◌⊎◌, inl, inr, ⊎_elim}
use mathlib.Core.List.{List, []}
use Prim.Native.Nat.{ℕ, ◌+◌, ◌-◌}
use lib.ListN.{length, take, drop}
use Rattle.schema.specs.Table.{Table}
use Rattle.schema.specs.File.{table_of}
use Rattle.calls.specs.declared.Call.{Call}
use Rattle.calls.specs.declared.Frame.{Frame}
use Rattle.calls.specs.Judged.{Judged}
use Rattle.calls.specs.Judged.{Refused, Opens, Goes}
use Rattle.calls.specs.declared.Tally.{Tally}
use Rattle.calls.specs.declared.Rise.{Rise}
use Rattle.calls.specs.Slots.{own_of, full}
use Rattle.calls.specs.Judge.{judge_of, Verdict, verdict_of}
use Rattle.calls.specs.Step.{due_of}
use Rattle.connection.specs.Step.{step_of}
use Rattle.calls.specs.Counting.{no_rise, rise_of}
use Rattle.calls.specs.Apart.{verdict, verdict_due, verdict_number, call_method, verdict_rise}
use Rattle.calls.proofs.Goodness.{good-clauses, good-test}
use Rattle.calls.proofs.Apart as calls
use Rattle.calls.proofs.Rises.{rise-by, rise-method}
use Rattle.reader.specs.Reading.{Reading}
use Rattle.reader.specs.Entry.{Outcome, reading_in, room, numbers}
use Rattle.receiver.specs.Next.{Next}
use Rattle.receiver.specs.Next as next
use Rattle.receiver.specs.Answer.{Effect, effect, in_row, stopped, payload_read, tallied, used_of, answer_of}
use Rattle.receiver.specs.Planning.{frame_from, plan_of}
use Rattle.receiver.specs.Receive.{answered, frame_settled, settled, frame_effect, received}
use Rattle.receiver.specs.Claims.{Reply, reply_of, row_for, TablesReady, Unready, schema_fault, calls_bad, rows_wrong, Stops, tables, frame_fault, needs_more, Alike, SameAnswer}
use Rattle.receiver.proofs.Ways.{front_of, Way, stops, judges, ways, stops-early, judged}
use Rattle.receiver.proofs.Payloads.{none-shown, Both, both_read, both-tallied}

-- ---- what the answer depends on

-- the reply by the judgement without a slot and the payload's reading
abbrev reply_by : (size : ℕ) → Reading → Verdict → Reply
reply_by size r v =
    let n = verdict_number v (numbers r).number in
    record {
      numbers =
          record {
            number = n;
            place = (numbers r).place;
            rows = (numbers r).rows;
            tail_place_of = (numbers r).tail_place_of;
            tail_length_of = (numbers r).tail_length_of;
            comparisons = (numbers r).comparisons;
          };
      used = used_of n size;
    }

reply-by : (size : ℕ) (r : Reading) (l : List Call) (J : Judged) → reply_of (answer_of size (step_of J (numbers r).number l) r) ≡ reply_by size r (verdict J)
unfolding step_of
reply-by size r l (Refused n) = refl
reply-by size r l (Opens j c d) = refl
reply-by size r l (Goes i c d) = refl

module _ (sheet₁ sheet₂ : List ℕ) (ts₁ ts₂ : List Tally) (l₁ l₂ : List Call) where
  stop-same : (n q : ℕ) → SameAnswer sheet₁ sheet₂ (effect (stopped l₁ n q) sheet₁ ts₁) (effect (stopped l₂ n q) sheet₂ ts₂)
  unfolding stopped
  stop-same n q =
      record { reply = refl; rows = []; first = record { rows = refl; cells = none-shown sheet₁ }; second = record { rows = refl; cells = none-shown sheet₂ } }

  answered-same : (size : ℕ) (J₁ J₂ : Judged) (r₁ r₂ : Rise) (t₁ t₂ : Tally) (o₁ o₂ : Outcome) → verdict J₁ ≡ verdict J₂ → Both sheet₁ sheet₂ o₁ o₂
      → SameAnswer sheet₁ sheet₂ (in_row ts₁ r₁.row (answered size l₁ J₁ r₁ t₁ o₁)) (in_row ts₂ r₂.row (answered size l₂ J₂ r₂ t₂ o₂))
  answered-same size J₁ J₂ r₁ r₂ t₁ t₂ o₁ o₂ e b =
      record {
        reply =
            reply-by size (reading_in o₁) l₁ J₁
            ∙ ap (reply_by size (reading_in o₁)) e
            ∙ ap (λ (r : Reading). reply_by size r (verdict J₂)) b.reading
            ∙ sym (reply-by size (reading_in o₂) l₂ J₂);
        rows = b.rows;
        first = record { rows = b.count; cells = b.first };
        second = record { rows = ap (λ (r : Reading). (numbers r).rows) (sym b.reading) ∙ b.count; cells = b.second };
      }

  module _ (s : List ℕ) (space : room sheet₁ ≡ room sheet₂) where
    abbrev T : Table
    T = table_of s

    -- both frames raise the same, and nothing rises or the rows of its method are alike
    pub same-rise : (f : Frame) → own_of f.correlation l₁ ≡ own_of f.correlation l₂ → (f.kind ≡ 1 → full l₁ ≡ full l₂)
        → rise_of f.kind l₁ (judge_of T f l₁) ≡ rise_of f.kind l₂ (judge_of T f l₂)
    same-rise f own slots =
        let e = calls.same-verdict T f l₁ l₂ own slots in
        rise-by T f l₁ ∙ (λ i. verdict_rise f.kind (own i) (e i)) ∙ sym (rise-by T f l₂)

    same_row : (f : Frame) → ((m : ℕ) → call_method T f (own_of f.correlation l₁) ≡ Some m → row_for ts₁ m ≡ row_for ts₂ m)
        → let r = rise_of f.kind l₁ (judge_of T f l₁) in (r ≡ no_rise) ⊎ (row_for ts₁ r.row ≡ row_for ts₂ r.row)
    same_row f h =
        rw (rise-by T f l₁)
        (⊎_elim inl (λ e. inr (h (verdict_rise f.kind (own_of f.correlation l₁) (verdict_of T f (own_of f.correlation l₁) (full l₁))).row e))
        (rise-method T f (own_of f.correlation l₁) (full l₁)))

    frame_same : (f : Frame) (payload : List ℕ) (size : ℕ) → own_of f.correlation l₁ ≡ own_of f.correlation l₂ → (f.kind ≡ 1 → full l₁ ≡ full l₂)
        → ((m : ℕ) → call_method T f (own_of f.correlation l₁) ≡ Some m → row_for ts₁ m ≡ row_for ts₂ m)
        → SameAnswer sheet₁ sheet₂ (frame_effect s f payload size sheet₁ ts₁ l₁) (frame_effect s f payload size sheet₂ ts₂ l₂)
    unfolding frame_effect frame_settled
    frame_same f payload size own slots rows =
        let J₁ = judge_of T f l₁ in
        let J₂ = judge_of T f l₂ in
        let r₁ = rise_of f.kind l₁ J₁ in
        let r₂ = rise_of f.kind l₂ J₂ in
        let e = calls.same-judgement T f l₁ l₂ own slots in
        let due = calls.due-by J₁ ∙ ap verdict_due e ∙ sym (calls.due-by J₂) in
        let o₁ = payload_read s (due_of J₁) payload sheet₁ in
        let o₂ = payload_read s (due_of J₂) payload sheet₂ in
        let read : Both sheet₁ sheet₂ o₁ o₂ = rw due (both_read s payload sheet₁ sheet₂ space (due_of J₂)) in
        let raises : Both sheet₁ sheet₂ (tallied (row_for ts₁ r₁.row) r₁ sheet₁ o₁) (tallied (row_for ts₂ r₂.row) r₂ sheet₂ o₂) =
        subst (λ (r : Rise). Both sheet₁ sheet₂ (tallied (row_for ts₁ r₁.row) r₁ sheet₁ o₁) (tallied (row_for ts₂ r.row) r sheet₂ o₂)) (same-rise f own slots)
        (both-tallied sheet₁ sheet₂ r₁ (row_for ts₁ r₁.row) (row_for ts₂ r₁.row) o₁ o₂ (same_row f rows) read) in
        answered-same size J₁ J₂ r₁ r₂ (row_for ts₁ r₁.row) (row_for ts₂ r₂.row) _ _ e raises

    module _ (side : ℕ) (bytes : List ℕ) (w : Alike T side bytes l₁ l₂ ts₁ ts₂) where
      pub ready_too : TablesReady s l₁ (length ts₁) → TablesReady s l₂ (length ts₂)
      ready_too r =
          record {
            schema_good = r.schema_good;
            calls_good = good-clauses T l₂ (sym w.good ∙ good-test T l₁ r.calls_good);
            rows_right_of = sym w.rows ∙ r.rows_right_of;
          }

      unready_too : {n q : ℕ} → Unready s l₁ (length ts₁) n q → Unready s l₂ (length ts₂) n q
      unready_too (schema_fault e) = schema_fault e
      unready_too (calls_bad g b) = calls_bad g (λ x. b (good-clauses T l₁ (w.good ∙ good-test T l₂ x)))
      unready_too (rows_wrong g x n) = rows_wrong g (good-clauses T l₂ (sym w.good ∙ good-test T l₁ x)) (λ e. n (w.rows ∙ e))

      pub stops_too : {n q : ℕ} → Stops s bytes l₁ (length ts₁) n q → Stops s bytes l₂ (length ts₂) n q
      stops_too (tables e) = tables (unready_too e)
      stops_too (frame_fault r e) = frame_fault (ready_too r) e
      stops_too (needs_more r e) = needs_more (ready_too r) e

      -- The open count aside, the answer depends on the schema table, on whether the call table is good, on the frame, its side, the sheet's room, its own
      -- call's record, the number of tally rows and the row of the call's method; INVOKE also on whether 128 calls are open.
      pub same_answer : SameAnswer sheet₁ sheet₂ (received s side bytes sheet₁ ts₁ l₁) (received s side bytes sheet₂ ts₂ l₂)
      same_answer = go (ways s side bytes sheet₁ ts₁ l₁)
        where
          go : {x : Effect} → Way s side bytes sheet₁ ts₁ l₁ x → SameAnswer sheet₁ sheet₂ x (received s side bytes sheet₂ ts₂ l₂)
          go (stops {n} {q} e) = rw (stops-early s side bytes sheet₂ ts₂ l₂ (stops_too e)) (stop-same n q)
          go (judges h place n r e) =
              let f = frame_from side h in
              let front = front_of side bytes h place n e in
              rw (judged s side bytes sheet₂ ts₂ l₂ h place n (ready_too r) e)
              (frame_same f (take n (drop place bytes)) (place + n) (w.own f front) (w.fullness f front)
              (λ m k. w.row m (record { frame = f; front = front; is_method = k })))

-- ---- two sheets with as much room

module _ (s bytes sheet₁ sheet₂ : List ℕ) (l : List Call) (space : room sheet₁ ≡ room sheet₂) where
  settled_same : (t : Tally) (next : Next) → (settled s bytes sheet₁ l t next).answer ≡ (settled s bytes sheet₂ l t next).answer
  unfolding settled frame_settled
  settled_same t (next.Refused n q) = refl
  settled_same t (next.Settle J r place end) =
      let p = take (end - place) (drop place bytes) in
      let o₁ = payload_read s (due_of J) p sheet₁ in
      let o₂ = payload_read s (due_of J) p sheet₂ in
      ap (λ (x : Reading). answer_of end (step_of J (numbers x).number l) x)
      (both-tallied sheet₁ sheet₂ r t t o₁ o₂ (inr refl) (both_read s p sheet₁ sheet₂ space (due_of J))).reading

  -- With the same calls and rows the whole answer depends on the sheet's room alone.
  pub same-room : (side : ℕ) (ts : List Tally) → (received s side bytes sheet₁ ts l).answer ≡ (received s side bytes sheet₂ ts l).answer
  unfolding received
  same-room side ts = let plan = plan_of s side bytes (length ts) l in settled_same (row_for ts plan.row) plan.next
