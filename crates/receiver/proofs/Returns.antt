-- What each return of the code shows, over plain values.
use mathlib.Core.Path.{◌≡◌, refl, sym, ap, subst, ◌∙◌}
use mathlib.Core.Bool.{Bool, true, false, cond, ◌||◌}
use mathlib.Core.List.{List}
use Prim.Native.Nat.{ℕ, ◌+◌, ◌-◌, ◌≤◌}
use native.Mathlib.Omega.{arith}
use lib.Dec.{eqb}
use lib.ListN.{length, take, drop}
use Rattle.schema.specs.Checked.{Checked}
use Rattle.schema.specs.Checked.{Good, Refused as Faulty}
use Rattle.schema.specs.Table.{Table}
use Rattle.schema.specs.File.{table_of}
use Rattle.schema.specs.Check.{checked, IsGood}
use Rattle.schema.proofs.Bools.{or-false}
use Rattle.frame.specs.declared.Header.{Header}
use Rattle.frame.specs.FrameRead.{FrameRead, More, Frame as Whole, Refused}
use Rattle.frame.specs.Frame.{frame_of}
use Rattle.frame.proofs.Answers.{read-bounds}
use Rattle.wire.proofs.Cases.{differ}
use Rattle.calls.specs.declared.Call.{Call}
use Rattle.calls.specs.declared.Frame.{Frame}
use Rattle.calls.specs.declared.Payload.{Payload}
use Rattle.calls.specs.Judged.{Judged}
use Rattle.calls.specs.declared.Tally.{Tally}
use Rattle.calls.specs.declared.Figure.{Figure}
use Rattle.calls.specs.declared.Figure.TheVariants.{Nothing}
use Rattle.calls.specs.declared.Rise.{Rise}
use Rattle.calls.specs.Numbers.{ends_call, uses_frame}
use Rattle.calls.specs.Judged.{Refused as JudgedRefused}
use Rattle.calls.specs.Slots.{good_table, count_open}
use Rattle.calls.specs.Judge.{judge_release}
use Rattle.calls.specs.Step.{due_of}
use Rattle.connection.specs.Step.{step_of}
use Rattle.calls.specs.Counting.{release_rise, figure_by, full_at, raised}
use Rattle.calls.specs.OwnSlots.{own_slot_of}
use Rattle.calls.proofs.OwnSlots.{judged-by-slot, rise-by-slot, release-by-slot, release-rise-by-slot}
use Rattle.reader.specs.Reading.{Reading}
use Rattle.reader.specs.Reading.{Shown, Refused as Failed}
use Rattle.reader.specs.Entry.{Outcome, outcome, numbers}
use Rattle.receiver.specs.Received.{Received}
use Rattle.receiver.specs.SettledRelease.{SettledRelease}
use Rattle.receiver.specs.Done.{Done}
use Rattle.receiver.specs.Front.{Front}
use Rattle.receiver.specs.Front as front
use Rattle.receiver.specs.Plan.{Plan}
use Rattle.receiver.specs.Next.{Next}
use Rattle.receiver.specs.Next.{Refused as NextRefused, Settle}
use Rattle.receiver.specs.Told.{released_in}
use Rattle.receiver.specs.Answer.{RowEffect, row_effect, stopped, payload_read, number_in, tallied, counted_read, answer_of, answer_in}
use Rattle.receiver.specs.Planning.{on_good, on_frame, on_calls, frame_from, stop_plan, judged_plan, frame_plan, tables_fault, front_of, slot_plan, call_plan, good_plan, bytes_plan, plan_of, release_plan, Fitted, stops, settles}
use Rattle.receiver.specs.Receive.{answered, frame_settled, settled}
use Rattle.receiver.specs.Release.{release_answer, release_in, release_settled}

-- ---- a plan by the tables

module _ {A : Type 0} (good : Bool) (rows : ℕ) (T : Table) (stop : ℕ → A) (next : A) (k : ℕ) (is : k ≡ tables_fault good rows T) where
  pub calls-fault : (k ≡ 0 → ⊥) → stop k ≡ on_calls good rows T stop next
  calls-fault n = go good (eqb rows (length T.methods)) is
    where
      go : (a b : Bool) → k ≡ cond a (cond b 0 19) 15 → stop k ≡ cond a (cond b next (stop 19)) (stop 15)
      go true true e = absurd (n e)
      go true false e = ap stop e
      go false b e = ap stop e

  pub calls-right : k ≡ 0 → next ≡ on_calls good rows T stop next
  calls-right z = go good (eqb rows (length T.methods)) is
    where
      go : (a b : Bool) → k ≡ cond a (cond b 0 19) 15 → next ≡ cond a (cond b next (stop 19)) (stop 15)
      go true true e = refl
      go true false e = absurd (omega (arith, z, e))
      go false b e = absurd (omega (arith, z, e))

-- Under a schema table that is good, or is not.
abbrev pub checked_plan : (schema : List ℕ) → Plan → Plan
checked_plan schema next = on_good (checked schema) stop_plan next

module _ (schema : List ℕ) (next : Plan) (v : Checked) (is : v ≡ checked schema) (r : Plan) where
  pub plan-faulty : (n q : ℕ) → v ≡ Faulty n q → r ≡ stop_plan n q → r ≡ checked_plan schema next
  plan-faulty n q e x = rw (← is, e, x)

  pub plan-good : v ≡ Good → r ≡ next → r ≡ checked_plan schema next
  plan-good e x = rw (← is, e, x)

-- ---- the frame at the front of the bytes

module _ (good : Bool) (rows : ℕ) (T : Table) (side : ℕ) (bytes : List ℕ) where
  pub front-fault : (k : ℕ) → k ≡ tables_fault good rows T → (k ≡ 0 → ⊥) → front.Refused k ≡ front_of good rows T side bytes
  front-fault k is n =
      calls-fault good rows T front.Refused (on_frame (frame_of bytes) front.Refused (λ h place n. front.Whole (frame_from side h) place (place + n))) k is n

  -- by what the frame reader answers, where the tables are right
  module _ (k : ℕ) (is : k ≡ tables_fault good rows T) (right : k ≡ 0) (v : FrameRead) (read : v ≡ frame_of bytes) (r : Front) where
    abbrev answer : Front
    answer = on_frame (frame_of bytes) front.Refused (λ h place n. front.Whole (frame_from side h) place (place + n))

    ahead : r ≡ answer → r ≡ front_of good rows T side bytes
    ahead x = x ∙ calls-right good rows T front.Refused answer k is right

    pub front-more : v ≡ More → r ≡ front.Refused 1 → r ≡ front_of good rows T side bytes
    front-more e x = ahead (rw (← read, e, x))

    pub front-refused : (n : ℕ) → v ≡ Refused n → r ≡ front.Refused n → r ≡ front_of good rows T side bytes
    front-refused n e x = ahead (rw (← read, e, x))

    pub front-whole : (h : Header) (place n : ℕ) (f : Frame) → v ≡ Whole h place n → f ≡ frame_from side h → r ≡ front.Whole f place (place + n)
        → r ≡ front_of good rows T side bytes
    front-whole h place n f e from x = ahead (rw (← read, e, x, from))

  module _ (l : List Call) where
    -- The plan that follows a front.
    abbrev after : Front → Plan
    after (front.Refused n) = stop_plan n 0
    after (front.Whole f place end) = frame_plan T f l place end

    follows : good_plan good rows T side bytes l ≡ after (front_of good rows T side bytes)
    unfolding bytes_plan
    follows = go good (eqb rows (length T.methods)) (frame_of bytes)
      where
        go : (a b : Bool) (v : FrameRead)
            → cond a (cond b (on_frame v (λ number. stop_plan number 0) (λ h place n. frame_plan T (frame_from side h) l place (place + n))) (stop_plan 19 0)) (stop_plan 15 0)
            ≡ after (cond a (cond b (on_frame v front.Refused (λ h place n. front.Whole (frame_from side h) place (place + n))) (front.Refused 19)) (front.Refused 15))
        go true true More = refl
        go true true (Refused n) = refl
        go true true (Whole h place n) = refl
        go true false v = refl
        go false b v = refl

    module _ (x : Front) (is : x ≡ front_of good rows T side bytes) (r : Plan) where
      pub good-stop : (n : ℕ) → x ≡ front.Refused n → r ≡ stop_plan n 0 → r ≡ good_plan good rows T side bytes l
      good-stop n e y = y ∙ ap after (sym e ∙ is) ∙ sym follows

      pub good-whole : (f : Frame) (place end : ℕ) → x ≡ front.Whole f place end → r ≡ slot_plan T f (own_slot_of f.correlation (eqb f.kind 1) l) place end
          → r ≡ good_plan good rows T side bytes l
      good-whole f place end e y =
          y ∙ (λ i. judged_plan (judged-by-slot T f l i) (rise-by-slot T f l i) place end) ∙ ap after (sym e ∙ is) ∙ sym follows

-- A planned frame lies in the bytes.
pub good-fitted : (schema : List ℕ) → IsGood schema → (good : Bool) (rows side : ℕ) (bytes : List ℕ) (l : List Call)
    → Fitted schema bytes (good_plan good rows (table_of schema) side bytes l).next
unfolding bytes_plan
good-fitted schema g good rows side bytes l = go good (eqb rows (length (table_of schema).methods)) (frame_of bytes) refl
  where
    T : Table
    T = table_of schema

    go : (a b : Bool) (v : FrameRead) → frame_of bytes ≡ v
        → Fitted schema bytes (cond a (cond b (on_frame v (λ number. stop_plan number 0) (λ h place n. frame_plan T (frame_from side h) l place (place + n))) (stop_plan 19 0)) (stop_plan 15 0)).next
    go true true More e = stops
    go true true (Refused n) e = stops
    go true true (Whole h place n) e = settles {place = place} {end = place + n} g (omega arith) (read-bounds bytes e).inside
    go true false v e = stops
    go false b v e = stops

pub checked-fitted : (schema : List ℕ) (good : Bool) (rows side : ℕ) (bytes : List ℕ) (l : List Call)
    → Fitted schema bytes (checked_plan schema (good_plan good rows (table_of schema) side bytes l)).next
checked-fitted schema good rows side bytes l = go (checked schema) refl
  where
    go : (v : Checked) → checked schema ≡ v → Fitted schema bytes (on_good v stop_plan (good_plan good rows (table_of schema) side bytes l)).next
    go Good e = good-fitted schema e good rows side bytes l
    go (Faulty n q) e = stops

-- A plan is the frame's, and so it lies in the bytes.
pub fitted-plan : (schema : List ℕ) (side : ℕ) (bytes : List ℕ) (rows : ℕ) (l : List Call) (r : Plan)
    → r ≡ checked_plan schema (good_plan (good_table (table_of schema) l) rows (table_of schema) side bytes l)
    → (r ≡ plan_of schema side bytes rows l) × Fitted schema bytes r.next
unfolding plan_of
fitted-plan schema side bytes rows l r e =
    (e, subst (λ (x : Plan). Fitted schema bytes x.next) (sym e) (checked-fitted schema (good_table (table_of schema) l) rows side bytes l))

-- ---- a release at its slot

pub call-planned : (id : ℕ) (l : List Call) (r : Plan) → r ≡ call_plan (own_slot_of id false l) → r ≡ judged_plan (judge_release id l) (release_rise l (judge_release id l)) 0 0
call-planned id l r e = e ∙ (λ i. judged_plan (release-by-slot id l i) (release-rise-by-slot id l i) 0 0)

module _ (schema : List ℕ) (l : List Call) (id rows : ℕ) (v : Checked) (is : v ≡ checked schema) (r : Plan) where
  abbrev release : Plan
  release = judged_plan (judge_release id l) (release_rise l (judge_release id l)) 0 0

  abbrev T : Table
  T = table_of schema

  abbrev next : Plan
  next = on_calls (good_table T l) rows T (λ number. stop_plan number 0) release

  pub release-faulty : (n q : ℕ) → v ≡ Faulty n q → r ≡ stop_plan n q → r ≡ release_plan schema l id rows
  unfolding release_plan
  release-faulty n q e x = plan-faulty schema next v is r n q e x

  module _ (g : v ≡ Good) (k : ℕ) (test : k ≡ tables_fault (good_table T l) rows T) where
    pub release-stops : (k ≡ 0 → ⊥) → r ≡ stop_plan k 0 → r ≡ release_plan schema l id rows
    unfolding release_plan
    release-stops n x = plan-good schema next v is r g (x ∙ calls-fault (good_table T l) rows T (λ number. stop_plan number 0) release k test n)

    pub release-goes : k ≡ 0 → r ≡ call_plan (own_slot_of id false l) → r ≡ release_plan schema l id rows
    unfolding release_plan
    release-goes z x =
        plan-good schema next v is r g (call-planned id l r x ∙ calls-right (good_table T l) rows T (λ number. stop_plan number 0) release k test z)

-- ---- the payload

-- neither figure is full, so none is
none-full : (t : Tally) (r : Rise) → (full_at t r.accepted || full_at t r.refused) ≡ false → (n : ℕ) → full_at t (figure_by r n) ≡ false
unfolding figure_by
none-full t r e n = go (eqb n 0) (ends_call n)
  where
    both : (full_at t r.accepted ≡ false) × (full_at t r.refused ≡ false)
    both = or-false (full_at t r.accepted) (full_at t r.refused) e

    go : (a b : Bool) → full_at t (cond a r.accepted (cond b r.refused Nothing)) ≡ false
    go true b = both.0
    go false true = both.1
    go false false = refl

-- 18 raises nothing
eighteen : (t : Tally) (r : Rise) → full_at t (figure_by r 18) ≡ false
unfolding figure_by ends_call
eighteen t r = refl

module _ (t : Tally) (r : Rise) (sheet : List ℕ) (o : Outcome) where
  pub tallied_not : full_at t (figure_by r (number_in o)) ≡ false → o ≡ tallied t r sheet o
  tallied_not e = rw e

  pub tallied-rises : (full_at t r.accepted || full_at t r.refused) ≡ false → o ≡ tallied t r sheet o
  tallied-rises e = tallied_not (none-full t r e (number_in o))

  pub tallied-full : full_at t (figure_by r (number_in o)) ≡ true → outcome (Failed 18 0) sheet ≡ tallied t r sheet o
  tallied-full e = rw e

  -- what rises then is not full
  pub tallied-room : full_at t (figure_by r (number_in (tallied t r sheet o))) ≡ false
  tallied-room = go (full_at t (figure_by r (number_in o))) refl
    where
      go : (b : Bool) → full_at t (figure_by r (number_in o)) ≡ b → full_at t (figure_by r (number_in (cond b (outcome (Failed 18 0) sheet) o))) ≡ false
      go true e = eighteen t r
      go false e = e

-- ---- a whole frame

-- what rises after a reading is not full
pub reading-room : (t : Tally) (r : Rise) (sheet : List ℕ) (o : Outcome) (reading : Reading) (after : List ℕ)
    → outcome reading after ≡ tallied t r sheet o → full_at t (figure_by r (numbers reading).number) ≡ false
reading-room t r sheet o reading after e = ap (λ (x : Outcome). full_at t (figure_by r (number_in x))) e ∙ tallied-room t r sheet o

-- A judgement and its reading, by which the row is raised.
abbrev pub raised_by : Tally → Judged → Rise → Reading → (size : ℕ) → Done
raised_by t J r reading size = record { row = raised t (figure_by r (numbers reading).number); judged = J; reading = reading; size = size }

pub frame-settled : (schema : List ℕ) (J : Judged) (r : Rise) (payload : List ℕ) (size : ℕ) (sheet : List ℕ) (t : Tally) (l : List Call)
    (due : Payload) (reading : Reading) (after : List ℕ) (d : Done)
    → due ≡ due_of J
    → outcome reading after ≡ tallied t r sheet (payload_read schema due payload sheet)
    → d ≡ raised_by t J r reading size
    → row_effect (answer_in d l) after d.row ≡ frame_settled schema J r payload size sheet t l
unfolding frame_settled
frame-settled schema J r payload size sheet t l due reading after d is o e =
    ap (λ (x : Done). row_effect (answer_in x l) after x.row) e
    ∙ ap (answered size l J r t) (o ∙ ap (λ (p : Payload). tallied t r sheet (payload_read schema p payload sheet)) is)

-- ---- a plan settled

module _ (schema bytes sheet : List ℕ) (l : List Call) (t : Tally) (next : Next) where
  pub settled-stop : (n q : ℕ) (x : Received) → next ≡ NextRefused n q → x ≡ stopped l n q → row_effect x sheet t ≡ settled schema bytes sheet l t next
  unfolding settled
  settled-stop n q x e y = rw (e, y)

  pub settled-frame : (J : Judged) (r : Rise) (place end : ℕ) (x : RowEffect) → next ≡ Settle J r place end
      → x ≡ frame_settled schema J r (take (end - place) (drop place bytes)) end sheet t l → x ≡ settled schema bytes sheet l t next
  unfolding settled
  settled-frame J r place end x e y = rw (e, y)

  -- what is left to do suits the schema and the bytes
  pub fitted-good : (J : Judged) (r : Rise) (place end : ℕ) → Fitted schema bytes next → next ≡ Settle J r place end → IsGood schema × (place ≤ end) × (end ≤ length bytes)
  fitted-good J r place end w e = go (subst (Fitted schema bytes) e w)
    where
      go : Fitted schema bytes (Settle J r place end) → IsGood schema × (place ≤ end) × (end ≤ length bytes)
      go (settles g a b) = (g, a, b)

-- ---- for every call table

unused : (b : Bool) → ◌≡◌ {A = ℕ} (cond b 0 0) 0
unused true = refl
unused false = refl

-- A refusal before the frame is known, as an answer to a judgement that stops: it uses no bytes.
pub stop-answer : (l : List Call) (n q : ℕ) → answer_of 0 (step_of (JudgedRefused n) n l) (Failed n q) ≡ stopped l n q
unfolding step_of stopped
stop-answer l n q = λ i.
    record {
      number = n;
      place = q;
      used = unused (uses_frame n) i;
      rows = 0;
      tail_place = 0;
      tail_length = 0;
      «open» = count_open l;
      comparisons = 0;
      table = record { slots = l };
    }

-- The plan that stops, settled.
abbrev pub refusal : (n q : ℕ) → Tally → Done
refusal n q t = record { row = t; judged = JudgedRefused n; reading = Failed n q; size = 0 }

pub stop-settled : (n q : ℕ) (t : Tally) (schema bytes sheet : List ℕ) (l : List Call) →
    row_effect (answer_in (refusal n q t) l) sheet t ≡ settled schema bytes sheet l t (NextRefused n q)
unfolding settled
stop-settled n q t schema bytes sheet l = ap (λ (a : Received). row_effect a sheet t) (stop-answer l n q)

pub stop-released : (n q : ℕ) (t : Tally) (l : List Call) → release_in (refusal n q t) l ≡ release_settled l t (NextRefused n q)
unfolding release_settled step_of
stop-released n q t l = refl

-- An answer with the number and the place alone, as a release's.
pub stopped-release : (n q : ℕ) (t : Tally) (l : List Call) (r : Received) → r ≡ stopped l n q → record { row = t; answer = released_in r } ≡ release_settled l t (NextRefused n q)
unfolding release_settled release_answer stopped
stopped-release n q t l r e = ap (λ (x : Received). record { row = t; answer = released_in x }) e

-- A release's answer is that of a frame with the same judgement, but for what the bytes and the payload say.
pub answer-released : (d : Done) (l : List Call) (r : Received) → r ≡ answer_in d l → record { row = d.row; answer = released_in r } ≡ release_in d l
unfolding release_answer
answer-released d l r e = ap (λ (x : Received). record { row = d.row; answer = released_in x }) e

pub same_number : (n q m p : ℕ) → NextRefused n q ≡ NextRefused m p → n ≡ m
same_number n q m p e = cc

pub settle-stop : {A : Type 0} {J : Judged} {r : Rise} {place end n q : ℕ} → Settle J r place end ≡ NextRefused n q → A
settle-stop e = differ cc

-- A release counted.
pub release-told : (t : Tally) (J : Judged) (r : Rise) (place end : ℕ) (reading : Reading) (d : Done)
    → reading ≡ counted_read t r → d ≡ raised_by t J r reading 0
    → (l : List Call) → release_in d l ≡ release_settled l t (Settle J r place end)
unfolding release_settled step_of
release-told t J r place end reading d is e l =
    ap (λ (x : Done). release_in x l) (e ∙ ap (λ (x : Reading). raised_by t J r x 0) is) ∙ go (full_at t (figure_by r 0))
  where
    told : Reading → SettledRelease
    told x = release_in (raised_by t J r x 0) l

    go : (b : Bool) → told (cond b (Failed 18 0) (Shown 0 0 0 0))
        ≡ (let c = cond b 18 0 in let s = step_of J c l in record { row = raised t (figure_by r c); answer = release_answer s.number 0 s.table.slots })
    go true = refl
    go false = refl

-- what rises then is not full
pub release-room : (t : Tally) (r : Rise) (reading : Reading) → reading ≡ counted_read t r → full_at t (figure_by r (numbers reading).number) ≡ false
unfolding figure_by ends_call
release-room t r reading is = ap (λ (x : Reading). full_at t (figure_by r (numbers x).number)) is ∙ go (full_at t r.accepted) refl
  where
    go : (b : Bool) → full_at t r.accepted ≡ b → full_at t (figure_by r (numbers (cond b (Failed 18 0) (Shown 0 0 0 0))).number) ≡ false
    go true e = refl
    go false e = e
