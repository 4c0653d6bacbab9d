-- Frames with fresh tally rows: the laws that a run of a record needs, and that such a run answers what a run with lent rows answers.
use mathlib.Core.Path.{◌≡◌, refl, sym, ap, subst, ◌∙◌}
use mathlib.Core.Logic.{◌⊎◌, inl, inr, ⊎_elim}
use mathlib.Core.Bool.{Bool, true, false, cond}
use mathlib.Core.List.{List, [], ◌∷◌, ◌++◌}
use Prim.Native.Nat.{ℕ, suc, ◌+◌, ◌-◌, ◌≤◌, ◌<◌}
use native.Mathlib.Omega.{arith}
use lib.ListN.{length, take, drop}
use borrow.Author.Tests.{ne_eqb}
use Rattle.schema.specs.Table.{Table}
use Rattle.schema.specs.File.{table_of}
use Rattle.schema.specs.Check.{IsGood}
use Rattle.schema.proofs.Bools.{clash}
use Rattle.frame.specs.declared.Header.{Header}
use Rattle.frame.specs.FrameRead.{FrameRead, More, Frame as Whole, Refused}
use Rattle.frame.specs.Frame.{frame_of, read_used}
use Rattle.calls.specs.declared.Call.{Call}
use Rattle.calls.specs.declared.Frame.{Frame}
use Rattle.calls.specs.declared.Tally.{Tally}
use Rattle.calls.specs.declared.Figure.{Figure}
use Rattle.calls.specs.declared.Figure.TheVariants.{Nothing, Opened, Completed, Errored, Cancelled, Failed}
use Rattle.calls.specs.declared.Rise.{Rise}
use Rattle.calls.specs.Record.{counting}
use Rattle.calls.specs.Slots.{good_table, own_of}
use Rattle.calls.specs.Step.{due_of}
use Rattle.connection.specs.Step.{fresh_table, step_of}
use Rattle.calls.specs.Counting.{no_tally, figure_by, amount_in, full_at}
use Rattle.calls.specs.Event.{identifier}
use Rattle.calls.specs.Order.{Heard, closed, past_of}
use Rattle.calls.specs.Figures.{counts, counted, figures}
use Rattle.calls.proofs.Goodness.{good-clauses}
use Rattle.calls.specs.Limits.{FewIn}
use Rattle.calls.proofs.Limits.{few-more as step-more, few-below}
use Rattle.calls.proofs.Counted.{full-iff}
use Rattle.reader.specs.Reading.{Refused as Failed}
use Rattle.reader.specs.Entry.{Outcome, outcome, reading_in, sheet_in, room}
use Rattle.receiver.specs.Next.{Next}
use Rattle.receiver.specs.Next.{Refused as NextRefused, Settle}
use Rattle.receiver.specs.Answer.{Effect, payload_read, number_in, tallied, answer_of, used_of}
use Rattle.receiver.specs.Planning.{plan_of}
use Rattle.receiver.specs.Receive.{frame_settled, settled, received}
use Rattle.receiver.specs.Claims.{Front, Keeps, limit, tally, few_rows, row_for}
use Rattle.receiver.specs.Run.{Input, input, frame_heard, event_number, state_from, heard_from, calls_after, rows_after, answer_after, fresh_tallies, fresh_state}
use Rattle.receiver.specs.Fresh.{FreshEffect, fresh_effect, received_fresh, inputs, fresh_run}
use Rattle.receiver.proofs.Rows.{fresh-row}
use Rattle.receiver.proofs.Lent.{fresh-long}
use Rattle.receiver.proofs.Kept.{answer-holds, stays-good as rows-good}
use Rattle.receiver.proofs.Apart.{same-room as rows-room}
use Rattle.receiver.proofs.Answers.{used-by-number as rows-used, rest-ignored as rows-rest}
use Rattle.receiver.proofs.Numbered.{used-or-kept}
use Rattle.receiver.proofs.Runs.{run-rows}
use Rattle.receiver.proofs.Tallies.{rows-follow}

-- ---- one frame

module _ (s : List ℕ) (side : ℕ) (bytes sheet : List ℕ) (l : List Call) where
  abbrev fresh : List Tally
  fresh = fresh_tallies (table_of s)

  abbrev a : FreshEffect
  a = received_fresh s side bytes sheet l

  -- Bytes used: the frame's length, or 0, by the number.
  pub used-by-number : a.answer.used ≡ used_of a.answer.number (read_used (frame_of bytes))
  unfolding received_fresh
  used-by-number = rows-used s side bytes sheet fresh l

  -- Bytes after the frame change nothing.
  pub rest-ignored : (f : Frame) → Front side bytes f → (rest : List ℕ) → received_fresh s side (bytes ++ rest) sheet l ≡ a
  unfolding received_fresh
  rest-ignored f w rest = ap (λ (x : Effect). fresh_effect x.answer x.sheet) (rows-rest s side bytes sheet fresh l f w rest)

  -- The answer depends on the sheet's room alone.
  pub same-room : (sheet₂ : List ℕ) → room sheet ≡ room sheet₂ → a.answer ≡ (received_fresh s side bytes sheet₂ l).answer
  unfolding received_fresh
  same-room sheet₂ space = rows-room s bytes sheet sheet₂ l space side fresh

  -- A good table stays good.
  pub stays-good : good_table (table_of s) l ≡ true → good_table (table_of s) a.answer.table.slots ≡ true
  unfolding received_fresh
  stays-good g = rows-good s side bytes sheet fresh l g

  -- A call has one element more at most.
  pub few-more : (most : ℕ) → FewIn most l → FewIn (suc most) a.answer.table.slots
  unfolding received_fresh
  few-more most h =
      answer-holds s side bytes sheet fresh l (λ _ l'. FewIn (suc most) l') (λ n q e i. record { inputs = omega (arith, (h i).inputs); outputs = omega (arith, (h i).outputs) })
      (λ f w g t r. step-more (table_of s) f r most l h)

-- fresh rows are never full
zero-full : (x : Figure) → full_at no_tally x ≡ false
zero-full Nothing = refl
zero-full Opened = refl
zero-full Completed = refl
zero-full Errored = refl
zero-full Cancelled = refl
zero-full Failed = refl

-- A whole frame under good tables, where no call is at the element limit: its answer uses the frame, or has the number 30.
pub used-or-rows : (s : List ℕ) (side : ℕ) (bytes sheet : List ℕ) (l : List Call) {h : Header} {place n : ℕ}
    → IsGood s → good_table (table_of s) l ≡ true → FewIn 65534 l → frame_of bytes ≡ Whole h place n
    → let a = received_fresh s side bytes sheet l in (a.answer.used ≡ place + n) ⊎ (a.answer.number ≡ 30)
unfolding received_fresh
used-or-rows s side bytes sheet l {h} {place} {n} g t few e =
    let T = table_of s in
    ⊎_elim inl (λ k. inr (only-rows k))
    (used-or-kept s side bytes sheet (fresh_tallies T) l (record { schema_good = g; calls_good = good-clauses T l t; rows_right_of = fresh-long T }) e)
  where
    only-rows : {k : ℕ} → Keeps h.kind (own_of h.correlation l) (fresh_tallies (table_of s)) k → k ≡ 30
    only-rows (limit c own at) = clash _ at (few-below h.correlation l few h.kind c own)
    only-rows (tally m x full) = clash _ ((full-iff (row_for (fresh_tallies (table_of s)) m) x).1 full) (ap (λ (r : Tally). full_at r x) (fresh-row (table_of s) m) ∙ zero-full x)
    only-rows few_rows = refl

-- ---- rows in which no figure is full

abbrev Unfull : Tally → Type 0
Unfull t = (x : Figure) → full_at t x ≡ false

module _ (s bytes sheet : List ℕ) (l : List Call) where
  not_tallied : (t : Tally) → Unfull t → (r : Rise) (o : Outcome) → tallied t r sheet o ≡ o
  not_tallied t h r o = ap (λ (b : Bool). cond b (outcome (Failed 18 0) sheet) o) (h (figure_by r (number_in o)))

  -- they are settled alike
  settled-alike : (t : Tally) → Unfull t → (n : Next) →
      let x = settled s bytes sheet l t n in let y = settled s bytes sheet l no_tally n in (x.answer ≡ y.answer) × (x.sheet ≡ y.sheet)
  unfolding settled frame_settled
  settled-alike t h (NextRefused n q) = (refl, refl)
  settled-alike t h (Settle J r place end) =
      let o : Outcome = payload_read s (due_of J) (take (end - place) (drop place bytes)) sheet in
      let e : tallied t r sheet o ≡ tallied no_tally r sheet o = not_tallied t h r o ∙ sym (not_tallied no_tally zero-full r o) in
      (ap (λ (x : Outcome). answer_of end (step_of J (number_in x) l) (reading_in x)) e, ap sheet_in e)

  -- as many rows, none of them full, give the same answer
  unfull_answer : (side n : ℕ) (ts : List Tally) → length ts ≡ n → ((m : ℕ) → Unfull (row_for ts m)) → let x = received s side bytes sheet ts l in
      let y = settled s bytes sheet l no_tally (plan_of s side bytes n l).next in (x.answer ≡ y.answer) × (x.sheet ≡ y.sheet)
  unfolding received
  unfull_answer side n ts e h =
      let p = plan_of s side bytes (length ts) l in
      let w = settled-alike (row_for ts p.row) (h p.row) p.next in (
        w.0 ∙ ap (λ (k : ℕ). (settled s bytes sheet l no_tally (plan_of s side bytes k l).next).answer) e,
        w.1 ∙ ap (λ (k : ℕ). (settled s bytes sheet l no_tally (plan_of s side bytes k l).next).sheet) e,
      )

-- ---- a run

-- a figure is at most the number of events
counts-one : (b : Bool) (n most : ℕ) → n ≤ most → counting b n ≤ suc most
counts-one true n most h = omega arith
counts-one false n most h = omega arith

counted-most : (T : Table) (m k : ℕ) (es : List Heard) → counted T m k es ≤ length es
unfolding counted
counted-most T m k [] = omega arith
counted-most T m k (e ∷ es) =
    counts-one (counts T m k e (past_of T (identifier e.event) closed es)) (counted T m k es) (length es) (counted-most T m k es)

heard-one : (side : ℕ) (v : FrameRead) (n : ℕ) (es : List Heard) (most : ℕ) → length es ≤ most → length (frame_heard side v n es) ≤ suc most
heard-one side More n es most h = omega arith
heard-one side (Refused q) n es most h = omega arith
heard-one side (Whole x place k) n es most h = omega arith

heard-most : (s : List ℕ) (is : List Input) → let st = fresh_state (table_of s) in length (heard_from s st (inputs is)) ≤ length is
unfolding heard_from
heard-most s [] = omega arith
heard-most s (i ∷ is) =
    let st = fresh_state (table_of s) in
    heard-one i.side (frame_of i.bytes) (event_number s (input i) (state_from s st (inputs is))) (heard_from s st (inputs is)) (length is) (heard-most s is)

module _ (s : List ℕ) (g : IsGood s) where
  abbrev T : Table
  T = table_of s

  small_figure : (es : List Heard) (m : ℕ) → length es < 4294967295 → Unfull (figures T m es)
  small_figure es m h x = ne_eqb (amount_in (figures T m es) x) 4294967295 (λ z. omega (arith, z, h, most x))
    where
      most : (x : Figure) → amount_in (figures T m es) x ≤ length es
      most Nothing = omega arith
      most Opened = counted-most T m 1 es
      most Completed = counted-most T m 2 es
      most Errored = counted-most T m 3 es
      most Cancelled = counted-most T m 4 es
      most Failed = counted-most T m 5 es

  -- After fewer than 4294967295 frames from a fresh start the next one has the same answer and sheet with the rows of that run as with fresh ones.
  pub fresh-answers : (is : List Input) → length is < 4294967295 → (i : Input) →
      let x = answer_after s (fresh_state T) (inputs is) i in
      fresh_effect x.answer x.sheet ≡ received_fresh s i.side i.bytes i.sheet (calls_after s (fresh_state T) (inputs is))
  unfolding received_fresh
  fresh-answers is h i =
      let n = length T.methods in
      let l = calls_after s (fresh_state T) (inputs is) in
      let long : length (rows_after s (fresh_state T) (inputs is)) ≡ n = run-rows s (fresh_state T) (inputs is) ∙ fresh-long T in
      let es = heard_from s (fresh_state T) (inputs is) in
      let here = unfull_answer s i.bytes i.sheet l i.side n (rows_after s (fresh_state T) (inputs is)) long
      (λ m. subst Unfull (sym (rows-follow s g (inputs is) m)) (small_figure es m (omega (arith, h, heard-most s is)))) in
      let there = unfull_answer s i.bytes i.sheet l i.side n (fresh_tallies T) (fresh-long T) (λ m. subst Unfull (sym (fresh-row T m)) zero-full) in
      λ j. fresh_effect ((here.0 ∙ sym there.0) j) ((here.1 ∙ sym there.1) j)

  -- So a record of fewer than 2^32 entries leaves the same calls.
  pub fresh-calls : (is : List Input) → length is < 4294967296 → calls_after s (fresh_state T) (inputs is) ≡ fresh_run s is fresh_table.slots
  unfolding state_from fresh_run
  fresh-calls [] h = refl
  fresh-calls (i ∷ is) h =
      ap (λ (x : FreshEffect). x.answer.table.slots) (fresh-answers is (omega (arith, h)) i)
      ∙ ap (λ (l : List Call). (received_fresh s i.side i.bytes i.sheet l).answer.table.slots) (fresh-calls is (omega (arith, h)))
