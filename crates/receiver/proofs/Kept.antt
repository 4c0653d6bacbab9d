-- A whole frame is a step of the call table and of one tally row, and any other answer changes neither: what holds of both holds of every answer. So a good
-- table stays good. The same of a release.
use mathlib.Core.Path.{◌≡◌, refl, sym, ap, subst, ◌∙◌}
use mathlib.Core.Logic.{◌⊎◌, inl, inr, ⊎_elim}
use mathlib.Core.Bool.{true, false, cond}
use mathlib.Core.List.{List}
use Prim.Native.Nat.{ℕ, ◌+◌, ◌<◌}
use lib.Dec.{eqb}
use lib.ListN.{length, take, drop, length-set}
use Rattle.schema.specs.File.{table_of}
use Rattle.schema.specs.Check.{IsGood}
use Rattle.calls.specs.declared.Call.{Call}
use Rattle.calls.specs.declared.Frame.{Frame}
use Rattle.calls.specs.declared.Payload.{Payload}
use Rattle.calls.specs.declared.Tally.{Tally}
use Rattle.calls.specs.declared.Figure.{Figure}
use Rattle.calls.specs.declared.Rise.{Rise}
use Rattle.calls.specs.Numbers.{ends_call}
use Rattle.calls.specs.Slots.{good_table}
use Rattle.calls.specs.Judge.{judge_of, judge_release}
use Rattle.calls.specs.Step.{number_after, due_of, receive, release}
use Rattle.connection.specs.Step.{step_of}
use Rattle.calls.specs.Counting.{no_rise, release_rise, figure_by, raised, row_after}
use Rattle.calls.proofs.Goodness.{good-test}
use Rattle.calls.proofs.Kept.{test-stays, stays-long, release-test, release-long}
use Rattle.calls.proofs.Rises.{figure_answered, release_figure, Known, frame-known, release-known}
use Rattle.receiver.specs.Answer.{Effect, stopped, payload_read, number_in, tallied}
use Rattle.receiver.specs.Planning.{frame_from}
pub use Rattle.receiver.specs.Receive.{frame_rise}
use Rattle.receiver.specs.Receive.{frame_settled, frame_effect, received}
use Rattle.receiver.specs.Release.{ReleaseEffect, release_answer, released}
use Rattle.receiver.specs.Claims.{Front, TablesReady, Unready, Stops, row_for}
use Rattle.receiver.proofs.Ways.{front_of, Way, stops, judges, ways, released_number, number-spares, ReleaseWay, unready, releases, release-ways}
use Rattle.receiver.proofs.Rows.{rows_with, rows-with}

-- the number of a payload by what it holds, 18 where the figure that would rise is full
abbrev pub reading_of : (s : List ℕ) → Frame → (payload sheet : List ℕ) → List Tally → List Call → Payload → ℕ
reading_of s f payload sheet ts l d = number_in (tallied (row_for ts (frame_rise s f l).row) (frame_rise s f l) sheet (payload_read s d payload sheet))

-- a row that is known is one of those lent
among : (s : List ℕ) (l : List Call) (ts : List Tally) → TablesReady s l (length ts) → (r : Rise) → Known (table_of s) r → (r ≡ no_rise) ⊎ (r.row < length ts)
among s l ts w r k = ⊎_elim inl (λ h. inr (subst (λ (n : ℕ). r.row < n) (sym w.rows_right_of) h)) k

-- the row of a method by the answer's number
by_number : (m : ℕ) (r : Rise) (n p : ℕ) (t : Tally) → figure_by r n ≡ figure_by r p → row_after m r p t ≡ row_after m r n t
by_number m r n p t e = ap (λ (f : Figure). cond (eqb r.row m) (raised t f) t) (sym e)

module _ (s : List ℕ) (f : Frame) (payload : List ℕ) (size : ℕ) (sheet : List ℕ) (ts : List Tally) (l : List Call) where
  -- a whole frame is a step
  pub frame-holds : (P : ℕ → List Call → Type 0) → let r = receive (table_of s) f (reading_of s f payload sheet ts l) l in
      P r.number r.slots → P (frame_effect s f payload size sheet ts l).answer.number (frame_effect s f payload size sheet ts l).answer.table.slots
  unfolding frame_effect frame_settled receive step_of
  frame-holds P h = h

  frame-rows : (frame_effect s f payload size sheet ts l).tallies ≡ rows_with ts (frame_rise s f l) (reading_of s f payload sheet ts l (due_of (judge_of (table_of s) f l)))
  unfolding frame_effect frame_settled
  frame-rows = refl

  frame-number : (frame_effect s f payload size sheet ts l).answer.number ≡ number_after (judge_of (table_of s) f l) (reading_of s f payload sheet ts l (due_of (judge_of (table_of s) f l)))
  unfolding frame_effect frame_settled step_of
  frame-number = refl

  -- every row afterwards
  pub frame_row : TablesReady s l (length ts) → (m : ℕ) → let a = frame_effect s f payload size sheet ts l in
      row_for a.tallies m ≡ row_after m (frame_rise s f l) a.answer.number (row_for ts m)
  frame_row w m =
      let J = judge_of (table_of s) f l in
      let r = frame_rise s f l in
      let p = reading_of s f payload sheet ts l (due_of J) in
      ap (λ (x : List Tally). row_for x m) frame-rows
      ∙ rows-with ts r p (among s l ts w r (frame-known (table_of s) l w.calls_good f)) m
      ∙ by_number m r (number_after J p) p (row_for ts m) (figure_answered f.kind l J p)
      ∙ ap (λ (n : ℕ). row_after m r n (row_for ts m)) (sym frame-number)

-- an answer that stops changes no call
pub stop-holds : (P : ℕ → List Call → Type 0) (l : List Call) (n q : ℕ) → P n l → P (stopped l n q).number (stopped l n q).table.slots
unfolding stopped
stop-holds P l n q h = h

module _ (s : List ℕ) (side : ℕ) (bytes sheet : List ℕ) (ts : List Tally) (l : List Call) where
  -- What holds of the number, the records and the row of method m where the answer stops, and of every step of a frame at the front.
  pub answer-holds-row : (m : ℕ) (P : ℕ → List Call → Tally → Type 0) → ((n q : ℕ) → Stops s bytes l (length ts) n q → P n l (row_for ts m))
      → ((f : Frame) → Front side bytes f → TablesReady s l (length ts) → (reading : Payload → ℕ) →
      let r = receive (table_of s) f reading l in P r.number r.slots (row_after m (frame_rise s f l) r.number (row_for ts m)))
      → let a = received s side bytes sheet ts l in P a.answer.number a.answer.table.slots (row_for a.tallies m)
  answer-holds-row m P stop step = go (ways s side bytes sheet ts l)
    where
      go : {x : Effect} → Way s side bytes sheet ts l x → P x.answer.number x.answer.table.slots (row_for x.tallies m)
      go (stops {n} {q} w) = stop-holds (λ k l'. P k l' (row_for ts m)) l n q (stop n q w)
      go (judges h place n w e) =
          let f = frame_from side h in
          let p = take n (drop place bytes) in
          rw (frame_row s f p (place + n) sheet ts l w m)
          (frame-holds s f p (place + n) sheet ts l (λ k l'. P k l' (row_after m (frame_rise s f l) k (row_for ts m)))
          (step f (front_of side bytes h place n e) w (reading_of s f p sheet ts l)))

  -- The same of the number and the records.
  pub answer-holds : (P : ℕ → List Call → Type 0) → ((n q : ℕ) → Stops s bytes l (length ts) n q → P n l)
      → ((f : Frame) → Front side bytes f → IsGood s → good_table (table_of s) l ≡ true → (reading : Payload → ℕ) →
      let r = receive (table_of s) f reading l in P r.number r.slots)
      → let a = received s side bytes sheet ts l in P a.answer.number a.answer.table.slots
  answer-holds P stop step =
      answer-holds-row 0 (λ n l' _. P n l') stop (λ f v w reading. step f v w.schema_good (good-test (table_of s) l w.calls_good) reading)

  pub stays-good : good_table (table_of s) l ≡ true → good_table (table_of s) (received s side bytes sheet ts l).answer.table.slots ≡ true
  stays-good good = answer-holds (λ _ l'. good_table (table_of s) l' ≡ true) (λ n q e. good) (λ f w g t r. test-stays (table_of s) f r l t)

  pub same_length : length (received s side bytes sheet ts l).answer.table.slots ≡ length l
  same_length = answer-holds (λ _ l'. length l' ≡ length l) (λ n q e. refl) (λ f w g t r. stays-long (table_of s) f r l)

  -- There are as many tally rows as before.
  pub same_rows : length (received s side bytes sheet ts l).tallies ≡ length ts
  same_rows = go (ways s side bytes sheet ts l)
    where
      go : {x : Effect} → Way s side bytes sheet ts l x → length x.tallies ≡ length ts
      go (stops w) = refl
      go (judges h place n w e) =
          let f = frame_from side h in
          let p = take n (drop place bytes) in
          ap length (frame-rows s f p (place + n) sheet ts l) ∙ length-set ts _ _

-- ---- a release

-- its number and records
told-holds : (P : ℕ → List Call → Type 0) (n q : ℕ) (l : List Call) → P n l → P (release_answer n q l).number (release_answer n q l).table.slots
unfolding release_answer
told-holds P n q l h = h

module _ (s : List ℕ) (l : List Call) (id : ℕ) (ts : List Tally) where
  abbrev releasing : Rise
  releasing = release_rise l (judge_release id l)

  release-number : (n : ℕ) → (release id n l).number ≡ number_after (judge_release id l) n
  unfolding release
  release-number n = refl

  -- What holds of the number, the records and the row of method m where it stops at a fault of the tables, and of every release that is judged.
  pub release-holds-row : (m : ℕ) (P : ℕ → List Call → Tally → Type 0) → ((n q : ℕ) → Unready s l (length ts) n q → P n l (row_for ts m))
      → (TablesReady s l (length ts) → (n : ℕ) → ends_call n ≡ false → let x = release id n l in P x.number x.slots (row_after m (release_rise l (judge_release id l)) x.number (row_for ts m)))
      → let a = released s l id ts in P a.answer.number a.answer.table.slots (row_for a.tallies m)
  release-holds-row m P stop step = go (release-ways s l id ts)
    where
      go : {x : ReleaseEffect} → ReleaseWay s l id ts x → P x.answer.number x.answer.table.slots (row_for x.tallies m)
      go (unready {n} {q} w) = told-holds (λ k l'. P k l' (row_for ts m)) n q l (stop n q w)
      go (releases w) =
          let n = released_number s l id ts in
          let x = release id n l in
          let row : row_for (rows_with ts releasing n) m ≡ row_after m releasing x.number (row_for ts m) =
          rows-with ts releasing n (among s l ts w releasing (release-known (table_of s) l w.calls_good id)) m
          ∙ by_number m releasing (number_after (judge_release id l) n) n (row_for ts m) (release_figure l (judge_release id l) n)
          ∙ ap (λ (k : ℕ). row_after m releasing k (row_for ts m)) (sym (release-number n)) in
          rw row
          (told-holds (λ k l'. P k l' (row_after m releasing x.number (row_for ts m))) x.number 0 x.slots (step w n (number-spares s l id ts)))

  -- The same of the number and the records.
  pub release-holds : (P : ℕ → List Call → Type 0) → ((n q : ℕ) → Unready s l (length ts) n q → P n l)
      → (IsGood s → good_table (table_of s) l ≡ true → (n : ℕ) → ends_call n ≡ false → P (release id n l).number (release id n l).slots)
      → let a = released s l id ts in P a.answer.number a.answer.table.slots
  release-holds P stop step =
      release-holds-row 0 (λ n l' _. P n l') stop (λ w n k. step w.schema_good (good-test (table_of s) l w.calls_good) n k)

  pub release-good : good_table (table_of s) l ≡ true → good_table (table_of s) (released s l id ts).answer.table.slots ≡ true
  release-good good = release-holds (λ _ l'. good_table (table_of s) l' ≡ true) (λ n q e. good) (λ g t n k. release-test (table_of s) id n l t)

  pub release_length : length (released s l id ts).answer.table.slots ≡ length l
  release_length = release-holds (λ _ l'. length l' ≡ length l) (λ n q e. refl) (λ g t n k. release-long id n l)

  pub release-rows : length (released s l id ts).tallies ≡ length ts
  release-rows = go (release-ways s l id ts)
    where
      go : {x : ReleaseEffect} → ReleaseWay s l id ts x → length x.tallies ≡ length ts
      go (unready w) = refl
      go (releases w) = length-set ts _ _
