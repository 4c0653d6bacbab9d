-- Histories of frames and releases from any good call table and tally rows: it stays good, each record reflects what was answered to its call's events, and
-- the answer to a frame and to a release is the one by the rules.
use Rattle.std.specs.Prelude.{None, Option, Some}
use mathlib.Core.Path.{◌≡◌, refl, sym, ◌∙◌, ap, subst}
use mathlib.Core.Logic.{◌↔◌, ◌⊎◌, inl, inr, ⊎_elim}
use mathlib.Core.Bool.{Bool, true, false, cond, ◌||◌}
use mathlib.Core.List.{List, [], ◌∷◌}
use Prim.Native.Nat.{ℕ, ◌+◌, ◌≤◌}
use native.Mathlib.Omega.{arith}
use lib.Dec.{eqb, lit≤}
use lib.ListN.{length, take, drop, length-replicate}
use borrow.Author.Tests.{eqb-true, eqb-false, eq-eqb, ne_eqb}
use Rattle.wire.proofs.Cases.{differ}
use Rattle.schema.specs.Table.{Table}
use Rattle.schema.specs.File.{table_of}
use Rattle.schema.specs.Check.{IsGood}
use Rattle.schema.proofs.Bools.{cases, clash, is_false, or_cases}
use Rattle.schema.proofs.Goods.{good-table}
use Rattle.frame.specs.FrameRead.{FrameRead, More, Frame as Whole, Refused}
use Rattle.frame.specs.Frame.{frame_of, read_used}
use Rattle.frame.proofs.Faults.{refused-iff, more-iff}
use Rattle.calls.specs.declared.Call.{Call}
use Rattle.calls.specs.declared.Frame.{Frame}
use Rattle.calls.specs.declared.Tally.{Tally}
use Rattle.calls.specs.declared.Figure.{Figure}
use Rattle.calls.specs.declared.Figure.TheVariants.{Nothing as NoFigure}
use Rattle.calls.specs.declared.Rise.{Rise}
use Rattle.calls.specs.Judged.{Judged}
use Rattle.calls.specs.Judged.{Refused as JudgedRefused, Opens, Goes}
use Rattle.calls.specs.declared.Payload.TheVariants.{Struct, Empty, Unread}
use Rattle.calls.specs.Record.{empty_call, is_call}
use Rattle.calls.specs.Slots.{slot, count_open, good_table, contains, own_of, full}
use Rattle.calls.specs.Judge.{right_side, judge_of, judge_release, Verdict, stop, goes, release_verdict}
use Rattle.calls.specs.Step.{Afterwards, due_of}
use Rattle.connection.specs.Step.{fresh_table, step_of}
use Rattle.calls.specs.Counting.{no_tally, no_rise, rise_of, release_rise, figure_by, full_at, counted_number}
use Rattle.calls.specs.Good.{GoodCalls}
use Rattle.calls.specs.Numbers as numbers
use Rattle.calls.specs.Numbers.{ends_call, uses_frame}
use Rattle.calls.specs.Order as rules
use Rattle.calls.specs.Belongs as belongs
use Rattle.calls.specs.Event as calls
use Rattle.calls.specs.Step as calls-step
use Rattle.calls.specs.Apart.{verdict, verdict_number, verdict_release_rise, Cause, released as released-call, Freed, EndsCancelled, its_error, its_release}
use Rattle.calls.specs.Figures.{event_as, method_in}
use Rattle.calls.specs.Order.{cancelled, Elements, Past, closed, since, Lawful, Heard, after, past_of, Ruling, refused, comes, Ruled, Crosses, method_named, same, dropped, Releases, Reflects, nothing, call, PastIn}
use Rattle.calls.proofs.Goodness.{fresh-good, good-clauses, good-test}
use Rattle.calls.specs.Limits.{FewIn}
use Rattle.calls.proofs.Limits.{few-stays, few-released, few-wide, few-fresh}
use Rattle.calls.proofs.Apart.{judged-by, full_is, release-answered, cancelled-freed as step-freed}
use Rattle.calls.proofs.Rises.{no_figure, release-rise-by}
use Rattle.calls.proofs.Counted.{full-iff, full_not}
use Rattle.calls.proofs.Ordered.{ruling_of, CountsAs, ruled, own-reflects, rises_as, release-reflects}
use Rattle.calls.proofs.Pasts.{some-past}
use Rattle.calls.proofs.Used.{uses-iff, not_ending}
use Rattle.calls.proofs.Once.{may_not, ruled-once, release-once}
use Rattle.reader.specs.Reading.{Shown, Refused as Failed}
use Rattle.reader.specs.Entry.{Outcome, outcome, read_outcome}
use Rattle.receiver.specs.Answer.{Effect, in_row, empty_read, payload_read, number_in, tallied, used_of}
use Rattle.receiver.specs.Planning.{frame_from}
use Rattle.receiver.specs.Receive.{answered as answered_by, frame_settled, frame_effect, received}
use Rattle.receiver.specs.Release.{ReleaseEffect, release_answer, released}
use Rattle.receiver.specs.Claims.{Front, payload_in, TablesReady, row_for, Stops, frame_fault, needs_more, Nothing}
use Rattle.receiver.specs.Order.{Said, said, said_by, Answered, stops, value, empty, surplus, error, Counted, full_tally, rises, ByRules, ReleasedAs, refused_release, full_release, released_now, Reflected}
use Rattle.receiver.specs.Run.{Input, Event, input, release, State, state_after, event_number, Happens, frame, releases, frame_heard, heard_in, state_from, heard_from}
use Rattle.receiver.specs.Run.{calls_after, rows_after, answer_after, full_after, past_in, RoomAfter, fresh_tallies, fresh_state}
use Rattle.receiver.proofs.Kept.{frame_rise, reading_of, stop-holds, frame-holds, answer-holds as Holds-after, stays-good, same_length, same_rows, release-holds, release-good, release_length, release-rows}
use Rattle.receiver.proofs.Records.{front-once, others-kept, freed as frame-freed, refused-kept}
use Rattle.receiver.proofs.Answers.{used-by-number, refused-untouched, refused-rows}
use Rattle.receiver.proofs.Releases.{others-kept as release-others, freed as release-freed}
use Rattle.receiver.proofs.Ways.{front-is, front_of, Way, stops as way-stops, judges as way-judges, ways, stops-early, judged, released_number, release_judged, number-spares, release-judged}

-- ---- the call table of a history

-- one event
event-good : (s : List ℕ) (e : Event) (st : State) → good_table (table_of s) st.calls ≡ true → good_table (table_of s) (state_after s e st).calls ≡ true
event-good s (input i) st g = stays-good s i.side i.bytes i.sheet st.tallies st.calls g
event-good s (release id) st g = release-good s st.calls id st.tallies g

event-length : (s : List ℕ) (e : Event) (st : State) → length (state_after s e st).calls ≡ length st.calls
event-length s (input i) st = same_length s i.side i.bytes i.sheet st.tallies st.calls
event-length s (release id) st = release_length s st.calls id st.tallies

event-rows : (s : List ℕ) (e : Event) (st : State) → length (state_after s e st).tallies ≡ length st.tallies
event-rows s (input i) st = same_rows s i.side i.bytes i.sheet st.tallies st.calls
event-rows s (release id) st = release-rows s st.calls id st.tallies

-- After any history from a good call table it is good: 15 never comes.
pub run-good : (s : List ℕ) (st : State) → good_table (table_of s) st.calls ≡ true → (es : List Event) → good_table (table_of s) (state_from s st es).calls ≡ true
unfolding state_from
run-good s st g [] = g
run-good s st g (e ∷ es) = event-good s e (state_from s st es) (run-good s st g es)

-- It has as many slots as before, and as many tally rows: 19 never comes.
pub run_long : (s : List ℕ) (st : State) (es : List Event) → length (state_from s st es).calls ≡ length st.calls
unfolding state_from
run_long s st [] = refl
run_long s st (e ∷ es) = event-length s e (state_from s st es) ∙ run_long s st es

pub run-rows : (s : List ℕ) (st : State) (es : List Event) → length (state_from s st es).tallies ≡ length st.tallies
unfolding state_from
run-rows s st [] = refl
run-rows s st (e ∷ es) = event-rows s e (state_from s st es) ∙ run-rows s st es

-- No record counts more than 65,535 elements either way after a history where none does at its start, as from a fresh one.
event-few : (s : List ℕ) (e : Event) (st : State) → FewIn 65535 st.calls → FewIn 65535 (state_after s e st).calls
event-few s (input i) st h =
    Holds-after s i.side i.bytes i.sheet st.tallies st.calls (λ _ l. FewIn 65535 l) (λ n q e. h) (λ f w g t r. few-stays (table_of s) f r st.calls h)
event-few s (release id) st h = release-holds s st.calls id st.tallies (λ _ l. FewIn 65535 l) (λ n q e. h) (λ g t n k. few-released id n st.calls h)

pub run-few : (s : List ℕ) (st : State) → FewIn 65535 st.calls → (es : List Event) → FewIn 65535 (calls_after s st es)
unfolding state_from
run-few s st h [] = h
run-few s st h (e ∷ es) = event-few s e (state_from s st es) (run-few s st h es)

pub fresh-few : (T : Table) → FewIn 65535 (fresh_state T).calls
fresh-few T = few-wide 0 65535 fresh_table.slots (lit≤ tt) few-fresh

-- A slot is freed only by a payload refusal, the completion of the call, ERROR, or the release of a cancelled call, each its own.
pub freed : (s : List ℕ) (st : State) (e : Event) (i : ℕ) → (slot st.calls i).«open» ≡ true → (slot (state_after s e st).calls i).«open» ≡ false
    → (x : calls.Event) × Happens e x × Freed (table_of s) x (event_number s e st) (slot st.calls i)
freed s st (input i) k o z =
    let w = frame-freed s i.side i.bytes i.sheet st.tallies st.calls k o z in (calls.frame w.0, frame i w.0 w.1, w.2)
freed s st (release id) k o z = (calls.release id, releases id, release-freed s st.calls id st.tallies k o z)

-- ---- a cancelled call
any-bytes : (s : List ℕ) (f : Frame) (payload sheet : List ℕ) (ts : List Tally) (l : List Call) → ends_call (reading_of s f payload sheet ts l Unread) ≡ false
unfolding payload_read ends_call
any-bytes s f payload sheet ts l = go (full_at (row_for ts (frame_rise s f l).row) (figure_by (frame_rise s f l) 0))
  where
    go : (b : Bool) → ends_call (number_in (cond b (outcome (Failed 18 0) sheet) (outcome (Shown 0 0 0 0) sheet))) ≡ false
    go true = refl
    go false = refl

error-frees : (s : List ℕ) (side : ℕ) (bytes sheet : List ℕ) (ts : List Tally) (l : List Call) (k : ℕ) → (slot l k).«open» ≡ true → (slot l k).cancelled ≡ true
    → let a = received s side bytes sheet ts l in (slot a.answer.table.slots k).«open» ≡ false
    → (f : Frame) × Front side bytes f × (is_call f.correlation (slot l k) ≡ true) × (f.kind ≡ 7) × (a.answer.number ≡ 0)
error-frees s side bytes sheet ts l k o late = go (ways s side bytes sheet ts l)
  where
    Told : ℕ → List Call → Type 0
    Told n l' = (slot l' k).«open» ≡ false → (f : Frame) × Front side bytes f × (is_call f.correlation (slot l k) ≡ true) × (f.kind ≡ 7) × (n ≡ 0)

    go : {x : Effect} → Way s side bytes sheet ts l x → Told x.answer.number x.answer.table.slots
    go (way-stops {n} {q} w) = stop-holds Told l n q (λ z. clash (slot l k).«open» o z)
    go (way-judges h place n r e) =
        let f = frame_from side h in
        let p = take n (drop place bytes) in
        frame-holds s f p (place + n) sheet ts l Told
        (λ z. let w = step-freed (table_of s) f l k o late (reading_of s f p sheet ts l) (any-bytes s f p sheet ts l) z in
        (f, front_of side bytes h place n e, w.0, w.1, w.2))

-- Only its ERROR, accepted, or its release frees the slot of a cancelled call.
pub cancelled-freed : (s : List ℕ) (st : State) (e : Event) (i : ℕ) → (slot st.calls i).«open» ≡ true → (slot st.calls i).cancelled ≡ true
    → (slot (state_after s e st).calls i).«open» ≡ false
    → (x : calls.Event) × Happens e x × (is_call (calls.identifier x) (slot st.calls i) ≡ true) × EndsCancelled x (event_number s e st)
cancelled-freed s st (input i) k o late z =
    let w = error-frees s i.side i.bytes i.sheet st.tallies st.calls k o late z in
    (calls.frame w.0, frame i w.0 w.1, w.2, rw w.4 (its_error w.0 w.3))
cancelled-freed s st (release id) k o late z =
    let w = release-freed s st.calls id st.tallies k o z in (calls.release id, releases id, w.is_own, rw (by-release w.cause) (its_release id))
  where
    by-release : {c : Call} {n : ℕ} → Cause (table_of s) c (calls.release id) n → n ≡ 0
    by-release (released-call _ _) = refl

-- ---- where a history starts

-- A fresh start stands with no call open.
pub fresh-stands : (T : Table) → Reflected T fresh_table.slots (fresh_tallies T) (λ _. closed)
unfolding own_of fresh_tallies
fresh-stands T =
    record {
      slots = refl;
      good = good-clauses T fresh_table.slots (fresh-good T);
      reflects = λ id. nothing;
      rows = length-replicate (length T.methods) no_tally;
    }

-- So does every good table of 128 slots with as many tally rows as methods, with pasts that the rules allow.
pub good-stands : (s : List ℕ) → IsGood s → (l : List Call) (ts : List Tally) → length l ≡ 128 → GoodCalls (table_of s) l → length ts ≡ length (table_of s).methods →
    (past : ℕ → Past) × ((id : ℕ) → Lawful (table_of s) (past id)) × Reflected (table_of s) l ts past
good-stands s g l ts n w k =
    let Some : (id : ℕ) → PastIn (table_of s) l id = some-past (table_of s) (good-table s g) l w in
    (λ id. (Some id).past, λ id. (Some id).lawful, record { slots = n; good = w; reflects = λ id. (Some id).reflects; rows = k })

-- ---- the answer by what the rules say of a frame

no_bytes : (p : List ℕ) → length p ≡ 0 → p ≡ []
no_bytes [] e = refl
no_bytes (x ∷ xs) e = absurd (omega arith)

-- where nothing belongs
empty-answers : (s sheet p : List ℕ) → Answered s p sheet (comes Empty) (said_by (outcome (empty_read p) sheet))
empty-answers s sheet [] = empty refl
empty-answers s sheet (x ∷ xs) = rw (ne_eqb (length (x ∷ xs)) 0 (λ e. omega arith)) (surplus (λ e. omega (arith, ap length e)))

module _ (s payload sheet : List ℕ) (g : IsGood s) where
  -- as a function
  abbrev answer_by : Ruling → Said
  answer_by (refused n) = said_by (outcome (Failed n 0) sheet)
  answer_by (comes d) = said_by (payload_read s d payload sheet)

  read_is : (t : ℕ) → read_outcome s t payload sheet ≡ payload_read s (Struct t) payload sheet
  unfolding read_outcome payload_read
  read_is t = rw g

  answers : (r : Ruling) → Answered s payload sheet r (answer_by r)
  unfolding payload_read
  answers (refused n) = stops n
  answers (comes (Struct t)) = subst (λ (o : Outcome). Answered s payload sheet (comes (Struct t)) (said_by o)) (read_is t) (value t)
  answers (comes Empty) = empty-answers s sheet payload
  answers (comes Unread) = error

  -- no other is answered
  only-answer : {r : Ruling} {x : Said} → Answered s payload sheet r x → answer_by r ≡ x
  unfolding payload_read
  only-answer (stops n) = refl
  only-answer (value t) = ap said_by (sym (read_is t))
  only-answer (empty e) = rw e
  only-answer (surplus h) = rw (ne_eqb (length payload) 0 (λ e. h (no_bytes payload e)))
  only-answer error = refl

  -- with the tally that would rise
  abbrev tally_said : Tally → Rise → Said → Said
  tally_said t r x = cond (full_at t (figure_by r x.numbers.number)) (said_by (outcome (Failed 18 0) sheet)) x

  said-tallied : (t : Tally) (r : Rise) (o : Outcome) → said_by (tallied t r sheet o) ≡ tally_said t r (said_by o)
  said-tallied t r o = go (full_at t (figure_by r (number_in o)))
    where
      go : (b : Bool) → said_by (cond b (outcome (Failed 18 0) sheet) o) ≡ cond b (said_by (outcome (Failed 18 0) sheet)) (said_by o)
      go true = refl
      go false = refl

  not_full : (t : Tally) (n : ℕ) → full_at t (figure_by no_rise n) ≡ false
  not_full t n = ap (full_at t) (no_figure n)

  -- the answer to a judged frame
  judged-said : (kind size : ℕ) (ts : List Tally) (l : List Call) (J : Judged) → let r = rise_of kind l J in let t = row_for ts r.row in
      said (in_row ts r.row (answered_by size l J r t (tallied t r sheet (payload_read s (due_of J) payload sheet)))) ≡ tally_said t r (answer_by (ruling_of (verdict J)))
  unfolding step_of payload_read rise_of
  judged-said kind size ts l (JudgedRefused n) = rw (not_full (row_for ts 0) 0, not_full (row_for ts 0) n)
  judged-said kind size ts l (Opens j c d) =
      let r = rise_of kind l (Opens j c d) in said-tallied (row_for ts r.row) r (payload_read s d payload sheet)
  judged-said kind size ts l (Goes i c d) =
      let r = rise_of kind l (Goes i c d) in said-tallied (row_for ts r.row) r (payload_read s d payload sheet)

  -- its number before the tally
  told-number : (f : Frame) (l : List Call) → (calls-step.receive (table_of s) f (λ d. number_in (payload_read s d payload sheet)) l).number
      ≡ (answer_by (ruling_of (verdict (judge_of (table_of s) f l)))).numbers.number
  unfolding calls-step.receive step_of payload_read
  told-number f l = go (judge_of (table_of s) f l)
    where
      go : (J : Judged) → (step_of J (number_in (payload_read s (due_of J) payload sheet)) l).number ≡ (answer_by (ruling_of (verdict J))).numbers.number
      go (JudgedRefused n) = refl
      go (Opens j c d) = refl
      go (Goes i c d) = refl

-- what rises by the past and by the record
module _ (T : Table) (f : Frame) (past : Past) (ts : List Tally) (sheet : List ℕ) (r : Rise) (x : Said) (w : CountsAs T (calls.frame f) past r x.numbers.number) where
  abbrev fig : Figure
  fig = figure_by r x.numbers.number

  abbrev full-now : Bool
  full-now = full_at (row_for ts r.row) fig

  abbrev answer_now : Said
  answer_now = cond full-now (said_by (outcome (Failed 18 0) sheet)) x

  nothing-full : (t : Tally) → fig ≡ NoFigure → full_at t fig ≡ false
  nothing-full t e = ap (full_at t) e

  abbrev counts_as : Figure
  counts_as = event_as T (calls.frame f) x.numbers.number past

  -- a method that the past names is the row's
  in_row_lem : (m : ℕ) → method_in T (calls.frame f) past ≡ Some m → full_at (row_for ts m) (event_as T (calls.frame f) x.numbers.number past) ≡ full-now
  in_row_lem m e =
      ap (full_at (row_for ts m)) w.0
      ∙ ⊎_elim
      (λ z. nothing-full (row_for ts m) z ∙ sym (nothing-full (row_for ts r.row) z))
      (λ k. let same : m ≡ r.row = cc (sym e ∙ k) in ap (λ (n : ℕ). full_at (row_for ts n) fig) same)
      w.1

  counted-by : Counted T f past ts sheet x answer_now
  counted-by = go full-now refl
    where
      go : (b : Bool) → full-now ≡ b → Counted T f past ts sheet x (cond b (said_by (outcome (Failed 18 0) sheet)) x)
      go true e =
          ⊎_elim
          (λ z. clash full-now e (nothing-full (row_for ts r.row) z))
          (λ k. full_tally r.row k ((full-iff (row_for ts r.row) counts_as).0 (in_row_lem r.row k ∙ e)))
          w.1
      go false e = rises (λ m k. full_not (row_for ts m) counts_as (in_row_lem m k ∙ e))

  only-counted : {y : Said} → Counted T f past ts sheet x y → answer_now ≡ y
  only-counted (full_tally m e h) = rw (sym (in_row_lem m e) ∙ (full-iff (row_for ts m) counts_as).1 h)
  only-counted (rises h) =
      ap (λ (b : Bool). cond b (said_by (outcome (Failed 18 0) sheet)) x)
      (⊎_elim (λ z. nothing-full (row_for ts r.row) z)
      (λ k. is_false full-now (λ t. h r.row k ((full-iff (row_for ts r.row) counts_as).0 (in_row_lem r.row k ∙ t)))) w.1)

-- ---- one frame

module _ (s : List ℕ) (g : IsGood s) (l : List Call) (ts : List Tally) (k : GoodCalls (table_of s) l) (rowed : length ts ≡ length (table_of s).methods) where
  abbrev ready : TablesReady s l (length ts)
  ready = record { schema_good = g; calls_good = k; rows_right_of = rowed }

  module _ (side : ℕ) (bytes sheet : List ℕ) (f : Frame) (w : Front side bytes f) where
    -- under good tables the frame at the front is judged
    pub front-judged : received s side bytes sheet ts l ≡ frame_effect s f (payload_in w) (w.place + w.size) sheet ts l
    front-judged =
        judged s side bytes sheet ts l w.header w.place w.size ready w.whole
        ∙ ap (λ (x : Frame). frame_effect s x (payload_in w) (w.place + w.size) sheet ts l) (sym (front-is w))

    abbrev by_ruling : Said
    by_ruling = answer_by s (payload_in w) sheet g (ruling_of (verdict (judge_of (table_of s) f l)))

    front-said : said (received s side bytes sheet ts l) ≡ tally_said s (payload_in w) sheet g (row_for ts (frame_rise s f l).row) (frame_rise s f l) by_ruling
    unfolding frame_effect frame_settled
    front-said = rw front-judged (judged-said s (payload_in w) sheet g f.kind (w.place + w.size) ts l (judge_of (table_of s) f l))

    module _ (past : Past) (r : Reflects past (own_of f.correlation l)) where
      -- the own record afterwards reflects the past afterwards
      front-reflects : let a = received s side bytes sheet ts l in
          Reflects (after (table_of s) (record { event = calls.frame f; number = a.answer.number }) past) (own_of f.correlation a.answer.table.slots)
      front-reflects =
          let T = table_of s in
          rw front-judged
          (frame-holds s f (payload_in w) (w.place + w.size) sheet ts l
          (λ n l'. Reflects (after T (record { event = calls.frame f; number = n }) past) (own_of f.correlation l'))
          (own-reflects T (good-table s g) l k f past r (reading_of s f (payload_in w) sheet ts l)))

      -- what rises is what the frame counts as
      pub front-counts : CountsAs (table_of s) (calls.frame f) past (frame_rise s f l) (received s side bytes sheet ts l).answer.number
      front-counts =
          rw front-judged
          (frame-holds s f (payload_in w) (w.place + w.size) sheet ts l (λ n _. CountsAs (table_of s) (calls.frame f) past (frame_rise s f l) n)
          (rises_as (table_of s) (good-table s g) l k f past r (reading_of s f (payload_in w) sheet ts l)))

      -- before the tally too
      ruling-counts : CountsAs (table_of s) (calls.frame f) past (frame_rise s f l) by_ruling.numbers.number
      ruling-counts =
          subst (CountsAs (table_of s) (calls.frame f) past (frame_rise s f l)) (told-number s (payload_in w) sheet g f l)
          (rises_as (table_of s) (good-table s g) l k f past r (λ d. number_in (payload_read s d (payload_in w) sheet)))

      -- the answer is the one by the rules
      front-rules : length l ≡ 128 → (x : Said) →
          (said (received s side bytes sheet ts l) ≡ x) ↔ ByRules s (payload_in w) sheet f (eqb (count_open l) 128) past ts x
      front-rules n x = (there, back)
        where
          T : Table
          T = table_of s

          ruling : Ruling
          ruling = ruling_of (verdict (judge_of T f l))

          by-past : Ruled T f (eqb (count_open l) 128) past ruling
          by-past =
              let room : full l ≡ eqb (count_open l) 128 = full_is l ∙ ap (eqb (count_open l)) n in
              subst (λ (b : Bool). Ruled T f b past ruling) room (rw (judged-by T f l) (ruled T (good-table s g) l k f past r))

          counted : Counted T f past ts sheet by_ruling (answer_now T f past ts sheet (frame_rise s f l) by_ruling ruling-counts)
          counted = counted-by T f past ts sheet (frame_rise s f l) by_ruling ruling-counts

          there : said (received s side bytes sheet ts l) ≡ x → ByRules s (payload_in w) sheet f (eqb (count_open l) 128) past ts x
          there e =
              record {
                ruling = ruling;
                ruled = by-past;
                payload_said = by_ruling;
                answered = answers s (payload_in w) sheet g ruling;
                counted = subst (Counted T f past ts sheet by_ruling) (sym front-said ∙ e) counted;
              }

          back : ByRules s (payload_in w) sheet f (eqb (count_open l) 128) past ts x → said (received s side bytes sheet ts l) ≡ x
          back b =
              let same : by_ruling ≡ b.payload_said =
              ap (answer_by s (payload_in w) sheet g) (ruled-once T f (eqb (count_open l) 128) past ruling b.ruling by-past b.ruled)
              ∙ only-answer s (payload_in w) sheet g b.answered in
              front-said
              ∙ only-counted T f past ts sheet (frame_rise s f l) by_ruling ruling-counts
              (subst (λ (y : Said). Counted T f past ts sheet y x) (sym same) b.counted)

-- ---- one release

-- by the past and the row of the call's method
abbrev release_by : List Tally → Past → ℕ
release_by ts closed = 11
release_by ts (since m b h) = cond (cancelled h) (cond (eqb (row_for ts m).cancelled 4294967295) 18 0) 14

as_ruled : (ts : List Tally) (past : Past) → ReleasedAs ts past (release_by ts past)
as_ruled ts closed = refused_release rules.no_call (λ z. omega arith)
as_ruled ts (since m b h) = go (cancelled h) refl (eqb (row_for ts m).cancelled 4294967295) refl
  where
    go : (x : Bool) → cancelled h ≡ x → (y : Bool) → eqb (row_for ts m).cancelled 4294967295 ≡ y → ReleasedAs ts (since m b h) (cond x (cond y 18 0) 14)
    go true e true q = full_release m b h refl (rules.released m b h e) (eqb-true (row_for ts m).cancelled 4294967295 q)
    go true e false q = released_now m b h refl (rules.released m b h e) (eqb-false (row_for ts m).cancelled 4294967295 q)
    go false e y q = refused_release (rules.not_cancelled m b h e) (λ z. omega arith)

-- a released call was cancelled
was-cancelled : {m : ℕ} {b : Elements} {h : List ℕ} {n : ℕ} → Releases (since m b h) n → n ≡ 0 → cancelled h ≡ true
was-cancelled (rules.not_cancelled _ _ _ t) z = absurd (omega arith)
was-cancelled (rules.released _ _ _ t) z = t

only-released : (ts : List Tally) (past : Past) (n : ℕ) → ReleasedAs ts past n → release_by ts past ≡ n
only-released ts closed n (refused_release w z) = release-once closed 11 n rules.no_call w
only-released ts closed n (full_release m b h e w q) = differ cc
only-released ts closed n (released_now m b h e w q) = differ cc
only-released ts (since m b h) n (refused_release w z) = go w z
  where
    go : {k : ℕ} → Releases (since m b h) k → (k ≡ 0 → ⊥) → release_by ts (since m b h) ≡ k
    go (rules.not_cancelled _ _ _ t) z = rw t
    go (rules.released _ _ _ t) z = absurd (z refl)
only-released ts (since m b h) n (full_release m' b' h' e w q) =
    let same : m ≡ m' = cc in
    rw (was-cancelled w refl, eq-eqb (row_for ts m).cancelled 4294967295 (ap (λ (k : ℕ). (row_for ts k).cancelled) same ∙ q))
only-released ts (since m b h) n (released_now m' b' h' e w q) =
    let same : m ≡ m' = cc in
    rw (was-cancelled w refl, ne_eqb (row_for ts m).cancelled 4294967295 (λ z. q (ap (λ (k : ℕ). (row_for ts k).cancelled) (sym same) ∙ z)))

-- by the own record
released-is : (ts : List Tally) (past : Past) (own : Option Call) → Reflects past own → let r = verdict_release_rise own (release_verdict own) in
    verdict_number (release_verdict own) (counted_number (row_for ts r.row) r 0) ≡ release_by ts past
unfolding figure_by
released-is ts closed None nothing = refl
released-is ts closed (Some c) r = elim r [ ]
released-is ts (since m b h) None r = elim r [ ]
released-is ts (since m b h) (Some c) (call _ _ _ _ w) =
    ap (λ (x : Bool). number_of-release x) w.is_cancelled ∙ go (cancelled h)
  where
    number_of-release : Bool → ℕ
    number_of-release x =
        let v : Verdict = cond x (goes empty_call Unread) (stop 14) in
        let r = verdict_release_rise (Some c) v in
        verdict_number v (counted_number (row_for ts r.row) r 0)

    go : (x : Bool) → number_of-release x ≡ cond x (cond (eqb (row_for ts m).cancelled 4294967295) 18 0) 14
    go true = ap (λ (k : ℕ). cond (eqb (row_for ts k).cancelled 4294967295) 18 0) w.method
    go false = refl

module _ (s : List ℕ) (g : IsGood s) (l : List Call) (ts : List Tally) (k : GoodCalls (table_of s) l) (rowed : length ts ≡ length (table_of s).methods) (id : ℕ) where
  told-number-of : (n q : ℕ) (l' : List Call) → (release_answer n q l').number ≡ n
  unfolding release_answer
  told-number-of n q l' = refl

  told-slots : (n q : ℕ) (l' : List Call) → (release_answer n q l').table.slots ≡ l'
  unfolding release_answer
  told-slots n q l' = refl

  abbrev n₀ : ℕ
  n₀ = released_number s l id ts

  abbrev x₀ : Afterwards
  x₀ = calls-step.release id n₀ l

  pub judged-release : released s l id ts ≡ release_judged s l id ts
  judged-release = release-judged s l id ts (record { schema_good = g; calls_good = k; rows_right_of = rowed })

  pub number-told : (released s l id ts).answer.number ≡ x₀.number
  number-told = ap (λ (a : ReleaseEffect). a.answer.number) judged-release ∙ told-number-of x₀.number 0 x₀.slots

  module _ (past : Past) (r : Reflects past (own_of id l)) where
    own-released : let a = (released s l id ts).answer in
        Reflects (after (table_of s) (record { event = calls.release id; number = a.number }) past) (own_of id a.table.slots)
    own-released =
        rw (judged-release, told-number-of x₀.number 0 x₀.slots, told-slots x₀.number 0 x₀.slots)
        (release-reflects (table_of s) (good-table s g) l k id past r n₀ (number-spares s l id ts))

    release-rules : (n : ℕ) → ((released s l id ts).answer.number ≡ n) ↔ ReleasedAs ts past n
    release-rules n =
        let rise : release_rise l (judge_release id l) ≡ verdict_release_rise (own_of id l) (release_verdict (own_of id l)) = release-rise-by id l in
        let e : (released s l id ts).answer.number ≡ release_by ts past =
        number-told
        ∙ release-answered id n₀ l
        ∙ ap (λ (y : Rise). verdict_number (release_verdict (own_of id l)) (counted_number (row_for ts y.row) y 0)) rise
        ∙ released-is ts past (own_of id l) r in
        (λ q. subst (ReleasedAs ts past) (sym e ∙ q) (as_ruled ts past), λ v. e ∙ only-released ts past n v)

-- 8 to 17 end no call, and raise nothing
call-keeps : (n : ℕ) → 8 ≤ n → n ≤ 17 → ends_call n ≡ false
call-keeps n low high = not_ending n none-ends
  where
    apart : {k : ℕ} → numbers.EndsCall k → (20 ≤ k) ⊎ (k ≡ 31)
    apart (numbers.payload a b) = inl a
    apart numbers.many-pairs = inr refl

    none-ends : numbers.EndsCall n → ⊥
    none-ends w = ⊎_elim (λ a. omega (arith, a, high)) (λ e. omega (arith, e, high)) (apart w)

call-raises : (T : Table) (f : Frame) (past : Past) (t : Tally) (n : ℕ) → 8 ≤ n → n ≤ 17 → full_at t (event_as T (calls.frame f) n past) ≡ false
call-raises T f past t n low high = rw (ne_eqb n 0 (λ z. omega (arith, low, z)), call-keeps n low high)

-- ---- a history

-- the client's kinds but INVOKE
one_of_three : (P : ℕ → Type 0) → P 2 → P 3 → P 8 → (k : ℕ) → contains k (2 ∷ 3 ∷ 8 ∷ []) ≡ true → P k
one_of_three P a b c k t =
    ⊎_elim (λ q. subst P (eqb-true 2 k q) a)
    (λ r. ⊎_elim (λ q. subst P (eqb-true 3 k q) b)
    (λ u. ⊎_elim (λ q. subst P (eqb-true 8 k q) c) (λ v. clash false v refl) (or_cases (eqb 8 k) false u))
    (or_cases (eqb 3 k) (eqb 8 k || false) r))
    (or_cases (eqb 2 k) (eqb 3 k || (eqb 8 k || false)) t)

module _ (s : List ℕ) (g : IsGood s) (start : State) (past : ℕ → Past) (st : Reflected (table_of s) start.calls start.tallies past) where
  abbrev T : Table
  T = table_of s

  pub calls-good : (es : List Event) → GoodCalls T (calls_after s start es)
  calls-good es = good-clauses T (calls_after s start es) (run-good s start (good-test T start.calls st.good) es)

  pub rows_right : (es : List Event) → length (rows_after s start es) ≡ length T.methods
  rows_right es = run-rows s start es ∙ st.rows

  pub ready-after : (es : List Event) → TablesReady s (calls_after s start es) (length (rows_after s start es))
  ready-after es = record { schema_good = g; calls_good = calls-good es; rows_right_of = rows_right es }

  -- one event more: the past of its identifier changes, the others stay
  module _ (es : List Event) (id : ℕ) (ih : (k : ℕ) → Reflects (past_in s start past es k) (own_of k (calls_after s start es))) where
    after-own : (x : calls.Event) (n : ℕ) (l' : List Call)
        → Reflects (after T (record { event = x; number = n }) (past_in s start past es (calls.identifier x))) (own_of (calls.identifier x) l')
        → ((id ≡ calls.identifier x → ⊥) → own_of id l' ≡ own_of id (calls_after s start es))
        → Reflects (past_of T id (past id) (record { event = x; number = n } ∷ heard_from s start es)) (own_of id l')
    unfolding past_of
    after-own x n l' own others =
        let hd : Heard = record { event = x; number = n } in
        ⊎_elim
        (λ q. rw q (subst (λ (k : ℕ). Reflects (after T hd (past_in s start past es k)) (own_of k l')) (eqb-true (calls.identifier x) id q) own))
        (λ q. rw q (rw (others (λ z. eqb-false (calls.identifier x) id q (sym z))) (ih id)))
        (cases (eqb (calls.identifier x) id))

    input-more : (i : Input) → let a = answer_after s start es i in
        Reflects (past_of T id (past id) (frame_heard i.side (frame_of i.bytes) a.answer.number (heard_from s start es))) (own_of id a.answer.table.slots)
    input-more i = go (frame_of i.bytes) refl
      where
        a : Effect
        a = answer_after s start es i

        same : (n : ℕ) → Stops s i.bytes (calls_after s start es) (length (rows_after s start es)) n 0 → Reflects (past_in s start past es id) (own_of id a.answer.table.slots)
        same n e =
            rw (stops-early s i.side i.bytes i.sheet (rows_after s start es) (calls_after s start es) e)
            (stop-holds (λ _ l'. Reflects (past_in s start past es id) (own_of id l')) (calls_after s start es) n 0 (ih id))

        go : (v : FrameRead) → frame_of i.bytes ≡ v
            → Reflects (past_of T id (past id) (frame_heard i.side v a.answer.number (heard_from s start es))) (own_of id a.answer.table.slots)
        go More e = same 1 (needs_more (ready-after es) ((more-iff i.bytes).0 e))
        go (Refused n) e = same n (frame_fault (ready-after es) ((refused-iff i.bytes n).0 e))
        go (Whole h place n) e =
            let f = frame_from i.side h in
            let w = front_of i.side i.bytes h place n e in
            after-own (calls.frame f) a.answer.number a.answer.table.slots
            (front-reflects s g (calls_after s start es) (rows_after s start es) (calls-good es) (rows_right es) i.side i.bytes i.sheet f w (past_in s start past es f.correlation) (ih f.correlation))
            (λ z. others-kept s i.side i.bytes i.sheet (rows_after s start es) (calls_after s start es) id (λ x v q. z (q ∙ ap (λ (y : Frame). y.correlation) (front-once v w))))

    one_more : (e : Event) → Reflects (past_of T id (past id) (heard_in e (event_number s e (state_from s start es)) (heard_from s start es))) (own_of id (state_after s e (state_from s start es)).calls)
    one_more (input i) = input-more i
    one_more (release k) =
        let a = (released s (calls_after s start es) k (rows_after s start es)).answer in
        after-own (calls.release k) a.number a.table.slots
        (own-released s g (calls_after s start es) (rows_after s start es) (calls-good es) (rows_right es) k (past_in s start past es k) (ih k)) (release-others s (calls_after s start es) k (rows_after s start es) id)

  -- The record of each identifier reflects the kinds that were accepted for its call.
  pub reflected : (es : List Event) (id : ℕ) → Reflects (past_in s start past es id) (own_of id (calls_after s start es))
  unfolding state_from heard_from past_of
  reflected [] id = st.reflects id
  reflected (e ∷ es) id = one_more es id (reflected es) e

  -- The answer to the next frame is the one by the rules, and no other: number, place, rows, tail, comparisons and sheet.
  pub by_order : (es : List Event) (i : Input) (f : Frame) (w : Front i.side i.bytes f) (x : Said) →
      (said (answer_after s start es i) ≡ x)
      ↔ ByRules s (payload_in w) i.sheet f (full_after s start es) (past_in s start past es f.correlation) (rows_after s start es) x
  by_order es i f w x =
      front-rules s g (calls_after s start es) (rows_after s start es) (calls-good es) (rows_right es) i.side i.bytes i.sheet f w (past_in s start past es f.correlation) (reflected es f.correlation)
      (run_long s start es ∙ st.slots) x

  -- The answer to a release is the one by the rules, and no other.
  pub release-by-order : (es : List Event) (id n : ℕ) → ((released s (calls_after s start es) id (rows_after s start es)).answer.number ≡ n) ↔ ReleasedAs (rows_after s start es) (past_in s start past es id) n
  release-by-order es id n = release-rules s g (calls_after s start es) (rows_after s start es) (calls-good es) (rows_right es) id (past_in s start past es id) (reflected es id) n

  -- Where nothing belongs, a frame that may come is accepted exactly without a payload, and else refused with 29 at place 0, unless the tally that this raises is full.
  pub nothing-belongs : (es : List Event) (i : Input) (f : Frame) (w : Front i.side i.bytes f)
      → (payload_in w ≡ [] → RoomAfter s start past es f 0) → ((payload_in w ≡ [] → ⊥) → RoomAfter s start past es f 29) →
      Ruled T f (full_after s start es) (past_in s start past es f.correlation) (comes Empty) →
      let a = (answer_after s start es i).answer in
      ((a.number ≡ 0) ↔ (payload_in w ≡ [])) × ((payload_in w ≡ [] → ⊥) → (a.number ≡ 29) × (a.place ≡ 0))
  nothing-belongs es i f w room0 room29 r = ((accepted, empty-accepted), surplus-refused)
    where
      a : Effect
      a = answer_after s start es i

      says : {x : Said} → Answered s (payload_in w) i.sheet (comes Empty) x → RoomAfter s start past es f x.numbers.number → said a ≡ x
      says {x} e room =
          (by_order es i f w x).1
          (record { ruling = comes Empty; ruled = r; payload_said = x; answered = e; counted = rises room })

      empty-accepted : payload_in w ≡ [] → a.answer.number ≡ 0
      empty-accepted e = ap (λ (x : Said). x.numbers.number) (says (empty e) (room0 e))

      surplus-refused : (payload_in w ≡ [] → ⊥) → (a.answer.number ≡ 29) × (a.answer.place ≡ 0)
      surplus-refused h = (ap (λ (x : Said). x.numbers.number) (says (surplus h) (room29 h)), ap (λ (x : Said). x.numbers.place) (says (surplus h) (room29 h)))

      accepted : a.answer.number ≡ 0 → payload_in w ≡ []
      accepted z = go (payload_in w) refl
        where
          go : (p : List ℕ) → payload_in w ≡ p → payload_in w ≡ []
          go [] e = e
          go (x ∷ xs) e = absurd (omega (arith, z, (surplus-refused (λ y. omega (arith, ap length (sym e ∙ y)))).0))

  -- ---- answers that cross our cancel

  -- a frame that the rules refuse
  refused-by : (es : List Event) (i : Input) (f : Frame) (w : Front i.side i.bytes f) (n : ℕ) → 8 ≤ n → n ≤ 17
      → Ruled T f (full_after s start es) (past_in s start past es f.correlation) (refused n)
      → said (answer_after s start es i) ≡ said_by (outcome (Failed n 0) i.sheet)
  refused-by es i f w n low high r =
      (by_order es i f w (said_by (outcome (Failed n 0) i.sheet))).1
      (record {
        ruling = refused n;
        ruled = r;
        payload_said = said_by (outcome (Failed n 0) i.sheet);
        answered = stops n;
        counted = rises (λ k q. let past = past_in s start past es f.correlation in
            full_not (row_for (rows_after s start es) k) (event_as T (calls.frame f) n past) (call-raises T f past (row_for (rows_after s start es) k) n low high));
      })

  -- INVOKE of a known method on an open call's identifier, cancelled or not, is 10.
  pub invoke_open : (es : List Event) (i : Input) (f : Frame) (w : Front i.side i.bytes f) (m n : ℕ) (b : Elements) (h : List ℕ)
      → past_in s start past es f.correlation ≡ since m b h → f.side ≡ 67 → f.kind ≡ 1 → method_named T f ≡ Some n
      → (answer_after s start es i).answer.number ≡ 10
  invoke_open es i f w m n b h e side kind known =
      ap (λ (y : Said). y.numbers.number) (refused-by es i f w 10 (lit≤ tt) (lit≤ tt) (rw e (rules.already m n b h (rw (side, kind)) kind known)))

  -- A client frame of a cancelled call (IN_STREAM, IN_CLOSE, CANCEL) is 12 where its identifiers are not the call's, and else 14.
  pub client-late : (es : List Event) (i : Input) (f : Frame) (w : Front i.side i.bytes f) (m : ℕ) (b : Elements) (h : List ℕ)
      → past_in s start past es f.correlation ≡ since m b h → rules.cancelled h ≡ true → f.side ≡ 67 → contains f.kind (2 ∷ 3 ∷ 8 ∷ []) ≡ true
      → let a = (answer_after s start es i).answer in
      (same T f m ≡ false → a.number ≡ 12) × (same T f m ≡ true → a.number ≡ 14)
  client-late es i f w m b h e late side kinds = (
    λ other. told 12 (lit≤ tt) (lit≤ tt) (rw e (rules.differ m b h sent no_invoke other)),
    λ own. told 14 (lit≤ tt) (lit≤ tt) (rw e (rules.not_now m b h sent no_invoke own (may_not late no_error) (λ x. clash (right_side 83 f.kind) x.from_server client))),
  )
    where
      told : (n : ℕ) → 8 ≤ n → n ≤ 17 → Ruled T f (full_after s start es) (past_in s start past es f.correlation) (refused n)
          → (answer_after s start es i).answer.number ≡ n
      told n low high r = ap (λ (y : Said). y.numbers.number) (refused-by es i f w n low high r)

      sent : right_side f.side f.kind ≡ true
      sent = rw side (one_of_three (λ k. right_side 67 k ≡ true) refl refl refl f.kind kinds)

      client : right_side 83 f.kind ≡ false
      client = one_of_three (λ k. right_side 83 k ≡ false) refl refl refl f.kind kinds

      no_invoke : f.kind ≡ 1 → ⊥
      no_invoke = one_of_three (λ k. k ≡ 1 → ⊥) (λ z. omega arith) (λ z. omega arith) (λ z. omega arith) f.kind kinds

      no_error : f.kind ≡ 7 → ⊥
      no_error = one_of_three (λ k. k ≡ 7 → ⊥) (λ z. omega arith) (λ z. omega arith) (λ z. omega arith) f.kind kinds

  -- The server's frames of a cancelled call, ERROR aside, are dropped, payload unread, with answer 16 and all bytes used; nothing is changed.
  pub crossing-dropped : (es : List Event) (i : Input) (f : Frame) (w : Front i.side i.bytes f) (m : ℕ) (b : Elements) (h : List ℕ)
      → past_in s start past es f.correlation ≡ since m b h → right_side f.side f.kind ≡ true → same T f m ≡ true → Crosses h f.kind
      → let a = answer_after s start es i in
      (a.answer.number ≡ 16) × (a.answer.place ≡ 0) × (a.answer.used ≡ w.place + w.size) × Nothing i.sheet a × (a.answer.table.slots ≡ calls_after s start es)
      × ((k : ℕ) → row_for a.tallies k ≡ row_for (rows_after s start es) k)
  crossing-dropped es i f w m b h e side ids x = (number, place, used, untouched, unchanged, rows-unchanged)
    where
      a : Effect
      a = answer_after s start es i

      told : said a ≡ said_by (outcome (Failed 16 0) i.sheet)
      told = refused-by es i f w 16 (lit≤ tt) (lit≤ tt) (rw e (dropped m b h side ids x))

      number : a.answer.number ≡ 16
      number = ap (λ (y : Said). y.numbers.number) told

      place : a.answer.place ≡ 0
      place = ap (λ (y : Said). y.numbers.place) told

      sixteen : uses_frame 16 ≡ true
      sixteen = (uses-iff 16).1 numbers.dropped

      used : a.answer.used ≡ w.place + w.size
      used =
          used-by-number s i.side i.bytes i.sheet (rows_after s start es) (calls_after s start es)
          ∙ ap (λ (n : ℕ). used_of n (read_used (frame_of i.bytes))) number
          ∙ rw (sixteen, w.whole)

      untouched : Nothing i.sheet a
      untouched = refused-untouched s i.side i.bytes i.sheet (rows_after s start es) (calls_after s start es) (λ z. omega (arith, number, z))

      unchanged : a.answer.table.slots ≡ calls_after s start es
      unchanged = refused-kept s i.side i.bytes i.sheet (rows_after s start es) (calls_after s start es) (λ z. omega (arith, number, z)) (rw number (call-keeps 16 (lit≤ tt) (lit≤ tt)))

      rows-unchanged : (k : ℕ) → row_for a.tallies k ≡ row_for (rows_after s start es) k
      rows-unchanged k =
          ap (λ (x : List Tally). row_for x k)
          (refused-rows s i.side i.bytes i.sheet (rows_after s start es) (calls_after s start es) (λ z. omega (arith, number, z)) (rw number (call-keeps 16 (lit≤ tt) (lit≤ tt))))

  -- ERROR of a cancelled call is accepted and ends it, unless its tally is full.
  pub error-ends-cancelled : (es : List Event) (i : Input) (f : Frame) (w : Front i.side i.bytes f) (m : ℕ) (b : Elements) (h : List ℕ)
      → past_in s start past es f.correlation ≡ since m b h → RoomAfter s start past es f 0 → f.side ≡ 83 → f.kind ≡ 7 → same T f m ≡ true
      → let a = answer_after s start es i in (a.answer.number ≡ 0) × (own_of f.correlation a.answer.table.slots ≡ None)
  error-ends-cancelled es i f w m b h e spacious side kind ids = (number, ended)
    where
      a : Effect
      a = answer_after s start es i

      few : {k : ℕ} → rules.TooManyElements b h k → k ≡ 7 → ⊥
      few (rules.inputs q) z = omega arith
      few (rules.outputs q) z = omega arith

      comes-now : Ruled T f (full_after s start es) (since m b h) (comes Unread)
      comes-now =
          rules.goes m b h Unread (rw (side, kind)) (λ z. omega arith) ids (rw kind rules.error) (λ x. few x kind) (rw kind belongs.error)

      number : a.answer.number ≡ 0
      number =
          ap (λ (y : Said). y.numbers.number)
          ((by_order es i f w (said_by (outcome (Shown 0 0 0 0) i.sheet))).1
          (record {
            ruling = comes Unread;
            ruled = rw e comes-now;
            payload_said = said_by (outcome (Shown 0 0 0 0) i.sheet);
            answered = error;
            counted = rises spacious;
          }))

      closes : after T (record { event = calls.frame f; number = a.answer.number }) (past_in s start past es f.correlation) ≡ closed
      closes = rw (number, e, kind)

      ended : own_of f.correlation a.answer.table.slots ≡ None
      ended =
          no_record
          (subst (λ (p : Past). Reflects p (own_of f.correlation a.answer.table.slots)) closes
          (front-reflects s g (calls_after s start es) (rows_after s start es) (calls-good es) (rows_right es) i.side i.bytes i.sheet f w (past_in s start past es f.correlation) (reflected es f.correlation)))
        where
          no_record : {own : Option Call} → Reflects closed own → own ≡ None
          no_record nothing = refl
