-- The tally rows of a history: from a fresh start each row is the figures of what was heard, opened is the other four and the calls of that method now open,
-- and a call's counts are the elements accepted since its INVOKE; and that a frame touches the row of its call's method alone.
use Rattle.std.specs.Prelude.{None, Option, Some}
use mathlib.Core.Path.{◌≡◌, refl, sym, ap, subst, ◌∙◌}
use mathlib.Core.Logic.{◌⊎◌, inl, inr, ⊎_elim}
use mathlib.Core.Bool.{cond}
use mathlib.Core.List.{List, [], ◌∷◌}
use Prim.Native.Nat.{ℕ, ◌+◌}
use native.Mathlib.Omega.{arith}
use lib.Dec.{eqb}
use lib.ListN.{length, take, drop}
use borrow.Author.Tests.{eqb-true}
use Rattle.wire.proofs.Cases.{differ, cond-case}
use Rattle.schema.specs.Table.{Table}
use Rattle.schema.specs.File.{table_of}
use Rattle.schema.specs.Check.{IsGood, find_method, method_row}
use Rattle.schema.proofs.Faults.{refused-iff as schema-refused}
use Rattle.schema.proofs.Goods.{good-table}
use Rattle.frame.specs.declared.Header.{Header}
use Rattle.frame.specs.FrameRead.{FrameRead, More, Frame as Whole, Refused}
use Rattle.frame.specs.Frame.{frame_of}
use Rattle.frame.proofs.Faults.{refused-iff, more-iff}
use Rattle.calls.specs.declared.Call.{Call}
use Rattle.calls.specs.declared.Frame.{Frame}
use Rattle.calls.specs.declared.Tally.{Tally}
use Rattle.calls.specs.declared.Figure.{Figure}
use Rattle.calls.specs.declared.Rise.{Rise}
use Rattle.calls.specs.Numbers.{ends_call}
use Rattle.calls.specs.declared.Payload.TheVariants.{Unread}
use Rattle.calls.specs.Record.{empty_call}
use Rattle.calls.specs.Slots.{own_of, full}
use Rattle.calls.specs.Judge.{Verdict, stop, goes, release_verdict, judge_release}
use Rattle.calls.specs.Step as calls-step
use Rattle.calls.specs.Counting.{no_rise, release_rise, figure_by, raised}
use Rattle.calls.specs.Apart.{verdict_release_rise}
use Rattle.calls.specs.Event as calls
use Rattle.calls.specs.Order.{Elements, no_elements, times, over, Past, closed, since, Heard, opened, continued, accepted, after, past_of, Reflects, nothing, call}
use Rattle.calls.specs.Figures.{counted, figures, open_of, Balanced}
use Rattle.calls.proofs.Rises.{rise-by, release-rise-by, rise-method, row_after, no_figure, frame-balanced, release-balanced, fresh-balanced}
use Rattle.calls.proofs.Counted.{no-figures, counted_step}
use Rattle.calls.proofs.Ordered.{CountsAs, release-rises_as}
use Rattle.reader.specs.Entry.{room}
use Rattle.receiver.specs.Answer.{Effect}
use Rattle.receiver.specs.Planning.{frame_from}
use Rattle.receiver.specs.Receive.{received}
use Rattle.receiver.specs.Release.{released}
use Rattle.receiver.specs.Claims.{Front, payload_in, TablesReady, Unready, schema_fault, calls_bad, rows_wrong, frame_fault, needs_more, row_for, About, Reply, Alike, CountedSince, counts}
use Rattle.receiver.specs.Run.{Input, Event, input, release, State, state_after, frame_heard, state_from, heard_from, calls_after, rows_after, fresh_state}
use Rattle.receiver.proofs.Ways.{front_of, Way, stops, judges, ways, stops-early, judged}
use Rattle.receiver.proofs.Rows.{none-raised, fresh-row}
use Rattle.receiver.proofs.Kept.{frame_rise, frame_row, answer-holds-row, release-holds-row}
use Rattle.receiver.proofs.Apart.{same-rise, ready_too, stops_too, same_answer}
use Rattle.receiver.proofs.Runs.{fresh-stands, front-judged, front-counts, calls-good, rows_right, ready-after, reflected}

-- ---- the balance

event-balanced : (s : List ℕ) (e : Event) (st : State) (m : ℕ) → Balanced m (row_for st.tallies m) st.calls
    → let x = state_after s e st in Balanced m (row_for x.tallies m) x.calls
event-balanced s (input i) st m b =
    answer-holds-row s i.side i.bytes i.sheet st.tallies st.calls m (λ _ l t. Balanced m t l) (λ n q e. b)
    (λ f w r reading. frame-balanced (table_of s) f st.calls reading m (row_for st.tallies m) b)
event-balanced s (release id) st m b =
    release-holds-row s st.calls id st.tallies m (λ _ l t. Balanced m t l) (λ n q e. b)
    (λ w n k. release-balanced id n st.calls k m (row_for st.tallies m) b)

-- Whatever the history, a row that is in balance at the start stays so.
pub stays-balanced : (s : List ℕ) (st : State) (m : ℕ) → Balanced m (row_for st.tallies m) st.calls → (es : List Event)
    → let x = state_from s st es in Balanced m (row_for x.tallies m) x.calls
unfolding state_from
stays-balanced s st m b [] = b
stays-balanced s st m b (e ∷ es) = event-balanced s e (state_from s st es) m (stays-balanced s st m b es)

-- From a fresh start, under any schema file, opened equals the other four plus the calls of that method now open.
pub opened-balance : (s : List ℕ) (es : List Event) (m : ℕ) → let x = state_from s (fresh_state (table_of s)) es in
    let t = row_for x.tallies m in t.opened ≡ t.completed + t.errored + t.cancelled + t.failed + open_of m x.calls
opened-balance s es m =
    let T = table_of s in
    (stays-balanced s (fresh_state T) m (rw (fresh-row T m) (fresh-balanced m)) es).balance

-- ---- the figures

unready-never : (s : List ℕ) (l : List Call) (k : ℕ) {n q : ℕ} → TablesReady s l k → Unready s l k n q → ⊥
unready-never s l k r (schema_fault {n} {row} e) = let bad = sym r.schema_good ∙ (schema-refused s n row).1 e in differ cc
unready-never s l k r (calls_bad g b) = b r.calls_good
unready-never s l k r (rows_wrong g w n) = n r.rows_right_of

module _ (s : List ℕ) (g : IsGood s) where
  abbrev T : Table
  T = table_of s

  abbrev start : State
  start = fresh_state T

  abbrev Follows : List Event → ℕ → Type 0
  Follows es m = row_for (rows_after s start es) m ≡ figures T m (heard_from s start es)

  module _ (es : List Event) (m : ℕ) (ih : Follows es m) where
    abbrev l : List Call
    l = calls_after s start es

    abbrev ts : List Tally
    ts = rows_after s start es

    abbrev heard : List Heard
    heard = heard_from s start es

    -- the row of the history, one event further
    further : (e : calls.Event) (n : ℕ) (r : Rise) → CountsAs T e (past_of T (calls.identifier e) closed heard) r n
        → row_after m r n (row_for ts m) ≡ figures T m (record { event = e; number = n } ∷ heard)
    further e n r w = ap (row_after m r n) ih ∙ counted_step T m e n heard r w

    input-follows : (i : Input) → let a = received s i.side i.bytes i.sheet ts l in
        row_for a.tallies m ≡ figures T m (frame_heard i.side (frame_of i.bytes) a.answer.number heard)
    input-follows i = go (frame_of i.bytes) refl
      where
        a : Effect
        a = received s i.side i.bytes i.sheet ts l

        ready : TablesReady s l (length ts)
        ready = ready-after s g start (λ _. closed) (fresh-stands T) es

        go : (v : FrameRead) → frame_of i.bytes ≡ v → row_for a.tallies m ≡ figures T m (frame_heard i.side v a.answer.number heard)
        go More e = ap (λ (x : Effect). row_for x.tallies m) (stops-early s i.side i.bytes i.sheet ts l (needs_more ready ((more-iff i.bytes).0 e))) ∙ ih
        go (Refused n) e = ap (λ (x : Effect). row_for x.tallies m) (stops-early s i.side i.bytes i.sheet ts l (frame_fault ready ((refused-iff i.bytes n).0 e))) ∙ ih
        go (Whole h place n) e =
            let f = frame_from i.side h in
            let w = front_of i.side i.bytes h place n e in
            let k = calls-good s g start (λ _. closed) (fresh-stands T) es in
            let rowed = rows_right s g start (λ _. closed) (fresh-stands T) es in
            let r = reflected s g start (λ _. closed) (fresh-stands T) es f.correlation in
            let row : row_for a.tallies m ≡ row_after m (frame_rise s f l) a.answer.number (row_for ts m) =
            rw (front-judged s g l ts k rowed i.side i.bytes i.sheet f w) (frame_row s f (payload_in w) (w.place + w.size) i.sheet ts l ready m) in
            row
            ∙ further (calls.frame f) a.answer.number (frame_rise s f l)
            (front-counts s g l ts k rowed i.side i.bytes i.sheet f w (past_of T f.correlation closed heard) r)

    release-follows : (id : ℕ) → let a = released s l id ts in row_for a.tallies m ≡ figures T m (record { event = calls.release id; number = a.answer.number } ∷ heard)
    release-follows id =
        release-holds-row s l id ts m (λ n _ t. t ≡ figures T m (record { event = calls.release id; number = n } ∷ heard))
        (λ n q e. absurd (unready-never s l (length ts) (ready-after s g start (λ _. closed) (fresh-stands T) es) e))
        (λ w n k. further (calls.release id) (calls-step.release id n l).number (release_rise l (judge_release id l))
        (release-rises_as T (good-table s g) l w.calls_good id (past_of T id closed heard) (reflected s g start (λ _. closed) (fresh-stands T) es id) n k))

  -- After any history from a fresh start under one schema table, each tally row is the figures of that history.
  pub rows-follow : (es : List Event) (m : ℕ) → row_for (rows_after s (fresh_state T) es) m ≡ figures T m (heard_from s (fresh_state T) es)
  unfolding state_from heard_from
  rows-follow [] m = fresh-row T m ∙ sym (no-figures T m)
  rows-follow (input i ∷ es) m = input-follows es m (rows-follow es m) i
  rows-follow (release id ∷ es) m = release-follows es m (rows-follow es m) id

  -- So the figures themselves are in balance with the calls now open.
  pub figures-balance : (es : List Event) (m : ℕ) → let h = heard_from s (fresh_state T) es in
      counted T m 1 h ≡ counted T m 2 h + counted T m 3 h + counted T m 4 h + counted T m 5 h + open_of m (calls_after s (fresh_state T) es)
  figures-balance es m =
      subst (λ (t : Tally). t.opened ≡ t.completed + t.errored + t.cancelled + t.failed + open_of m (calls_after s start es)) (rows-follow es m)
      (opened-balance s es m)

-- ---- the elements of a call

-- a call of the history starts without elements
Begun : Past → Type 0
Begun closed = Unit {0}
Begun (since m b h) = b ≡ no_elements

module _ (T : Table) where
  begun_opened : (f : Option ℕ) → Begun (opened f)
  unfolding Begun
  begun_opened None = tt
  begun_opened (Some m) = refl

  begun-continued : (kind : ℕ) (past : Past) → Begun past → Begun (continued T kind past)
  unfolding Begun
  begun-continued kind closed w = tt
  begun-continued kind (since m b h) w = cond-case Begun (over (method_row T m).form (kind ∷ h)) closed (since m b (kind ∷ h)) (λ _. tt) (λ _. w)

  begun-accepted : (e : calls.Event) (past : Past) → Begun past → Begun (accepted T e past)
  unfolding Begun
  begun-accepted (calls.frame f) past w =
      let found = find_method T f.«package» f.service f.method in
      cond-case Begun (eqb f.kind 1) (opened found) (continued T f.kind past) (λ _. begun_opened found) (λ _. begun-continued f.kind past w)
  begun-accepted (calls.release id) past w = tt

  begun-after : (e : Heard) (past : Past) → Begun past → Begun (after T e past)
  unfolding Begun
  begun-after e past w =
      cond-case Begun (eqb e.number 0) (accepted T e.event past) (cond (ends_call e.number) closed past) (λ _. begun-accepted e.event past w)
      (λ _. cond-case Begun (ends_call e.number) closed past (λ _. tt) (λ _. w))

  begun-past : (id : ℕ) (es : List Heard) → Begun (past_of T id closed es)
  unfolding Begun past_of
  begun-past id [] = tt
  begun-past id (e ∷ es) =
      cond-case Begun (eqb (calls.identifier e.event) id) (after T e (past_of T id closed es)) (past_of T id closed es)
      (λ _. begun-after e (past_of T id closed es) (begun-past id es)) (λ _. begun-past id es)

counts-since : (past : Past) (own : Option Call) → Begun past → Reflects past own → (c : Call) → own ≡ Some c → CountedSince c past
unfolding Begun
counts-since closed own w r c e = no_call r e
  where
    no_call : {x : Option Call} → Reflects closed x → x ≡ Some c → CountedSince c closed
    no_call nothing e = differ cc
counts-since (since m b h) own w r c e = with_call r e
  where
    with_call : {x : Option Call} → Reflects (since m b h) x → x ≡ Some c → CountedSince c (since m b h)
    with_call (call _ _ _ x k) e =
        let same : x ≡ c = cc in
        let input : c.input_elements ≡ times 2 h = ap (λ (y : Call). y.input_elements) (sym same) ∙ k.input_elements_of ∙ ap (λ (y : Elements). y.inputs + times 2 h) w ∙ omega arith in
        let output : c.output_elements ≡ times 4 h = ap (λ (y : Call). y.output_elements) (sym same) ∙ k.output_elements_of ∙ ap (λ (y : Elements). y.outputs + times 4 h) w ∙ omega arith in
        subst (λ (y : Elements). CountedSince c (since m y h)) (sym w) (counts m h input output)

-- After any history from a fresh start, the counts of an open call are the elements accepted each way since its INVOKE.
pub elements-counted : (s : List ℕ) → IsGood s → (es : List Event) (id : ℕ) (c : Call) → let start = fresh_state (table_of s) in
    own_of id (state_from s start es).calls ≡ Some c → CountedSince c (past_of (table_of s) id closed (heard_from s start es))
elements-counted s g es id c e =
    let T = table_of s in
    let start = fresh_state T in
    counts-since (past_of T id closed (heard_from s start es)) (own_of id (state_from s start es).calls) (begun-past T id (heard_from s start es))
    (reflected s g start (λ _. closed) (fresh-stands T) es id) c e

-- ---- the other rows

module _ (m : ℕ) where
  idle : (r : Rise) (n : ℕ) (t : Tally) → r ≡ no_rise → row_after m r n t ≡ t
  idle r n t e = ap (λ (x : Rise). row_after m x n t) e ∙ ap (λ (x : Figure). cond (eqb 0 m) (raised t x) t) (no_figure n) ∙ none-raised (eqb 0 m) t

  passed : (r : Rise) (n : ℕ) (t : Tally) → (r.row ≡ m → ⊥) → row_after m r n t ≡ t
  passed r n t h =
      cond-case (λ (x : Tally). x ≡ t) (eqb r.row m) (raised t (figure_by r n)) t (λ q. absurd (h (eqb-true r.row m q))) (λ _. refl)

-- Of the tally rows a frame changes that of its call's method at most.
pub other-rows : (s : List ℕ) (side : ℕ) (bytes sheet : List ℕ) (ts : List Tally) (l : List Call) (m : ℕ) → (About (table_of s) side bytes l m → ⊥)
    → row_for (received s side bytes sheet ts l).tallies m ≡ row_for ts m
other-rows s side bytes sheet ts l m other =
    answer-holds-row s side bytes sheet ts l m (λ _ _ t. t ≡ row_for ts m) (λ n q e. refl) (λ f w r reading. kept f w _)
  where
    kept : (f : Frame) → Front side bytes f → (n : ℕ) → row_after m (frame_rise s f l) n (row_for ts m) ≡ row_for ts m
    kept f w n =
        rw (rise-by (table_of s) f l)
        (⊎_elim
        (λ e. idle m _ n (row_for ts m) e)
        (λ e. passed m _ n (row_for ts m) (λ q. other (record { frame = f; front = w; is_method = e ∙ ap Some q })))
        (rise-method (table_of s) f (own_of f.correlation l) (full l)))

-- nothing rises by a release, or in the row of its call's method
release-method : (own : Option Call) → let r = verdict_release_rise own (release_verdict own) in (r ≡ no_rise) ⊎ ((c : Call) × (own ≡ Some c) × (r.row ≡ c.method))
release-method None = inl refl
release-method (Some c) =
    cond-case (λ (v : Verdict). let r = verdict_release_rise (Some c) v in (r ≡ no_rise) ⊎ ((x : Call) × (Some c ≡ Some x) × (r.row ≡ x.method)))
    c.cancelled (goes empty_call Unread) (stop 14) (λ _. inr (c, refl, refl)) (λ _. inl refl)

-- So does a release.
pub release-other-rows : (s : List ℕ) (l : List Call) (id : ℕ) (ts : List Tally) (m : ℕ) → ((c : Call) → own_of id l ≡ Some c → c.method ≡ m → ⊥)
    → row_for (released s l id ts).tallies m ≡ row_for ts m
release-other-rows s l id ts m other =
    release-holds-row s l id ts m (λ _ _ t. t ≡ row_for ts m) (λ n q e. refl) (λ w n k. kept (release-number n))
  where
    release-number : ℕ → ℕ
    release-number n = (calls-step.release id n l).number

    kept : (n : ℕ) → row_after m (release_rise l (judge_release id l)) n (row_for ts m) ≡ row_for ts m
    kept n =
        rw (release-rise-by id l)
        (⊎_elim
        (λ e. idle m _ n (row_for ts m) e)
        (λ e. passed m _ n (row_for ts m) (λ q. other e.0 e.1 (sym e.2 ∙ q)))
        (release-method (own_of id l)))

-- ---- kept apart

-- Call tables and tally rows alike for a frame leave the row of its call's method alike.
module _ (s : List ℕ) (side : ℕ) (bytes sheet₁ sheet₂ : List ℕ) (ts₁ ts₂ : List Tally) (l₁ l₂ : List Call) (space : room sheet₁ ≡ room sheet₂)
    (w : Alike (table_of s) side bytes l₁ l₂ ts₁ ts₂) (m : ℕ) (about : About (table_of s) side bytes l₁ m) where
  abbrev a₁ : Effect
  a₁ = received s side bytes sheet₁ ts₁ l₁

  abbrev a₂ : Effect
  a₂ = received s side bytes sheet₂ ts₂ l₂

  same_number : a₁.answer.number ≡ a₂.answer.number
  same_number = ap (λ (r : Reply). r.numbers.number) (same_answer sheet₁ sheet₂ ts₁ ts₂ l₁ l₂ s space side bytes w).reply

  judged-row : (sheet : List ℕ) (ts : List Tally) (l : List Call) (h : Header) (place n : ℕ) → TablesReady s l (length ts) → frame_of bytes ≡ Whole h place n →
      let a = received s side bytes sheet ts l in row_for a.tallies m ≡ row_after m (frame_rise s (frame_from side h) l) a.answer.number (row_for ts m)
  judged-row sheet ts l h place n r e =
      rw (judged s side bytes sheet ts l h place n r e) (frame_row s (frame_from side h) (take n (drop place bytes)) (place + n) sheet ts l r m)

  pub same-row-after : row_for a₁.tallies m ≡ row_for a₂.tallies m
  same-row-after = go (ways s side bytes sheet₁ ts₁ l₁)
    where
      go : {x : Effect} → Way s side bytes sheet₁ ts₁ l₁ x → row_for a₁.tallies m ≡ row_for a₂.tallies m
      go (stops e) =
          ap (λ (x : Effect). row_for x.tallies m) (stops-early s side bytes sheet₁ ts₁ l₁ e)
          ∙ w.row m about
          ∙ sym (ap (λ (x : Effect). row_for x.tallies m) (stops-early s side bytes sheet₂ ts₂ l₂ (stops_too sheet₁ sheet₂ ts₁ ts₂ l₁ l₂ s space side bytes w e)))
      go (judges h place n r e) =
          let f = frame_from side h in
          let front = front_of side bytes h place n e in
          let rise = same-rise sheet₁ sheet₂ ts₁ ts₂ l₁ l₂ s space f (w.own f front) (w.fullness f front) in
          judged-row sheet₁ ts₁ l₁ h place n r e
          ∙ (λ i. row_after m (rise i) (same_number i) ((w.row m about) i))
          ∙ sym (judged-row sheet₂ ts₂ l₂ h place n (ready_too sheet₁ sheet₂ ts₁ ts₂ l₁ l₂ s space side bytes w r) e)
