-- The order of a call's frames: where the record's marks reflect the kinds accepted, a frame is ruled by them, and its record reflects them afterwards.
use Rattle.std.specs.Prelude.{None, Option, Some}
use mathlib.Core.Path.{◌≡◌, refl, sym, ◌∙◌, ap, subst}
use mathlib.Core.Logic.{◌⊎◌, inl, inr, ⊎_elim}
use mathlib.Core.Bool.{Bool, true, false, not, cond, ◌&&◌, ◌||◌}
use mathlib.Core.List.{List, [], ◌∷◌}
use Prim.Native.Nat.{ℕ, zero, suc, ◌+◌, ◌<◌, ◌≤◌}
use native.Mathlib.Omega.{arith}
use lib.Dec.{eqb, leb, lit≤}
use lib.ListN.{length}
use borrow.Author.Tests.{eqb-true, eqb-false, eq-eqb, ne_eqb, leb-true}
use Rattle.schema.specs.Table.{Table}
use Rattle.schema.specs.Check.{method_row, find_method}
use Rattle.schema.specs.Good.{GoodSchema}
use Rattle.schema.proofs.Bools.{clash, and_i, and_left, and_right, or_left, or_cases, or-none, or_comm}
use Rattle.schema.proofs.Methods.{found-named}
use Rattle.calls.specs.declared.Call.{Call}
use Rattle.calls.specs.declared.FormRow.{FormRow}
use Rattle.calls.specs.declared.Frame.{Frame}
use Rattle.calls.specs.declared.Payload.{Payload}
use Rattle.calls.specs.declared.Payload.TheVariants.{Unread}
use Rattle.calls.specs.declared.Figure.{Figure}
use Rattle.calls.specs.declared.Figure.TheVariants.{Nothing, Opened, Completed, Errored, Cancelled, Failed}
use Rattle.calls.specs.declared.Rise.{Rise}
use Rattle.calls.specs.Forms.{letter, letters_row, row_of_form}
use Rattle.calls.specs.Numbers.{ends_call, EndsCall, payload, many-pairs}
use Rattle.calls.specs.Record.{implies, empty_call, opened_call, is_call, complete, allowed, not_allowed, is_input, is_output, at_limit, counting, marked, ends, after_frame}
use Rattle.calls.specs.Slots.{slot, first_slot, contains, record_at, own_of, full}
use Rattle.calls.specs.Judge.{right_side, payload_of, names_method, Verdict, stop, opens, goes, invoke_verdict, call_verdict, other_verdict, verdict_of, judge_of, release_verdict, judge_release}
use Rattle.calls.specs.Step.{receive, release}
use Rattle.calls.specs.Counting.{no_rise, ending, rise_of, release_rise, figure_by}
use Rattle.calls.specs.Good.{GoodCalls}
use Rattle.calls.specs.Event.{Event, frame}
use Rattle.calls.specs.Event as event
use Rattle.calls.specs.Apart.{verdict_due, verdict_number, kept, verdict_own, verdict_rise, verdict_release_rise}
use Rattle.calls.specs.Figures.{accepted_as, event_as, method_in}
use Rattle.calls.specs.Belongs.{Belongs}
use Rattle.calls.specs.Order.{cancelled, MayCome, in_stream, in_close, out_stream, out_close, response, error, cancel, Crosses, all_came, over, Elements, no_elements, times, TooManyElements, inputs, outputs}
use Rattle.calls.specs.Order.{Past, closed, since, Heard, continued, accepted, after, Marks, Reflects, nothing, call}
use Rattle.calls.specs.Order.{Ruling, refused, comes, Ruled, wrong_side, unknown, already, no_room, opens as opens_call, not_open, differ, not_now, dropped, too_many, goes as goes_on}
use Rattle.calls.specs.Order.{Releases, no_call, not_cancelled, released}
use Rattle.wire.proofs.Cases.{cond-case}
use Rattle.calls.proofs.Letters.{by-letters}
use Rattle.calls.proofs.Used.{not_ending}
use Rattle.calls.proofs.Searches.{found-passes}
use Rattle.calls.proofs.Kept.{call_open}
use Rattle.calls.proofs.Apart.{answered, own-after, release-answered, release-own}
use Rattle.calls.proofs.Rises.{rise-by, release-rise-by}
use Rattle.calls.proofs.Belongs.{invoke-belongs, payload-belongs}

-- ---- the kinds that are no INVOKE
kinds : (P : ℕ → Type 0) → P 2 → P 3 → P 4 → P 5 → P 6 → P 7 → P 8 → (k : ℕ) → 2 ≤ k → k ≤ 8 → P k
kinds P a b c d e f g zero m n = absurd (omega arith)
kinds P a b c d e f g (suc zero) m n = absurd (omega arith)
kinds P a b c d e f g (suc (suc zero)) m n = a
kinds P a b c d e f g (suc (suc (suc zero))) m n = b
kinds P a b c d e f g (suc (suc (suc (suc zero)))) m n = c
kinds P a b c d e f g (suc (suc (suc (suc (suc zero))))) m n = d
kinds P a b c d e f g (suc (suc (suc (suc (suc (suc zero)))))) m n = e
kinds P a b c d e f g (suc (suc (suc (suc (suc (suc (suc zero))))))) m n = f
kinds P a b c d e f g (suc (suc (suc (suc (suc (suc (suc (suc zero)))))))) m n = g
kinds P a b c d e f g (suc (suc (suc (suc (suc (suc (suc (suc (suc k))))))))) m n = absurd (omega arith)

-- ---- allowed, by the kinds accepted
tell_in : (x a b : Bool) → (not x && ((a && not b) || false)) ≡ true → (x ≡ false) × (a ≡ true) × (b ≡ false)
tell_in true a b h = clash false h refl
tell_in false true false h = (refl, refl, refl)
tell_in false true true h = clash false h refl
tell_in false false b h = clash false h refl

tell-out : (x a r b : Bool) → (not x && ((a && (r && not b)) || false)) ≡ true → (x ≡ false) × (a ≡ true) × (b ≡ false) × (r ≡ true)
tell-out true a r b h = clash false h refl
tell-out false true true false h = (refl, refl, refl, refl)
tell-out false true true true h = clash false h refl
tell-out false true false b h = clash false h refl
tell-out false false r b h = clash false h refl

tell-once : (x r : Bool) → (not x && (not r || false)) ≡ true → (x ≡ false) × (r ≡ false)
tell-once true r h = clash false h refl
tell-once false true h = clash false h refl
tell-once false false h = (refl, refl)

tell-first : (x : Bool) → (not x && true) ≡ true → x ≡ false
tell-first true h = clash false h refl
tell-first false h = refl

-- an element more of what is counted before and since
counting-since : (q : Bool) (a n t : ℕ) → n ≡ a + t → counting q n ≡ a + counting q t
counting-since true a n t e = omega arith
counting-since false a n t e = e

module _ (form : ℕ) (before : Elements) (h : List ℕ) (c : Call) (m : ℕ) (w : Marks m before h c) where
  abbrev row : FormRow
  row = letters_row form

  may_come : (kind : ℕ) → 2 ≤ kind → kind ≤ 8 → allowed row kind c ≡ true → MayCome form h kind
  may_come =
      kinds (λ k. allowed row k c ≡ true → MayCome form h k)
      (λ a. let r = tell_in c.cancelled (letter 2 form) c.input_closed a in in_stream (on r.0) r.1 (sym w.input_closed_of ∙ r.2))
      (λ a. let r = tell_in c.cancelled (letter 2 form) c.input_closed a in in_close (on r.0) r.1 (sym w.input_closed_of ∙ r.2))
      (λ a.
      let r = tell-out c.cancelled (letter 1 form) c.responded c.output_closed a in
      out_stream (on r.0) r.1 (sym w.output_closed_of ∙ r.2) (sym w.responded ∙ r.3))
      (λ a.
      let r = tell-out c.cancelled (letter 1 form) c.responded c.output_closed a in
      out_close (on r.0) r.1 (sym w.output_closed_of ∙ r.2) (sym w.responded ∙ r.3))
      (λ a. let r = tell-once c.cancelled c.responded a in response (on r.0) (sym w.responded ∙ r.1))
      (λ a. error)
      (λ a. cancel (on (tell-first c.cancelled a)))
    where
      on : c.cancelled ≡ false → cancelled h ≡ false
      on e = sym w.is_cancelled ∙ e

  comes_in : {kind : ℕ} → MayCome form h kind → allowed row kind c ≡ true
  comes_in (in_stream n p q) = rw (w.is_cancelled, n, p, w.input_closed_of, q)
  comes_in (in_close n p q) = rw (w.is_cancelled, n, p, w.input_closed_of, q)
  comes_in (out_stream n p q r) = rw (w.is_cancelled, n, p, w.responded, r, w.output_closed_of, q)
  comes_in (out_close n p q r) = rw (w.is_cancelled, n, p, w.responded, r, w.output_closed_of, q)
  comes_in (response n q) = rw (w.is_cancelled, n, w.responded, q)
  comes_in error = refl
  comes_in (cancel n) = rw (w.is_cancelled, n)

  -- what crosses our cancel is not allowed
  crossing : {kind : ℕ} → Crosses h kind → allowed row kind c ≡ false
  crossing {kind} x = rw (ne_eqb kind 7 x.no_error, w.is_cancelled, x.is_cancelled)

  -- the number of a frame that is not allowed: 16 where it crosses our cancel, else 14
  late : (P : ℕ → Type 0) (kind : ℕ) → allowed row kind c ≡ false → (Crosses h kind → P 16) → ((Crosses h kind → ⊥) → P 14) → P (not_allowed kind c)
  late P kind bar drops refuses =
      let server = leb 4 kind && leb kind 7 in
      cond-case P (c.cancelled && server) 16 14
      (λ t. drops
      (record {
        is_cancelled = sym w.is_cancelled ∙ and_left c.cancelled server t;
        from_server = and_right c.cancelled server t;
        no_error = λ e. clash (allowed row kind c) (rw e) bar;
      }))
      (λ t. refuses (λ x. clash (c.cancelled && server) (and_i c.cancelled server (w.is_cancelled ∙ x.is_cancelled) x.from_server) t))

  -- the element limit
  limited : (kind : ℕ) → at_limit kind c ≡ true → TooManyElements before h kind
  limited kind t =
      let a = eqb c.input_elements 65535 in
      let b = eqb c.output_elements 65535 in
      ⊎_elim
      (λ p. rw (eqb-true kind 2 (and_left (is_input kind) a p)) (inputs (sym w.input_elements_of ∙ eqb-true c.input_elements 65535 (and_right (is_input kind) a p))))
      (λ p. rw (eqb-true kind 4 (and_left (is_output kind) b p)) (outputs (sym w.output_elements_of ∙ eqb-true c.output_elements 65535 (and_right (is_output kind) b p))))
      (or_cases (is_input kind && a) (is_output kind && b) t)

  limits : {kind : ℕ} → TooManyElements before h kind → at_limit kind c ≡ true
  limits (inputs e) = or_left (eqb c.input_elements 65535) false (eq-eqb c.input_elements 65535 (w.input_elements_of ∙ e))
  limits (outputs e) = eq-eqb c.output_elements 65535 (w.output_elements_of ∙ e)

  -- the record after an accepted frame
  module _ (kind : ℕ) where
    marks-next : eqb kind 7 ≡ false → Marks m before (kind ∷ h) (marked kind c)
    marks-next p =
        record {
          method = w.method;
          responded = or_comm c.responded (eqb kind 6) ∙ ap (λ (b : Bool). eqb kind 6 || b) w.responded;
          input_closed_of = or_comm c.input_closed (eqb kind 3) ∙ ap (λ (b : Bool). eqb kind 3 || b) w.input_closed_of;
          output_closed_of = or_comm c.output_closed (eqb kind 5) ∙ ap (λ (b : Bool). eqb kind 5 || b) w.output_closed_of;
          is_cancelled = or_comm c.cancelled (eqb kind 8) ∙ ap (λ (b : Bool). eqb kind 8 || b) w.is_cancelled;
          input_elements_of = counting-since (is_input kind) before.inputs c.input_elements (times 2 h) w.input_elements_of;
          output_elements_of = counting-since (is_output kind) before.outputs c.output_elements (times 4 h) w.output_elements_of;
          no_error = rw p w.no_error;
        }

    whole-next : complete row (marked kind c) ≡ all_came form (kind ∷ h)
    whole-next =
        let r : (c.responded || eqb kind 6) ≡ (eqb kind 6 || contains 6 h) = or_comm c.responded (eqb kind 6) ∙ ap (λ (b : Bool). eqb kind 6 || b) w.responded in
        let i : (c.input_closed || eqb kind 3) ≡ (eqb kind 3 || contains 3 h) = or_comm c.input_closed (eqb kind 3) ∙ ap (λ (b : Bool). eqb kind 3 || b) w.input_closed_of in
        let o : (c.output_closed || eqb kind 5) ≡ (eqb kind 5 || contains 5 h) = or_comm c.output_closed (eqb kind 5) ∙ ap (λ (b : Bool). eqb kind 5 || b) w.output_closed_of in
        λ k. (r k) && (implies row.1 (i k) && implies row.3 (o k))

    ends-over : ends row kind c ≡ over form (kind ∷ h)
    ends-over = rw (whole-next, w.no_error, or-none (eqb kind 7))

-- ---- a kind that its side may send and that is no INVOKE
other-kind : (side kind : ℕ) → right_side side kind ≡ true → (kind ≡ 1 → ⊥) → (2 ≤ kind) × (kind ≤ 8)
other-kind side kind h n =
    let client = (leb 1 kind && leb kind 3) || eqb kind 8 in
    let server = leb 4 kind && leb kind 7 in
    ⊎_elim
    (λ p.
    ⊎_elim
    (λ q.
    let a = leb-true 1 kind (and_left (leb 1 kind) (leb kind 3) q) in
    let b = leb-true kind 3 (and_right (leb 1 kind) (leb kind 3) q) in
    (omega arith, omega arith))
    (λ q. let a = eqb-true kind 8 q in (omega arith, omega arith))
    (or_cases (leb 1 kind && leb kind 3) (eqb kind 8) (and_right (eqb side 67) client p)))
    (λ p.
    let q = and_right (eqb side 83) server p in
    let a = leb-true 4 kind (and_left (leb 4 kind) (leb kind 7) q) in
    let b = leb-true kind 7 (and_right (leb 4 kind) (leb kind 7) q) in
    (omega arith, omega arith))
    (or_cases (eqb side 67 && client) (eqb side 83 && server) h)

-- ---- one frame
-- what the rules say, by the judgement without a slot
abbrev pub ruling_of : Verdict → Ruling
ruling_of (stop n) = refused n
ruling_of (opens c d) = comes d
ruling_of (goes c d) = comes d

-- the method of an open call is one of the table's
Known : Table → Option Call → Type 0
Known T None = Unit {0}
Known T (Some c) = c.method < length T.methods

-- an event with this number counts as what rises, for the method of the row that rises
abbrev pub CountsAs : Table → Event → Past → Rise → (number : ℕ) → Type 0
CountsAs T e past r n = (event_as T e n past ≡ figure_by r n) × ((figure_by r n ≡ Nothing) ⊎ (method_in T e past ≡ Some r.row))

module _ (T : Table) (g : GoodSchema T) (f : Frame) (b : Bool) where
  abbrev heard : Verdict → ℕ → Heard
  heard v p = record { event = frame f; number = verdict_number v p }

  -- the ruling is the one by the past, and whatever number the payload has, the record afterwards reflects the past afterwards, and what rises is what
  -- the event counts as
  abbrev VerdictFits : Past → Option Call → Verdict → Type 0
  VerdictFits past own v =
      Ruled T f b past (ruling_of v)
      × ((p : ℕ) → Reflects (after T (heard v p) past) (verdict_own v p own))
      × ((p : ℕ) → CountsAs T (frame f) past (verdict_rise f.kind own v) (verdict_number v p))

  abbrev right : Bool
  right = right_side f.side f.kind

  abbrev found : Option ℕ
  found = find_method T f.«package» f.service f.method

  -- a refusal before the payload
  stays : (n : ℕ) → 8 ≤ n → n ≤ 17 → {past : Past} {own : Option Call} → Reflects past own → Reflects (after T (record { event = frame f; number = n }) past) own
  stays n low high r = rw (ne_eqb n 0 (λ z. omega arith), not_ending n (early low high)) r
    where
      early : {n : ℕ} → 8 ≤ n → n ≤ 17 → EndsCall n → ⊥
      early low high (payload a b) = omega arith
      early low high many-pairs = omega arith

  -- counts nowhere
  nowhere : (n : ℕ) → 8 ≤ n → n ≤ 17 → (past : Past) → CountsAs T (frame f) past no_rise n
  unfolding figure_by
  nowhere n low high past = let e = ne_eqb n 0 (λ z. omega arith) in let k = not_ending n (early low high) in (rw (e, k), inl (rw (e, k)))
    where
      early : {n : ℕ} → 8 ≤ n → n ≤ 17 → EndsCall n → ⊥
      early low high (payload a b) = omega arith
      early low high many-pairs = omega arith

  -- INVOKE
  module _ (s : right ≡ true) (k : f.kind ≡ 1) where
    opening : (n p : ℕ) → found ≡ Some n →
        Reflects (after T (record { event = frame f; number = p }) closed) (cond (eqb p 0) (Some (opened_call n f.correlation)) None)
    opening n p e = go (eqb p 0) (ends_call p)
      where
        begins : accepted T (frame f) closed ≡ since n no_elements []
        begins = rw (k, e)

        go : (x y : Bool) → Reflects (cond x (accepted T (frame f) closed) (cond y closed closed)) (cond x (Some (opened_call n f.correlation)) None)
        go true y =
            rw begins
            (call n no_elements [] (opened_call n f.correlation)
            (record {
              method = refl;
              responded = refl;
              input_closed_of = refl;
              output_closed_of = refl;
              is_cancelled = refl;
              input_elements_of = refl;
              output_elements_of = refl;
              no_error = refl;
            }))
        go false true = nothing
        go false false = nothing

    opens-counted : (n p : ℕ) → found ≡ Some n → CountsAs T (frame f) closed (record { row = n; accepted = Opened; refused = Nothing }) p
    unfolding figure_by
    opens-counted n p e = (refl, inr e)

    belongs : (n : ℕ) → found ≡ Some n → Belongs (method_row T n) 1 (payload_of (method_row T n) 1)
    belongs n e =
        invoke-belongs T g.few_types (method_row T n) (g.methods n (found-named T f.«package» f.service f.method n e).0)

    invoked : (past : Past) (own : Option Call) → Reflects past own → (m : Option ℕ) → found ≡ m → VerdictFits past own (invoke_verdict T f.correlation m own b)
    invoked past own r None e = (unknown past s k e, λ p. stays 9 (lit≤ tt) (lit≤ tt) r, λ p. nowhere 9 (lit≤ tt) (lit≤ tt) past)
    invoked closed None nothing (Some n) e = go b refl
      where
        go : (x : Bool) → b ≡ x → VerdictFits closed None (invoke_verdict T f.correlation (Some n) None x)
        go true q = (no_room n s k e q, λ p. stays 13 (lit≤ tt) (lit≤ tt) nothing, λ p. nowhere 13 (lit≤ tt) (lit≤ tt) closed)
        go false q = (opens_call n _ s k e q (belongs n e), λ p. opening n p e, λ p. opens-counted n p e)
    invoked (since m x h) (Some c) (call _ _ _ _ w) (Some n) e = (
      already m n x h s k e,
      λ p. stays 10 (lit≤ tt) (lit≤ tt) (call m x h c w),
      λ p. nowhere 10 (lit≤ tt) (lit≤ tt) (since m x h),
    )
    invoked closed (Some c) r (Some n) e = elim r [ ]
    invoked (since m x h) None r (Some n) e = elim r [ ]

  -- the others
  module _ (s : right ≡ true) (n : f.kind ≡ 1 → ⊥) where
    module _ (m : ℕ) (known : m < length T.methods) (before : Elements) (h : List ℕ) (c : Call) (w : Marks m before h c) where
      abbrev form : ℕ
      form = (method_row T m).form

      letters : row_of_form form ≡ letters_row form
      letters = let few = (g.methods m known).form in by-letters form (omega arith)

      bounds : (2 ≤ f.kind) × (f.kind ≤ 8)
      bounds = other-kind f.side f.kind s n

      over-is : ends (row_of_form form) f.kind c ≡ over form (f.kind ∷ h)
      over-is = ap (λ (r : FormRow). ends r f.kind c) letters ∙ ends-over form before h c m w f.kind

      -- a frame that does not end the call is no ERROR
      not_last : (k : ℕ) → ends (row_of_form form) k c ≡ true → ends (row_of_form form) f.kind c ≡ false → eqb f.kind k ≡ false
      not_last k t z = ne_eqb f.kind k (λ e. clash (ends (row_of_form form) f.kind c) (subst (λ (x : ℕ). ends (row_of_form form) x c ≡ true) (sym e) t) z)

      continues : Reflects (continued T f.kind (since m before h)) (kept (after_frame (row_of_form form) f.kind c))
      continues = rw (← over-is) (go (ends (row_of_form form) f.kind c) refl)
        where
          go : (z : Bool) → ends (row_of_form form) f.kind c ≡ z →
              Reflects (cond z closed (since m before (f.kind ∷ h))) (kept (cond z empty_call (marked f.kind c)))
          go true e = nothing
          go false e = call m before (f.kind ∷ h) (marked f.kind c) (marks-next form before h c m w f.kind (not_last 7 refl e))

      going : (p : ℕ) →
          Reflects (after T (record { event = frame f; number = p }) (since m before h)) (cond (eqb p 0) (kept (after_frame (row_of_form form) f.kind c)) (cond (ends_call p) None (Some c)))
      going p = go (eqb p 0) (ends_call p)
        where
          go : (x y : Bool) →
              Reflects (cond x (accepted T (frame f) (since m before h)) (cond y closed (since m before h))) (cond x (kept (after_frame (row_of_form form) f.kind c)) (cond y None (Some c)))
          go true y = rw (ne_eqb f.kind 1 n) continues
          go false true = nothing
          go false false = call m before h c w

      -- what an accepted frame counts as, by the kinds and by the record
      accepted_as_lem : accepted_as T f.kind (since m before h) ≡ ending f.kind c (after_frame (row_of_form form) f.kind c)
      accepted_as_lem = go (eqb f.kind 7) refl
        where
          next : Call
          next = after_frame (row_of_form form) f.kind c

          completes : complete (row_of_form form) (marked f.kind c) ≡ all_came form (f.kind ∷ h)
          completes = ap (λ (r : FormRow). complete r (marked f.kind c)) letters ∙ whole-next form before h c m w f.kind

          last : (z : Bool) → cond z Completed Nothing ≡ cond (cond z empty_call (marked f.kind c)).«open» Nothing Completed
          last true = refl
          last false = refl

          go : (q : Bool) → eqb f.kind 7 ≡ q →
              cond q (cond (cancelled h) Cancelled Errored) (cond (all_came form (f.kind ∷ h)) Completed Nothing)
              ≡ cond q (cond c.cancelled Cancelled Errored) (cond next.«open» Nothing Completed)
          go true e = ap (λ (b : Bool). cond b Cancelled Errored) (sym w.is_cancelled)
          go false e = rw (e, ← completes) (last (complete (row_of_form form) (marked f.kind c)))

      counted : (p : ℕ) → CountsAs T (frame f) (since m before h) (verdict_rise f.kind (Some c) (goes (after_frame (row_of_form form) f.kind c) (payload_of (method_row T m) f.kind))) p
      unfolding figure_by
      counted p = (ap (λ (x : Figure). cond (eqb p 0) x (cond (ends_call p) Failed Nothing)) accepted_as_lem, inr (ap Some (sym w.method)))

      called : VerdictFits (since m before h) (Some c) (call_verdict (method_row T m) f c)
      called = go (names_method f (method_row T m)) (allowed (row_of_form form) f.kind c) (at_limit f.kind c) refl refl refl
        where
          next : Verdict
          next = goes (after_frame (row_of_form form) f.kind c) (payload_of (method_row T m) f.kind)

          same-call : Reflects (since m before h) (Some c)
          same-call = call m before h c w

          go : (x y z : Bool) → names_method f (method_row T m) ≡ x → allowed (row_of_form form) f.kind c ≡ y
              → at_limit f.kind c ≡ z
              → VerdictFits (since m before h) (Some c) (cond x (cond y (cond z (stop 17) next) (stop (not_allowed f.kind c))) (stop 12))
          go true true true p q l =
              let may = may_come form before h c m w f.kind bounds.0 bounds.1 (rw letters at q) in (
                too_many m before h s n p may (limited form before h c m w f.kind l),
                λ k. stays 17 (lit≤ tt) (lit≤ tt) same-call,
                λ k. nowhere 17 (lit≤ tt) (lit≤ tt) (since m before h),
              )
          go true true false p q l =
              let may = may_come form before h c m w f.kind bounds.0 bounds.1 (rw letters at q) in
              let few : TooManyElements before h f.kind → ⊥ = λ x. clash (at_limit f.kind c) (limits form before h c m w x) l in
              (goes_on m before h _ s n p may few (payload-belongs T g.few_types (method_row T m) (g.methods m known) h may), going, counted)
          go true false z p q l =
              let bar : allowed (letters_row form) f.kind c ≡ false = rw letters at q in
              late form before h c m w (λ k. VerdictFits (since m before h) (Some c) (stop k)) f.kind bar
              (λ x. (
                dropped m before h s p x,
                λ k. stays 16 (lit≤ tt) (lit≤ tt) same-call,
                λ k. nowhere 16 (lit≤ tt) (lit≤ tt) (since m before h),
              ))
              (λ x. (
                not_now m before h s n p (λ z. clash (allowed (letters_row form) f.kind c) (comes_in form before h c m w z) bar) x,
                λ k. stays 14 (lit≤ tt) (lit≤ tt) same-call,
                λ k. nowhere 14 (lit≤ tt) (lit≤ tt) (since m before h),
              ))
          go false y z p q l = (
            differ m before h s n p,
            λ k. stays 12 (lit≤ tt) (lit≤ tt) same-call,
            λ k. nowhere 12 (lit≤ tt) (lit≤ tt) (since m before h),
          )

    other : (past : Past) (own : Option Call) → Known T own → Reflects past own → VerdictFits past own (other_verdict T f own)
    unfolding Known
    other closed None known nothing = (not_open s n, λ p. stays 11 (lit≤ tt) (lit≤ tt) nothing, λ p. nowhere 11 (lit≤ tt) (lit≤ tt) closed)
    other (since m x h) (Some c) known (call _ _ _ _ w) =
        subst (λ (k : ℕ). VerdictFits (since m x h) (Some c) (call_verdict (method_row T k) f c)) (sym w.method) (called m (rw w.method at known) x h c w)
    other closed (Some c) known r = elim r [ ]
    other (since m x h) None known r = elim r [ ]

  every : (past : Past) (own : Option Call) → Known T own → Reflects past own → VerdictFits past own (verdict_of T f own b)
  unfolding verdict_of
  every past own known r = go right refl (eqb f.kind 1) refl
    where
      go : (x : Bool) → right ≡ x → (y : Bool) → eqb f.kind 1 ≡ y →
          VerdictFits past own (cond x (cond y (invoke_verdict T f.correlation found own b) (other_verdict T f own)) (stop 8))
      go true s true k = invoked s (eqb-true f.kind 1 k) past own r found refl
      go true s false k = other s (eqb-false f.kind 1 k) past own known r
      go false s y k = (wrong_side past s, λ p. stays 8 (lit≤ tt) (lit≤ tt) r, λ p. nowhere 8 (lit≤ tt) (lit≤ tt) past)

-- ---- a release
-- the number is the one by the past, the record afterwards reflects the past afterwards, and what rises is what the release counts as; where 18 is the
-- answer, nothing rises
abbrev Suits : Table → (correlation : ℕ) → Past → Option Call → Verdict → Type 0
Suits T id past own v =
    Releases past (verdict_number v 0)
    × ((p : ℕ) → ends_call p ≡ false → Reflects (after T (record { event = event.release id; number = verdict_number v p }) past) (verdict_own v p own))
    × ((p : ℕ) → ends_call p ≡ false → CountsAs T (event.release id) past (verdict_release_rise own v) (verdict_number v p))

module _ (T : Table) (id : ℕ) where
  released-one : (m : ℕ) (b : Elements) (h : List ℕ) (c : Call) → Marks m b h c → (p : ℕ) → ends_call p ≡ false →
      Reflects (after T (record { event = event.release id; number = p }) (since m b h)) (cond (eqb p 0) None (cond (ends_call p) None (Some c)))
  released-one m b h c w p n = rw n (go (eqb p 0))
    where
      go : (q : Bool) → Reflects (cond q closed (since m b h)) (cond q None (Some c))
      go true = nothing
      go false = call m b h c w

  release-suits : (past : Past) (own : Option Call) → Reflects past own → Suits T id past own (release_verdict own)
  unfolding ends_call figure_by
  release-suits closed None nothing = (no_call, λ p n. nothing, λ p n. (refl, inl refl))
  release-suits (since m b h) (Some c) (call _ _ _ _ w) =
      cond-case (Suits T id (since m b h) (Some c)) c.cancelled (goes empty_call Unread) (stop 14)
      (λ t. (released m b h (sym w.is_cancelled ∙ t), released-one m b h c w, λ p n. (rw n, inr (ap Some (sym w.method)))))
      (λ t. (not_cancelled m b h (sym w.is_cancelled ∙ t), λ p n. call m b h c w, λ p n. (refl, inl refl)))
  release-suits closed (Some c) r = elim r [ ]
  release-suits (since m b h) None r = elim r [ ]

-- ---- under good tables
module _ (T : Table) (g : GoodSchema T) (l : List Call) (w : GoodCalls T l) where
  own-known : (id : ℕ) → Known T (own_of id l)
  unfolding own_of Known
  own-known id = go (first_slot (is_call id) 0 l) refl
    where
      go : (i : Option ℕ) → first_slot (is_call id) 0 l ≡ i → Known T (record_at l i)
      go None e = tt
      go (Some i) e = (w.calls i (call_open id (slot l i) (found-passes (is_call id) l i e))).method_exists

  module _ (f : Frame) (past : Past) (r : Reflects past (own_of f.correlation l)) where
    abbrev own : Option Call
    own = own_of f.correlation l

    -- A frame is ruled by the kinds accepted for its call since INVOKE.
    pub ruled : Ruled T f (full l) past (ruling_of (verdict_of T f own (full l)))
    ruled = (every T g f (full l) past own (own-known f.correlation) r).0

    -- Its own record afterwards reflects the past afterwards.
    pub own-reflects : (reading : Payload → ℕ) → let r = receive T f reading l in
        Reflects (after T (record { event = frame f; number = r.number }) past) (own_of f.correlation r.slots)
    own-reflects reading =
        let p = reading (verdict_due (verdict_of T f own (full l))) in
        rw (answered T f reading l, own-after T f l w reading) ((every T g f (full l) past own (own-known f.correlation) r).1 p)

    -- What rises is what the frame counts as.
    pub rises_as : (reading : Payload → ℕ) → CountsAs T (frame f) past (rise_of f.kind l (judge_of T f l)) (receive T f reading l).number
    rises_as reading =
        let p = reading (verdict_due (verdict_of T f own (full l))) in
        rw (answered T f reading l, rise-by T f l) ((every T g f (full l) past own (own-known f.correlation) r).2 p)

  -- A release is ruled by them too.
  module _ (id : ℕ) (past : Past) (r : Reflects past (own_of id l)) where
    pub release-reflects : (n : ℕ) → ends_call n ≡ false → let x = release id n l in
        Reflects (after T (record { event = event.release id; number = x.number }) past) (own_of id x.slots)
    release-reflects n k = rw (release-answered id n l, release-own T id n l w) ((release-suits T id past (own_of id l) r).1 n k)

    pub release-rises_as : (n : ℕ) → ends_call n ≡ false → CountsAs T (event.release id) past (release_rise l (judge_release id l)) (release id n l).number
    release-rises_as n k = rw (release-answered id n l, release-rise-by id l) ((release-suits T id past (own_of id l) r).2 n k)
