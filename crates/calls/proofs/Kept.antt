-- A step keeps a good table good, and its number of slots: of a frame and of a release, by what their judgements have in common.
use Rattle.std.specs.Prelude.{None, Some}
use mathlib.Core.Path.{◌≡◌, refl, sym, ◌∙◌, ap, subst}
use mathlib.Core.Logic.{◌⊎◌, inl, inr, ⊎_elim}
use mathlib.Core.Bool.{Bool, true, false, not, cond, ◌&&◌, ◌||◌}
use mathlib.Core.List.{List}
use Prim.Native.Nat.{ℕ, ◌<◌}
use lib.ListN.{length, set, length-set}
use lib.Dec.{eqb}
use borrow.Author.Tests.{eqb-true, eqb-false, eq-eqb}
use Rattle.schema.specs.Table.{Table}
use Rattle.calls.specs.declared.Call.{Call}
use Rattle.calls.specs.declared.FormRow.{FormRow}
use Rattle.calls.specs.declared.Frame.{Frame}
use Rattle.calls.specs.declared.Payload.{Payload}
use Rattle.calls.specs.Judged.{Judged}
use Rattle.calls.specs.Judged.{Refused, Opens, Goes}
use Rattle.calls.specs.Numbers.{ends_call}
use Rattle.calls.specs.Record.{empty_call, opened_call, is_call, is_free, complete, allowed, is_input, is_output, counting, marked, ends, after_frame}
use Rattle.calls.specs.Slots.{slot, first_slot, form_row, good_table}
use Rattle.calls.specs.Judge.{judge_of, judge_release}
use Rattle.calls.specs.Step.{slots_after, due_of, receive, release}
use Rattle.calls.specs.Good.{GoodCall, GoodCalls}
use Rattle.schema.proofs.Bools.{cases, clash, and_i, and_left, and_right, or_left, or_cases, or-false}
use Rattle.schema.proofs.Methods.{found-named}
use Rattle.calls.proofs.Searches.{found_in, found-passes, none_passes, slot_same, slot-other, past_end}
use Rattle.calls.proofs.Goodness.{good-clauses, good-test}
use Rattle.calls.proofs.Judgement.{judged-opens, judged-goes, released-goes, released-never}

-- ---- one record changed
-- the slot changed, or another
slot_cases : (l : List Call) (i : ℕ) (x : Call) (j : ℕ) → i < length l →
    ((j ≡ i) × (slot (set l i x) j ≡ x)) ⊎ ((j ≡ i → ⊥) × (slot (set l i x) j ≡ slot l j))
slot_cases l i x j h =
    ⊎_elim
    (λ q. let e = eqb-true j i q in inl (e, subst (λ (n : ℕ). slot (set l i x) n ≡ x) (sym e) (slot_same l i x h)))
    (λ q. inr (eqb-false j i q, slot-other l i x j (eqb-false j i q)))
    (cases (eqb j i))

module _ (T : Table) (l : List Call) (g : GoodCalls T l) (i : ℕ) (h : i < length l) (x : Call) where
  -- the new record is good by itself, and no other record is open under its correlation
  module _
      (good : x.«open» ≡ true → GoodCall T x)
      (zero : x.«open» ≡ false → x ≡ empty_call)
      (alone : x.«open» ≡ true → (j : ℕ) → (j ≡ i → ⊥) → (slot l j).«open» ≡ true → (slot l j).correlation ≡ x.correlation → ⊥) where
    abbrev l' : List Call
    l' = set l i x

    free-zero : (j : ℕ) → (slot l' j).«open» ≡ false → slot l' j ≡ empty_call
    free-zero j o =
        ⊎_elim
        (λ w. w.1 ∙ zero (subst (λ (c : Call). c.«open» ≡ false) w.1 o))
        (λ w. w.1 ∙ g.free_zero j (subst (λ (c : Call). c.«open» ≡ false) w.1 o))
        (slot_cases l i x j h)

    good-calls : (j : ℕ) → (slot l' j).«open» ≡ true → GoodCall T (slot l' j)
    good-calls j o =
        ⊎_elim
        (λ w. subst (λ (c : Call). GoodCall T c) (sym w.1) (good (subst (λ (c : Call). c.«open» ≡ true) w.1 o)))
        (λ w. subst (λ (c : Call). GoodCall T c) (sym w.1) (g.calls j (subst (λ (c : Call). c.«open» ≡ true) w.1 o)))
        (slot_cases l i x j h)

    differ : (j k : ℕ) → (slot l' j).«open» ≡ true → (slot l' k).«open» ≡ true → (slot l' j).correlation ≡ (slot l' k).correlation → j ≡ k
    differ j k p q e =
        ⊎_elim
        (λ v.
        ⊎_elim
        (λ w. v.0 ∙ sym w.0)
        (λ w.
        absurd (alone (subst (λ (c : Call). c.«open» ≡ true) v.1 p) k w.0 (subst (λ (c : Call). c.«open» ≡ true) w.1 q)
        (ap (λ (c : Call). c.correlation) (sym w.1) ∙ sym e ∙ ap (λ (c : Call). c.correlation) v.1)))
        (slot_cases l i x k h))
        (λ v.
        ⊎_elim
        (λ w.
        absurd (alone (subst (λ (c : Call). c.«open» ≡ true) w.1 q) j v.0 (subst (λ (c : Call). c.«open» ≡ true) v.1 p)
        (ap (λ (c : Call). c.correlation) (sym v.1) ∙ e ∙ ap (λ (c : Call). c.correlation) w.1)))
        (λ w.
        g.differ j k (subst (λ (c : Call). c.«open» ≡ true) v.1 p) (subst (λ (c : Call). c.«open» ≡ true) w.1 q)
        (ap (λ (c : Call). c.correlation) (sym v.1) ∙ e ∙ ap (λ (c : Call). c.correlation) w.1))
        (slot_cases l i x k h))
        (slot_cases l i x j h)

    good-set : GoodCalls T (set l i x)
    good-set = record { free_zero = free-zero; differ = differ; calls = good-calls }

-- ---- the records that a step writes
good-opened : (T : Table) (m id : ℕ) → m < length T.methods → GoodCall T (opened_call m id)
good-opened T m id h =
    record {
      method_exists = h;
      input_closed_of = λ o. clash false o refl;
      output_closed_of = λ o. clash false o refl;
      after_response = λ o. clash false o refl;
      input_elements_of = λ o. refl;
      output_elements_of = λ o. refl;
      not_complete = refl;
    }

-- what `allowed` asks of the two closes and of stream elements
module _ (row : FormRow) (c : Call) where
  in_stream : allowed row 2 c ≡ true → row.0 ≡ true
  in_stream a = go c.cancelled row.0 a
    where
      go : (x b : Bool) → (not x && ((b && not c.input_closed) || false)) ≡ true → b ≡ true
      go true b h = clash false h refl
      go false true h = refl
      go false false h = h

  out_stream : allowed row 4 c ≡ true → row.2 ≡ true
  out_stream a = go c.cancelled row.2 c.responded a
    where
      go : (x b d : Bool) → (not x && ((b && (d && not c.output_closed)) || false)) ≡ true → b ≡ true
      go true b d h = clash false h refl
      go false true d h = refl
      go false false d h = h

  in_close : allowed row 3 c ≡ true → row.1 ≡ true
  in_close a = go c.cancelled row.1 a
    where
      go : (x b : Bool) → (not x && ((b && not c.input_closed) || false)) ≡ true → b ≡ true
      go true b h = clash false h refl
      go false true h = refl
      go false false h = h

  out-close : allowed row 5 c ≡ true → (row.3 && c.responded) ≡ true
  out-close a = go c.cancelled row.3 c.responded a
    where
      go : (x b d : Bool) → (not x && ((b && (d && not c.output_closed)) || false)) ≡ true → (b && d) ≡ true
      go true b d h = clash false h refl
      go false true true h = refl
      go false true false h = h
      go false false d h = h

-- without the stream no element is counted
none-counted : (counted : Bool) (n : ℕ) (b : Bool) → (counted ≡ true → b ≡ true) → b ≡ false → n ≡ 0 → counting counted n ≡ 0
none-counted true n b f z e = clash b (f refl) z
none-counted false n b f z e = e

module _ (T : Table) (kind : ℕ) (c : Call) where
  abbrev row : FormRow
  row = form_row T c

  abbrev next : Call
  next = after_frame row kind c

  good-marked : GoodCall T c → allowed row kind c ≡ true → complete row (marked kind c) ≡ false → GoodCall T (marked kind c)
  good-marked g a d =
      let out : eqb kind 5 ≡ true → (row.3 && c.responded) ≡ true = λ q.
      out-close row c (subst (λ (k : ℕ). allowed row k c ≡ true) (eqb-true kind 5 q) a) in
      record {
        method_exists = g.method_exists;
        input_closed_of = λ o.
            ⊎_elim g.input_closed_of (λ q. in_close row c (subst (λ (k : ℕ). allowed row k c ≡ true) (eqb-true kind 3 q) a))
            (or_cases c.input_closed (eqb kind 3) o);
        output_closed_of = λ o.
            ⊎_elim g.output_closed_of (λ q. and_left row.3 c.responded (out q)) (or_cases c.output_closed (eqb kind 5) o);
        after_response = λ o.
            or_left c.responded (eqb kind 6)
            (⊎_elim g.after_response (λ q. and_right row.3 c.responded (out q)) (or_cases c.output_closed (eqb kind 5) o));
        input_elements_of = λ z.
            none-counted (is_input kind) c.input_elements row.0 (λ e. in_stream row c (subst (λ (k : ℕ). allowed row k c ≡ true) (eqb-true kind 2 e) a)) z (g.input_elements_of z);
        output_elements_of = λ z.
            none-counted (is_output kind) c.output_elements row.2 (λ e. out_stream row c (subst (λ (k : ℕ). allowed row k c ≡ true) (eqb-true kind 4 e) a)) z (g.output_elements_of z);
        not_complete = d;
      }

  -- the call has ended, and its record is the empty one; or it is marked
  pub after-cases : ((ends row kind c ≡ true) × (next ≡ empty_call)) ⊎ ((complete row (marked kind c) ≡ false) × (next ≡ marked kind c))
  after-cases = go (ends row kind c) refl
    where
      go : (b : Bool) → ends row kind c ≡ b →
          ((b ≡ true) × (cond b empty_call (marked kind c) ≡ empty_call)) ⊎ ((complete row (marked kind c) ≡ false) × (cond b empty_call (marked kind c) ≡ marked kind c))
      go true e = inl (refl, refl)
      go false e = inr ((or-false (eqb kind 7) (complete row (marked kind c)) e).1, refl)

  good-after : GoodCall T c → allowed row kind c ≡ true → next.«open» ≡ true → GoodCall T next
  good-after g a o =
      ⊎_elim
      (λ w. clash false (subst (λ (x : Call). x.«open» ≡ true) w.1 o) refl)
      (λ w. subst (λ (x : Call). GoodCall T x) (sym w.1) (good-marked g a w.0))
      after-cases

  zero-after : next.«open» ≡ false → next ≡ empty_call
  zero-after o = ⊎_elim (λ w. w.1) (λ w. clash true refl (subst (λ (x : Call). x.«open» ≡ false) w.1 o)) after-cases

  pub id-after : next.«open» ≡ true → next.correlation ≡ c.correlation
  id-after o =
      ⊎_elim
      (λ w. clash false (subst (λ (x : Call). x.«open» ≡ true) w.1 o) refl)
      (λ w. ap (λ (x : Call). x.correlation) w.1)
      after-cases

-- ---- the step
pub call_open : (id : ℕ) (c : Call) → is_call id c ≡ true → c.«open» ≡ true
call_open id c h = and_left c.«open» (eqb c.correlation id) h

pub call-id : (id : ℕ) (c : Call) → is_call id c ≡ true → c.correlation ≡ id
call-id id c h = eqb-true c.correlation id (and_right c.«open» (eqb c.correlation id) h)

pub is-call : (id : ℕ) (c : Call) → c.«open» ≡ true → c.correlation ≡ id → is_call id c ≡ true
is-call id c o e = and_i c.«open» (eqb c.correlation id) o (eq-eqb c.correlation id e)

-- What a judgement about the call under the identifier id may be: it stops with a number that ends no call; it opens a call at the lowest free slot; or
-- it goes to the open call, whose next record keeps the identifier and is good, or is the empty one.
module _ (T : Table) (id : ℕ) (l : List Call) where
  pub record Starts (j : ℕ) (c : Call) : Type 0 where
    pub fresh : c.correlation ≡ id
    pub good : c.«open» ≡ true → GoodCall T c
    pub zero : c.«open» ≡ false → c ≡ empty_call
    pub not_open : first_slot (is_call id) 0 l ≡ None
    pub lowest : first_slot is_free 0 l ≡ Some j

  pub record Moves (i : ℕ) (c : Call) : Type 0 where
    pub is_own : first_slot (is_call id) 0 l ≡ Some i
    pub same : c.«open» ≡ true → c.correlation ≡ id
    pub good : GoodCall T (slot l i) → c.«open» ≡ true → GoodCall T c
    pub zero : c.«open» ≡ false → c ≡ empty_call

  pub data JudgedFits : Judged → Type 0 where
    stops : (n : ℕ) → JudgedFits (Refused n)
    opens : (j : ℕ) (c : Call) (d : Payload) → Starts j c → JudgedFits (Opens j c d)
    goes : (i : ℕ) (c : Call) (d : Payload) → Moves i c → JudgedFits (Goes i c d)

pub frame-fits : (T : Table) (f : Frame) (l : List Call) → JudgedFits T f.correlation l (judge_of T f l)
frame-fits T f l = go (judge_of T f l) refl
  where
    id : ℕ
    id = f.correlation

    go : (J : Judged) → judge_of T f l ≡ J → JudgedFits T id l J
    go (Refused n) e = stops n
    go (Opens j c d) e =
        let w = judged-opens T f l j c d e in
        let known = (found-named T f.«package» f.service f.method w.method w.is_method).0 in
        opens j c d
        (record {
          fresh = ap (λ (x : Call). x.correlation) w.is_new;
          good = λ o. subst (λ (x : Call). GoodCall T x) (sym w.is_new) (good-opened T w.method id known);
          zero = λ o. clash true refl (subst (λ (x : Call). x.«open» ≡ false) w.is_new o);
          not_open = w.not_open;
          lowest = w.lowest;
        })
    go (Goes i c d) e =
        let w = judged-goes T f l i c d e in
        let own = slot l i in
        let here = found-passes (is_call id) l i w.is_own in
        let open_next : c.«open» ≡ true → (after_frame (form_row T own) f.kind own).«open» ≡ true = λ o. subst (λ (x : Call). x.«open» ≡ true) w.is_next o in
        goes i c d
        (record {
          is_own = w.is_own;
          same = λ o. ap (λ (x : Call). x.correlation) w.is_next ∙ id-after T f.kind own (open_next o) ∙ call-id id own here;
          good = λ g o. subst (λ (x : Call). GoodCall T x) (sym w.is_next) (good-after T f.kind own g w.is_allowed (open_next o));
          zero = λ o. w.is_next ∙ zero-after T f.kind own (subst (λ (x : Call). x.«open» ≡ false) w.is_next o);
        })

pub release-fits : (T : Table) (id : ℕ) (l : List Call) → JudgedFits T id l (judge_release id l)
release-fits T id l = go (judge_release id l) refl
  where
    go : (J : Judged) → judge_release id l ≡ J → JudgedFits T id l J
    go (Refused n) e = stops n
    go (Opens j c d) e = absurd (released-never id l j c d e)
    go (Goes i c d) e =
        let w = released-goes id l i c d e in
        let never : c.«open» ≡ true → ⊥ = λ o. clash false (subst (λ (x : Call). x.«open» ≡ true) w.is_next o) refl in
        goes i c d (record { is_own = w.is_own; same = λ o. absurd (never o); good = λ g o. absurd (never o); zero = λ o. w.is_next })

module _ (T : Table) (id : ℕ) (l : List Call) (g : GoodCalls T l) where
  good-opening : (j : ℕ) (c : Call) → Starts T id l j c → GoodCalls T (set l j c)
  good-opening j c w =
      good-set T l g j (found_in is_free l j w.lowest) c w.good w.zero
      (λ o k n p e. clash (is_call id (slot l k)) (is-call id (slot l k) p (e ∙ w.fresh)) (none_passes (is_call id) l 0 w.not_open k (past_end l k p)))

  good-ended : (i : ℕ) → i < length l → GoodCalls T (set l i empty_call)
  good-ended i h = good-set T l g i h empty_call (λ o. clash false o refl) (λ o. refl) (λ o. clash false o refl)

  good-going : (i : ℕ) (c : Call) → Moves T id l i c → GoodCalls T (set l i c)
  good-going i c w =
      let own = slot l i in
      let here = found-passes (is_call id) l i w.is_own in
      let o = call_open id own here in
      good-set T l g i (found_in (is_call id) l i w.is_own) c (w.good (g.calls i o)) w.zero
      (λ q k n p e. n (g.differ k i p o (e ∙ w.same q ∙ sym (call-id id own here))))

  good-step : (p : ℕ) {J : Judged} → JudgedFits T id l J → GoodCalls T (slots_after J p l)
  good-step p (stops n) = g
  good-step p (opens j c d w) = go (eqb p 0)
    where
      go : (b : Bool) → GoodCalls T (cond b (set l j c) l)
      go true = good-opening j c w
      go false = g
  good-step p (goes i c d w) = go (eqb p 0) (ends_call p)
    where
      go : (b q : Bool) → GoodCalls T (cond b (set l i c) (cond q (set l i empty_call) l))
      go true q = good-going i c w
      go false true = good-ended i (found_in (is_call id) l i w.is_own)
      go false false = g

slots_length : (p : ℕ) (J : Judged) (l : List Call) → length (slots_after J p l) ≡ length l
slots_length p (Refused n) l = refl
slots_length p (Opens j c d) l = go (eqb p 0)
  where
    go : (b : Bool) → length (cond b (set l j c) l) ≡ length l
    go true = length-set l j c
    go false = refl
slots_length p (Goes i c d) l = go (eqb p 0) (ends_call p)
  where
    go : (a b : Bool) → length (cond a (set l i c) (cond b (set l i empty_call) l)) ≡ length l
    go true b = length-set l i c
    go false true = length-set l i empty_call
    go false false = refl

-- a good table stays good
module _ (T : Table) (f : Frame) (reading : Payload → ℕ) (l : List Call) where
  pub stays-good : GoodCalls T l → GoodCalls T (receive T f reading l).slots
  unfolding receive
  stays-good g = good-step T f.correlation l g (reading (due_of (judge_of T f l))) (frame-fits T f l)

  pub test-stays : good_table T l ≡ true → good_table T (receive T f reading l).slots ≡ true
  test-stays g = good-test T (receive T f reading l).slots (stays-good (good-clauses T l g))

  pub stays-long : length (receive T f reading l).slots ≡ length l
  unfolding receive
  stays-long = slots_length (reading (due_of (judge_of T f l))) (judge_of T f l) l

-- so does a release
module _ (T : Table) (id n : ℕ) (l : List Call) where
  pub release-good : GoodCalls T l → GoodCalls T (release id n l).slots
  unfolding release
  release-good g = good-step T id l g n (release-fits T id l)

  pub release-test : good_table T l ≡ true → good_table T (release id n l).slots ≡ true
  release-test g = good-test T (release id n l).slots (release-good (good-clauses T l g))

pub release-long : (id n : ℕ) (l : List Call) → length (release id n l).slots ≡ length l
unfolding release
release-long id n l = slots_length n (judge_release id l) l
