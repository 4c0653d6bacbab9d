-- Calls kept apart: the judgement of a frame depends on its own call's record and, for INVOKE, on whether a slot is free, that of a release on the
-- record alone; the own record afterwards follows from that; other records are unchanged; and what frees a slot.
use Rattle.std.specs.Prelude.{None, Option, Some}
use mathlib.Core.Path.{◌≡◌, refl, sym, ◌∙◌, ap, subst}
use mathlib.Core.Logic.{◌⊎◌, inl, inr, ⊎_elim}
use mathlib.Core.Bool.{Bool, true, false, not, cond, ◌&&◌}
use mathlib.Core.List.{List, [], ◌∷◌}
use Prim.Native.Nat.{ℕ, zero, suc, ◌<◌, ◌≤◌}
use native.Mathlib.Omega.{arith}
use lib.ListN.{length, set, length-set}
use lib.Dec.{eqb, leb, lit≤, eqb-suc-suc}
use borrow.Author.Tests.{eqb-true, eqb-false, ne_eqb, not-true, not-false}
use Rattle.schema.specs.declared.Method.{Method}
use Rattle.schema.specs.Table.{Table}
use Rattle.schema.specs.Check.{method_row, find_method, is_missing}
use Rattle.calls.specs.declared.Call.{Call}
use Rattle.calls.specs.declared.FormRow.{FormRow}
use Rattle.calls.specs.declared.Frame.{Frame}
use Rattle.calls.specs.declared.Payload.{Payload}
use Rattle.calls.specs.declared.Payload.TheVariants.{Unread}
use Rattle.calls.specs.Judged.{Judged}
use Rattle.calls.specs.Judged.{Refused, Opens, Goes}
use Rattle.calls.specs.Forms.{row_of_form}
use Rattle.calls.specs.Numbers.{ends_call, EndsCall, payload, many-pairs}
use Rattle.calls.specs.Record.{empty_call, opened_call, is_call, is_free, complete, allowed, not_allowed, at_limit, marked, with_mark, after_frame}
use Rattle.calls.specs.Slots.{slot, first_slot, count_open, form_row, record_at, own_of, full}
use Rattle.calls.specs.Judge.{right_side, payload_of, names_method, Verdict, stop, opens, goes, open_verdict, invoke_verdict, other_verdict, verdict_of, release_verdict, placed, judge_of, judge_release}
use Rattle.calls.specs.Step.{number_after, slots_after, due_of, receive, release}
use Rattle.calls.specs.Good.{GoodCalls}
use Rattle.calls.specs.Event.{frame}
use Rattle.calls.specs.Event as event
use Rattle.calls.specs.Apart.{verdict, verdict_due, verdict_number, kept, verdict_own, touched, Cause, refusal, completion, error, released, Freed}
use Rattle.schema.proofs.Bools.{cases, clash, is_false, or_cases}
use Rattle.wire.proofs.Cases.{cond-case}
use Rattle.calls.proofs.Searches.{found_in, found-passes, found-lowest, none_passes, only-found, none_found, slot_same, slot-other, past_end, missing_at, at_at}
use Rattle.calls.proofs.Used.{ends-iff}
use Rattle.calls.proofs.Cancelled.{cancel-marks}
use Rattle.calls.proofs.Judgement.{Going, judged-opens, judged-goes, released-goes, released-never}
use Rattle.calls.proofs.Kept.{after-cases, call_open, call-id, is-call, Starts, Moves, JudgedFits, stops, opens as opens_at, goes as goes_to, frame-fits, release-fits}

-- ---- the judgement
-- a judgement is the one without a slot
placed_by : (i : ℕ) (v : Verdict) → verdict (placed i v) ≡ v
placed_by i (stop n) = refl
placed_by i (opens c d) = refl
placed_by i (goes c d) = refl

pub judged-by : (T : Table) (f : Frame) (l : List Call) → verdict (judge_of T f l) ≡ verdict_of T f (own_of f.correlation l) (full l)
unfolding judge_of
judged-by T f l = placed_by _ (verdict_of T f (own_of f.correlation l) (full l))

pub released-by : (id : ℕ) (l : List Call) → verdict (judge_release id l) ≡ release_verdict (own_of id l)
unfolding judge_release
released-by id l = placed_by _ (release_verdict (own_of id l))

number_by : (J : Judged) (p : ℕ) → number_after J p ≡ verdict_number (verdict J) p
number_by (Refused n) p = refl
number_by (Opens j c d) p = refl
number_by (Goes i c d) p = refl

-- what the payload holds, by the judgement without a slot
pub due-by : (J : Judged) → due_of J ≡ verdict_due (verdict J)
due-by (Refused n) = refl
due-by (Opens j c d) = refl
due-by (Goes i c d) = refl

-- whether a slot is free matters for INVOKE alone
pub room-aside : (T : Table) (f : Frame) (own : Option Call) (a b : Bool) → (f.kind ≡ 1 → a ≡ b) → verdict_of T f own a ≡ verdict_of T f own b
unfolding verdict_of
room-aside T f own a b h = go (eqb f.kind 1) refl
  where
    g : Option ℕ
    g = find_method T f.«package» f.service f.method

    go : (q : Bool) → eqb f.kind 1 ≡ q →
        cond (right_side f.side f.kind) (cond q (invoke_verdict T f.correlation g own a) (other_verdict T f own)) (stop 8) ≡
        cond (right_side f.side f.kind) (cond q (invoke_verdict T f.correlation g own b) (other_verdict T f own)) (stop 8)
    go true e =
        ap (λ (x : Bool). cond (right_side f.side f.kind) (invoke_verdict T f.correlation g own x) (stop 8)) (h (eqb-true f.kind 1 e))
    go false e = refl

-- ---- the answer
module _ (T : Table) (f : Frame) (reading : Payload → ℕ) where
  -- the number by the verdict
  abbrev answer : Verdict → ℕ
  answer v = verdict_number v (reading (verdict_due v))

  pub answered : (l : List Call) → (receive T f reading l).number ≡ answer (verdict_of T f (own_of f.correlation l) (full l))
  unfolding receive
  answered l =
      let J = judge_of T f l in
      number_by J (reading (due_of J)) ∙ ap (λ (d : Payload). verdict_number (verdict J) (reading d)) (due-by J) ∙ ap answer (judged-by T f l)

-- A release's number, by the own record.
pub release-answered : (id n : ℕ) (l : List Call) → (release id n l).number ≡ verdict_number (release_verdict (own_of id l)) n
unfolding release
release-answered id n l = number_by (judge_release id l) n ∙ ap (λ (v : Verdict). verdict_number v n) (released-by id l)

-- Two tables with the same own record and, for INVOKE, as much room get the same judgement but for the slot.
module _ (T : Table) (f : Frame) (l₁ l₂ : List Call) (same : own_of f.correlation l₁ ≡ own_of f.correlation l₂) (room : f.kind ≡ 1 → full l₁ ≡ full l₂) where
  pub same-verdict : verdict_of T f (own_of f.correlation l₁) (full l₁) ≡ verdict_of T f (own_of f.correlation l₂) (full l₂)
  same-verdict =
      ap (λ (o : Option Call). verdict_of T f o (full l₁)) same ∙ room-aside T f (own_of f.correlation l₂) (full l₁) (full l₂) room

  pub same-judgement : verdict (judge_of T f l₁) ≡ verdict (judge_of T f l₂)
  same-judgement = judged-by T f l₁ ∙ same-verdict ∙ sym (judged-by T f l₂)

-- ---- the own record
-- the record x at slot i, where no other record is open under the identifier
own-set : (id : ℕ) (l : List Call) (i : ℕ) (x : Call) → i < length l → (x.«open» ≡ true → x.correlation ≡ id) →
    ((k : ℕ) → (k ≡ i → ⊥) → is_call id (slot l k) ≡ false) → own_of id (set l i x) ≡ kept x
unfolding own_of
own-set id l i x h e alone = go x.«open» refl
  where
    at : slot (set l i x) i ≡ x
    at = slot_same l i x h

    others : (k : ℕ) → (k ≡ i → ⊥) → is_call id (slot (set l i x) k) ≡ false
    others k n = subst (λ (c : Call). is_call id c ≡ false) (sym (slot-other l i x k n)) (alone k n)

    only : (k : ℕ) → is_call id (slot (set l i x) k) ≡ true → k ≡ i
    only k t = ⊎_elim (eqb-true k i) (λ q. clash (is_call id (slot (set l i x) k)) t (others k (eqb-false k i q))) (cases (eqb k i))

    not_there : x.«open» ≡ false → (k : ℕ) → is_call id (slot (set l i x) k) ≡ false
    not_there o k =
        ⊎_elim
        (λ q. subst (λ (n : ℕ). is_call id (slot (set l i x) n) ≡ false) (sym (eqb-true k i q))
        (subst (λ (c : Call). is_call id c ≡ false) (sym at) (rw o)))
        (λ q. others k (eqb-false k i q))
        (cases (eqb k i))

    go : (b : Bool) → x.«open» ≡ b → record_at (set l i x) (first_slot (is_call id) 0 (set l i x)) ≡ cond b (Some x) None
    go true o =
        let r = only-found (is_call id) (set l i x) i (omega (arith, length-set l i x)) (subst (λ (c : Call). is_call id c ≡ true) (sym at) (is-call id x o (e o))) only in
        ap (record_at (set l i x)) r ∙ ap Some at
    go false o = ap (record_at (set l i x)) (none_found (is_call id) (set l i x) (not_there o))

module _ (T : Table) (id : ℕ) (l : List Call) where
  -- the record is the own call's
  is-own : (i : ℕ) (c : Call) → Moves T id l i c → is_call id (slot l i) ≡ true
  is-own i c w = found-passes (is_call id) l i w.is_own

  module _ (g : GoodCalls T l) where
    opening-own : (j : ℕ) (c : Call) → Starts T id l j c → own_of id (set l j c) ≡ kept c
    opening-own j c w =
        own-set id l j c (found_in is_free l j w.lowest) (λ o. w.fresh)
        (λ k n. is_false (is_call id (slot l k)) (λ t. clash (is_call id (slot l k)) t (none_passes (is_call id) l 0 w.not_open k (past_end l k (call_open id (slot l k) t)))))

    module _ (i : ℕ) (c : Call) (w : Moves T id l i c) where
      going-alone : (k : ℕ) → (k ≡ i → ⊥) → is_call id (slot l k) ≡ false
      going-alone k n =
          let o = is-own i c w in
          is_false (is_call id (slot l k))
          (λ t. n (g.differ k i (call_open id (slot l k) t) (call_open id (slot l i) o) (call-id id (slot l k) t ∙ sym (call-id id (slot l i) o))))

      going-own : (x : Call) → (x.«open» ≡ true → x.correlation ≡ id) → own_of id (set l i x) ≡ kept x
      going-own x e = own-set id l i x (found_in (is_call id) l i w.is_own) e going-alone

    stepped-own : (p : ℕ) {J : Judged} → JudgedFits T id l J → own_of id (slots_after J p l) ≡ verdict_own (verdict J) p (own_of id l)
    stepped-own p (stops n) = refl
    stepped-own p (opens_at j c d w) = go (eqb p 0)
      where
        go : (b : Bool) → own_of id (cond b (set l j c) l) ≡ cond b (kept c) (own_of id l)
        go true = opening-own j c w
        go false = refl
    stepped-own p (goes_to i c d w) = go (eqb p 0) (ends_call p)
      where
        go : (a b : Bool) → own_of id (cond a (set l i c) (cond b (set l i empty_call) l)) ≡ cond a (kept c) (cond b None (own_of id l))
        go true b = going-own i c w c w.same
        go false true = going-own i c w empty_call (λ o. clash false o refl)
        go false false = refl

-- The own record afterwards, by the judgement without a slot.
pub own-after : (T : Table) (f : Frame) (l : List Call) → GoodCalls T l → (reading : Payload → ℕ) →
    let v = verdict_of T f (own_of f.correlation l) (full l) in
    own_of f.correlation (receive T f reading l).slots ≡ verdict_own v (reading (verdict_due v)) (own_of f.correlation l)
unfolding receive
own-after T f l g reading =
    let J = judge_of T f l in
    let own = own_of f.correlation l in
    stepped-own T f.correlation l g (reading (due_of J)) (frame-fits T f l)
    ∙ ap (λ (d : Payload). verdict_own (verdict J) (reading d) own) (due-by J)
    ∙ ap (λ (v : Verdict). verdict_own v (reading (verdict_due v)) own) (judged-by T f l)

pub release-own : (T : Table) (id n : ℕ) (l : List Call) → GoodCalls T l → own_of id (release id n l).slots ≡ verdict_own (release_verdict (own_of id l)) n (own_of id l)
unfolding release
release-own T id n l g =
    stepped-own T id l g n (release-fits T id l) ∙ ap (λ (v : Verdict). verdict_own v n (own_of id l)) (released-by id l)

-- ---- the other records
-- a record that is free, or open under id, is open under no other correlation
not_other : (k id : ℕ) (c : Call) → (k ≡ id → ⊥) → (c.«open» ≡ true → c.correlation ≡ id) → is_call k c ≡ false
not_other k id c n f = is_false (is_call k c) (λ t. n (sym (call-id k c t) ∙ f (call_open k c t)))

first-set : (q : Call → Bool) (l : List Call) (i : ℕ) (x : Call) (k : ℕ) → q x ≡ q (slot l i) → first_slot q k (set l i x) ≡ first_slot q k l
first-set q [] i x k e = refl
first-set q (y ∷ ys) zero x k e = ap (λ (b : Bool). cond b (Some k) (first_slot q (suc k) ys)) e
first-set q (y ∷ ys) (suc i) x k e = ap (λ (f : Option ℕ). cond (q y) (Some k) f) (first-set q ys i x (suc k) e)

other-set : (k : ℕ) (l : List Call) (i : ℕ) (x : Call) → is_call k x ≡ false → is_call k (slot l i) ≡ false → own_of k (set l i x) ≡ own_of k l
unfolding own_of
other-set k l i x new old = ap (record_at (set l i x)) (first-set (is_call k) l i x 0 (new ∙ sym old)) ∙ go (first_slot (is_call k) 0 l) refl
  where
    go : (f : Option ℕ) → first_slot (is_call k) 0 l ≡ f → record_at (set l i x) f ≡ record_at l f
    go None e = refl
    go (Some j) e =
        ap Some (slot-other l i x j (λ q. clash (is_call k (slot l j)) (found-passes (is_call k) l j e) (subst (λ (n : ℕ). is_call k (slot l n) ≡ false) (sym q) old)))

module _ (T : Table) (id : ℕ) (l : List Call) (k : ℕ) (n : k ≡ id → ⊥) where
  other-opening : (j : ℕ) (c : Call) → Starts T id l j c → own_of k (set l j c) ≡ own_of k l
  other-opening j c w =
      let free = not-true (slot l j).«open» (found-passes is_free l j w.lowest) in
      other-set k l j c (not_other k id c n (λ o. w.fresh)) (not_other k id (slot l j) n (λ o. clash (slot l j).«open» o free))

  other-going : (i : ℕ) (c x : Call) → Moves T id l i c → (x.«open» ≡ true → x.correlation ≡ id) → own_of k (set l i x) ≡ own_of k l
  other-going i c x w e =
      other-set k l i x (not_other k id x n e) (not_other k id (slot l i) n (λ o. call-id id (slot l i) (is-own T id l i c w)))

  stepped-other : (p : ℕ) {J : Judged} → JudgedFits T id l J → own_of k (slots_after J p l) ≡ own_of k l
  stepped-other p (stops m) = refl
  stepped-other p (opens_at j c d w) = go (eqb p 0)
    where
      go : (b : Bool) → own_of k (cond b (set l j c) l) ≡ own_of k l
      go true = other-opening j c w
      go false = refl
  stepped-other p (goes_to i c d w) = go (eqb p 0) (ends_call p)
    where
      go : (a b : Bool) → own_of k (cond a (set l i c) (cond b (set l i empty_call) l)) ≡ own_of k l
      go true b = other-going i c c w w.same
      go false true = other-going i c empty_call w (λ o. clash false o refl)
      go false false = refl

-- The record of every other identifier is unchanged.
pub others-kept : (T : Table) (f : Frame) (l : List Call) (reading : Payload → ℕ) (k : ℕ) → (k ≡ f.correlation → ⊥)
    → own_of k (receive T f reading l).slots ≡ own_of k l
unfolding receive
others-kept T f l reading k n = stepped-other T f.correlation l k n (reading (due_of (judge_of T f l))) (frame-fits T f l)

pub release-others : (T : Table) (id n : ℕ) (l : List Call) (k : ℕ) → (k ≡ id → ⊥) → own_of k (release id n l).slots ≡ own_of k l
unfolding release
release-others T id n l k h = stepped-other T id l k h n (release-fits T id l)

-- an accepted frame is no refusal
none-ended : ends_call 0 ≡ false
unfolding ends_call
none-ended = refl

-- ---- the slots
-- no slot but the one touched is changed
untouched : (l : List Call) (p : ℕ) (J : Judged) (j : ℕ) → (touched J ≡ Some j → ⊥) → slot (slots_after J p l) j ≡ slot l j
untouched l p (Refused n) j h = refl
untouched l p (Opens i c d) j h = go (eqb p 0)
  where
    go : (b : Bool) → slot (cond b (set l i c) l) j ≡ slot l j
    go true = slot-other l i c j (λ e. h (ap Some (sym e)))
    go false = refl
untouched l p (Goes i c d) j h = go (eqb p 0) (ends_call p)
  where
    go : (a b : Bool) → slot (cond a (set l i c) (cond b (set l i empty_call) l)) j ≡ slot l j
    go true b = slot-other l i c j (λ e. h (ap Some (sym e)))
    go false true = slot-other l i empty_call j (λ e. h (ap Some (sym e)))
    go false false = refl

module _ (T : Table) (f : Frame) (l : List Call) where
  pub other-slots : (reading : Payload → ℕ) (j : ℕ) → (touched (judge_of T f l) ≡ Some j → ⊥) → slot (receive T f reading l).slots j ≡ slot l j
  unfolding receive
  other-slots reading j h = untouched l (reading (due_of (judge_of T f l))) (judge_of T f l) j h

-- the slot that is touched is free, or open under the event's identifier
touched-own : (T : Table) (id : ℕ) (l : List Call) {J : Judged} → JudgedFits T id l J → (i : ℕ) → touched J ≡ Some i → (slot l i).«open» ≡ true → (slot l i).correlation ≡ id
touched-own T id l (stops n) i t o = missing_at i t
touched-own T id l (opens_at j c d w) i t o =
    clash (slot l i).«open» o (subst (λ (n : ℕ). (slot l n).«open» ≡ false) (at_at j i t) (not-true (slot l j).«open» (found-passes is_free l j w.lowest)))
touched-own T id l (goes_to j c d w) i t o =
    subst (λ (n : ℕ). (slot l n).correlation ≡ id) (at_at j i t) (call-id id (slot l j) (is-own T id l j c w))

-- An open slot under another correlation is unchanged.
pub open_kept : (T : Table) (f : Frame) (l : List Call) (reading : Payload → ℕ) (i : ℕ) → (slot l i).«open» ≡ true → ((slot l i).correlation ≡ f.correlation → ⊥)
    → slot (receive T f reading l).slots i ≡ slot l i
open_kept T f l reading i o n = other-slots T f l reading i (λ t. n (touched-own T f.correlation l (frame-fits T f l) i t o))

-- A release changes no slot but its own call's.
pub release-kept : (id n : ℕ) (l : List Call) (i : ℕ) → is_call id (slot l i) ≡ false → slot (release id n l).slots i ≡ slot l i
unfolding release
release-kept id n l i h = untouched l n (judge_release id l) i (λ t. clash (is_call id (slot l i)) (go (judge_release id l) refl t) h)
  where
    go : (J : Judged) → judge_release id l ≡ J → touched J ≡ Some i → is_call id (slot l i) ≡ true
    go (Refused m) e t = missing_at i t
    go (Opens j c d) e t = absurd (released-never id l j c d e)
    go (Goes j c d) e t =
        subst (λ (k : ℕ). is_call id (slot l k) ≡ true) (at_at j i t) (found-passes (is_call id) l j (released-goes id l j c d e).is_own)

-- A new call takes the lowest free slot.
pub lowest-free : (T : Table) (f : Frame) (l : List Call) (j : ℕ) (c : Call) (d : Payload) → judge_of T f l ≡ Opens j c d →
    ((slot l j).«open» ≡ false) × ((k : ℕ) → k < j → (slot l k).«open» ≡ true)
lowest-free T f l j c d e =
    let w = judged-opens T f l j c d e in (
      not-true (slot l j).«open» (found-passes is_free l j w.lowest),
      λ k h. not-false (slot l k).«open» (found-lowest is_free l j w.lowest k h),
    )

-- ---- what frees a slot
-- it goes to the call there, and its payload's refusal ends the call or the next record is free
record Emptied (id : ℕ) (l : List Call) (p : ℕ) (J : Judged) (i : ℕ) : Type 0 where
  next : Call
  due : Payload
  is_going : J ≡ Goes i next due
  is_own : is_call id (slot l i) ≡ true
  why : (ends_call p ≡ true) ⊎ ((p ≡ 0) × (next.«open» ≡ false))

module _ (T : Table) (id : ℕ) (l : List Call) (i : ℕ) (o : (slot l i).«open» ≡ true) where
  untouched_open : {A : Type 0} (p : ℕ) (J : Judged) → (touched J ≡ Some i → ⊥) → (slot (slots_after J p l) i).«open» ≡ false → A
  untouched_open p J h q = clash (slot l i).«open» o (subst (λ (x : Call). x.«open» ≡ false) (untouched l p J i h) q)

  own-emptied : (p : ℕ) (c : Call) (d : Payload) → Moves T id l i c → (slot (slots_after (Goes i c d) p l) i).«open» ≡ false → Emptied id l p (Goes i c d) i
  own-emptied p c d w q = record { next = c; due = d; is_going = refl; is_own = is-own T id l i c w; why = go (eqb p 0) (ends_call p) refl refl q }
    where
      go : (a b : Bool) → eqb p 0 ≡ a → ends_call p ≡ b → (slot (cond a (set l i c) (cond b (set l i empty_call) l)) i).«open» ≡ false →
          (ends_call p ≡ true) ⊎ ((p ≡ 0) × (c.«open» ≡ false))
      go true b z y r = inr (eqb-true p 0 z, subst (λ (x : Call). x.«open» ≡ false) (slot_same l i c (past_end l i o)) r)
      go false true z y r = inl y
      go false false z y r = clash (slot l i).«open» o r

  emptied : (p : ℕ) {J : Judged} → JudgedFits T id l J → (slot (slots_after J p l) i).«open» ≡ false → Emptied id l p J i
  emptied p (stops n) q = clash (slot l i).«open» o q
  emptied p (opens_at j c d w) q =
      untouched_open p (Opens j c d)
      (λ s. clash (slot l i).«open» o (subst (λ (n : ℕ). (slot l n).«open» ≡ false) (at_at j i s) (not-true (slot l j).«open» (found-passes is_free l j w.lowest)))) q
  emptied p (goes_to k c d w) q =
      ⊎_elim
      (λ s.
      let z : k ≡ i = sym (eqb-true i k s) in
      subst (λ (n : ℕ). Emptied id l p (Goes n c d) i) (sym z)
      (own-emptied p c d (subst (λ (n : ℕ). Moves T id l n c) z w) (subst (λ (n : ℕ). (slot (slots_after (Goes n c d) p l) i).«open» ≡ false) z q)))
      (λ s. untouched_open p (Goes k c d) (λ t. eqb-false i k s (sym (at_at k i t))) q)
      (cases (eqb i k))

-- Only a payload refusal, the completion of the call or ERROR frees a slot, and its own.
module _ (T : Table) (f : Frame) (l : List Call) (i : ℕ) (o : (slot l i).«open» ≡ true) where
  freed-by : (p : ℕ) → (slot (slots_after (judge_of T f l) p l) i).«open» ≡ false → Freed T (frame f) (number_after (judge_of T f l) p) (slot l i)
  freed-by p q =
      let w = emptied T f.correlation l i o p (frame-fits T f l) q in
      let g = judged-goes T f l i w.next w.due w.is_going in
      rw w.is_going (record { is_own = w.is_own; cause = ⊎_elim (λ r. refusal f r) (λ r. ended g r.0 r.1) w.why })
    where
      own : Call
      own = slot l i

      ended : {c : Call} → Going T f l i c → p ≡ 0 → c.«open» ≡ false → Cause T own (frame f) p
      ended g z free =
          rw z
          (⊎_elim
          (λ v. ⊎_elim (λ k. error f (eqb-true f.kind 7 k)) (completion f) (or_cases (eqb f.kind 7) (complete (form_row T own) (marked f.kind own)) v.0))
          (λ v. clash true refl (subst (λ (x : Call). x.«open» ≡ false) (g.is_next ∙ v.1) free))
          (after-cases T f.kind own))

  pub freed : (reading : Payload → ℕ) → let r = receive T f reading l in (slot r.slots i).«open» ≡ false → Freed T (frame f) r.number (slot l i)
  unfolding receive
  freed reading q = freed-by (reading (due_of (judge_of T f l))) q

-- A release frees the slot of its own call alone, and only where that is cancelled.
pub release-freed : (T : Table) (id n : ℕ) (l : List Call) → ends_call n ≡ false → (i : ℕ) → (slot l i).«open» ≡ true →
    let r = release id n l in (slot r.slots i).«open» ≡ false → Freed T (event.release id) r.number (slot l i)
unfolding release
release-freed T id n l k i o q =
    let w = emptied T id l i o n (release-fits T id l) q in
    let g = released-goes id l i w.next w.due w.is_going in
    let z : n ≡ 0 = ⊎_elim (λ t. clash (ends_call n) t k) (λ r. r.0) w.why in
    rw (w.is_going, z) (record { is_own = w.is_own; cause = released id g.is_cancelled })

-- ---- what changes no call
same-slots : (T : Table) (f : Frame) (l : List Call) (p : ℕ) (J : Judged) → judge_of T f l ≡ J → (number_after J p ≡ 0 → ⊥) →
    (ends_call (number_after J p) ≡ false) ⊎ (f.kind ≡ 1) → slots_after J p l ≡ l
same-slots T f l p (Refused n) e h w = refl
same-slots T f l p (Opens j c d) e h w = rw (ne_eqb p 0 h)
same-slots T f l p (Goes i c d) e h w = ⊎_elim (λ (q : ends_call p ≡ false). rw (ne_eqb p 0 h, q)) (λ k. absurd ((judged-goes T f l i c d e).is_other k)) w

-- A refusal that ends no call changes none, nor does any refusal of INVOKE.
pub refused-same : (T : Table) (f : Frame) (reading : Payload → ℕ) (l : List Call) →
    let r = receive T f reading l in
    (r.number ≡ 0 → ⊥) → (ends_call r.number ≡ false) ⊎ (f.kind ≡ 1) → r.slots ≡ l
unfolding receive
refused-same T f reading l h w = same-slots T f l (reading (due_of (judge_of T f l))) (judge_of T f l) refl h w

-- A release that is refused changes none.
pub release-same : (id n : ℕ) (l : List Call) → ends_call n ≡ false → let r = release id n l in (r.number ≡ 0 → ⊥) → r.slots ≡ l
unfolding release
release-same id n l k = go (judge_release id l)
  where
    go : (J : Judged) → (number_after J n ≡ 0 → ⊥) → slots_after J n l ≡ l
    go (Refused m) h = refl
    go (Opens j c d) h = rw (ne_eqb n 0 h)
    go (Goes i c d) h = rw (ne_eqb n 0 h, k)

-- ---- what ends a call
spared : {n : ℕ} → (8 ≤ n) × (n ≤ 17) → EndsCall n → ⊥
spared w (payload low high) = omega (arith, w.1, low)
spared w many-pairs = omega (arith, w.1)

-- a release that is accepted
gone : (n : ℕ) (own : Option Call) → verdict_number (release_verdict own) n ≡ 0 → verdict_own (release_verdict own) n own ≡ None
gone n None e = absurd (omega arith)
gone n (Some c) e = go c.cancelled e
  where
    go : (b : Bool) → verdict_number (cond b (goes empty_call Unread) (stop 14)) n ≡ 0 → verdict_own (cond b (goes empty_call Unread) (stop 14)) n (Some c) ≡ None
    go true z = rw z
    go false z = absurd (omega arith)

pub release-ends : (T : Table) (id n : ℕ) (l : List Call) → GoodCalls T l → (release id n l).number ≡ 0 → own_of id (release id n l).slots ≡ None
release-ends T id n l g e = release-own T id n l g ∙ gone n (own_of id l) (sym (release-answered id n l) ∙ e)

-- the numbers before the payload are 8 to 17
Spares : Verdict → Type 0
Spares (stop n) = (8 ≤ n) × (n ≤ 17)
Spares (opens c d) = Unit {0}
Spares (goes c d) = Unit {0}

module _ (T : Table) (f : Frame) (l : List Call) where
  spares-opening : (c : Call) (d : Payload) (own : Option Call) (b : Bool) → Spares (open_verdict c d own b)
  unfolding Spares
  spares-opening c d (Some x) b = (lit≤ tt, lit≤ tt)
  spares-opening c d None true = (lit≤ tt, lit≤ tt)
  spares-opening c d None false = tt

  spares-invoke : (n : Option ℕ) (own : Option Call) (b : Bool) → Spares (invoke_verdict T f.correlation n own b)
  unfolding Spares
  spares-invoke None own b = (lit≤ tt, lit≤ tt)
  spares-invoke (Some m) own b = spares-opening (opened_call m f.correlation) (payload_of (method_row T m) 1) own b

  spares-late : (b : Bool) → Spares (stop (cond b 16 14))
  unfolding Spares
  spares-late true = (lit≤ tt, lit≤ tt)
  spares-late false = (lit≤ tt, lit≤ tt)

  spares-other : (own : Option Call) → Spares (other_verdict T f own)
  unfolding Spares
  spares-other None = (lit≤ tt, lit≤ tt)
  spares-other (Some c) =
      let m = method_row T c.method in
      let next = goes (after_frame (row_of_form m.form) f.kind c) (payload_of m f.kind) in
      let late = stop (not_allowed f.kind c) in
      let few = cond (at_limit f.kind c) (stop 17) next in
      let may = allowed (row_of_form m.form) f.kind c in
      cond-case Spares (names_method f m) (cond may few late) (stop 12)
      (λ _. cond-case Spares may few late (λ _. cond-case Spares (at_limit f.kind c) (stop 17) next (λ _. (lit≤ tt, lit≤ tt)) (λ _. tt))
      (λ _. spares-late (c.cancelled && (leb 4 f.kind && leb f.kind 7))))
      (λ _. (lit≤ tt, lit≤ tt))

  spares-verdict : (own : Option Call) (b : Bool) → Spares (verdict_of T f own b)
  unfolding verdict_of Spares
  spares-verdict own b =
      let invoke = invoke_verdict T f.correlation (find_method T f.«package» f.service f.method) own b in
      let other = other_verdict T f own in
      cond-case Spares (right_side f.side f.kind) (cond (eqb f.kind 1) invoke other) (stop 8)
      (λ _. cond-case Spares (eqb f.kind 1) invoke other (λ _. spares-invoke (find_method T f.«package» f.service f.method) own b) (λ _. spares-other own))
      (λ _. (lit≤ tt, lit≤ tt))

  spares : Spares (verdict (judge_of T f l))
  spares = rw (judged-by T f l) (spares-verdict (own_of f.correlation l) (full l))

  -- A refusal before the payload has a number from 8 to 17.
  pub stop-number : (n : ℕ) → judge_of T f l ≡ Refused n → (8 ≤ n) × (n ≤ 17)
  unfolding Spares
  stop-number n e = subst (λ (J : Judged). Spares (verdict J)) e spares

  module _ (g : GoodCalls T l) (other : f.kind ≡ 1 → ⊥) where
    ended-own : (p : ℕ) (J : Judged) → judge_of T f l ≡ J → ends_call (number_after J p) ≡ true → own_of f.correlation (slots_after J p l) ≡ None
    ended-own p (Refused n) e t = absurd (spared (stop-number n e) ((ends-iff n).0 t))
    ended-own p (Opens j c d) e t = absurd (other (judged-opens T f l j c d e).is_invoke)
    ended-own p (Goes i c d) e t =
        let z : eqb p 0 ≡ false = ne_eqb p 0 (λ q. clash (ends_call p) t (rw q none-ended)) in
        stepped-own T f.correlation l g p (subst (JudgedFits T f.correlation l) e (frame-fits T f l)) ∙ rw (z, t)

    -- A payload refusal ends the open call.
    pub refused-ends : (reading : Payload → ℕ) →
        let r = receive T f reading l in
        ends_call r.number ≡ true → own_of f.correlation r.slots ≡ None
    unfolding receive
    refused-ends reading t = ended-own (reading (due_of (judge_of T f l))) (judge_of T f l) refl t

-- ---- a cancelled call

-- An accepted CANCEL sets the mark of its call in its slot, and changes nothing else.
pub cancel-marked : (T : Table) (f : Frame) (l : List Call) → GoodCalls T l → f.kind ≡ 8 → (reading : Payload → ℕ) →
    let r = receive T f reading l in
    r.number ≡ 0 → (i : ℕ) → is_call f.correlation (slot l i) ≡ true → r.slots ≡ set l i (with_mark true (slot l i))
unfolding receive
cancel-marked T f l g k reading z i t = go (judge_of T f l) refl z
  where
    id : ℕ
    id = f.correlation

    own : Call
    own = slot l i

    row : FormRow
    row = form_row T own

    uncancelled : allowed row 8 own ≡ true → own.cancelled ≡ false
    uncancelled a = is_false own.cancelled (λ q. clash false (rw q at a) refl)

    next : own.cancelled ≡ false → after_frame row 8 own ≡ with_mark true own
    next q =
        let e = cancel-marks own q in
        ⊎_elim
        (λ w. clash (complete row own) (subst (λ (c : Call). complete row c ≡ true) e w.0) (g.calls i (call_open id own t)).not_complete)
        (λ w. w.1 ∙ e)
        (after-cases T 8 own)

    marks : (c : Call) (d : Payload) → Going T f l i c → reading d ≡ 0 → slots_after (Goes i c d) (reading d) l ≡ set l i (with_mark true own)
    marks c d w e =
        let now : c ≡ after_frame row 8 own = rw k at w.is_next in
        rw e (ap (set l i) (now ∙ next (uncancelled (rw k at w.is_allowed))))

    go : (J : Judged) → judge_of T f l ≡ J → number_after J (reading (due_of J)) ≡ 0 → slots_after J (reading (due_of J)) l ≡ set l i (with_mark true own)
    go (Refused n) e q = absurd (omega (arith, (stop-number T f l n e).0, q))
    go (Opens j c d) e q = absurd (omega (arith, k, (judged-opens T f l j c d e).is_invoke))
    go (Goes j c d) e q =
        let w = judged-goes T f l j c d e in
        let o = found-passes (is_call id) l j w.is_own in
        let same : j ≡ i = g.differ j i (call_open id (slot l j) o) (call_open id own t) (call-id id (slot l j) o ∙ sym (call-id id own t)) in
        subst (λ (n : ℕ). slots_after (Goes n c d) (reading d) l ≡ set l i (with_mark true own)) (sym same) (marks c d (subst (λ (n : ℕ). Going T f l n c) same w) q)

-- It frees none.
pub cancel-frees-none : (T : Table) (f : Frame) (l : List Call) → GoodCalls T l → f.kind ≡ 8 → (reading : Payload → ℕ) →
    let r = receive T f reading l in r.number ≡ 0 → (i : ℕ) → (slot l i).«open» ≡ true → (slot r.slots i).«open» ≡ true
cancel-frees-none T f l g k reading z i o =
    let own = slot l i in
    ⊎_elim
    (λ q.
    let e = cancel-marked T f l g k reading z i (is-call f.correlation own o (eqb-true own.correlation f.correlation q)) in
    subst (λ (c : Call). c.«open» ≡ true) (sym (ap (λ (x : List Call). slot x i) e ∙ slot_same l i (with_mark true own) (past_end l i o))) refl)
    (λ q. subst (λ (c : Call). c.«open» ≡ true) (sym (open_kept T f l reading i o (eqb-false own.correlation f.correlation q))) o)
    (cases (eqb own.correlation f.correlation))

-- the payload of ERROR is not read
error-payload : (m : Method) (kind : ℕ) → kind ≡ 7 → payload_of m kind ≡ Unread
unfolding payload_of
error-payload m kind e = rw e

error-due : (T : Table) (f : Frame) (own : Option Call) (b : Bool) → f.kind ≡ 7 → verdict_due (verdict_of T f own b) ≡ Unread
unfolding verdict_of
error-due T f own b e = go (right_side f.side f.kind) (eqb f.kind 1) (ne_eqb f.kind 1 (λ z. omega arith)) own
  where
    call : (a b z : Bool) (x : Call) (d : Payload) (n : ℕ) → d ≡ Unread → verdict_due (cond a (cond b (cond z (stop 17) (goes x d)) (stop n)) (stop 12)) ≡ Unread
    call true true true x d n h = refl
    call true true false x d n h = h
    call true false z x d n h = refl
    call false b z x d n h = refl

    other : (own : Option Call) → verdict_due (other_verdict T f own) ≡ Unread
    other None = refl
    other (Some c) =
        let m = method_row T c.method in
        call (names_method f m) (allowed (row_of_form m.form) f.kind c) (at_limit f.kind c)
        (after_frame (row_of_form m.form) f.kind c) (payload_of m f.kind) (not_allowed f.kind c) (error-payload m f.kind e)

    go : (a q : Bool) → q ≡ false → (own : Option Call) →
        verdict_due (cond a (cond q (invoke_verdict T f.correlation (find_method T f.«package» f.service f.method) own b) (other_verdict T f own)) (stop 8)) ≡ Unread
    go true true z own = clash false (sym z) refl
    go true false z own = other own
    go false q z own = refl

pub error-unread : (T : Table) (f : Frame) (l : List Call) → f.kind ≡ 7 → due_of (judge_of T f l) ≡ Unread
error-unread T f l k =
    let J = judge_of T f l in due-by J ∙ ap verdict_due (judged-by T f l) ∙ error-due T f (own_of f.correlation l) (full l) k

-- Of frames only its ERROR, accepted, frees the slot of a cancelled call.
module _ (T : Table) (f : Frame) (l : List Call) (i : ℕ) (o : (slot l i).«open» ≡ true) (late : (slot l i).cancelled ≡ true) where
  is-error : allowed (form_row T (slot l i)) f.kind (slot l i) ≡ true → f.kind ≡ 7
  is-error a = ⊎_elim (eqb-true f.kind 7) (λ q. clash false (rw late at q) refl) (or_cases (eqb f.kind 7) _ a)

  freed-late : (reading : Payload → ℕ) → ends_call (reading Unread) ≡ false → (J : Judged) → judge_of T f l ≡ J → Emptied f.correlation l (reading (due_of J)) J i
      → (is_call f.correlation (slot l i) ≡ true) × (f.kind ≡ 7) × (number_after J (reading (due_of J)) ≡ 0)
  freed-late reading z J e w =
      let going : judge_of T f l ≡ Goes i w.next w.due = e ∙ w.is_going in
      let k = is-error (judged-goes T f l i w.next w.due going).is_allowed in
      let due : w.due ≡ Unread = sym (ap due_of going) ∙ error-unread T f l k in
      let same : reading (due_of J) ≡ reading Unread = ap (λ (x : Judged). reading (due_of x)) w.is_going ∙ ap reading due in
      let zero : reading (due_of J) ≡ 0 = ⊎_elim (λ t. clash (ends_call (reading Unread)) (sym (ap ends_call same) ∙ t) z) (λ r. r.0) w.why in
      (w.is_own, k, ap (λ (x : Judged). number_after x (reading (due_of J))) w.is_going ∙ zero)

  pub cancelled-freed : (reading : Payload → ℕ) → ends_call (reading Unread) ≡ false → let r = receive T f reading l in
      (slot r.slots i).«open» ≡ false → (is_call f.correlation (slot l i) ≡ true) × (f.kind ≡ 7) × (r.number ≡ 0)
  unfolding receive
  cancelled-freed reading z q =
      let J = judge_of T f l in freed-late reading z J refl (emptied T f.correlation l i o (reading (due_of J)) (frame-fits T f l) q)

-- ---- no slot is free exactly where every record is open
few_open : (l : List Call) → count_open l ≤ length l
few_open [] = omega arith
few_open (x ∷ xs) = go x.«open» (few_open xs)
  where
    go : (b : Bool) → count_open xs ≤ length xs → cond b (suc (count_open xs)) (count_open xs) ≤ suc (length xs)
    go true h = omega arith
    go false h = omega arith

full_from : (l : List Call) (k : ℕ) → is_missing (first_slot is_free k l) ≡ eqb (count_open l) (length l)
full_from [] k = refl
full_from (x ∷ xs) k = go x.«open» (full_from xs (suc k))
  where
    go : (b : Bool) → is_missing (first_slot is_free (suc k) xs) ≡ eqb (count_open xs) (length xs) →
        is_missing (cond (not b) (Some k) (first_slot is_free (suc k) xs)) ≡ eqb (cond b (suc (count_open xs)) (count_open xs)) (suc (length xs))
    go true h = h ∙ sym (eqb-suc-suc (count_open xs) (length xs))
    go false h = sym (ne_eqb (count_open xs) (suc (length xs)) (λ e. omega (arith, few_open xs)))

pub full_is : (l : List Call) → full l ≡ eqb (count_open l) (length l)
unfolding full
full_is l = full_from l 0
