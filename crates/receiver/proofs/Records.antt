-- The records of the calls after a frame: its own, the others, what frees a slot, and what changes no call.
use Rattle.std.specs.Prelude.{None, Option, Some}
use mathlib.Core.Path.{◌≡◌, refl, sym, ap, subst, ◌∙◌}
use mathlib.Core.Logic.{◌⊎◌, inl, inr, ⊎_elim}
use mathlib.Core.Bool.{true, false}
use mathlib.Core.List.{List}
use Prim.Native.Nat.{ℕ, ◌≤◌, ◌<◌}
use native.Mathlib.Omega.{arith}
use lib.Dec.{eqb}
use lib.ListN.{length, set}
use borrow.Author.Tests.{eqb-true, eqb-false, ne_eqb}
use Rattle.schema.specs.Table.{Table}
use Rattle.schema.specs.File.{table_of}
use Rattle.schema.proofs.Bools.{cases, clash}
use Rattle.calls.specs.declared.Call.{Call}
use Rattle.calls.specs.declared.Tally.{Tally}
use Rattle.calls.specs.declared.Frame.{Frame}
use Rattle.calls.specs.declared.Payload.{Payload}
use Rattle.calls.specs.Judged.{Judged}
use Rattle.calls.specs.Judged.{Refused, Opens, Goes}
use Rattle.calls.specs.Numbers.{ends_call, EndsCall, payload, many-pairs}
use Rattle.calls.specs.Record.{is_call, with_mark}
use Rattle.calls.specs.Slots.{slot, own_of, full}
use Rattle.calls.specs.Judge.{judge_of, Verdict, stop, opens, goes, verdict_of}
use Rattle.calls.specs.Step.{receive}
use Rattle.calls.specs.Apart.{verdict_due, verdict_number, verdict_own, touched, Freed}
use Rattle.calls.proofs.Used.{not_ending}
use Rattle.calls.proofs.Goodness.{good-clauses}
use Rattle.calls.proofs.Searches.{found-passes, slot_same, slot-other, past_end}
use Rattle.calls.proofs.Judgement.{judged-goes}
use Rattle.calls.proofs.Kept.{call_open}
use Rattle.calls.proofs.Apart as calls
use Rattle.calls.specs.Event as calls-event
use Rattle.reader.specs.Entry.{room}
use Rattle.receiver.specs.Planning.{frame_from}
use Rattle.receiver.specs.Receive.{received}
use Rattle.receiver.specs.Claims.{Front, Reply, Alike}
use Rattle.receiver.proofs.Ways.{front-is, Early, schema, calls, rows, frame, early}
use Rattle.receiver.proofs.Kept.{answer-holds}
use Rattle.receiver.proofs.Apart.{same_answer}

-- the payload's number matters only where the payload is read
own-by : (v : Verdict) (p : ℕ) (own : Option Call) → verdict_own v p own ≡ verdict_own v (verdict_number v p) own
own-by (stop n) p own = refl
own-by (opens c d) p own = refl
own-by (goes c d) p own = refl

-- an answer that stops has no number that changes a call
ended-early : {n : ℕ} → EndsCall n → (n < 20) ⊎ (40 ≤ n) → ⊥
ended-early (payload low high) w = ⊎_elim (λ a. omega arith) (λ b. omega arith) w
ended-early many-pairs w = ⊎_elim (λ a. omega arith) (λ b. omega arith) w

early-small : {n q : ℕ} → Early n q → EndsCall n → ⊥
early-small (schema a b e) w = ended-early w (inr a)
early-small calls w = ended-early w (inl (omega arith))
early-small rows w = ended-early w (inl (omega arith))
early-small (frame a b) w = ended-early w (inl (omega arith))

early-spares : {n q : ℕ} → Early n q → ends_call n ≡ false
early-spares {n} e = not_ending n (early-small e)

early-zero : {n q : ℕ} → Early n q → n ≡ 0 → ⊥
early-zero (schema a b e) z = omega arith
early-zero calls z = omega arith
early-zero rows z = omega arith
early-zero (frame a b) z = omega arith

own-kept : (v : Verdict) (own : Option Call) {n q : ℕ} → Early n q → verdict_own v n own ≡ own
own-kept (stop m) own e = refl
own-kept (opens c d) own {n} e = rw (ne_eqb n 0 (early-zero e))
own-kept (goes c d) own {n} e = rw (ne_eqb n 0 (early-zero e), early-spares e)

-- a slot that a step opens is the lowest free one
opened-by : (T : Table) (f : Frame) (l : List Call) (reading : Payload → ℕ) (i : ℕ) → (slot l i).«open» ≡ false
    → (slot (receive T f reading l).slots i).«open» ≡ true → (k : ℕ) → k < i → (slot l k).«open» ≡ true
opened-by T f l reading i z o = go (judge_of T f l) refl
  where
    kept : {A : Type 0} → (touched (judge_of T f l) ≡ Some i → ⊥) → A
    kept h = clash (slot l i).«open» (subst (λ (c : Call). c.«open» ≡ true) (calls.other-slots T f l reading i h) o) z

    other : (j : ℕ) → touched (judge_of T f l) ≡ Some j → eqb i j ≡ false → touched (judge_of T f l) ≡ Some i → ⊥
    other j e q t = let same : i ≡ j = cc in eqb-false i j q same

    go : (J : Judged) → judge_of T f l ≡ J → (k : ℕ) → k < i → (slot l k).«open» ≡ true
    go (Refused n) e k h = kept (λ t. let bad : None ≡ Some i = sym (ap touched e) ∙ t in let one : ◌≡◌ {A = ℕ} 0 1 = cc bad in omega arith)
    go (Opens j c d) e k h =
        ⊎_elim
        (λ q. let same = eqb-true i j q in (calls.lowest-free T f l j c d e).1 k (omega arith))
        (λ q. kept (other j (ap touched e) q))
        (cases (eqb i j))
    go (Goes j c d) e k h =
        ⊎_elim
        (λ q. clash (slot l i).«open» (rw (eqb-true i j q) (call_open f.correlation (slot l j) (found-passes (is_call f.correlation) l j (judged-goes T f l j c d e).is_own))) z)
        (λ q. kept (other j (ap touched e) q))
        (cases (eqb i j))

-- the frame at the front of the bytes is one
pub front-once : {side : ℕ} {bytes : List ℕ} {f f' : Frame} → Front side bytes f → Front side bytes f' → f ≡ f'
front-once {side = side} w w' =
    let same : w.header ≡ w'.header = cc (sym w.whole ∙ w'.whole) in
    front-is w ∙ ap (frame_from side) same ∙ sym (front-is w')

module _ (s : List ℕ) (side : ℕ) (bytes sheet : List ℕ) (ts : List Tally) (l : List Call) where
  abbrev T : Table
  T = table_of s

  abbrev number : ℕ
  number = (received s side bytes sheet ts l).answer.number

  abbrev slots : List Call
  slots = (received s side bytes sheet ts l).answer.table.slots

  -- The record of every other identifier is unchanged.
  pub others-kept : (k : ℕ) → ((f : Frame) → Front side bytes f → k ≡ f.correlation → ⊥) → own_of k slots ≡ own_of k l
  others-kept k other = answer-holds s side bytes sheet ts l (λ _ l'. own_of k l' ≡ own_of k l) (λ n q e. refl) (λ f w g t r. calls.others-kept T f l r k (other f w))

  -- No slot is changed but that of the frame's own call, or the one where INVOKE opens a call.
  pub slots_kept : (j : ℕ) → ((f : Frame) → Front side bytes f → touched (judge_of T f l) ≡ Some j → ⊥) → slot slots j ≡ slot l j
  slots_kept j other = answer-holds s side bytes sheet ts l (λ _ l'. slot l' j ≡ slot l j) (λ n q e. refl) (λ f w g t r. calls.other-slots T f l r j (other f w))

  -- A new call takes the lowest free slot.
  pub opened-lowest : (i : ℕ) → (slot l i).«open» ≡ false → (slot slots i).«open» ≡ true → (k : ℕ) → k < i → (slot l k).«open» ≡ true
  opened-lowest i z =
      answer-holds s side bytes sheet ts l (λ _ l'. (slot l' i).«open» ≡ true → (k : ℕ) → k < i → (slot l k).«open» ≡ true)
      (λ n q e o. clash (slot l i).«open» o z) (λ f w g t r. opened-by T f l r i z)

  -- An open slot under another correlation than the frame's is unchanged.
  pub open_kept : (i : ℕ) → (slot l i).«open» ≡ true → ((f : Frame) → Front side bytes f → (slot l i).correlation ≡ f.correlation → ⊥)
      → slot slots i ≡ slot l i
  open_kept i o other = answer-holds s side bytes sheet ts l (λ _ l'. slot l' i ≡ slot l i) (λ n q e. refl) (λ f w g t r. calls.open_kept T f l r i o (other f w))

  -- Only a payload refusal, the completion of the call or ERROR frees a slot, and its own.
  pub freed : (i : ℕ) → (slot l i).«open» ≡ true → (slot slots i).«open» ≡ false → (f : Frame) × Front side bytes f × Freed T (calls-event.frame f) number (slot l i)
  freed i o =
      answer-holds s side bytes sheet ts l (λ n l'. (slot l' i).«open» ≡ false → (f : Frame) × Front side bytes f × Freed T (calls-event.frame f) n (slot l i))
      (λ n q e z. clash (slot l i).«open» o z) (λ f w g t r z. (f, w, calls.freed T f l i o r z))

  -- A refusal that is no payload refusal changes no call, 30 among them.
  pub refused-kept : (number ≡ 0 → ⊥) → ends_call number ≡ false → slots ≡ l
  refused-kept =
      answer-holds s side bytes sheet ts l (λ n l'. (n ≡ 0 → ⊥) → ends_call n ≡ false → l' ≡ l)
      (λ n q e z r. refl) (λ f w g t reading z r. calls.refused-same T f reading l z (inl r))

  -- ---- the call of a frame
  module _ (f : Frame) (w : Front side bytes f) where
    -- An INVOKE that is refused opens no call.
    pub opens-none : f.kind ≡ 1 → (number ≡ 0 → ⊥) → slots ≡ l
    opens-none k =
        answer-holds s side bytes sheet ts l (λ n l'. (n ≡ 0 → ⊥) → l' ≡ l)
        (λ n q e z. refl) (λ f' w' g t r z. calls.refused-same T f' r l z (inr (rw (front-once w' w) k)))

    -- An accepted CANCEL sets the mark of its call: the record stays in its slot, with its identifier and its other marks, and every other slot as it was.
    pub cancel-marked : f.kind ≡ 8 → number ≡ 0 → (i : ℕ) → is_call f.correlation (slot l i) ≡ true →
        (slot slots i ≡ with_mark true (slot l i)) × ((j : ℕ) → (j ≡ i → ⊥) → slot slots j ≡ slot l j)
    cancel-marked k z i own = (ap (λ (x : List Call). slot x i) marked ∙ slot_same l i new there, λ j n. ap (λ (x : List Call). slot x j) marked ∙ slot-other l i new j n)
      where
        new : Call
        new = with_mark true (slot l i)

        there : i < length l
        there = past_end l i (call_open f.correlation (slot l i) own)

        marked : slots ≡ set l i new
        marked =
            answer-holds s side bytes sheet ts l (λ n l'. n ≡ 0 → l' ≡ set l i new) (λ n q e y. absurd (early-zero (early s l (length ts) bytes e) y))
            (λ f' w' g t r y. let same = front-once w' w in
            calls.cancel-marked T f' l (good-clauses T l t) (rw same k) r y i (rw same own)) z

    -- It frees no slot.
    pub cancel-frees-none : f.kind ≡ 8 → number ≡ 0 → (i : ℕ) → (slot l i).«open» ≡ true → (slot slots i).«open» ≡ true
    cancel-frees-none k z i o =
        answer-holds s side bytes sheet ts l (λ n l'. n ≡ 0 → (slot l' i).«open» ≡ true) (λ n q e z. o)
        (λ f' w' g t r z. calls.cancel-frees-none T f' l (good-clauses T l t) (rw (front-once w' w) k) r z i o) z

    -- The own record afterwards, by the judgement without a slot and the answer's number.
    pub own-after : let own = own_of f.correlation l in own_of f.correlation slots ≡ verdict_own (verdict_of T f own (full l)) number own
    own-after =
        let own = own_of f.correlation l in
        let v = verdict_of T f own (full l) in
        answer-holds s side bytes sheet ts l (λ n l'. own_of f.correlation l' ≡ verdict_own v n own)
        (λ n q e. sym (own-kept v own (early s l (length ts) bytes e)))
        (λ f' w' g t r. rw (front-once w' w) (
        calls.own-after T f l (good-clauses T l t) r
        ∙ own-by v (r (verdict_due v)) own
        ∙ ap (λ (n : ℕ). verdict_own v n own) (sym (calls.answered T f r l))))

    -- Payload refusals end the open call.
    pub refused-ends : (f.kind ≡ 1 → ⊥) → ends_call number ≡ true → own_of f.correlation slots ≡ None
    refused-ends other =
        answer-holds s side bytes sheet ts l (λ n l'. ends_call n ≡ true → own_of f.correlation l' ≡ None)
        (λ n q e t. clash (ends_call n) t (early-spares (early s l (length ts) bytes e)))
        (λ f' w' g t r. rw (front-once w' w) (calls.refused-ends T f l (good-clauses T l t) other r))

-- Two call tables and lists of tally rows alike for a frame leave its own call with the same record. So only the slot that a new call gets depends on which
-- others are free.
pub same-own : (s : List ℕ) (side : ℕ) (bytes sheet₁ sheet₂ : List ℕ) (ts₁ ts₂ : List Tally) (l₁ l₂ : List Call) → room sheet₁ ≡ room sheet₂
    → Alike (table_of s) side bytes l₁ l₂ ts₁ ts₂ → (f : Frame) → Front side bytes f
    → let a₁ = received s side bytes sheet₁ ts₁ l₁ in
    let a₂ = received s side bytes sheet₂ ts₂ l₂ in
    own_of f.correlation a₁.answer.table.slots ≡ own_of f.correlation a₂.answer.table.slots
same-own s side bytes sheet₁ sheet₂ ts₁ ts₂ l₁ l₂ space w f v =
    let own = w.own f v in
    let e = calls.same-verdict (table_of s) f l₁ l₂ own (w.fullness f v) in
    let number = ap (λ (r : Reply). r.numbers.number) (same_answer sheet₁ sheet₂ ts₁ ts₂ l₁ l₂ s space side bytes w).reply in
    own-after s side bytes sheet₁ ts₁ l₁ f v ∙ (λ i. verdict_own (e i) (number i) (own i)) ∙ sym (own-after s side bytes sheet₂ ts₂ l₂ f v)
