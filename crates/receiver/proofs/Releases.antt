-- A release: what its answer depends on, the records and the tally rows afterwards, and what it frees.
use Rattle.std.specs.Prelude.{None, Option, Some}
use mathlib.Core.Path.{◌≡◌, refl, sym, ap, ◌∙◌}
use mathlib.Core.Logic.{⊎_elim}
use mathlib.Core.Bool.{Bool, true, false, cond}
use mathlib.Core.List.{List}
use Prim.Native.Nat.{ℕ}
use native.Mathlib.Omega.{arith}
use lib.Dec.{eqb}
use lib.ListN.{length}
use borrow.Author.Tests.{eqb-true, eqb-false}
use Rattle.wire.proofs.Cases.{cond-case}
use Rattle.schema.specs.Table.{Table}
use Rattle.schema.specs.File.{table_of}
use Rattle.schema.proofs.Bools.{cases, clash}
use Rattle.calls.specs.declared.Call.{Call}
use Rattle.calls.specs.declared.Tally.{Tally}
use Rattle.calls.specs.declared.Rise.{Rise}
use Rattle.calls.specs.declared.Payload.TheVariants.{Unread}
use Rattle.calls.specs.Numbers.{ends_call}
use Rattle.calls.specs.Record.{empty_call, is_call}
use Rattle.calls.specs.Slots.{slot, count_open, good_table, own_of}
use Rattle.calls.specs.Judge.{Verdict, stop, goes, release_verdict, judge_release}
use Rattle.calls.specs.Step.{release}
use Rattle.calls.specs.Counting.{release_rise, figure_by, counted_number}
use Rattle.calls.specs.Event as event
use Rattle.calls.specs.Apart.{verdict_number, verdict_release_rise, Freed}
use Rattle.calls.proofs.Goodness.{good-clauses, good-test}
use Rattle.calls.proofs.Apart as calls
use Rattle.calls.proofs.Rises.{release-rise-by}
use Rattle.receiver.specs.Release.{ReleaseEffect, release_answer, released}
use Rattle.receiver.specs.Claims.{TablesReady, Unready, schema_fault, calls_bad, rows_wrong, row_for, ReleaseReply, release_reply}
use Rattle.receiver.proofs.Ways.{Early, schema, calls, rows, frame, unready-early, released_number, ReleaseWay, unready, releases, release-ways, release-stops, release-judged}
use Rattle.receiver.proofs.Rows.{unraised, rows_alike}
use Rattle.receiver.proofs.Kept.{release-holds, release-holds-row, release-rows}

early-number : {n q : ℕ} → Early n q → n ≡ 0 → ⊥
early-number (schema a b e) z = omega arith
early-number calls z = omega arith
early-number rows z = omega arith
early-number (frame a b) z = omega arith

-- a release's number ends no call
spared : (n : ℕ) → ends_call n ≡ false → (own : Option Call) → ends_call (verdict_number (release_verdict own) n) ≡ false
unfolding ends_call
spared n k None = refl
spared n k (Some c) = cond-case (λ (v : Verdict). ends_call (verdict_number v n) ≡ false) c.cancelled (goes empty_call Unread) (stop 14) (λ _. k) (λ _. refl)

counted : (n q : ℕ) (l : List Call) → (release_answer n q l).«open» ≡ count_open (release_answer n q l).table.slots
unfolding release_answer
counted n q l = refl

module _ (s : List ℕ) (l : List Call) (id : ℕ) (ts : List Tally) where
  abbrev T : Table
  T = table_of s

  abbrev number : ℕ
  number = (released s l id ts).answer.number

  abbrev slots : List Call
  slots = (released s l id ts).answer.table.slots

  -- The calls open are those of the next table.
  pub open_counted : (released s l id ts).answer.«open» ≡ count_open slots
  open_counted = go (release-ways s l id ts)
    where
      go : {x : ReleaseEffect} → ReleaseWay s l id ts x → x.answer.«open» ≡ count_open x.answer.table.slots
      go (unready {n} {q} w) = counted n q l
      go (releases w) = let x = release id (released_number s l id ts) l in counted x.number 0 x.slots

  -- A refusal changes no call and no tally row.
  pub refused-kept : (number ≡ 0 → ⊥) → slots ≡ l
  refused-kept = release-holds s l id ts (λ n l'. (n ≡ 0 → ⊥) → l' ≡ l) (λ n q e z. refl) (λ g t n k. calls.release-same id n l k)

  pub refused-rows : (number ≡ 0 → ⊥) → (released s l id ts).tallies ≡ ts
  refused-rows z =
      rows_alike (released s l id ts).tallies ts (release-rows s l id ts)
      (λ m. release-holds-row s l id ts m (λ n _ t. (n ≡ 0 → ⊥) → t ≡ row_for ts m) (λ n q e z. refl)
      (λ w n k z. unraised m (release_rise l (judge_release id l)) (release id n l).number (row_for ts m) z (rw (calls.release-answered id n l) (spared n k (own_of id l)))) z)

  -- A released call has ended.
  pub released-ends : number ≡ 0 → own_of id slots ≡ None
  released-ends =
      release-holds s l id ts (λ n l'. n ≡ 0 → own_of id l' ≡ None)
      (λ n q e z. absurd (early-number (unready-early s l (length ts) e) z)) (λ g t n k. calls.release-ends T id n l (good-clauses T l t))

  -- The record of every other identifier is unchanged,
  pub others-kept : (k : ℕ) → (k ≡ id → ⊥) → own_of k slots ≡ own_of k l
  others-kept k h = release-holds s l id ts (λ _ l'. own_of k l' ≡ own_of k l) (λ _ q e. refl) (λ g t n _. calls.release-others T id n l k h)

  -- and every slot but the one where the call is open.
  pub slots_kept : (i : ℕ) → is_call id (slot l i) ≡ false → slot slots i ≡ slot l i
  slots_kept i h = release-holds s l id ts (λ _ l'. slot l' i ≡ slot l i) (λ _ q e. refl) (λ g t n k. calls.release-kept id n l i h)

  -- Only the slot of a cancelled call is freed, and its own.
  pub freed : (i : ℕ) → (slot l i).«open» ≡ true → (slot slots i).«open» ≡ false → Freed T (event.release id) number (slot l i)
  freed i o =
      release-holds s l id ts (λ n l'. (slot l' i).«open» ≡ false → Freed T (event.release id) n (slot l i))
      (λ n q e z. clash (slot l i).«open» o z) (λ g t n k. calls.release-freed T id n l k i o)

-- ---- kept apart

-- The answer to a release depends on the schema table, on whether the call table is good, on the number of tally rows, on its own call's record and on the
-- row of its method; and so does the record afterwards.
module _ (s : List ℕ) (id : ℕ) (l₁ l₂ : List Call) (ts₁ ts₂ : List Tally) (good : good_table (table_of s) l₁ ≡ good_table (table_of s) l₂)
    (own : own_of id l₁ ≡ own_of id l₂) (rows : length ts₁ ≡ length ts₂) (row : (c : Call) → own_of id l₁ ≡ Some c → row_for ts₁ c.method ≡ row_for ts₂ c.method) where
  same-rise : release_rise l₁ (judge_release id l₁) ≡ release_rise l₂ (judge_release id l₂)
  same-rise = release-rise-by id l₁ ∙ (λ i. verdict_release_rise (own i) (release_verdict (own i))) ∙ sym (release-rise-by id l₂)

  -- the number by a row that is asked for
  numbered : (own : Option Call) → ((c : Call) → own ≡ Some c → row_for ts₁ c.method ≡ row_for ts₂ c.method) → let r = verdict_release_rise own (release_verdict own) in
      counted_number (row_for ts₁ r.row) r 0 ≡ counted_number (row_for ts₂ r.row) r 0
  unfolding figure_by
  numbered None h = refl
  numbered (Some c) h = go c.cancelled
    where
      go : (b : Bool) → let r = verdict_release_rise (Some c) (cond b (goes empty_call Unread) (stop 14)) in
          counted_number (row_for ts₁ r.row) r 0 ≡ counted_number (row_for ts₂ r.row) r 0
      go true = ap (λ (t : Tally). cond (eqb t.cancelled 4294967295) 18 0) (h c refl)
      go false = refl

  same_number : released_number s l₁ id ts₁ ≡ released_number s l₂ id ts₂
  same_number =
      ap (λ (r : Rise). counted_number (row_for ts₁ r.row) r 0) (release-rise-by id l₁)
      ∙ numbered (own_of id l₁) row
      ∙ sym (ap (λ (r : Rise). counted_number (row_for ts₂ r.row) r 0) (sym same-rise ∙ release-rise-by id l₁))

  ready_too : TablesReady s l₁ (length ts₁) → TablesReady s l₂ (length ts₂)
  ready_too r =
      record {
        schema_good = r.schema_good;
        calls_good = good-clauses (table_of s) l₂ (sym good ∙ good-test (table_of s) l₁ r.calls_good);
        rows_right_of = sym rows ∙ r.rows_right_of;
      }

  unready_too : {n q : ℕ} → Unready s l₁ (length ts₁) n q → Unready s l₂ (length ts₂) n q
  unready_too (schema_fault e) = schema_fault e
  unready_too (calls_bad g b) = calls_bad g (λ x. b (good-clauses (table_of s) l₁ (good ∙ good-test (table_of s) l₂ x)))
  unready_too (rows_wrong g x n) = rows_wrong g (good-clauses (table_of s) l₂ (sym good ∙ good-test (table_of s) l₁ x)) (λ e. n (rows ∙ e))

  told-reply : (n q : ℕ) (l : List Call) → release_reply (release_answer n q l) ≡ record { number = n; place = q }
  unfolding release_answer
  told-reply n q l = refl

  pub same_answer : release_reply (released s l₁ id ts₁).answer ≡ release_reply (released s l₂ id ts₂).answer
  same_answer = go (release-ways s l₁ id ts₁)
    where
      reply : ℕ → ℕ → ReleaseReply
      reply n q = record { number = n; place = q }

      n₁ : ℕ
      n₁ = released_number s l₁ id ts₁

      n₂ : ℕ
      n₂ = released_number s l₂ id ts₂

      numbers : (release id n₁ l₁).number ≡ (release id n₂ l₂).number
      numbers =
          calls.release-answered id n₁ l₁
          ∙ (λ i. verdict_number (release_verdict (own i)) (same_number i))
          ∙ sym (calls.release-answered id n₂ l₂)

      go : {x : ReleaseEffect} → ReleaseWay s l₁ id ts₁ x → release_reply x.answer ≡ release_reply (released s l₂ id ts₂).answer
      go (unready {n} {q} e) =
          told-reply n q l₁ ∙ sym (ap (λ (x : ReleaseEffect). release_reply x.answer) (release-stops s l₂ id ts₂ (unready_too e)) ∙ told-reply n q l₂)
      go (releases w) =
          told-reply (release id n₁ l₁).number 0 (release id n₁ l₁).slots
          ∙ ap (λ (n : ℕ). reply n 0) numbers
          ∙ sym (ap (λ (x : ReleaseEffect). release_reply x.answer) (release-judged s l₂ id ts₂ (ready_too w))
          ∙ told-reply (release id n₂ l₂).number 0 (release id n₂ l₂).slots)

  pub same-own : own_of id (released s l₁ id ts₁).answer.table.slots ≡ own_of id (released s l₂ id ts₂).answer.table.slots
  same-own =
      let n₁ = (released s l₁ id ts₁).answer.number in
      let n₂ = (released s l₂ id ts₂).answer.number in
      let e : n₁ ≡ n₂ = ap (λ (r : ReleaseReply). r.number) same_answer in
      ⊎_elim
      (λ z. released-ends s l₁ id ts₁ (eqb-true n₁ 0 z) ∙ sym (released-ends s l₂ id ts₂ (sym e ∙ eqb-true n₁ 0 z)))
      (λ z.
      let n = eqb-false n₁ 0 z in
      ap (own_of id) (refused-kept s l₁ id ts₁ n) ∙ own ∙ ap (own_of id) (sym (refused-kept s l₂ id ts₂ (λ q. n (e ∙ q)))))
      (cases (eqb n₁ 0))
