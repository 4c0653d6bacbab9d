-- The two ways of an answer: it stops before a frame is judged, or it judges the whole frame at the front under good tables, with as many tally rows as
-- methods. The same of a release.
use mathlib.Core.Path.{◌≡◌, refl, sym, ap, subst, ◌∙◌}
use mathlib.Core.Bool.{false, cond}
use mathlib.Core.List.{List, [], ◌∷◌}
use Prim.Native.Nat.{ℕ, zero, suc, ◌+◌, ◌-◌, ◌≤◌, ◌<◌}
use native.Mathlib.Omega.{arith}
use lib.Dec.{eqb, lit≤}
use lib.ListN.{length, take, drop, get_or, set}
use borrow.Author.Tests.{eqb-true, eqb-false, eq-eqb, ne_eqb}
use Rattle.wire.proofs.Cases.{cond-case}
use Rattle.schema.specs.Checked.{Checked}
use Rattle.schema.specs.Checked.{Good, Refused as Faulty}
use Rattle.schema.specs.Table.{Table}
use Rattle.schema.specs.File.{table_of}
use Rattle.schema.specs.Check.{checked}
use Rattle.schema.proofs.Bools.{clash, is_false}
use Rattle.schema.proofs.Faults.{refused-iff as schema-refused}
use Rattle.schema.proofs.Numbered.{listed, listed-bounds}
use Rattle.frame.specs.declared.Header.{Header}
use Rattle.frame.specs.FrameRead.{FrameRead, More, Frame as Whole, Refused}
use Rattle.frame.specs.Frame.{frame_of}
use Rattle.frame.proofs.Answers.{refused-numbers}
use Rattle.frame.proofs.Faults.{refused-iff, more-iff}
use Rattle.calls.specs.declared.Call.{Call}
use Rattle.calls.specs.declared.Frame.{Frame}
use Rattle.calls.specs.declared.Tally.{Tally}
use Rattle.calls.specs.declared.Rise.{Rise}
use Rattle.calls.specs.Numbers.{ends_call}
use Rattle.calls.specs.Slots.{good_table}
use Rattle.calls.specs.Judge.{judge_release}
use Rattle.calls.specs.Step.{release}
use Rattle.calls.specs.Counting.{no_tally, release_rise, figure_by, full_at, raised, counted_number}
use Rattle.calls.specs.Good.{GoodCalls}
use Rattle.calls.proofs.Goodness.{good-clauses, good-test}
use Rattle.receiver.specs.Plan.{Plan}
use Rattle.receiver.specs.Answer.{Effect, effect, in_row, stopped}
use Rattle.receiver.specs.Planning.{on_good, on_frame, frame_from, stop_plan, judged_plan, frame_plan, on_tables, bytes_plan, plan_of, release_plan}
use Rattle.receiver.specs.Claims.{SeenAs, Front, TablesReady, Unready, schema_fault, calls_bad, rows_wrong, Stops, tables, frame_fault, needs_more}
use Rattle.receiver.specs.Receive.{settled, frame_effect, received}
use Rattle.receiver.specs.Release.{ReleaseEffect, release_effect, release_answer, stepped_answer, release_settled, released}

-- ---- the frame at the front

seen_as : (side : ℕ) (h : Header) → SeenAs side h (frame_from side h)
seen_as side h = record { side = refl; kind = refl; «package» = refl; service = refl; method = refl; correlation = refl }

pub front_of : (side : ℕ) (bytes : List ℕ) (h : Header) (place n : ℕ) → frame_of bytes ≡ Whole h place n → Front side bytes (frame_from side h)
front_of side bytes h place n e = record { header = h; place = place; size = n; whole = e; seen = seen_as side h }

pub front-is : {side : ℕ} {bytes : List ℕ} {f : Frame} (w : Front side bytes f) → f ≡ frame_from side w.header
front-is {f = f} w =
    let s = w.seen in
    λ i.
    record {
      side = s.side i;
      kind = s.kind i;
      «package» = s.«package» i;
      service = s.service i;
      method = s.method i;
      correlation = s.correlation i;
    }

-- ---- the rows

-- a row put back as it was
pub same_row : (ts : List Tally) (i : ℕ) → set ts i (get_or ts i no_tally) ≡ ts
same_row [] i = refl
same_row (t ∷ ts) zero = refl
same_row (t ∷ ts) (suc i) = ap (◌∷◌ t) (same_row ts i)

-- ---- the ways

not_good : (s : List ℕ) (l : List Call) → good_table (table_of s) l ≡ false → GoodCalls (table_of s) l → ⊥
not_good s l e w = clash (good_table (table_of s) l) (good-test (table_of s) l w) e

-- The numbers and places of an answer that stops.
pub data Early : (number place : ℕ) → Type 0 where
  schema : {n q : ℕ} → 40 ≤ n → n ≤ 44 → (n < 42 → q ≡ 0) → Early n q
  calls : Early 15 0
  rows : Early 19 0
  frame : {n : ℕ} → 1 ≤ n → n ≤ 7 → Early n 0

module _ (s : List ℕ) (l : List Call) (k : ℕ) where
  pub unready-early : {n q : ℕ} → Unready s l k n q → Early n q
  unready-early (schema_fault {n} {row} e) = let w = listed-bounds (table_of s) (listed s n row ((schema-refused s n row).1 e)) in schema w.0 w.1 w.2
  unready-early (calls_bad g b) = calls
  unready-early (rows_wrong g w n) = rows

  pub early : (bytes : List ℕ) {n q : ℕ} → Stops s bytes l k n q → Early n q
  early bytes (tables e) = unready-early e
  early bytes (frame_fault {n} w e) = let r = refused-numbers bytes ((refused-iff bytes n).1 e) in frame {n = n} (omega arith) r.1
  early bytes (needs_more w e) = frame (lit≤ tt) (lit≤ tt)

  -- a plan over the tables
  on-tables : {A : Type 0} (P : A → Type 0) (stop : ℕ → ℕ → A) (next : A) → ((n q : ℕ) → Unready s l k n q → P (stop n q)) → (TablesReady s l k → P next)
      → P (on_tables s l k stop next)
  on-tables P stop next f h = go (checked s) refl
    where
      T : Table
      T = table_of s

      go : (v : Checked) → checked s ≡ v → P (on_good v stop (cond (good_table T l) (cond (eqb k (length T.methods)) next (stop 19 0)) (stop 15 0)))
      go Good e =
          cond-case P (good_table T l) (cond (eqb k (length T.methods)) next (stop 19 0)) (stop 15 0)
          (λ t. cond-case P (eqb k (length T.methods)) next (stop 19 0)
          (λ q. h (record { schema_good = e; calls_good = good-clauses T l t; rows_right_of = eqb-true k (length T.methods) q }))
          (λ q. f 19 0 (rows_wrong e (good-clauses T l t) (eqb-false k (length T.methods) q))))
          (λ b. f 15 0 (calls_bad e (not_good s l b)))
      go (Faulty n q) e = f n q (schema_fault ((schema-refused s n q).0 e))

  tables-stop : {A : Type 0} (stop : ℕ → ℕ → A) (next : A) {n q : ℕ} → Unready s l k n q → on_tables s l k stop next ≡ stop n q
  tables-stop stop next (schema_fault {n} {row} e) = rw ((schema-refused s n row).1 e)
  tables-stop stop next (calls_bad g b) = rw (g, is_false (good_table (table_of s) l) (λ t. b (good-clauses (table_of s) l t)))
  tables-stop stop next (rows_wrong g w n) = rw (g, good-test (table_of s) l w, ne_eqb k (length (table_of s).methods) n)

  tables-go : {A : Type 0} (stop : ℕ → ℕ → A) (next : A) → TablesReady s l k → on_tables s l k stop next ≡ next
  tables-go stop next r = rw (r.schema_good, good-test (table_of s) l r.calls_good, eq-eqb k (length (table_of s).methods) r.rows_right_of)

module _ (s : List ℕ) (side : ℕ) (bytes sheet : List ℕ) (ts : List Tally) (l : List Call) where
  abbrev T : Table
  T = table_of s

  abbrev k : ℕ
  k = length ts

  -- a plan settled among the rows
  abbrev pub effect_of : Plan → Effect
  effect_of plan = in_row ts plan.row (settled s bytes sheet l (get_or ts plan.row no_tally) plan.next)

  pub stop-effect : (n q : ℕ) → effect_of (stop_plan n q) ≡ effect (stopped l n q) sheet ts
  unfolding settled
  stop-effect n q = ap (effect (stopped l n q) sheet) (same_row ts 0)

  frame-effect : (f : Frame) (place n : ℕ) → effect_of (frame_plan T f l place (place + n)) ≡ frame_effect s f (take n (drop place bytes)) (place + n) sheet ts l
  unfolding settled frame_effect
  frame-effect f place n = let size : place + n - place ≡ n = omega arith in rw size

  pub data Way : Effect → Type 0 where
    stops : {n q : ℕ} → Stops s bytes l k n q → Way (effect (stopped l n q) sheet ts)
    judges : (h : Header) (place n : ℕ) → TablesReady s l k → frame_of bytes ≡ Whole h place n
        → Way (frame_effect s (frame_from side h) (take n (drop place bytes)) (place + n) sheet ts l)

  front-way : TablesReady s l k → Way (effect_of (bytes_plan T side bytes l))
  unfolding bytes_plan
  front-way w = go (frame_of bytes) refl
    where
      go : (v : FrameRead) → frame_of bytes ≡ v →
          Way (effect_of (on_frame v (λ number. stop_plan number 0) (λ h place n. frame_plan T (frame_from side h) l place (place + n))))
      go More e = subst Way (sym (stop-effect 1 0)) (stops (needs_more w ((more-iff bytes).0 e)))
      go (Refused n) e = subst Way (sym (stop-effect n 0)) (stops (frame_fault w ((refused-iff bytes n).0 e)))
      go (Whole h place n) e = subst Way (sym (frame-effect (frame_from side h) place n)) (judges h place n w e)

  pub ways : Way (received s side bytes sheet ts l)
  unfolding received plan_of
  ways =
      on-tables s l k (λ (P : Plan). Way (effect_of P)) stop_plan (bytes_plan T side bytes l)
      (λ n q e. subst Way (sym (stop-effect n q)) (stops (tables e))) front-way

  plan-stops : {n q : ℕ} → Stops s bytes l k n q → plan_of s side bytes k l ≡ stop_plan n q
  unfolding plan_of bytes_plan
  plan-stops (tables e) = tables-stop s l k stop_plan (bytes_plan T side bytes l) e
  plan-stops (frame_fault {n} w e) = tables-go s l k stop_plan (bytes_plan T side bytes l) w ∙ rw ((refused-iff bytes n).1 e)
  plan-stops (needs_more w e) = tables-go s l k stop_plan (bytes_plan T side bytes l) w ∙ rw ((more-iff bytes).1 e)

  -- Such an answer has this number and place, and nothing else: no bytes used, no rows, no tail, and the calls, the sheet and the tally rows as they were.
  pub stops-early : {n q : ℕ} → Stops s bytes l k n q → received s side bytes sheet ts l ≡ effect (stopped l n q) sheet ts
  unfolding received
  stops-early {n} {q} e = ap effect_of (plan-stops e) ∙ stop-effect n q

  plan-judges : (h : Header) (place n : ℕ) → TablesReady s l k → frame_of bytes ≡ Whole h place n → plan_of s side bytes k l ≡ frame_plan T (frame_from side h) l place (place + n)
  unfolding plan_of bytes_plan
  plan-judges h place n w e = tables-go s l k stop_plan (bytes_plan T side bytes l) w ∙ rw e

  -- Under good tables a whole frame is judged.
  pub judged : (h : Header) (place n : ℕ) → TablesReady s l k → frame_of bytes ≡ Whole h place n
      → received s side bytes sheet ts l ≡ frame_effect s (frame_from side h) (take n (drop place bytes)) (place + n) sheet ts l
  unfolding received
  judged h place n w e = ap effect_of (plan-judges h place n w e) ∙ frame-effect (frame_from side h) place n

-- ---- a release

module _ (s : List ℕ) (l : List Call) (id : ℕ) (ts : List Tally) where
  abbrev released-rise : Rise
  released-rise = release_rise l (judge_release id l)

  -- the row that it asks for, and its number where the call may be released
  abbrev pub released_row : Tally
  released_row = get_or ts released-rise.row no_tally

  abbrev pub released_number : ℕ
  released_number = counted_number released_row released-rise 0

  -- the call is judged
  abbrev pub release_judged : ReleaseEffect
  release_judged =
      release_effect (stepped_answer (release id released_number l)) (set ts released-rise.row (raised released_row (figure_by released-rise released_number)))

  pub number-spares : ends_call released_number ≡ false
  unfolding ends_call
  number-spares = cond-case (λ (n : ℕ). ends_call n ≡ false) (full_at released_row (figure_by released-rise 0)) 18 0 (λ _. refl) (λ _. refl)

  abbrev told : Plan → ReleaseEffect
  told plan =
      let x = release_settled l (get_or ts plan.row no_tally) plan.next in
      release_effect x.answer (set ts plan.row x.row)

  stop-told : (n q : ℕ) → told (stop_plan n q) ≡ release_effect (release_answer n q l) ts
  unfolding release_settled
  stop-told n q = ap (release_effect (release_answer n q l)) (same_row ts 0)

  judged-told : told (judged_plan (judge_release id l) released-rise 0 0) ≡ release_judged
  unfolding release_settled release
  judged-told = refl

  -- It stops at a fault of the tables, or the call is judged.
  pub data ReleaseWay : ReleaseEffect → Type 0 where
    unready : {n q : ℕ} → Unready s l (length ts) n q → ReleaseWay (release_effect (release_answer n q l) ts)
    releases : TablesReady s l (length ts) → ReleaseWay release_judged

  pub release-ways : ReleaseWay (released s l id ts)
  unfolding released release_plan
  release-ways =
      on-tables s l (length ts) (λ (P : Plan). ReleaseWay (told P)) stop_plan (judged_plan (judge_release id l) released-rise 0 0)
      (λ n q e. subst ReleaseWay (sym (stop-told n q)) (unready e)) (λ w. subst ReleaseWay (sym judged-told) (releases w))

  -- Such an answer has this number and place, and the calls and the tally rows as they were.
  pub release-stops : {n q : ℕ} → Unready s l (length ts) n q → released s l id ts ≡ release_effect (release_answer n q l) ts
  unfolding released release_plan
  release-stops {n} {q} e = ap told (tables-stop s l (length ts) stop_plan (judged_plan (judge_release id l) released-rise 0 0) e) ∙ stop-told n q

  -- Under good tables the call is judged.
  pub release-judged : TablesReady s l (length ts) → released s l id ts ≡ release_judged
  unfolding released release_plan
  release-judged w = ap told (tables-go s l (length ts) stop_plan (judged_plan (judge_release id l) released-rise 0 0) w) ∙ judged-told
