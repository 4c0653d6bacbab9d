-- Every answer has one of the numbers for a frame, with its place. The payload of a frame is read as a struct type of the good table, and it is not too
-- long, so that neither 46 nor 7 comes from it.
use Rattle.std.specs.Prelude.{None, Option, Some}
use mathlib.Core.Path.{◌≡◌, refl, sym, ap, subst, ◌∙◌}
use mathlib.Core.Bool.{Bool, true, false, cond, ◌&&◌}
use mathlib.Core.List.{List}
use mathlib.Core.Logic.{◌↔◌, ◌⊎◌, inl, inr, ⊎_elim}
use Prim.Native.Nat.{ℕ, ◌+◌, ◌≤◌, ◌<◌}
use native.Mathlib.Omega.{arith}
use lib.Dec.{eqb, leb, ltb, lit≤}
use lib.ListN.{length, take, drop, length-take}
use borrow.Author.Tests.{le-leb, ltb-true, ltb-false}
use Rattle.wire.proofs.Cases.{cond-case}
use Rattle.parse.specs.Reader.{Answer, refused, seen, cursor_at}
use Rattle.schema.specs.Table.{Table, Shape, row_at, fields_of, shape}
use Rattle.schema.specs.File.{table_of}
use Rattle.schema.specs.Check.{method_row, named, find_method, IsGood}
use Rattle.schema.proofs.Bools.{cases}
use Rattle.schema.proofs.Goods.{good-table}
use Rattle.schema.proofs.Faults.{refused-iff as schema-refused}
use Rattle.schema.proofs.Numbered.{listed as schema-listed, listed-bounds}
use Rattle.schema.proofs.Shapes.{shape-struct}
use Rattle.frame.specs.declared.Header.{Header}
use Rattle.frame.specs.FrameRead.{Frame as Whole}
use Rattle.frame.specs.Frame.{frame_of}
use Rattle.frame.proofs.Answers.{read-bounds}
use Rattle.calls.specs.declared.Call.{Call}
use Rattle.calls.specs.declared.Tally.{Tally}
use Rattle.calls.specs.declared.Frame.{Frame}
use Rattle.calls.specs.declared.Payload.{Payload}
use Rattle.calls.specs.declared.Payload.TheVariants.{Unread}
use Rattle.calls.specs.Judged.{Judged}
use Rattle.calls.specs.Judged.{Refused as JudgedRefused, Opens, Goes}
use Rattle.calls.specs.Forms.{row_of_form}
use Rattle.calls.specs.Numbers.{UsesFrame, accepted as zero-used, call as call-used, dropped, refused as value-used, refused-pairs}
use Rattle.calls.specs.Record.{empty_call, allowed, not_allowed, at_limit, after_frame}
use Rattle.calls.specs.declared.Rise.{Rise}
use Rattle.calls.specs.Counting.{rise_of, release_rise, figure_by, full_at}
use Rattle.calls.specs.Slots.{own_of, full}
use Rattle.calls.specs.Judge.{right_side, payload_of, release_verdict, judge_of, judge_release, Verdict, stop, opens, goes, invoke_verdict, other_verdict, verdict_of}
use Rattle.calls.specs.Step.{due_of, release}
use Rattle.connection.specs.Step.{step_of}
use Rattle.calls.specs.Apart.{verdict, verdict_number}
use Rattle.calls.proofs.Used.{uses-iff}
use Rattle.calls.proofs.Apart.{judged-by, release-answered}
use Rattle.calls.proofs.Payloads.{Sound, struct, empty, unread, due-sound}
use Rattle.value.specs.Value.{Tree}
use Rattle.value.specs.Value as value-tree
use Rattle.value.specs.Read as value
use Rattle.value.specs.Numbered.{ValueFault, within-list, many-pairs}
use Rattle.value.proofs.Numbers.{Numbered, refuses, goes_on, root-numbered}
use Rattle.reader.specs.Reading.{Reading}
use Rattle.reader.specs.Reading.{Shown, Refused}
use Rattle.reader.specs.Entry.{Outcome, outcome, reading_in, outcome_of, room, payload_outcome, numbers}
use Rattle.calls.proofs.Counted.{full-iff}
use Rattle.receiver.specs.Answer.{Effect, stopped, payload_read, number_in, tallied}
use Rattle.receiver.specs.Planning.{frame_from}
use Rattle.receiver.specs.Receive.{answered, frame_settled, frame_effect, received}
use Rattle.receiver.specs.Release.{ReleaseEffect, release_answer, released}
use Rattle.receiver.specs.Claims as claims
use Rattle.receiver.specs.Claims.{AnswerNumber, accepted, frame, call, value as fault, pairs, payload, shape as formed, row}
use Rattle.receiver.specs.Claims.{Stopping, of_frame, of_calls, of_rows, of_schema, Keeps, limit, tally, few_rows, row_for, TablesReady, Unready, schema_fault, calls_bad, rows_wrong}
use Rattle.receiver.specs.Claims.{ReleaseNumber, released as released-call, not_open, not_cancelled, full_tally, unready}
use Rattle.receiver.proofs.Ways.{Early, schema, calls, rows, frame as framed, unready-early, early, Way, stops, judges, ways, stops-early, judged}
use Rattle.receiver.proofs.Ways.{released_row, released_number, ReleaseWay, unready as faulty, releases, release-ways, release-stops}

-- ---- the payload

-- A judged frame's number: one that uses the frame, or one that keeps it.
abbrev Judging : (kind : ℕ) → Option Call → List Tally → (number place : ℕ) → Type 0
Judging kind own ts n p = AnswerNumber n p × (UsesFrame n ⊎ Keeps kind own ts n)

module _ (kind : ℕ) (own : Option Call) (ts : List Tally) where
  -- the number and place of a payload's reading
  abbrev Told : Outcome → Type 0
  Told o = Judging kind own ts (number_in o) (numbers (reading_in o)).place

  value-told : {n : ℕ} → ValueFault n → (p : ℕ) → Judging kind own ts n p
  value-told {n = n} (within-list low high) p = (fault p low high, inl (value-used {n = n} low (omega (arith, high))))
  value-told many-pairs p = (pairs p, inl refused-pairs)

  told_of : (S : ℕ → Shape) (t space : ℕ) (a : Answer Tree) → Numbered a → (sheet : List ℕ) → Told (outcome_of sheet (value.reading S t space a))
  told_of S t space (refused k p) (refuses f) sheet = value-told f p
  told_of S t space (seen tree c) goes_on sheet =
      cond-case (λ (r : value.Reading). Told (outcome_of sheet r)) (leb (length (value-tree.rows tree)) space) _ (value.refusal 30 0) (λ _. (accepted, inl zero-used))
      (λ _. (payload (lit≤ tt) (lit≤ tt), inr few_rows))

  payload-told : (s p sheet : List ℕ) → IsGood s → length p ≤ 16384 → {d : Payload} → Sound (table_of s) d → Told (payload_read s d p sheet)
  unfolding payload_read payload_outcome value.read
  payload-told s p sheet g small (struct t h k) =
      let T = table_of s in
      let e = shape-struct T t k in
      rw (e, le-leb (length p) 16384 small)
      (told_of (shape T) t (room sheet) _ (root-numbered T (good-table s g) t (fields_of T (row_at T t)) e (cursor_at p 0)) sheet)
  payload-told s p sheet g small empty =
      cond-case (λ (r : Reading). Told (outcome r sheet)) (eqb (length p) 0) (Shown 0 0 0 0) (Refused _ 0) (λ _. (accepted, inl zero-used))
      (λ _. (payload (lit≤ tt) (lit≤ tt), inl (value-used (lit≤ tt) (lit≤ tt))))
  payload-told s p sheet g small unread = (accepted, inl zero-used)

  -- 18 stands in its place where a tally is full
  tallied-told : (r : Rise) (sheet : List ℕ) (o : Outcome) → Told o → Told (tallied (row_for ts r.row) r sheet o)
  tallied-told r sheet o w =
      cond-case Told (full_at (row_for ts r.row) (figure_by r (number_in o))) (outcome (Refused 18 0) sheet) o
      (λ e. (call (lit≤ tt) (lit≤ tt), inr (tally r.row (figure_by r (number_in o)) ((full-iff (row_for ts r.row) (figure_by r (number_in o))).0 e)))) (λ _. w)

-- ---- the side and the call

abbrev Refusing : (kind : ℕ) → Option Call → List Tally → ℕ → Type 0
Refusing kind own ts n = (8 ≤ n) × ((n ≤ 17) × (UsesFrame n ⊎ Keeps kind own ts n))

Stops : (kind : ℕ) → Option Call → List Tally → Verdict → Type 0
Stops kind own ts (stop n) = Refusing kind own ts n
Stops kind own ts (opens c d) = Unit {0}
Stops kind own ts (goes c d) = Unit {0}

module _ (T : Table) (f : Frame) (ts : List Tally) where
  refusing : (own : Option Call) (n : ℕ) → 8 ≤ n → n ≤ 14 → Refusing f.kind own ts n
  refusing own n low high = (low, (omega (arith, high), inl (call-used low high)))

  invoke-stops : (m : Option ℕ) (own : Option Call) (b : Bool) → Stops f.kind own ts (invoke_verdict T f.correlation m own b)
  unfolding Stops
  invoke-stops None own b = refusing own _ (lit≤ tt) (lit≤ tt)
  invoke-stops (Some m) (Some c) b = refusing (Some c) _ (lit≤ tt) (lit≤ tt)
  invoke-stops (Some m) None true = refusing None _ (lit≤ tt) (lit≤ tt)
  invoke-stops (Some m) None false = tt

  late-stops : (c : Call) → Stops f.kind (Some c) ts (stop (not_allowed f.kind c))
  unfolding Stops
  late-stops c =
      cond-case (Refusing f.kind (Some c) ts) (c.cancelled && (leb 4 f.kind && leb f.kind 7)) 16 14 (λ _. (lit≤ tt, (lit≤ tt, inl dropped)))
      (λ _. refusing (Some c) 14 (lit≤ tt) (lit≤ tt))

  other-stops : (own : Option Call) → Stops f.kind own ts (other_verdict T f own)
  unfolding Stops
  other-stops None = refusing None _ (lit≤ tt) (lit≤ tt)
  other-stops (Some c) =
      let m = method_row T c.method in
      let next = goes (after_frame (row_of_form m.form) f.kind c) (payload_of m f.kind) in
      let late = stop (not_allowed f.kind c) in
      let few = cond (at_limit f.kind c) (stop 17) next in
      let may = allowed (row_of_form m.form) f.kind c in
      let P = Stops f.kind (Some c) ts in
      cond-case P (named f.«package» f.service f.method m) (cond may few late) (stop 12)
      (λ _. cond-case P may few late
      (λ _. cond-case P (at_limit f.kind c) (stop 17) next (λ e. (lit≤ tt, (lit≤ tt, inr (limit c refl e)))) (λ _. tt)) (λ _. late-stops c))
      (λ _. refusing (Some c) _ (lit≤ tt) (lit≤ tt))

  verdict-stops : (own : Option Call) (b : Bool) → Stops f.kind own ts (verdict_of T f own b)
  unfolding verdict_of Stops
  verdict-stops own b =
      let invoke = invoke_verdict T f.correlation (find_method T f.«package» f.service f.method) own b in
      let P = Stops f.kind own ts in
      cond-case P (right_side f.side f.kind) (cond (eqb f.kind 1) invoke (other_verdict T f own)) (stop 8)
      (λ _. cond-case P (eqb f.kind 1) invoke (other_verdict T f own) (λ _. invoke-stops (find_method T f.«package» f.service f.method) own b) (λ _. other-stops own))
      (λ _. refusing own _ (lit≤ tt) (lit≤ tt))

-- ---- the whole answer

answered-listed : (kind : ℕ) (own : Option Call) (s p sheet : List ℕ) (size : ℕ) (ts : List Tally) (l : List Call) (r : Rise) (J : Judged) → Stops kind own ts (verdict J)
    → Told kind own ts (tallied (row_for ts r.row) r sheet (payload_read s (due_of J) p sheet))
    → let t = row_for ts r.row in
    let a = answered size l J r t (tallied t r sheet (payload_read s (due_of J) p sheet)) in Judging kind own ts a.answer.number a.answer.place
unfolding step_of Stops payload_read
answered-listed kind own s p sheet size ts l r (JudgedRefused n) w told = stop-place
  where
    t : Tally
    t = row_for ts r.row

    o : Outcome
    o = tallied t r sheet (outcome (Shown 0 0 0 0) sheet)

    same : Judging kind own ts n 0
    same = (call w.0 (omega (arith, w.1.0)), w.1.1)

    stop-place : Judging kind own ts n (numbers (reading_in o)).place
    stop-place =
        cond-case (λ (x : Outcome). Judging kind own ts n (numbers (reading_in x)).place) (full_at t (figure_by r 0)) (outcome (Refused 18 0) sheet) (outcome (Shown 0 0 0 0) sheet)
        (λ _. same) (λ _. same)
answered-listed kind own s p sheet size ts l r (Opens j c d) w told = told
answered-listed kind own s p sheet size ts l r (Goes i c d) w told = told

frame-listed : (s : List ℕ) (f : Frame) (p : List ℕ) (size : ℕ) (sheet : List ℕ) (ts : List Tally) (l : List Call) → TablesReady s l (length ts) → length p ≤ 16384
    → let a = frame_effect s f p size sheet ts l in Judging f.kind (own_of f.correlation l) ts a.answer.number a.answer.place
unfolding frame_effect frame_settled
frame-listed s f p size sheet ts l w small =
    let J = judge_of (table_of s) f l in
    let r = rise_of f.kind l J in
    let own = own_of f.correlation l in
    answered-listed f.kind own s p sheet size ts l r J
    (subst (Stops f.kind own ts) (sym (judged-by (table_of s) f l)) (verdict-stops (table_of s) f ts own (full l)))
    (tallied-told f.kind own ts r sheet (payload_read s (due_of J) p sheet)
    (payload-told f.kind own ts s p sheet w.schema_good small (due-sound s w.schema_good f l w.calls_good)))

stop-listed : (l : List Call) {n q : ℕ} → Early n q → AnswerNumber (stopped l n q).number (stopped l n q).place
unfolding stopped
stop-listed l calls = call (lit≤ tt) (lit≤ tt)
stop-listed l rows = call (lit≤ tt) (lit≤ tt)
stop-listed l (framed low high) = frame low high
stop-listed l (schema {n} {q} low high e) =
    ⊎_elim
    (λ h. let k = ltb-true n 42 h in subst (AnswerNumber n) (sym (e k)) (formed low (omega arith)))
    (λ h. row q (ltb-false n 42 h) high)
    (cases (ltb n 42))

pub listed : (s : List ℕ) (side : ℕ) (bytes sheet : List ℕ) (ts : List Tally) (l : List Call)
    → let a = received s side bytes sheet ts l in AnswerNumber a.answer.number a.answer.place
listed s side bytes sheet ts l = go (ways s side bytes sheet ts l)
  where
    go : {x : Effect} → Way s side bytes sheet ts l x → AnswerNumber x.answer.number x.answer.place
    go (stops w) = stop-listed l (early s l (length ts) bytes w)
    go (judges h place n w e) =
        let small : length (take n (drop place bytes)) ≤ 16384 = simp length-take (omega (arith, (read-bounds bytes e).small)) in
        (frame-listed s (frame_from side h) (take n (drop place bytes)) (place + n) sheet ts l w small).0

by_number : (s : List ℕ) (f : Frame) (p : List ℕ) (size : ℕ) (sheet : List ℕ) (ts : List Tally) (l : List Call) {A : Type 0} → let a = frame_effect s f p size sheet ts l in
    UsesFrame a.answer.number ⊎ A → (a.answer.used ≡ size) ⊎ A
unfolding frame_effect frame_settled
by_number s f p size sheet ts l (inl u) = inl (ap (λ (b : Bool). cond b size 0) ((uses-iff _).1 u))
by_number s f p size sheet ts l (inr z) = inr z

-- A whole frame under good tables: its answer uses the frame, or has 17 at its own call's limit, 18 for a tally that is full, or 30.
pub used-or-kept : (s : List ℕ) (side : ℕ) (bytes sheet : List ℕ) (ts : List Tally) (l : List Call) {h : Header} {place n : ℕ}
    → TablesReady s l (length ts) → frame_of bytes ≡ Whole h place n
    → let a = received s side bytes sheet ts l in (a.answer.used ≡ place + n) ⊎ Keeps h.kind (own_of h.correlation l) ts a.answer.number
used-or-kept s side bytes sheet ts l {h} {place} {n} w e =
    let small : length (take n (drop place bytes)) ≤ 16384 = simp length-take (omega (arith, (read-bounds bytes e).small)) in
    subst (λ (x : Effect). (x.answer.used ≡ place + n) ⊎ Keeps h.kind (own_of h.correlation l) ts x.answer.number) (sym (judged s side bytes sheet ts l h place n w e))
    (by_number s (frame_from side h) (take n (drop place bytes)) (place + n) sheet ts l
    (frame-listed s (frame_from side h) (take n (drop place bytes)) (place + n) sheet ts l w small).1)

-- a judged frame has none of the numbers that come before it is judged
abbrev Between : ℕ → Type 0
Between n = (0 < n) × (8 ≤ n → 14 < n) × (20 ≤ n → 31 < n) × ((16 ≤ n) × (n ≤ 18) → ⊥)

stopping_between : {n : ℕ} → Stopping n → Between n
stopping_between (of_frame low high) = (omega arith, λ h. omega arith, λ h. omega arith, λ (a, b). omega arith)
stopping_between of_calls = (omega arith, λ h. omega arith, λ h. omega arith, λ (a, b). omega arith)
stopping_between of_rows = (omega arith, λ h. omega arith, λ h. omega arith, λ (a, b). omega arith)
stopping_between (of_schema low) = (omega arith, λ h. omega arith, λ h. omega arith, λ (a, b). omega arith)

none-used : {m : ℕ} → UsesFrame m → {n : ℕ} → m ≡ n → Stopping n → ⊥
none-used zero-used e w = omega (arith, (stopping_between w).0, e)
none-used (call-used low high) e w = omega (arith, (stopping_between w).1 (omega (arith, low, e)), high, e)
none-used dropped e w = (stopping_between w).3 (omega (arith, e), omega (arith, e))
none-used (value-used low high) e w = omega (arith, (stopping_between w).2 (omega (arith, low, e)), high, e)
none-used refused-pairs e w = omega (arith, (stopping_between w).2 (omega (arith, e)), e)

none_kept : {kind : ℕ} {own : Option Call} {ts : List Tally} {m : ℕ} → Keeps kind own ts m → {n : ℕ} → m ≡ n → Stopping n → ⊥
none_kept (limit c o t) e w = (stopping_between w).3 (omega (arith, e), omega (arith, e))
none_kept (tally m x f) e w = (stopping_between w).3 (omega (arith, e), omega (arith, e))
none_kept few_rows e w = omega (arith, (stopping_between w).2 (omega (arith, e)), e)

stop-told : (l : List Call) (n q : ℕ) → ((stopped l n q).number ≡ n) × ((stopped l n q).place ≡ q)
unfolding stopped
stop-told l n q = (refl, refl)

-- The answer has one of the numbers that come before a frame is judged, at a place, exactly for that reason.
pub stopped-iff : (s : List ℕ) (side : ℕ) (bytes sheet : List ℕ) (ts : List Tally) (l : List Call) (n q : ℕ) → Stopping n
    → let a = (received s side bytes sheet ts l).answer in ((a.number ≡ n) × (a.place ≡ q)) ↔ claims.Stops s bytes l (length ts) n q
stopped-iff s side bytes sheet ts l n q w = (λ (e, e'). go (ways s side bytes sheet ts l) e e', back)
  where
    go : {x : Effect} → Way s side bytes sheet ts l x → x.answer.number ≡ n → x.answer.place ≡ q → claims.Stops s bytes l (length ts) n q
    go (stops {n = m} {q = p} v) e e' =
        let told = stop-told l m p in
        subst (claims.Stops s bytes l (length ts) n) (sym told.1 ∙ e')
        (subst (λ (k : ℕ). claims.Stops s bytes l (length ts) k p) (sym told.0 ∙ e) v)
    go (judges h place k r e₀) e e' =
        let small : length (take k (drop place bytes)) ≤ 16384 = simp length-take (omega (arith, (read-bounds bytes e₀).small)) in
        let judging = frame-listed s (frame_from side h) (take k (drop place bytes)) (place + k) sheet ts l r small in
        absurd (⊎_elim (λ u. none-used u e w) (λ v. none_kept v e w) judging.1)

    back : claims.Stops s bytes l (length ts) n q → let a = (received s side bytes sheet ts l).answer in (a.number ≡ n) × (a.place ≡ q)
    back v = let told = stop-told l n q in rw (stops-early s side bytes sheet ts l v) told

-- ---- a release

answer-listed : (l : List Call) {n q : ℕ} → Early n q → (n ≡ 15) ⊎ ((n ≡ 19) ⊎ (40 ≤ n)) → ReleaseNumber (release_answer n q l).number (release_answer n q l).place
unfolding release_answer stopped
answer-listed l w side = unready side (stop-listed l w)

unready-number : (s : List ℕ) (l : List Call) (k : ℕ) {n q : ℕ} → Unready s l k n q → (n ≡ 15) ⊎ ((n ≡ 19) ⊎ (40 ≤ n))
unready-number s l k (calls_bad g b) = inl refl
unready-number s l k (rows_wrong g w n) = inr (inl refl)
unready-number s l k (schema_fault {n} {row} e) = inr (inr (listed-bounds (table_of s) (schema-listed s n row ((schema-refused s n row).1 e))).0)

-- the number of a release that may be made is 0 or 18
judged-listed : (n : ℕ) → ReleaseNumber n 0 → (own : Option Call) → ReleaseNumber (verdict_number (release_verdict own) n) 0
judged-listed n w None = not_open
judged-listed n w (Some c) = cond-case (λ (v : Verdict). ReleaseNumber (verdict_number v n) 0) c.cancelled (goes empty_call Unread) (stop 14) (λ _. w) (λ _. not_cancelled)

released-told : (l' : List Call) (n : ℕ) → ReleaseNumber n 0 → ReleaseNumber (release_answer n 0 l').number (release_answer n 0 l').place
unfolding release_answer
released-told l' n w = w

-- Every answer to a release has one of the request's numbers for it, with its place.
pub release-listed : (s : List ℕ) (l : List Call) (id : ℕ) (ts : List Tally) → let a = (released s l id ts).answer in ReleaseNumber a.number a.place
release-listed s l id ts = go (release-ways s l id ts)
  where
    n : ℕ
    n = released_number s l id ts

    listed-number : ReleaseNumber n 0
    listed-number =
        cond-case (λ (k : ℕ). ReleaseNumber k 0) (full_at (released_row s l id ts) (figure_by (release_rise l (judge_release id l)) 0)) 18 0 (λ _. full_tally) (λ _. released-call)

    go : {x : ReleaseEffect} → ReleaseWay s l id ts x → ReleaseNumber x.answer.number x.answer.place
    go (faulty w) = answer-listed l (unready-early s l (length ts) w) (unready-number s l (length ts) w)
    go (releases w) = released-told (release id n l).slots (release id n l).number (rw (release-answered id n l) (judged-listed n listed-number (own_of id l)))

-- a release that is judged is 0, 11, 14 or 18
abbrev JudgedNumber : ℕ → Type 0
JudgedNumber k = UsesFrame k ⊎ (k ≡ 18)

judged-number : (n : ℕ) → JudgedNumber n → (own : Option Call) → JudgedNumber (verdict_number (release_verdict own) n)
judged-number n w None = inl (call-used (lit≤ tt) (lit≤ tt))
judged-number n w (Some c) =
    cond-case (λ (v : Verdict). JudgedNumber (verdict_number v n)) c.cancelled (goes empty_call Unread) (stop 14) (λ _. w) (λ _. inl (call-used (lit≤ tt) (lit≤ tt)))

released-number : (s : List ℕ) (l : List Call) (id : ℕ) (ts : List Tally) → JudgedNumber (released_number s l id ts)
released-number s l id ts =
    cond-case JudgedNumber (full_at (released_row s l id ts) (figure_by (release_rise l (judge_release id l)) 0)) 18 0 (λ _. inr refl) (λ _. inl zero-used)

release-told : (l : List Call) (n q : ℕ) → ((release_answer n q l).number ≡ n) × ((release_answer n q l).place ≡ q)
unfolding release_answer stopped
release-told l n q = (refl, refl)

-- The answer to a release has one of the numbers that come before the call is judged, at a place, exactly for that fault of the tables.
pub release-stopped-iff : (s : List ℕ) (l : List Call) (id : ℕ) (ts : List Tally) (n q : ℕ) → Stopping n
    → let a = (released s l id ts).answer in ((a.number ≡ n) × (a.place ≡ q)) ↔ Unready s l (length ts) n q
release-stopped-iff s l id ts n q w = (λ (e, e'). go (release-ways s l id ts) e e', back)
  where
    go : {x : ReleaseEffect} → ReleaseWay s l id ts x → x.answer.number ≡ n → x.answer.place ≡ q → Unready s l (length ts) n q
    go (faulty {n = m} {q = p} v) e e' =
        let told = release-told l m p in
        subst (Unready s l (length ts) n) (sym told.1 ∙ e') (subst (λ (k : ℕ). Unready s l (length ts) k p) (sym told.0 ∙ e) v)
    go (releases r) e e' =
        let m = released_number s l id ts in
        let x = release id m l in
        let number : x.number ≡ n = sym (release-told x.slots x.number 0).0 ∙ e in
        absurd (apart (subst JudgedNumber (sym (release-answered id m l)) (judged-number m (released-number s l id ts) (own_of id l))) number)
      where
        apart : {k : ℕ} → JudgedNumber k → k ≡ n → ⊥
        apart (inl u) z = none-used u z w
        apart (inr z') z = (stopping_between w).3 (omega (arith, z, z'), omega (arith, z, z'))

    back : Unready s l (length ts) n q → let a = (released s l id ts).answer in (a.number ≡ n) × (a.place ≡ q)
    back v = let told = release-told l n q in rw (release-stops s l id ts v) told
