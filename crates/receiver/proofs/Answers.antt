-- What each answer tells: bytes used by its number, the calls open, what a refusal and an ERROR leave, and that bytes after the frame change nothing.
use mathlib.Core.Path.{◌≡◌, refl, sym, ◌∙◌}
use mathlib.Core.Logic.{◌⊎◌, inl, inr, ⊎_elim}
use mathlib.Core.Bool.{Bool, true, false, cond}
use mathlib.Core.List.{List, ◌++◌}
use Prim.Native.Nat.{ℕ, ◌+◌, ◌≤◌, ◌<◌}
use native.Mathlib.Omega.{arith}
use lib.Dec.{eqb}
use lib.ListN.{length, take, drop, get_or, length-drop}
use lib.Seq.{take-append-le, drop-append-le}
use borrow.Author.Tests.{ne_eqb}
use Rattle.schema.specs.File.{table_of}
use Rattle.schema.proofs.Bools.{is_false}
use Rattle.wire.proofs.Cases.{differ}
use Rattle.frame.specs.FrameRead.{More, Frame as Whole, Refused}
use Rattle.frame.specs.Frame.{frame_of, read_used}
use Rattle.frame.proofs.Answers.{read-bounds}
use Rattle.frame.proofs.Faults.{refused-iff, more-iff}
use Rattle.frame.proofs.Theorems.{followed}
use Rattle.calls.specs.declared.Call.{Call}
use Rattle.calls.specs.declared.Tally.{Tally}
use Rattle.calls.specs.declared.Frame.{Frame}
use Rattle.calls.specs.declared.Payload.{Payload}
use Rattle.calls.specs.declared.Payload.TheVariants.{Unread}
use Rattle.calls.specs.Judged.{Judged}
use Rattle.calls.specs.Judged.{Refused as JudgedRefused, Opens, Goes}
use Rattle.calls.specs.Numbers.{ends_call, uses_frame, UsesFrame, accepted, call, dropped, refused, refused-pairs}
use Rattle.calls.specs.declared.Rise.{Rise}
use Rattle.calls.specs.declared.Figure.TheVariants.{Nothing as NoFigure}
use Rattle.calls.specs.Counting.{no_tally, rise_of, figure_by, raised}
use Rattle.calls.specs.Slots.{count_open}
use Rattle.calls.specs.Judge.{judge_of}
use Rattle.calls.specs.Step.{due_of}
use Rattle.connection.specs.Step.{step_of}
use Rattle.calls.proofs.Used.{uses-iff}
use Rattle.calls.proofs.Apart.{error-unread}
use Rattle.calls.proofs.Judgement.{judged-goes}
use Rattle.value.specs.declared.Row.{Row}
use Rattle.reader.specs.Entry.{Outcome}
use Rattle.receiver.specs.Answer.{Effect, effect, in_row, stopped, payload_read, number_in, tallied, used_of}
use Rattle.receiver.specs.Planning.{frame_from}
use Rattle.receiver.specs.Receive.{answered, frame_settled, frame_effect, received}
use Rattle.receiver.specs.Claims.{Front, ShowsRows, Nothing, row_for, Alike, tables, frame_fault, needs_more, Keeping, element_limit, tally_full, rows_miscounted, sheet_small, KeptWhole}
use Rattle.receiver.proofs.Ways.{front-is, Early, schema, calls, rows, frame, early, Way, stops, judges, ways, stops-early, judged}
use Rattle.receiver.proofs.Rows.{unraised, rows_alike}
use Rattle.receiver.proofs.Kept.{frame_rise, answer-holds-row, same_rows}
use Rattle.receiver.proofs.Records.{front-once, refused-kept}
use Rattle.receiver.proofs.Payloads.{Untouched, refused-read, unread, tallied-untouched, tallied-same}
use Rattle.receiver.proofs.Apart.{same_answer}

-- ---- bytes used

-- 1 to 7, 15, 19, and 40 and above
Away : ℕ → Type 0
Away n = (0 < n) × ((n < 8) ⊎ ((n ≡ 15) ⊎ ((n ≡ 19) ⊎ (40 ≤ n))))

early-away : {n q : ℕ} → Early n q → Away n
unfolding Away
early-away calls = (omega arith, inr (inl refl))
early-away rows = (omega arith, inr (inr (inl refl)))
early-away (schema low high e) = (omega arith, inr (inr (inr low)))
early-away (frame low high) = (omega arith, inl (omega arith))

apart : {n : ℕ} {A : Type 0} → Away n → (n < 8 → A) → (n ≡ 15 → A) → (n ≡ 19 → A) → (40 ≤ n → A) → A
unfolding Away
apart w a b c d = ⊎_elim a (λ x. ⊎_elim b (λ y. ⊎_elim c d y) x) w.1

unused : {n : ℕ} → UsesFrame n → Away n → ⊥
unfolding Away
unused accepted w = omega (arith, w.0)
unused (call low high) w = apart w (λ a. omega arith) (λ b. omega arith) (λ c. omega arith) (λ d. omega arith)
unused dropped w = apart w (λ a. omega arith) (λ b. omega arith) (λ c. omega arith) (λ d. omega arith)
unused (refused low high) w = apart w (λ a. omega arith) (λ b. omega arith) (λ c. omega arith) (λ d. omega arith)
unused refused-pairs w = apart w (λ a. omega arith) (λ b. omega arith) (λ c. omega arith) (λ d. omega arith)

early-unused : {n q : ℕ} → Early n q → uses_frame n ≡ false
early-unused {n = n} e = is_false (uses_frame n) (λ t. unused ((uses-iff n).0 t) (early-away e))

stop-used : (l : List Call) {n q : ℕ} (size : ℕ) → Early n q → (stopped l n q).used ≡ used_of (stopped l n q).number size
unfolding stopped
stop-used l size w = rw (early-unused w)

frame-used : (s : List ℕ) (f : Frame) (payload : List ℕ) (size : ℕ) (sheet : List ℕ) (ts : List Tally) (l : List Call)
    → (frame_effect s f payload size sheet ts l).answer.used ≡ used_of (frame_effect s f payload size sheet ts l).answer.number size
unfolding frame_effect frame_settled
frame-used s f payload size sheet ts l = refl

-- ---- the calls open

stop-counted : (l : List Call) (n q : ℕ) → (stopped l n q).«open» ≡ count_open (stopped l n q).table.slots
unfolding stopped
stop-counted l n q = refl

frame-counted : (s : List ℕ) (f : Frame) (payload : List ℕ) (size : ℕ) (sheet : List ℕ) (ts : List Tally) (l : List Call)
    → (frame_effect s f payload size sheet ts l).answer.«open» ≡ count_open (frame_effect s f payload size sheet ts l).answer.table.slots
unfolding frame_effect frame_settled
frame-counted s f payload size sheet ts l = refl

-- ---- a refusal

-- no rows, no tail, no comparisons, and the sheet as it was
stop-bare : (l : List Call) (n q : ℕ) (sheet : List ℕ) (ts : List Tally) → Nothing sheet (effect (stopped l n q) sheet ts)
unfolding stopped
stop-bare l n q sheet ts = record { rows = refl; tail_place_of = refl; tail_length_of = refl; comparisons = refl; same = refl }

-- a judged frame is refused before its payload is read, or for its payload, or for its tally
module _ (s payload sheet : List ℕ) (size : ℕ) (ts : List Tally) (l : List Call) (r : Rise) (t : Tally) where
  untouched-bare : (J : Judged) (o : Outcome) → Untouched sheet o → Nothing sheet (in_row ts r.row (answered size l J r t o))
  untouched-bare J o w = record { rows = w.bare.rows; tail_place_of = w.bare.tail_place_of; tail_length_of = w.bare.tail_length_of; comparisons = w.bare.comparisons; same = w.same }

  abbrev read_as : Payload → Outcome
  read_as d = tallied t r sheet (payload_read s d payload sheet)

  unread-bare : (J : Judged) → due_of J ≡ Unread → Nothing sheet (in_row ts r.row (answered size l J r t (read_as (due_of J))))
  unread-bare J e = untouched-bare J (read_as (due_of J)) (tallied-same t r sheet (payload_read s (due_of J) payload sheet) (rw e (unread s payload sheet)))

  payload-bare : (J : Judged) (d : Payload) → (number_in (read_as d) ≡ 0 → ⊥) → Nothing sheet (in_row ts r.row (answered size l J r t (read_as d)))
  payload-bare J d z = untouched-bare J (read_as d) (tallied-untouched t r sheet (payload_read s d payload sheet) z (refused-read s payload sheet d))

  refused-bare : (J : Judged) → ((answered size l J r t (read_as (due_of J))).answer.number ≡ 0 → ⊥) → Nothing sheet (in_row ts r.row (answered size l J r t (read_as (due_of J))))
  unfolding step_of
  refused-bare (JudgedRefused n) z = unread-bare (JudgedRefused n) refl
  refused-bare (Opens j c d) z = payload-bare (Opens j c d) d z
  refused-bare (Goes i c d) z = payload-bare (Goes i c d) d z

module _ (s payload sheet : List ℕ) (size : ℕ) (ts : List Tally) (l : List Call) (f : Frame) where
  frame-bare : ((frame_effect s f payload size sheet ts l).answer.number ≡ 0 → ⊥) → Nothing sheet (frame_effect s f payload size sheet ts l)
  unfolding frame_effect frame_settled
  frame-bare z =
      let J = judge_of (table_of s) f l in
      let r = rise_of f.kind l J in
      refused-bare s payload sheet size ts l r (get_or ts r.row no_tally) J z

-- ---- what is kept

keeping : {n : ℕ} → Keeping n → (n ≡ 0 → ⊥) × (ends_call n ≡ false) × (uses_frame n ≡ false)
unfolding ends_call uses_frame
keeping element_limit = (λ z. omega arith, refl, refl)
keeping tally_full = (λ z. omega arith, refl, refl)
keeping rows_miscounted = (λ z. omega arith, refl, refl)
keeping sheet_small = (λ z. omega arith, refl, refl)

-- a refused INVOKE raises nothing
invoke_figure : (s : List ℕ) (l : List Call) (f : Frame) (n : ℕ) → f.kind ≡ 1 → (n ≡ 0 → ⊥) → (J : Judged) → judge_of (table_of s) f l ≡ J
    → figure_by (rise_of f.kind l J) n ≡ NoFigure
unfolding rise_of figure_by
invoke_figure s l f n k z (JudgedRefused p) e = rw (ne_eqb n 0 z) (both (ends_call n))
  where
    both : (b : Bool) → cond b NoFigure NoFigure ≡ NoFigure
    both true = refl
    both false = refl
invoke_figure s l f n k z (Opens j c d) e = rw (ne_eqb n 0 z) (both (ends_call n))
  where
    both : (b : Bool) → cond b NoFigure NoFigure ≡ NoFigure
    both true = refl
    both false = refl
invoke_figure s l f n k z (Goes i c d) e = absurd ((judged-goes (table_of s) f l i c d e).is_other k)

none-raised : (b : Bool) (t : Tally) → cond b (raised t NoFigure) t ≡ t
unfolding raised
none-raised true t = refl
none-raised false t = refl

-- ---- ERROR

error-bare : (s payload sheet : List ℕ) (size : ℕ) (ts : List Tally) (l : List Call) (f : Frame) → f.kind ≡ 7 → Nothing sheet (frame_effect s f payload size sheet ts l)
unfolding frame_effect frame_settled
error-bare s payload sheet size ts l f k =
    let J = judge_of (table_of s) f l in
    let r = rise_of f.kind l J in
    unread-bare s payload sheet size ts l r (get_or ts r.row no_tally) J (error-unread (table_of s) f l k)

module _ (s : List ℕ) (side : ℕ) (bytes sheet : List ℕ) (ts : List Tally) (l : List Call) where
  -- Bytes used: the frame's length for 0, 8 to 14, 16, 20 to 29 and 31; otherwise 0.
  pub used-by-number : (received s side bytes sheet ts l).answer.used ≡ used_of (received s side bytes sheet ts l).answer.number (read_used (frame_of bytes))
  used-by-number = go (ways s side bytes sheet ts l)
    where
      go : {x : Effect} → Way s side bytes sheet ts l x → x.answer.used ≡ used_of x.answer.number (read_used (frame_of bytes))
      go (stops {n} {q} w) = stop-used l (read_used (frame_of bytes)) (early s l (length ts) bytes w)
      go (judges h place n w e) = rw e (frame-used s (frame_from side h) (take n (drop place bytes)) (place + n) sheet ts l)

  -- The calls open are those of the next table.
  pub open_counted : (received s side bytes sheet ts l).answer.«open» ≡ count_open (received s side bytes sheet ts l).answer.table.slots
  open_counted = go (ways s side bytes sheet ts l)
    where
      go : {x : Effect} → Way s side bytes sheet ts l x → x.answer.«open» ≡ count_open x.answer.table.slots
      go (stops {n} {q} w) = stop-counted l n q
      go (judges h place n w e) = frame-counted s (frame_from side h) (take n (drop place bytes)) (place + n) sheet ts l

  -- The sheet shows as many rows as the answer says, and its other cells are as they were.
  pub shown : (rs : List Row) × ShowsRows rs sheet (received s side bytes sheet ts l)
  shown =
      let alike : Alike (table_of s) side bytes l l ts ts = record { good = refl; own = λ f w. refl; fullness = λ f w k. refl; rows = refl; row = λ m w. refl } in
      let same = same_answer sheet sheet ts ts l l s refl side bytes alike in
      (same.rows, same.first)

  -- A refusal, and 1, have no rows, tail 0, 0 and no comparisons, and leave the sheet untouched.
  pub refused-untouched : ((received s side bytes sheet ts l).answer.number ≡ 0 → ⊥) → Nothing sheet (received s side bytes sheet ts l)
  refused-untouched = go (ways s side bytes sheet ts l)
    where
      go : {x : Effect} → Way s side bytes sheet ts l x → (x.answer.number ≡ 0 → ⊥) → Nothing sheet x
      go (stops {n} {q} w) z = stop-bare l n q sheet ts
      go (judges h place n w e) z = frame-bare s (take n (drop place bytes)) sheet (place + n) ts l (frame_from side h) z

  -- So has an ERROR, whatever its payload.
  pub error-untouched : (f : Frame) → Front side bytes f → f.kind ≡ 7 → Nothing sheet (received s side bytes sheet ts l)
  error-untouched f w k = go (ways s side bytes sheet ts l)
    where
      go : {x : Effect} → Way s side bytes sheet ts l x → Nothing sheet x
      go (stops {n} {q} v) = stop-bare l n q sheet ts
      go (judges h place n r e) =
          let same : h ≡ w.header = cc in
          error-bare s (take n (drop place bytes)) sheet (place + n) ts l (frame_from side h) (rw same (rw (front-is w) at k))

  -- Bytes after the frame change nothing.
  pub rest-ignored : (f : Frame) → Front side bytes f → (rest : List ℕ) → received s side (bytes ++ rest) sheet ts l ≡ received s side bytes sheet ts l
  rest-ignored f w rest = go (ways s side bytes sheet ts l)
    where
      go : {x : Effect} → Way s side bytes sheet ts l x → received s side (bytes ++ rest) sheet ts l ≡ x
      go (stops (tables e)) = stops-early s side (bytes ++ rest) sheet ts l (tables e)
      go (stops (frame_fault {n} r e)) = let bad : Refused n ≡ Whole w.header w.place w.size = sym ((refused-iff bytes n).1 e) ∙ w.whole in differ cc
      go (stops (needs_more r e)) = let bad : More ≡ Whole w.header w.place w.size = sym ((more-iff bytes).1 e) ∙ w.whole in differ cc
      go (judges h place n r e) =
          let b = read-bounds bytes e in
          let start : place ≤ length bytes = omega arith in
          let end : n ≤ length (drop place bytes) = simp length-drop (omega arith) in
          judged s side (bytes ++ rest) sheet ts l h place n r (followed bytes rest e)
          ∙ rw (drop-append-le place bytes rest start, take-append-le n (drop place bytes) rest end)

  -- A refusal that is no payload refusal changes no tally row: 8 to 19 and 30 raise nothing.
  pub refused-rows : let a = received s side bytes sheet ts l in (a.answer.number ≡ 0 → ⊥) → ends_call a.answer.number ≡ false
      → a.tallies ≡ ts
  refused-rows z k =
      rows_alike (received s side bytes sheet ts l).tallies ts (same_rows s side bytes sheet ts l)
      (λ m. answer-holds-row s side bytes sheet ts l m (λ n _ t. (n ≡ 0 → ⊥) → ends_call n ≡ false → t ≡ row_for ts m)
      (λ n q e z k. refl) (λ f w r reading z k. unraised m (frame_rise s f l) _ (row_for ts m) z k) z k)

  -- 17, 18, 19 and 30 change nothing and use no bytes.
  pub kept_whole : let a = received s side bytes sheet ts l in Keeping a.answer.number → KeptWhole sheet ts l a
  kept_whole w =
      let k = keeping w in
      record {
        used = used-by-number ∙ rw k.2;
        nothing = refused-untouched k.0;
        slots = refused-kept s side bytes sheet ts l k.0 k.1;
        tallies = refused-rows k.0 k.1;
      }

  -- An INVOKE that is refused, for its payload or before, counts nowhere: every row is as it was.
  pub invoke_uncounted : let a = received s side bytes sheet ts l in (f : Frame) → Front side bytes f → f.kind ≡ 1 → (a.answer.number ≡ 0 → ⊥) → a.tallies ≡ ts
  invoke_uncounted f w k z = rows_alike (received s side bytes sheet ts l).tallies ts (same_rows s side bytes sheet ts l) one
    where
      one : (m : ℕ) → row_for (received s side bytes sheet ts l).tallies m ≡ row_for ts m
      one m =
          answer-holds-row s side bytes sheet ts l m (λ n _ t. (n ≡ 0 → ⊥) → t ≡ row_for ts m) (λ n q e z. refl)
          (λ f' w' r reading z.
          let first : f'.kind ≡ 1 = rw (front-once w' w) k in
          rw (invoke_figure s l f' _ first z (judge_of (table_of s) f' l) refl) (none-raised (eqb (frame_rise s f' l).row m) (row_for ts m)))
          z
