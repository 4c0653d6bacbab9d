-- After a frame or a release the cells hold the next call table and tally rows, so that a history over lent cells is the history of the table and the rows themselves.
use mathlib.Core.Path.{◌≡◌, refl, sym, ap, subst, ◌∙◌}
use mathlib.Core.Logic.{⊎_elim}
use mathlib.Core.Bool.{true, false}
use mathlib.Core.List.{List, [], ◌∷◌}
use Prim.Native.Nat.{ℕ, ◌≤◌}
use native.Mathlib.Omega.{arith}
use lib.ListN.{length}
use Rattle.schema.specs.Checked.{Checked}
use Rattle.schema.specs.Checked.{Good, Refused as Faulty}
use Rattle.schema.specs.Table.{Table}
use Rattle.schema.specs.File.{table_of}
use Rattle.schema.specs.Check.{checked}
use Rattle.schema.proofs.Bools.{cases}
use Rattle.schema.proofs.Goods.{good-table}
use Rattle.calls.specs.declared.Call.{Call}
use Rattle.calls.specs.declared.Tally.{Tally}
use Rattle.calls.specs.Numbers.{ends_call}
use Rattle.calls.specs.Slots.{slot}
use Rattle.calls.specs.Good.{GoodCalls}
use Rattle.calls.proofs.Goodness.{good-clauses}
use Rattle.calls.proofs.Kept.{test-stays, release-test}
use Rattle.calls.proofs.Limits.{FewIn, few-stays, few-released}
use Rattle.receiver.specs.Answer.{Effect, effect, stopped}
use Rattle.receiver.specs.Receive.{received}
use Rattle.receiver.specs.Release.{ReleaseEffect, release_effect, release_answer, released}
use Rattle.receiver.specs.Run.{Event, input, release, State, state_after, state_from}
use Rattle.receiver.proofs.Kept.{answer-holds, same_length, same_rows, release-holds, release_length, release-rows}
use Rattle.receiver.proofs.Answers.{refused-untouched as sheet-kept, refused-rows as rows-kept}
use Rattle.receiver.proofs.Records.{refused-kept}
use Rattle.receiver.proofs.Releases.{refused-kept as release-kept, refused-rows as release-rows-kept}
use Rattle.cells.specs.Cells.{stored}
use Rattle.cells.specs.Records.{calls_of, cells_of, are_calls, AreCalls, FitsCall, CallsFit, rows_of, row_cells}
use Rattle.cells.proofs.Tallies.{rows_long, rows_same, rows_back}
use Rattle.cells.proofs.RoundTrip.{table-back, loaded-long, none-fits, loaded-fits, are-calls-iff, stored-calls, cells-kept}
use Rattle.exports.specs.Answers.{not_calls, judgement, receiving, not_released, release_judgement, releasing, call_cells}
use Rattle.exports.specs.Run.{Cells, state_of, cells_after, run_cells}

-- ---- one frame

refused-slots : (v : Checked) (l : List Call) → (not_calls v l).table.slots ≡ l
unfolding stopped
refused-slots Good l = refl
refused-slots (Faulty n q) l = refl

-- A good call table of a good schema table has few methods, and no call that was read has more elements than a cell holds.
good-fits : (T : Table) (l : List Call) → length T.methods ≤ 256 → GoodCalls T l → FewIn 65535 l → CallsFit l
good-fits T l few g h i =
    ⊎_elim
    (λ e. record { method = omega (arith, few, (g.calls i e).method_exists); inputs = omega (arith, (h i).inputs); outputs = omega (arith, (h i).outputs) })
    (λ e. subst FitsCall (sym (g.free_zero i e)) none-fits)
    (cases (slot l i).«open»)

loaded-few : (cells : List ℕ) → FewIn 65535 (calls_of cells)
loaded-few cells i = let w = loaded-fits cells i in record { inputs = omega (arith, w.inputs); outputs = omega (arith, w.outputs) }

module _ (cells schema : List ℕ) (side : ℕ) (bytes sheet tallies : List ℕ) where
  abbrev rows : List Tally
  rows = rows_of tallies

  abbrev answer : Effect
  answer = receiving cells schema side bytes sheet tallies

  abbrev after : List ℕ
  after = call_cells cells answer.answer.table.slots

  abbrev rows_left : List ℕ
  rows_left = row_cells tallies answer.tallies

  -- ---- cells that are no call table
  module _ (bad : are_calls cells ≡ false) where
    -- They are refused with 15, after the schema's faults.
    pub cells-refused : answer ≡ effect (not_calls (checked schema) (calls_of cells)) sheet rows
    unfolding judgement
    cells-refused = rw bad

  -- ---- cells that are one
  module _ (good : are_calls cells ≡ true) where
    abbrev next : List Call
    next = (received schema side bytes sheet rows (calls_of cells)).answer.table.slots

    -- The answer is the one over the table and the rows that they hold.
    pub table-judged : answer ≡ received schema side bytes sheet rows (calls_of cells)
    unfolding judgement
    table-judged = rw good

    room : 384 ≤ length cells
    room = ((are-calls-iff cells).0 good).enough

    next-long : length next ≡ 128
    next-long = same_length schema side bytes sheet rows (calls_of cells) ∙ loaded-long cells

    next_fits : CallsFit next
    next_fits =
        answer-holds schema side bytes sheet rows (calls_of cells) (λ _ l. CallsFit l)
        (λ n q e. loaded-fits cells)
        (λ f w g t reading.
        let l = calls_of cells in
        let T = table_of schema in
        good-fits T _ (good-table schema g).few_methods (good-clauses T _ (test-stays T f reading l t)) (few-stays T f reading l (loaded-few cells)))

    after_is : after ≡ stored cells (cells_of next)
    unfolding judgement
    after_is = rw good

    -- They are a call table afterwards, the next one.
    pub after-calls : are_calls after ≡ true
    after-calls = rw after_is (stored-calls cells next next-long next_fits room)

    pub next-held : calls_of after ≡ next
    next-held = rw after_is (table-back cells next next-long next_fits room)

  -- Whatever the cells, afterwards they hold the table of the answer,
  pub after-held : calls_of after ≡ answer.answer.table.slots
  after-held = ⊎_elim (λ t. next-held t ∙ ap (λ (a : Effect). a.answer.table.slots) (sym (table-judged t))) (λ f. kept f) (cases (are_calls cells))
    where
      kept : are_calls cells ≡ false → calls_of after ≡ answer.answer.table.slots
      kept f = rw (cells-refused f, f) (sym (refused-slots (checked schema) (calls_of cells)))

  -- and its tally rows.
  rows-many : length answer.tallies ≡ length rows
  rows-many =
      ⊎_elim
      (λ t. ap (λ (a : Effect). length a.tallies) (table-judged t) ∙ same_rows schema side bytes sheet rows (calls_of cells))
      (λ f. ap (λ (a : Effect). length a.tallies) (cells-refused f))
      (cases (are_calls cells))

  pub rows-held : rows_of rows_left ≡ answer.tallies
  rows-held = rows_back tallies answer.tallies (rows-many ∙ rows_long tallies)

  -- At a refusal the sheet stays as it was, and so do the cells of the table and of the rows but where the refusal ends a call.
  pub refused-untouched : (answer.answer.number ≡ 0 → ⊥)
      → (answer.sheet ≡ sheet) × (ends_call answer.answer.number ≡ false → (after ≡ cells) × (rows_left ≡ tallies))
  refused-untouched z =
      ⊎_elim
      (λ t.
      let l = calls_of cells in
      let e = table-judged t in
      let other : (received schema side bytes sheet rows l).answer.number ≡ 0 → ⊥ = rw e at z in (
        rw e (sheet-kept schema side bytes sheet rows l other).same,
        λ spares.
            let spared : ends_call (received schema side bytes sheet rows l).answer.number ≡ false = rw e at spares in
            let same : answer.tallies ≡ rows = ap (λ (a : Effect). a.tallies) e ∙ rows-kept schema side bytes sheet rows l other spared in (
              after_is t ∙ ap (λ (x : List Call). stored cells (cells_of x)) (refused-kept schema side bytes sheet rows l other spared) ∙ cells-kept cells ((are-calls-iff cells).0 t),
              ap (row_cells tallies) same ∙ rows_same tallies,
            ),
      ))
      (λ f. (rw (cells-refused f), λ spares. (rw f, ap (λ (a : Effect). row_cells tallies a.tallies) (cells-refused f) ∙ rows_same tallies)))
      (cases (are_calls cells))

-- ---- one release

refused-release : (v : Checked) (l : List Call) → (not_released v l).table.slots ≡ l
unfolding release_answer
refused-release Good l = refl
refused-release (Faulty n q) l = refl

module _ (cells schema : List ℕ) (id : ℕ) (tallies : List ℕ) where
  abbrev lent : List Tally
  lent = rows_of tallies

  abbrev reply : ReleaseEffect
  reply = releasing cells schema id tallies

  abbrev left : List ℕ
  left = call_cells cells reply.answer.table.slots

  abbrev left_rows : List ℕ
  left_rows = row_cells tallies reply.tallies

  -- Cells that are no call table are refused with 15, after the schema's faults.
  pub release-refused : are_calls cells ≡ false → reply ≡ release_effect (not_released (checked schema) (calls_of cells)) lent
  unfolding release_judgement
  release-refused bad = rw bad

  module _ (good : are_calls cells ≡ true) where
    abbrev remaining : List Call
    remaining = (released schema (calls_of cells) id lent).answer.table.slots

    -- The answer is the one over the table and the rows that they hold.
    pub release-judged : reply ≡ released schema (calls_of cells) id lent
    unfolding release_judgement
    release-judged = rw good

    remaining-long : length remaining ≡ 128
    remaining-long = release_length schema (calls_of cells) id lent ∙ loaded-long cells

    remaining-fits : CallsFit remaining
    remaining-fits =
        release-holds schema (calls_of cells) id lent (λ _ l. CallsFit l)
        (λ n q e. loaded-fits cells)
        (λ g t n k.
        let T = table_of schema in
        good-fits T _ (good-table schema g).few_methods (good-clauses T _ (release-test T id n (calls_of cells) t)) (few-released id n (calls_of cells) (loaded-few cells)))

    left_is : left ≡ stored cells (cells_of remaining)
    unfolding release_judgement
    left_is = rw good

    -- They are a call table afterwards, the next one.
    pub left-calls : are_calls left ≡ true
    left-calls = rw left_is (stored-calls cells remaining remaining-long remaining-fits ((are-calls-iff cells).0 good).enough)

    pub left-held : calls_of left ≡ remaining
    left-held = rw left_is (table-back cells remaining remaining-long remaining-fits ((are-calls-iff cells).0 good).enough)

  -- Whatever the cells, afterwards they hold the table of the answer,
  pub release-held : calls_of left ≡ reply.answer.table.slots
  release-held = ⊎_elim (λ t. left-held t ∙ ap (λ (a : ReleaseEffect). a.answer.table.slots) (sym (release-judged t))) (λ f. kept f) (cases (are_calls cells))
    where
      kept : are_calls cells ≡ false → calls_of left ≡ reply.answer.table.slots
      kept f = rw (release-refused f, f) (sym (refused-release (checked schema) (calls_of cells)))

  -- and its tally rows.
  left-many : length reply.tallies ≡ length lent
  left-many =
      ⊎_elim
      (λ t. ap (λ (a : ReleaseEffect). length a.tallies) (release-judged t) ∙ release-rows schema (calls_of cells) id lent)
      (λ f. ap (λ (a : ReleaseEffect). length a.tallies) (release-refused f))
      (cases (are_calls cells))

  pub left-rows-held : rows_of left_rows ≡ reply.tallies
  left-rows-held = rows_back tallies reply.tallies (left-many ∙ rows_long tallies)

  -- At a refusal the cells stay as they were.
  pub release-untouched : (reply.answer.number ≡ 0 → ⊥) → (left ≡ cells) × (left_rows ≡ tallies)
  release-untouched z =
      ⊎_elim
      (λ t.
      let l = calls_of cells in
      let e = release-judged t in
      let other : (released schema l id lent).answer.number ≡ 0 → ⊥ = rw e at z in
      let same : reply.tallies ≡ lent = ap (λ (a : ReleaseEffect). a.tallies) e ∙ release-rows-kept schema l id lent other in (
        left_is t ∙ ap (λ (x : List Call). stored cells (cells_of x)) (release-kept schema l id lent other) ∙ cells-kept cells ((are-calls-iff cells).0 t),
        ap (row_cells tallies) same ∙ rows_same tallies,
      ))
      (λ f. (rw f, ap (λ (a : ReleaseEffect). row_cells tallies a.tallies) (release-refused f) ∙ rows_same tallies))
      (cases (are_calls cells))

-- ---- a history

module _ (s : List ℕ) (start : Cells) (w : AreCalls start.table) where
  -- After any history the cells are a call table.
  event-calls : (e : Event) (c : Cells) → are_calls c.table ≡ true → are_calls (cells_after s e c).table ≡ true
  event-calls (input i) c t = after-calls c.table s i.side i.bytes i.sheet c.tallies t
  event-calls (release id) c t = left-calls c.table s id c.tallies t

  pub run-calls : (es : List Event) → are_calls (run_cells s start es).table ≡ true
  unfolding run_cells
  run-calls [] = (are-calls-iff start.table).1 w
  run-calls (e ∷ es) = event-calls e (run_cells s start es) (run-calls es)

  -- They hold the call table and the tally rows of the history.
  event-held : (e : Event) (c : Cells) → are_calls c.table ≡ true → state_of (cells_after s e c) ≡ state_after s e (state_of c)
  event-held (input i) c t =
      let slots = next-held c.table s i.side i.bytes i.sheet c.tallies t in
      let rows = rows-held c.table s i.side i.bytes i.sheet c.tallies
      ∙ ap (λ (a : Effect). a.tallies) (table-judged c.table s i.side i.bytes i.sheet c.tallies t) in
      λ k. record { calls = slots k; tallies = rows k }
  event-held (release id) c t =
      let slots = left-held c.table s id c.tallies t in
      let rows = left-rows-held c.table s id c.tallies ∙ ap (λ (a : ReleaseEffect). a.tallies) (release-judged c.table s id c.tallies t) in
      λ k. record { calls = slots k; tallies = rows k }

  pub run-held : (es : List Event) → state_of (run_cells s start es) ≡ state_from s (state_of start) es
  unfolding run_cells state_from
  run-held [] = refl
  run-held (e ∷ es) = event-held e (run_cells s start es) (run-calls es) ∙ ap (state_after s e) (run-held es)

  -- So each answer is the one that `arf::receive` gives over the table and the rows themselves,
  pub answer-held : (es : List Event) (side : ℕ) (bytes sheet : List ℕ) → let c = run_cells s start es in let st = state_from s (state_of start) es in
      receiving c.table s side bytes sheet c.tallies ≡ received s side bytes sheet st.tallies st.calls
  answer-held es side bytes sheet =
      let c = run_cells s start es in
      table-judged c.table s side bytes sheet c.tallies (run-calls es) ∙ ap (λ (st : State). received s side bytes sheet st.tallies st.calls) (run-held es)

  -- or `arf::release`.
  pub reply-held : (es : List Event) (id : ℕ) → let c = run_cells s start es in let st = state_from s (state_of start) es in
      releasing c.table s id c.tallies ≡ released s st.calls id st.tallies
  reply-held es id =
      let c = run_cells s start es in
      release-judged c.table s id c.tallies (run-calls es) ∙ ap (λ (st : State). released s st.calls id st.tallies) (run-held es)
