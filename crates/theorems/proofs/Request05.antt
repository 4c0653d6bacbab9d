-- Request 2026-05, how many receipts has this call had: its sentences, and below each the theorems that state it, cited from the crate that proves
-- them.
use Rattle.std.specs.Prelude.{Some}
use mathlib.Core.List.{List, ◌∷◌, [], map}
use Prim.Native.Nat.{ℕ, ◌+◌, ◌<◌}
use mathlib.Core.Path.{◌≡◌}
use mathlib.Core.Bool.{false, true}
use lib.ListN.{length}
use mathlib.Core.Logic.{◌↔◌, ◌⊎◌}
use Rattle.schema.specs.Check.{IsGood}
use Rattle.schema.specs.File.{table_of}
use Rattle.schema.specs.Table.{Table}
use Rattle.frame.specs.declared.Header.{Header}
use Rattle.frame.specs.Frame.{frame_of}
use Rattle.frame.specs.FrameRead.{Frame as frame-Frame}
use Rattle.calls.specs.declared.Call.{Call}
use Rattle.calls.specs.Slots.{own_of, good_table}
use Rattle.connection.specs.Step.{fresh_table}
use Rattle.calls.specs.Order.{past_of, closed}
use Rattle.calls.specs.Record.{is_input, is_output}
use Rattle.calls.specs.Limits.{FewIn}
use Rattle.calls.specs.declared.Tally.{Tally}
use Rattle.calls.specs.declared.Frame.{Frame as calls-Frame}
use Rattle.calls.specs.declared.Payload.{Payload}
use Rattle.calls.specs.Step.{receive, release}
use Rattle.calls.specs.Counting.{row_after, release_rise, full_at}
use Rattle.calls.specs.Numbers.{ends_call}
use Rattle.calls.specs.Judge.{judge_release}
use Rattle.calls.specs.Figures.{open_of, Balanced, figures, counted, Full}
use Rattle.calls.specs.Good.{GoodCalls}
use Rattle.calls.specs.declared.Figure.{Figure}
use Rattle.reader.specs.Entry.{room}
use Rattle.receiver.specs.Run.{Event as receiver-Event, fresh_state, state_from, heard_from, State, calls_after, rows_after, Input, answer_after}
use Rattle.receiver.specs.Claims.{CountedSince, Stops, row_for, Front, TablesReady, Unready, Alike, SameAnswer, About, Keeping, KeptWhole, Keeps}
use Rattle.receiver.specs.Receive.{frame_rise, received}
use Rattle.receiver.specs.Release.{released}
use Rattle.receiver.specs.Fresh.{inputs, fresh_effect, received_fresh, fresh_run}
use Rattle.calls.proofs.Sides as calls-Sides
use Rattle.calls.proofs.Goodness as calls-Goodness
use Rattle.calls.proofs.Counted as calls-Counted
use Rattle.receiver.proofs.Tallies as receiver-Tallies
use Rattle.receiver.proofs.Runs as receiver-Runs
use Rattle.receiver.proofs.Kept as receiver-Kept
use Rattle.receiver.proofs.Answers as receiver-Answers
use Rattle.receiver.proofs.Apart as receiver-Apart
use Rattle.receiver.proofs.Numbered as receiver-Numbered
use Rattle.receiver.proofs.FreshRows as receiver-FreshRows

-- "Each call's record shall carry the stream elements accepted each way, to 65,535."

-- After any history from a fresh start, the counts of an open call are the elements accepted each way since its INVOKE.
pub elements-counted : (s : List ℕ) → IsGood s → (es : List receiver-Event) (id : ℕ) (c : Call) → let start = fresh_state (table_of s) in
    own_of id (state_from s start es).calls ≡ Some c → CountedSince c (past_of (table_of s) id closed (heard_from s start es))
elements-counted = receiver-Tallies.elements-counted

-- IN_STREAM is an element of the input stream, and OUT_STREAM of the output stream; closes and all others are none.
pub elements : let numbers : List ℕ = 0 ∷ 1 ∷ 2 ∷ 3 ∷ 4 ∷ 5 ∷ 6 ∷ 7 ∷ 8 ∷ 9 ∷ [] in
    (map is_input numbers ≡ false ∷ false ∷ true ∷ false ∷ false ∷ false ∷ false ∷ false ∷ false ∷ false ∷ [])
    × (map is_output numbers ≡ false ∷ false ∷ false ∷ false ∷ true ∷ false ∷ false ∷ false ∷ false ∷ false ∷ [])
elements = calls-Sides.elements

-- No history brings a count above 65,535,
pub run-few : (s : List ℕ) (st : State) → FewIn 65535 st.calls → (es : List receiver-Event) → FewIn 65535 (calls_after s st es)
run-few = receiver-Runs.run-few

-- and a fresh table has none above it.
pub fresh-few : (T : Table) → FewIn 65535 (fresh_state T).calls
fresh-few = receiver-Runs.fresh-few

-- Stated in another file: `Request01.reflected`.

-- "Beside the table, the owner lends one tally row a method: opened, completed, errored, cancelled, failed on payload."
-- The contracts of `arf::receive` and `arf::release` fix every lent row.

-- What holds of the number, the records and the row of method m where the answer stops, and of every step of a frame at the front.
pub answer-holds-row : (s : List ℕ) (side : ℕ) (bytes sheet : List ℕ) (ts : List Tally) (l : List Call)
    (m : ℕ) (P : ℕ → List Call → Tally → Type 0) → ((n q : ℕ) → Stops s bytes l (length ts) n q → P n l (row_for ts m))
    → ((f : calls-Frame) → Front side bytes f → TablesReady s l (length ts) → (reading : Payload → ℕ) →
    let r = receive (table_of s) f reading l in P r.number r.slots (row_after m (frame_rise s f l) r.number (row_for ts m)))
    → let a = received s side bytes sheet ts l in P a.answer.number a.answer.table.slots (row_for a.tallies m)
answer-holds-row = receiver-Kept.answer-holds-row

-- What holds of the number, the records and the row of method m where it stops at a fault of the tables, and of every release that is judged.
pub release-holds-row : (s : List ℕ) (l : List Call) (id : ℕ) (ts : List Tally)
    (m : ℕ) (P : ℕ → List Call → Tally → Type 0) → ((n q : ℕ) → Unready s l (length ts) n q → P n l (row_for ts m))
    → (TablesReady s l (length ts) → (n : ℕ) → ends_call n ≡ false → let x = release id n l in P x.number x.slots (row_after m (release_rise l (judge_release id l)) x.number (row_for ts m)))
    → let a = released s l id ts in P a.answer.number a.answer.table.slots (row_for a.tallies m)
release-holds-row = receiver-Kept.release-holds-row

-- "Over any run from a fresh start under one schema table, opened equals the other four plus the calls of that method now open,"

-- From a fresh start, under any schema file, opened equals the other four plus the calls of that method now open.
pub opened-balance : (s : List ℕ) (es : List receiver-Event) (m : ℕ) → let x = state_from s (fresh_state (table_of s)) es in
    let t = row_for x.tallies m in t.opened ≡ t.completed + t.errored + t.cancelled + t.failed + open_of m x.calls
opened-balance = receiver-Tallies.opened-balance

-- Whatever the history, a row that is in balance at the start stays so.
pub stays-balanced : (s : List ℕ) (st : State) (m : ℕ) → Balanced m (row_for st.tallies m) st.calls → (es : List receiver-Event)
    → let x = state_from s st es in Balanced m (row_for x.tallies m) x.calls
stays-balanced = receiver-Tallies.stays-balanced

-- "every figure defined from the history of accepted frames, releases and payload refusals."

-- After any history from a fresh start under one schema table, each tally row is the figures of that history.
pub rows-follow : (s : List ℕ) (g : IsGood s) →
    let T = table_of s in
    (es : List receiver-Event) (m : ℕ) → row_for (rows_after s (fresh_state T) es) m ≡ figures T m (heard_from s (fresh_state T) es)
rows-follow = receiver-Tallies.rows-follow

-- So the figures themselves are in balance with the calls now open.
pub figures-balance : (s : List ℕ) (g : IsGood s) →
    let T = table_of s in
    (es : List receiver-Event) (m : ℕ) → let h = heard_from s (fresh_state T) es in
    counted T m 1 h ≡ counted T m 2 h + counted T m 3 h + counted T m 4 h + counted T m 5 h + open_of m (calls_after s (fresh_state T) es)
figures-balance = receiver-Tallies.figures-balance

-- "A release, and ERROR after CANCEL, count as cancelled, at that moment;"

-- Stated above: `rows-follow`.

-- "an INVOKE refused for its payload counts nowhere."

-- An INVOKE that is refused, for its payload or before, counts nowhere: every row is as it was.
pub invoke_uncounted : (s : List ℕ) (side : ℕ) (bytes sheet : List ℕ) (ts : List Tally) (l : List Call)
    → let a = received s side bytes sheet ts l in (f : calls-Frame) → Front side bytes f → f.kind ≡ 1 → (a.answer.number ≡ 0 → ⊥) → a.tallies ≡ ts
invoke_uncounted = receiver-Answers.invoke_uncounted

-- Stated above: `rows-follow`.

-- "A good call table now also has both counts at 0 where the form lacks the stream."

-- A good call table passes the test,
pub good-test : (T : Table) (l : List Call) → GoodCalls T l → good_table T l ≡ true
good-test = calls-Goodness.good-test

-- and what passes the test is good.
pub good-clauses : (T : Table) (l : List Call) → good_table T l ≡ true → GoodCalls T l
good-clauses = calls-Goodness.good-clauses

-- "The apart rule names the number of tally rows and the row of the call's method as well."

-- The open count aside, the answer depends on the schema table, on whether the call table is good, on the frame, its side, the sheet's room, its own
-- call's record, the number of tally rows and the row of the call's method; INVOKE also on whether 128 calls are open.
pub same_answer : (sheet₁ sheet₂ : List ℕ) (ts₁ ts₂ : List Tally) (l₁ l₂ : List Call) (s : List ℕ) (space : room sheet₁ ≡ room sheet₂) (side : ℕ)
    (bytes : List ℕ) (w : Alike (table_of s) side bytes l₁ l₂ ts₁ ts₂)
    → SameAnswer sheet₁ sheet₂ (received s side bytes sheet₁ ts₁ l₁) (received s side bytes sheet₂ ts₂ l₂)
same_answer = receiver-Apart.same_answer

-- The row of the call's method is the same afterwards for two call tables that are alike for the frame.
pub same-row-after : (s : List ℕ) (side : ℕ) (bytes sheet₁ sheet₂ : List ℕ) (ts₁ ts₂ : List Tally) (l₁ l₂ : List Call)
    (space : room sheet₁ ≡ room sheet₂) (w : Alike (table_of s) side bytes l₁ l₂ ts₁ ts₂) (m : ℕ)
    (about : About (table_of s) side bytes l₁ m) →
    let a₂ = received s side bytes sheet₂ ts₂ l₂ in let a₁ = received s side bytes sheet₁ ts₁ l₁ in
    row_for a₁.tallies m ≡ row_for a₂.tallies m
same-row-after = receiver-Tallies.same-row-after

-- Of the tally rows a frame changes that of its call's method at most.
pub other-rows : (s : List ℕ) (side : ℕ) (bytes sheet : List ℕ) (ts : List Tally) (l : List Call) (m : ℕ) → (About (table_of s) side bytes l m → ⊥)
    → row_for (received s side bytes sheet ts l).tallies m ≡ row_for ts m
other-rows = receiver-Tallies.other-rows

-- So does a release: every other row is as it was.
pub release-other-rows : (s : List ℕ) (l : List Call) (id : ℕ) (ts : List Tally) (m : ℕ) → ((c : Call) → own_of id l ≡ Some c → c.method ≡ m → ⊥)
    → row_for (released s l id ts).tallies m ≡ row_for ts m
release-other-rows = receiver-Tallies.release-other-rows

-- Stated in another file: `Request01.same_answer`.

-- "Refusals: 19 wrong number of tally rows, after 15;"

-- 17, 18, 19 and 30 change nothing and use no bytes.
pub kept_whole : (s : List ℕ) (side : ℕ) (bytes sheet : List ℕ) (ts : List Tally) (l : List Call)
    → let a = received s side bytes sheet ts l in Keeping a.answer.number → KeptWhole sheet ts l a
kept_whole = receiver-Answers.kept_whole

-- A history keeps the number of tally rows.
pub run-rows : (s : List ℕ) (st : State) (es : List receiver-Event) → length (state_from s st es).tallies ≡ length st.tallies
run-rows = receiver-Runs.run-rows

-- Stated in other files: `Demand1.stopped-iff`, `Demand1.release-stopped-iff`.

-- "17 element limit, before payload;"

-- Stated above: `kept_whole`. Stated in another file: `Demand2.by_order`.

-- "18 a tally at 4294967295 that would rise, last before acceptance or payload refusal, changing nothing and using no bytes."

-- The test holds exactly where the figure is at 4294967295.
pub full-iff : (t : Tally) (f : Figure) → (full_at t f ≡ true) ↔ Full t f
full-iff = calls-Counted.full-iff

-- Stated above: `kept_whole`. Stated in other files: `Demand2.by_order`, `Demand1.release-refused-kept`, `Demand1.refused-rows`.

-- What keeps a frame:

-- A whole frame under good tables: its answer uses the frame, or has 17 at its own call's limit, 18 for a tally that is full, or 30.
pub used-or-kept : (s : List ℕ) (side : ℕ) (bytes sheet : List ℕ) (ts : List Tally) (l : List Call) {h : Header} {place n : ℕ}
    → TablesReady s l (length ts) → frame_of bytes ≡ frame-Frame h place n
    → let a = received s side bytes sheet ts l in (a.answer.used ≡ place + n) ⊎ Keeps h.kind (own_of h.correlation l) ts a.answer.number
used-or-kept = receiver-Numbered.used-or-kept

-- A run that keeps no rows:

-- After fewer than 4294967295 frames from a fresh start the next one has the same answer and sheet with the rows of that run as with fresh ones.
pub fresh-answers : (s : List ℕ) (g : IsGood s) →
    let T = table_of s in
    (is : List Input) → length is < 4294967295 → (i : Input) →
    let x = answer_after s (fresh_state T) (inputs is) i in
    fresh_effect x.answer x.sheet ≡ received_fresh s i.side i.bytes i.sheet (calls_after s (fresh_state T) (inputs is))
fresh-answers = receiver-FreshRows.fresh-answers

-- So a record of fewer than 2^32 entries leaves the same calls.
pub fresh-calls : (s : List ℕ) (g : IsGood s) →
    let T = table_of s in
    (is : List Input) → length is < 4294967296 → calls_after s (fresh_state T) (inputs is) ≡ fresh_run s is fresh_table.slots
fresh-calls = receiver-FreshRows.fresh-calls
