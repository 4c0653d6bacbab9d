-- Request 2026-01, answers that cross our cancel: its sentences, and below each the theorems that state it, cited from the crate that proves them.
use Rattle.std.specs.Prelude.{None, Some}
use mathlib.Core.List.{List, map, ◌∷◌, []}
use Prim.Native.Nat.{ℕ, ◌+◌}
use mathlib.Core.Path.{◌≡◌}
use mathlib.Core.Bool.{true, false, Bool}
use lib.ListN.{length}
use mathlib.Core.Logic.{◌↔◌}
use Rattle.schema.specs.Check.{IsGood}
use Rattle.schema.specs.File.{table_of}
use Rattle.schema.specs.Table.{Table}
use Rattle.schema.proofs.Examples.{file}
use Rattle.calls.specs.declared.Tally.{Tally}
use Rattle.calls.specs.declared.Call.{Call}
use Rattle.calls.specs.declared.Frame.{Frame as calls-Frame}
use Rattle.calls.specs.Record.{is_call, with_mark, allowed, not_allowed}
use Rattle.calls.specs.Slots.{slot, own_of, contains, good_table, count_open}
use Rattle.calls.specs.Event.{Event as calls-Event, identifier}
use Rattle.calls.specs.Apart.{EndsCancelled}
use Rattle.calls.specs.Order.{Past, Reflects, Elements, since, same, Crosses, method_named, cancelled, Ruled, comes}
use Rattle.calls.specs.Judge.{right_side}
use Rattle.calls.specs.declared.FormRow.{FormRow}
use Rattle.calls.specs.Good.{GoodCall}
use Rattle.calls.specs.declared.Payload.TheVariants.{Empty}
use Rattle.receiver.specs.Claims.{Front, Nothing, row_for, release_reply, payload_in}
use Rattle.receiver.specs.Receive.{received}
use Rattle.receiver.specs.Run.{State, Event as receiver-Event, state_after, Happens, event_number, past_in, calls_after, Input, answer_after, rows_after, RoomAfter, full_after}
use Rattle.receiver.specs.Order.{Reflected}
use Rattle.receiver.specs.Release.{released}
use Rattle.listing.specs.Listing.{listing}
use Rattle.listing.proofs.Examples.{crossed, crossed_output}
use Rattle.calls.proofs.Cancelled as calls-Cancelled
use Rattle.receiver.proofs.Records as receiver-Records
use Rattle.receiver.proofs.Runs as receiver-Runs
use Rattle.receiver.proofs.Releases as receiver-Releases
use Rattle.listing.proofs.Examples as listing-Examples

-- "a cancelled call shall stay open in its slot and keep its identifier."

-- An accepted CANCEL sets the mark of its call: the record stays in its slot, with its identifier and its other marks, and every other slot as it was.
pub cancel-marked : (s : List ℕ) (side : ℕ) (bytes sheet : List ℕ) (ts : List Tally) (l : List Call) (f : calls-Frame) (w : Front side bytes f) →
    let slots = (received s side bytes sheet ts l).answer.table.slots in let number = (received s side bytes sheet ts l).answer.number in
    f.kind ≡ 8 → number ≡ 0 → (i : ℕ) → is_call f.correlation (slot l i) ≡ true →
    (slot slots i ≡ with_mark true (slot l i)) × ((j : ℕ) → (j ≡ i → ⊥) → slot slots j ≡ slot l j)
cancel-marked = receiver-Records.cancel-marked

-- It frees no slot.
pub cancel-frees-none : (s : List ℕ) (side : ℕ) (bytes sheet : List ℕ) (ts : List Tally) (l : List Call) (f : calls-Frame) (w : Front side bytes f) →
    let slots = (received s side bytes sheet ts l).answer.table.slots in let number = (received s side bytes sheet ts l).answer.number in
    f.kind ≡ 8 → number ≡ 0 → (i : ℕ) → (slot l i).«open» ≡ true → (slot slots i).«open» ≡ true
cancel-frees-none = receiver-Records.cancel-frees-none

-- Only its ERROR, accepted, or its release frees the slot of a cancelled call.
pub cancelled-freed : (s : List ℕ) (st : State) (e : receiver-Event) (i : ℕ) → (slot st.calls i).«open» ≡ true → (slot st.calls i).cancelled ≡ true
    → (slot (state_after s e st).calls i).«open» ≡ false
    → (x : calls-Event) × Happens e x × (is_call (identifier x) (slot st.calls i) ≡ true) × EndsCancelled x (event_number s e st)
cancelled-freed = receiver-Runs.cancelled-freed

-- The record of each identifier reflects the kinds that were accepted for its call.
pub reflected : (s : List ℕ) (g : IsGood s) (start : State) (past : ℕ → Past) (st : Reflected (table_of s) start.calls start.tallies past)
    (es : List receiver-Event) (id : ℕ) → Reflects (past_in s start past es id) (own_of id (calls_after s start es))
reflected = receiver-Runs.reflected

-- "Its server frames are then dropped, payload unread, with answer 16 and all bytes used;"

-- The server's frames of a cancelled call, ERROR aside, are dropped, payload unread, with answer 16 and all bytes used; nothing is changed.
pub crossing-dropped : (s : List ℕ) (g : IsGood s) (start : State) (past : ℕ → Past) (st : Reflected (table_of s) start.calls start.tallies past) →
    let T = table_of s in
    (es : List receiver-Event) (i : Input) (f : calls-Frame) (w : Front i.side i.bytes f) (m : ℕ) (b : Elements) (h : List ℕ)
    → past_in s start past es f.correlation ≡ since m b h → right_side f.side f.kind ≡ true → same T f m ≡ true → Crosses h f.kind
    → let a = answer_after s start es i in
    (a.answer.number ≡ 16) × (a.answer.place ≡ 0) × (a.answer.used ≡ w.place + w.size) × Nothing i.sheet a × (a.answer.table.slots ≡ calls_after s start es)
    × ((k : ℕ) → row_for a.tallies k ≡ row_for (rows_after s start es) k)
crossing-dropped = receiver-Runs.crossing-dropped

-- Of the kinds 2 to 8 a cancelled call allows ERROR alone.
pub error-alone : (row : FormRow) (c : Call) → c.cancelled ≡ true →
    map (λ k. allowed row k c) (2 ∷ 3 ∷ 4 ∷ 5 ∷ 6 ∷ 7 ∷ 8 ∷ []) ≡ false ∷ false ∷ false ∷ false ∷ false ∷ true ∷ false ∷ []
error-alone = calls-Cancelled.error-alone

-- The server's others (OUT_STREAM, OUT_CLOSE, RESPONSE) are 16, the client's (IN_STREAM, IN_CLOSE, CANCEL) 14.
pub dropped-kinds : (c : Call) → c.cancelled ≡ true → map (λ k. not_allowed k c) (2 ∷ 3 ∷ 4 ∷ 5 ∷ 6 ∷ 8 ∷ []) ≡ 14 ∷ 14 ∷ 16 ∷ 16 ∷ 16 ∷ 14 ∷ []
dropped-kinds = calls-Cancelled.dropped-kinds

-- Of a call that is not cancelled all are 14.
pub late-kinds : (c : Call) → c.cancelled ≡ false → map (λ k. not_allowed k c) (2 ∷ 3 ∷ 4 ∷ 5 ∷ 6 ∷ 8 ∷ []) ≡ 14 ∷ 14 ∷ 14 ∷ 14 ∷ 14 ∷ 14 ∷ []
late-kinds = calls-Cancelled.late-kinds

-- "ERROR is accepted and ends it;"

-- ERROR of a cancelled call is accepted and ends it, unless its tally is full.
pub error-ends-cancelled : (s : List ℕ) (g : IsGood s) (start : State) (past : ℕ → Past) (st : Reflected (table_of s) start.calls start.tallies past) →
    let T = table_of s in
    (es : List receiver-Event) (i : Input) (f : calls-Frame) (w : Front i.side i.bytes f) (m : ℕ) (b : Elements) (h : List ℕ)
    → past_in s start past es f.correlation ≡ since m b h → RoomAfter s start past es f 0 → f.side ≡ 83 → f.kind ≡ 7 → same T f m ≡ true
    → let a = answer_after s start es i in (a.answer.number ≡ 0) × (own_of f.correlation a.answer.table.slots ≡ None)
error-ends-cancelled = receiver-Runs.error-ends-cancelled

-- "so does a new public release call naming the correlation."
-- By the contract of `arf::release`, answer, next call table and tally rows afterwards are `released`.

-- A released call has ended.
pub released-ends : (s : List ℕ) (l : List Call) (id : ℕ) (ts : List Tally) →
    let slots = (released s l id ts).answer.table.slots in let number = (released s l id ts).answer.number in
    number ≡ 0 → own_of id slots ≡ None
released-ends = receiver-Releases.released-ends

-- Stated in another file: `Demand2.release-by-order`.

-- "Demand 2 reads this step in place of 01's,"
-- `Demand2.by_order` and `Demand2.release-by-order` are stated over this step.

-- "and a good table may hold the cancelled mark in any open record."

-- A good table may hold the mark in any open record.
pub any_open : (T : Table) (c : Call) (b : Bool) → GoodCall T c → GoodCall T (with_mark b c)
any_open = calls-Cancelled.any_open

-- Stated in another file: `Demand2.good-iff-reached`.

-- "Refusals: INVOKE on a cancelled call stays 10, its other client frames 14, after 12;"

-- INVOKE of a known method on an open call's identifier, cancelled or not, is 10.
pub invoke_open : (s : List ℕ) (g : IsGood s) (start : State) (past : ℕ → Past) (st : Reflected (table_of s) start.calls start.tallies past) →
    let T = table_of s in
    (es : List receiver-Event) (i : Input) (f : calls-Frame) (w : Front i.side i.bytes f) (m n : ℕ) (b : Elements) (h : List ℕ)
    → past_in s start past es f.correlation ≡ since m b h → f.side ≡ 67 → f.kind ≡ 1 → method_named T f ≡ Some n
    → (answer_after s start es i).answer.number ≡ 10
invoke_open = receiver-Runs.invoke_open

-- A client frame of a cancelled call (IN_STREAM, IN_CLOSE, CANCEL) is 12 where its identifiers are not the call's, and else 14.
pub client-late : (s : List ℕ) (g : IsGood s) (start : State) (past : ℕ → Past) (st : Reflected (table_of s) start.calls start.tallies past) →
    let T = table_of s in
    (es : List receiver-Event) (i : Input) (f : calls-Frame) (w : Front i.side i.bytes f) (m : ℕ) (b : Elements) (h : List ℕ)
    → past_in s start past es f.correlation ≡ since m b h → cancelled h ≡ true → f.side ≡ 67 → contains f.kind (2 ∷ 3 ∷ 8 ∷ []) ≡ true
    → let a = (answer_after s start es i).answer in
    (same T f m ≡ false → a.number ≡ 12) × (same T f m ≡ true → a.number ≡ 14)
client-late = receiver-Runs.client-late

-- "16 stands where 14 would;"

-- Stated in other files: `Demand2.by_order`, `Demand2.ruled-once`.

-- "release gives the table's refusals, 15, 11 for a call not open, 14 for one not cancelled."

-- Stated in other files: `Demand1.release-stopped-iff`, `Demand2.release-by-order`.

-- 01's "Calls kept apart", for a release:

-- The answer to a release depends on the schema table, on whether the call table is good, on its own call's record, and on the tally rows' number and own row.
pub same_answer : (s : List ℕ) (id : ℕ) (l₁ l₂ : List Call) (ts₁ ts₂ : List Tally) (good : good_table (table_of s) l₁ ≡ good_table (table_of s) l₂)
    (own : own_of id l₁ ≡ own_of id l₂) (rows : length ts₁ ≡ length ts₂)
    (row : (c : Call) → own_of id l₁ ≡ Some c → row_for ts₁ c.method ≡ row_for ts₂ c.method)
    → release_reply (released s l₁ id ts₁).answer ≡ release_reply (released s l₂ id ts₂).answer
same_answer = receiver-Releases.same_answer

-- So does the record of its call afterwards.
pub same-own : (s : List ℕ) (id : ℕ) (l₁ l₂ : List Call) (ts₁ ts₂ : List Tally) (good : good_table (table_of s) l₁ ≡ good_table (table_of s) l₂)
    (own : own_of id l₁ ≡ own_of id l₂) (rows : length ts₁ ≡ length ts₂)
    (row : (c : Call) → own_of id l₁ ≡ Some c → row_for ts₁ c.method ≡ row_for ts₂ c.method)
    → own_of id (released s l₁ id ts₁).answer.table.slots ≡ own_of id (released s l₂ id ts₂).answer.table.slots
same-own = receiver-Releases.same-own

-- The record of every other identifier is unchanged,
pub others-kept : (s : List ℕ) (l : List Call) (id : ℕ) (ts : List Tally) →
    let slots = (released s l id ts).answer.table.slots in
    (k : ℕ) → (k ≡ id → ⊥) → own_of k slots ≡ own_of k l
others-kept = receiver-Releases.others-kept

-- and every slot but the one where the call is open.
pub slots_kept : (s : List ℕ) (l : List Call) (id : ℕ) (ts : List Tally) →
    let slots = (released s l id ts).answer.table.slots in
    (i : ℕ) → is_call id (slot l i) ≡ false → slot slots i ≡ slot l i
slots_kept = receiver-Releases.slots_kept

-- What frees a slot:

-- Stated above: `cancelled-freed`. Stated in another file: `Demand1.freed`.

-- 01's "Closes and CANCEL are empty", for a CANCEL that may come:

-- Where nothing belongs, a frame that may come is accepted exactly without a payload, and else refused with 29 at place 0, unless the tally that this raises is full.
pub nothing-belongs : (s : List ℕ) (g : IsGood s) (start : State) (past : ℕ → Past) (st : Reflected (table_of s) start.calls start.tallies past) →
    let T = table_of s in
    (es : List receiver-Event) (i : Input) (f : calls-Frame) (w : Front i.side i.bytes f)
    → (payload_in w ≡ [] → RoomAfter s start past es f 0) → ((payload_in w ≡ [] → ⊥) → RoomAfter s start past es f 29) →
    Ruled T f (full_after s start es) (past_in s start past es f.correlation) (comes Empty) →
    let a = (answer_after s start es i).answer in
    ((a.number ≡ 0) ↔ (payload_in w ≡ [])) × ((payload_in w ≡ [] → ⊥) → (a.number ≡ 29) × (a.place ≡ 0))
nothing-belongs = receiver-Runs.nothing-belongs

-- The whole listing of a record in which a RESPONSE crosses a CANCEL, and a CANCEL has a payload.
pub crossing : listing file crossed ≡ crossed_output
crossing = listing-Examples.crossing

-- Stated in another file: `Demand1.refused-ends`.

-- Invented open calls:

-- The calls open are those of the next table.
pub open_counted : (s : List ℕ) (l : List Call) (id : ℕ) (ts : List Tally) →
    let slots = (released s l id ts).answer.table.slots in
    (released s l id ts).answer.«open» ≡ count_open slots
open_counted = receiver-Releases.open_counted
