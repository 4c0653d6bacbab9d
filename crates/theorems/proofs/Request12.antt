-- Request 2026-12, all entries of one call: its sentences, and below each the theorems that state it, cited from the crate that proves them.
use mathlib.Core.List.{List, Memᴰ, ◌∷◌, [], ◌++◌}
use Prim.Native.Nat.{ℕ, ◌<◌, ◌≤◌}
use mathlib.Core.Path.{◌≡◌}
use mathlib.Core.Bool.{true}
use mathlib.Core.Logic.{◌↔◌}
use lib.ListN.{take, length, drop}
use Rattle.wire.specs.Little.{Bytes}
use Rattle.schema.proofs.Examples.{file}
use Rattle.schema.specs.Check.{IsGood}
use Rattle.reader.specs.Entry.{room}
use Rattle.replay.specs.Run.{Entry, run_of, sheet, Run, fresh_calls}
use Rattle.replay.specs.Runs.{StandsIn, Runs}
use Rattle.replay.specs.Lent.{lent_run}
use Rattle.index.specs.Row.{Rising, is_rising, of_call}
use Rattle.index.specs.declared.Row.{Row as index-Row}
use Rattle.index.specs.Index.{rows_for, make_index, outcome as index-outcome, index_bytes}
use Rattle.index.specs.IsIndex.{IsIndex, rows_in, is_index, Reads}
use Rattle.index.specs.Claims.{Has, Finds, Judges, Accepted as index-Accepted, Refuses as index-Refuses}
use Rattle.index.specs.LookUp.{look_up, Outcome as look-up-Outcome, stopped_number, look_text, looked, outcome as look-up-outcome}
use Rattle.index.specs.Text.{text_of, call_text}
use Rattle.index.specs.Indexing.{Made, Refused as index-Refused}
use Rattle.index.specs.Finding.{Printed, Refused as look-up-Refused}
use Rattle.listing.proofs.Examples.{entries, interleaved, unsided}
use Rattle.listing.specs.Listing.{listing, run_text}
use Rattle.listing.specs.Text.{heading}
use Rattle.replay.proofs.Replays as replay-Replays
use Rattle.replay.proofs.Turns as replay-Turns
use Rattle.replay.proofs.Lents as replay-Lents
use Rattle.index.proofs.Statements as index-Statements
use Rattle.index.proofs.Readings as index-Readings
use Rattle.index.proofs.Orders as index-Orders
use Rattle.listing.proofs.Examples as listing-Examples
use Rattle.listing.proofs.Indexed as listing-Indexed

-- "16-byte rows of correlation, entry place and answer, strictly rising by correlation and then place"
-- By the contract of `arf::make_index`, answer and output afterwards are `make_index`, which writes the rows `rows_for`.

-- The rows of an index rise strictly.
pub rows-rising : (schema entries : List ℕ) → Rising (rows_for schema entries)
rows-rising = index-Statements.rows-rising

-- Rows pass the test exactly where each stands before the next.
pub rising-iff : (rows : List index-Row) → (is_rising rows ≡ true) ↔ Rising rows
rising-iff = index-Readings.rising-iff

-- The rows of one call among rising rows rise strictly.
pub call-rising : (c : ℕ) (rows : List index-Row) → Rising rows → Rising (of_call c rows)
call-rising = index-Orders.call-rising

-- So do those of an index: with one correlation, by place.
pub call-rises : (c : ℕ) (schema entries : List ℕ) → Rising (of_call c (rows_for schema entries))
call-rises = index-Statements.call-rises

-- Each entry of a record's run stands at its place in the record.
pub entries-stand : (s entries : List ℕ) (e : Entry) → Memᴰ e (run_of s entries).entries → StandsIn entries e
entries-stand = replay-Replays.entries-stand

-- The rows of 01's worked record: two calls, three entries and two.
pub worked-rows : rows_for file entries
    ≡ record { correlation = 9; place = 0; answer = 0 }
    ∷ record { correlation = 9; place = 29; answer = 0 }
    ∷ record { correlation = 9; place = 60; answer = 11 }
    ∷ record { correlation = 10; place = 91; answer = 0 }
    ∷ record { correlation = 10; place = 120; answer = 26 }
    ∷ []
worked-rows = listing-Examples.worked-rows

-- The rows of a record of two calls by turns.
pub interleaved-rows : rows_for file interleaved
    ≡ record { correlation = 9; place = 29; answer = 0 }
    ∷ record { correlation = 9; place = 92; answer = 0 }
    ∷ record { correlation = 10; place = 0; answer = 0 }
    ∷ record { correlation = 10; place = 58; answer = 26 }
    ∷ []
interleaved-rows = listing-Examples.interleaved-rows

-- No entry, and one: a cut frame alone; the entry from the wrong side.
pub few-rows : (rows_for file (take 28 entries) ≡ []) × (rows_for file unsided ≡ record { correlation = 9; place = 0; answer = 8 } ∷ [])
few-rows = listing-Examples.few-rows

-- Computed: `index/Examples.in_order`.

-- "and a 16-byte trailer at the end pointing back to the first row, with row count, the record's length and layout number 1"

-- The rows of an index that was made are read back from its bytes.
pub index_reads : {s : List ℕ} {rows : List index-Row} {size : ℕ} → IsIndex s rows size → Reads s rows size
index_reads = index-Readings.index_reads

-- Computed: `index/Examples.two-rows`.

-- "Making it runs the record from an empty call table with a sheet of 4,096 rows; it covers exactly the entries the listing prints."

-- The sheet has 4,096 rows.
pub sheet-rows : room sheet ≡ 4096
sheet-rows = replay-Turns.sheet-rows

-- A record of fewer than 2^32 bytes has one run, whether its tally rows are carried along or fresh for each entry.
pub lent-run : (s : List ℕ) (good : IsGood s) (entries : List ℕ) → length entries < 4294967296 → lent_run s entries ≡ run_of s entries
lent-run = replay-Lents.lent-run

-- A row with this correlation, place and answer is there exactly where an entry of the record's run has them,
pub rows-cover : (schema entries : List ℕ)
    (c p n : ℕ) → Memᴰ (record { correlation = c; place = p; answer = n }) (rows_for schema entries) ↔ Has (run_of schema entries).entries c p n
rows-cover = index-Statements.rows-cover

-- and there are as many rows as entries.
pub rows-many : (schema entries : List ℕ) → length (rows_for schema entries) ≡ length (run_of schema entries).entries
rows-many = index-Statements.rows-many

-- By a good schema file the listing prints a line for each entry of the record's run (`run_text`), which stands in the record at its place; the index has a
-- row with a correlation, place and answer exactly where one of these entries has them, and as many rows as there are entries.
pub index_listed : (schema entries : List ℕ) → IsGood schema → length entries ≤ 65536 → let es = (run_of schema entries).entries in
    (listing schema entries ≡ heading ++ run_text 1 (run_of schema entries))
    × ((e : Entry) → Memᴰ e es → StandsIn entries e)
    × ((c p n : ℕ) → Memᴰ (record { correlation = c; place = p; answer = n }) (rows_for schema entries) ↔ Has es c p n)
    × (length (rows_for schema entries) ≡ length es)
index_listed = listing-Indexed.index_listed

-- The run of a record is the one that the relation has.
pub run-iff : (s entries : List ℕ) (r : Run) → (run_of s entries ≡ r) ↔ Runs s 0 entries fresh_calls r
run-iff = replay-Replays.run-iff

-- "A tool prints `place answer`, then a line with these two in decimal for exactly the rows of one correlation, in order, and last `stopped` and 0
-- or, without rows, the refusal."
-- By the contract of `arf::look_up`, answer and output afterwards are `look_up`.

-- For any index, record, correlation and output: the lines of exactly the call's rows of an index that is accepted, or none, and last the verdict.
pub looked-up : (index entries : List ℕ) (c : ℕ) (out : List ℕ) → Bytes index → Finds index (length entries) c out (look_up index entries c out)
looked-up = index-Statements.looked-up

-- It answers and leaves nothing else.
pub looked-up-iff : (index entries : List ℕ) (c : ℕ) (out : List ℕ) → Bytes index → (o : look-up-Outcome)
    → (look_up index entries c out ≡ o) ↔ Finds index (length entries) c out o
looked-up-iff = index-Statements.looked-up-iff

-- Of an index for a record of that length: the rows of the correlation in order, and last 0.
pub rows-printed : (index : List ℕ) (size c : ℕ)
    {rows : List index-Row} → IsIndex index rows size → (stopped_number index size ≡ 0) × (look_text index size c ≡ text_of (of_call c rows) 0)
rows-printed = index-Statements.rows-printed

-- Of one for a record of another length: no rows, and 66.
pub other-printed : (index : List ℕ) (size c : ℕ)
    {rows : List index-Row} {n : ℕ} → IsIndex index rows n → (n ≡ size → ⊥) → (stopped_number index size ≡ 66) × (look_text index size c ≡ text_of [] 66)
other-printed = index-Statements.other-printed

-- What is no index at all is 65, without rows.
pub none-printed : (index : List ℕ) (size c : ℕ)
    → Bytes index → ((rows : List index-Row) (n : ℕ) → IsIndex index rows n → ⊥) → (stopped_number index size ≡ 65) × (look_text index size c ≡ text_of [] 65)
none-printed = index-Statements.none-printed

-- A row is among those of a call exactly where it has that correlation.
pub call-has : (c : ℕ) (r : index-Row) (rows : List index-Row) → Memᴰ r (of_call c rows) ↔ (Memᴰ r rows × (r.correlation ≡ c))
call-has = index-Statements.call-has

-- Computed: `index/Examples.look-ups`.

-- "Refusals: 65 index shape or order, 66 record of another length, 65 first"

-- Of any bytes a look-up either accepts an index whose rows rise strictly, for a record of that length, or gives 66 or 65 and looks at no row.
pub judged : (index : List ℕ) (size : ℕ) → Bytes index → Judges index size (stopped_number index size) (rows_in (looked index size) index)
judged = index-Statements.judged

-- Bytes pass the test exactly where they are the index of some rows for some record.
pub index-iff : (s : List ℕ) → Bytes s → (is_index s ≡ true) ↔ ((rows : List index-Row) × ((size : ℕ) × IsIndex s rows size))
index-iff = index-Readings.index-iff

-- Computed: `index/Examples.indices`.

-- "when making it the table's, 45, 52"

-- An index is made exactly where the schema table is good, the record short enough and the output large enough; it is then the index of the record's rows.
pub made-iff : (schema entries out : List ℕ)
    (n : ℕ) (after : List ℕ) → (make_index schema entries out ≡ index-outcome (Made n) after) ↔ index-Accepted schema entries out n after
made-iff = index-Statements.made-iff

-- It is refused exactly for these faults, the table's, 45 and 52 in this order, and leaves the output as it was.
pub refused-iff : (schema entries out : List ℕ)
    (number place : ℕ) (after : List ℕ) → (make_index schema entries out ≡ index-outcome (index-Refused number place) after)
    ↔ (index-Refuses schema entries out number place × (after ≡ out))
refused-iff = index-Statements.refused-iff

-- What follows: an index made from a record is accepted with it, and looking up a call in it prints exactly the entries of that correlation:

-- An index made from a record is an index, for that record.
pub made-index : (schema entries : List ℕ) (b : Bytes entries) (small : length entries ≤ 65536)
    → IsIndex (index_bytes (rows_for schema entries) (length entries)) (rows_for schema entries) (length entries)
made-index = index-Statements.made-index

-- An index made from a record is accepted for it, and the text of a call is the place and the answer of exactly the entries of that correlation in the
-- record's run, in order.
pub call-text : (schema entries out : List ℕ) {n : ℕ} {after : List ℕ} → make_index schema entries out ≡ index-outcome (Made n) after → Bytes entries → (c : ℕ)
    → (stopped_number (take n after) (length entries) ≡ 0) × (look_text (take n after) (length entries) c ≡ call_text c (run_of schema entries).entries)
call-text = index-Statements.call-text

-- Both entries in turn: what is made from a record, looked up with the record, prints this text where it fits.
pub call-found : (schema entries out : List ℕ) {n : ℕ} {after : List ℕ} → make_index schema entries out ≡ index-outcome (Made n) after → Bytes entries
    → (c : ℕ) (page : List ℕ) → let text = call_text c (run_of schema entries).entries in length text ≤ length page
    → look_up (take n after) entries c page ≡ look-up-outcome (Printed 0 (length text)) (text ++ drop (length text) page)
call-found = index-Statements.call-found

-- A record's index that was made is accepted with the record, and the look-up of a call prints the place and the answer of exactly those entries that the
-- listing prints with this correlation, in order.
pub call-listed : (schema entries out : List ℕ) {n : ℕ} {after : List ℕ} → make_index schema entries out ≡ index-outcome (Made n) after → Bytes entries →
    let es = (run_of schema entries).entries in
    (listing schema entries ≡ heading ++ run_text 1 (run_of schema entries))
    × ((c : ℕ) (page : List ℕ) → let text = call_text c es in length text ≤ length page
    → look_up (take n after) entries c page ≡ look-up-outcome (Printed 0 (length text)) (text ++ drop (length text) page))
call-listed = listing-Indexed.call-listed

-- What a look-up answers and leaves: the text at the start of the output where it fits, or 52.
pub look-up-fits : (index entries : List ℕ) (c : ℕ) (out : List ℕ) → let text = look_text index (length entries) c in length text ≤ length out
    → look_up index entries c out ≡ look-up-outcome (Printed (stopped_number index (length entries)) (length text)) (text ++ drop (length text) out)
look-up-fits = index-Statements.look-up-fits

-- Where it does not, the answer is 52, and the output is as it was.
pub look-up-full : (index entries : List ℕ) (c : ℕ) (out : List ℕ) → length out < length (look_text index (length entries) c)
    → look_up index entries c out ≡ look-up-outcome (look-up-Refused 52) out
look-up-full = index-Statements.look-up-full
