-- The index of a record covers exactly the entries that its listing prints, with their answers, and a look-up prints those of one call.
use mathlib.Core.Path.{◌≡◌}
use mathlib.Core.List.{List, ◌++◌, Memᴰ}
use mathlib.Core.Logic.{◌↔◌}
use Prim.Native.Nat.{ℕ, ◌≤◌}
use native.Mathlib.Omega.{arith}
use borrow.Author.Tests.{le-ltb}
use lib.Dec.{ltb}
use lib.ListN.{length, take, drop}
use Rattle.wire.specs.Little.{Bytes}
use Rattle.schema.specs.Check.{IsGood}
use Rattle.schema.proofs.Bools.{or-neither}
use Rattle.schema.proofs.Files.{filled, type-count, field-count, method-count}
use Rattle.schema.proofs.Checks.{good-shaped}
use Rattle.schema.proofs.Goods.{good-table}
use Rattle.replay.specs.Run.{Entry, run_of}
use Rattle.replay.specs.Runs.{StandsIn}
use Rattle.replay.proofs.Replays.{entries-stand}
use Rattle.index.specs.Indexing.{Made}
use Rattle.index.specs.Finding.{Printed}
use Rattle.index.specs.Index.{rows_for, outcome, make_index}
use Rattle.index.specs.Text.{call_text}
use Rattle.index.specs.Claims.{Has}
use Rattle.index.specs.LookUp as look
use Rattle.index.proofs.Statements.{rows-cover, rows-many, made-iff, call-found}
use Rattle.listing.specs.Text.{heading}
use Rattle.listing.specs.Listing.{run_text, listing}

-- A good schema file has 27,664 bytes at most: 256 types, 2,048 fields, 256 methods and the trailer.
pub good-short : (s : List ℕ) → IsGood s → length s ≤ 27664
good-short s g =
    let e = good-shaped s g in
    let f = filled s e in
    let T = good-table s g in
    omega (arith, f.types, f.fields, f.methods, type-count s e, field-count s e, method-count s e, T.few_types, T.few_fields, T.few_methods)

-- the whole text of a listing: a line for each entry of the run, in order, and the last line
listed : (schema entries : List ℕ) → IsGood schema → length entries ≤ 65536 → listing schema entries ≡ heading ++ run_text 1 (run_of schema entries)
unfolding listing
listed schema entries good short =
    rw (or-neither (ltb 65536 (length schema)) (ltb 65536 (length entries)) (le-ltb 65536 (length schema) (omega (arith, good-short schema good))) (le-ltb 65536 (length entries) short), good)

-- "it covers exactly the entries the listing prints": by a good schema file the listing prints a line for each entry of the record's run (`run_text`), which
-- stands in the record at its place; the index has a row with a correlation, place and answer exactly where one of these entries has them, and as many rows as there are entries.
pub index_listed : (schema entries : List ℕ) → IsGood schema → length entries ≤ 65536 → let es = (run_of schema entries).entries in
    (listing schema entries ≡ heading ++ run_text 1 (run_of schema entries))
    × ((e : Entry) → Memᴰ e es → StandsIn entries e)
    × ((c p n : ℕ) → Memᴰ (record { correlation = c; place = p; answer = n }) (rows_for schema entries) ↔ Has es c p n)
    × (length (rows_for schema entries) ≡ length es)
index_listed schema entries good short = (listed schema entries good short, entries-stand schema entries, rows-cover schema entries, rows-many schema entries)

-- A record's index that was made is accepted with the record, and the look-up of a call prints the place and the answer of exactly those entries that the
-- listing prints with this correlation, in order.
pub call-listed : (schema entries out : List ℕ) {n : ℕ} {after : List ℕ} → make_index schema entries out ≡ outcome (Made n) after → Bytes entries →
    let es = (run_of schema entries).entries in
    (listing schema entries ≡ heading ++ run_text 1 (run_of schema entries))
    × ((c : ℕ) (page : List ℕ) → let text = call_text c es in length text ≤ length page
    → look.look_up (take n after) entries c page ≡ look.outcome (Printed 0 (length text)) (text ++ drop (length text) page))
call-listed schema entries out {n} {after} e b =
    let a = (made-iff schema entries out n after).0 e in
    (listed schema entries a.good a.small, call-found schema entries out e b)
