-- Request 2026-09, records with holes: its sentences, and below each the theorems that state it, cited from the crate that proves them.
use mathlib.Core.List.{List, ◌++◌, ◌∷◌}
use Prim.Native.Nat.{ℕ, suc, ◌+◌, ◌*◌, ◌<◌, ◌≤◌}
use mathlib.Core.Path.{◌≡◌}
use mathlib.Core.Logic.{◌↔◌, ◌⊎◌}
use lib.ListN.{length, get_or, drop, take}
use mathlib.Core.Bool.{true}
use Rattle.schema.specs.Check.{IsGood}
use Rattle.schema.specs.File.{table_of}
use Rattle.frame.specs.declared.Header.{Header}
use Rattle.frame.specs.Frame.{frame_of}
use Rattle.frame.specs.FrameRead.{Frame as frame-Frame}
use Rattle.record.specs.Entry.{entry_length}
use Rattle.record.specs.IsEntry.{Starts as record-Starts, NoEntry, Entries}
use Rattle.salvage.specs.Cover.{Cover, ListedSpan, Accepted as salvage-Accepted, Refuses as salvage-Refuses}
use Rattle.salvage.specs.Pieces.{pieces_of, Piece, bytes_of, spans_of, skip, span_count, copy_of, keep, entries_in}
use Rattle.salvage.specs.Salvage.{salvage_of, outcome as salvage-outcome}
use Rattle.salvage.specs.Salvaging.{Salvaged, Refused as salvage-Refused}
use Rattle.calls.specs.declared.Call.{Call}
use Rattle.calls.specs.Slots.{good_table}
use Rattle.calls.specs.Limits.{FewIn}
use Rattle.receiver.specs.Fresh.{received_fresh}
use Rattle.replay.specs.Run.{fresh_calls}
use Rattle.listing.specs.Listing.{listing}
use Rattle.listing.specs.Text.{heading}
use Rattle.listing.specs.Lines.{lines_of, Lines}
use Rattle.record.proofs.Entries as record-Entries
use Rattle.salvage.proofs.Covers as salvage-Covers
use Rattle.salvage.proofs.Statements as salvage-Statements
use Rattle.salvage.proofs.Outcomes as salvage-Outcomes
use Rattle.salvage.proofs.Cells as salvage-Cells
use Rattle.receiver.proofs.FreshRows as receiver-FreshRows
use Rattle.listing.proofs.Kept as listing-Kept

-- An entry is found by a test, and told apart from the test by a relation:

-- The test gives a length exactly where an entry of that length starts.
pub entry-iff : (s : List ℕ) (n : ℕ) → (entry_length s ≡ suc n) ↔ ((e : List ℕ) × (record-Starts s e × (length e ≡ suc n)))
entry-iff = record-Entries.entry-iff

-- It gives 0 exactly where none starts.
pub none-iff : (s : List ℕ) → (entry_length s ≡ 0) ↔ NoEntry s
none-iff = record-Entries.none-iff

-- "A salvage tool copies every entry it can: from the first place where none starts, it goes forward to the next place where a side byte and a whole
-- frame pass 2 to 7."
-- By the contract of `arf::salvage`, answer, copy and list afterwards are `salvage_of`.

-- The pieces found are a cover of the record: entries that are kept and spans that are left out,
pub covered : (s : List ℕ) → Cover s (pieces_of s)
covered = salvage-Covers.covered

-- and there is no other cover.
pub one-cover : {s : List ℕ} {ps : List Piece} → Cover s ps → pieces_of s ≡ ps
one-cover = salvage-Covers.one-cover

-- The pieces are those of the one cover.
pub cover-iff : (s : List ℕ) (ps : List Piece) → (pieces_of s ≡ ps) ↔ Cover s ps
cover-iff = salvage-Covers.cover-iff

-- Computed: `salvage/Examples.torn_records`.

-- "It lists the spans left out, place and length, two 32-bit numbers each, and answers how many entries it kept, bytes it copied and spans it
-- listed."

-- A span is listed with the number of bytes before it and its length, and after the spans before it.
pub span-listed : (before after : List Piece) (g : List ℕ) → let at = length (bytes_of before) in
    spans_of 0 (before ++ (skip g ∷ after)) ≡ spans_of 0 before ++ (at ∷ length g ∷ spans_of (at + length g) after)
span-listed = salvage-Statements.span-listed

-- Two cells a span.
pub spans-length : (at : ℕ) (ps : List Piece) → length (spans_of at ps) ≡ 2 * span_count ps
spans-length = salvage-Outcomes.spans-length

-- Each listed span, by its two cells, has a byte at least and lies in the record, and no entry starts in it. Between its end and the place of the next
-- there are at least the 27 bytes of an entry.
pub listed-spans : (torn copy spans : List ℕ) {n b m : ℕ} {copied listed : List ℕ} → salvage_of torn copy spans ≡ salvage-outcome (Salvaged n b m) copied listed
    → (i : ℕ) → i < m → let place = get_or listed (2 * i) 0 in let size = get_or listed (2 * i + 1) 0 in
    ListedSpan torn place size × (i + 1 < m → place + size + 27 ≤ get_or listed (2 * i + 2) 0)
listed-spans = salvage-Cells.listed-spans

-- A kept entry is copied after those before it, and counts once.
pub entry-copied : (before after : List Piece) (e : List ℕ) → (copy_of (before ++ (keep e ∷ after)) ≡ copy_of before ++ (e ++ copy_of after))
    × (entries_in (before ++ (keep e ∷ after)) ≡ entries_in before ++ (e ∷ entries_in after))
entry-copied = salvage-Statements.entry-copied

-- A salvage is accepted exactly where the record is short enough and both buffers have room. Kept entries and listed spans then are a cover of the
-- record, the one that there is; the answer counts them, the copy starts with the entries and the list with the spans, and past them both are as they
-- were.
pub salvaged_iff : (torn copy spans : List ℕ) (n b m : ℕ) (copied listed : List ℕ)
    → (salvage_of torn copy spans ≡ salvage-outcome (Salvaged n b m) copied listed) ↔ salvage-Accepted torn copy spans n b m copied listed
salvaged_iff = salvage-Statements.salvaged_iff

-- "Kept entries and listed spans cover the record once, in order."

-- The pieces are the record, byte for byte.
pub whole_record : {s : List ℕ} {ps : List Piece} → Cover s ps → bytes_of ps ≡ s
whole_record = salvage-Statements.whole_record

-- Stated above: `covered`.

-- "Refusals: 45; 52 for the copy, 53 for the list, 52 first, both buffers untouched."

-- A salvage is refused exactly for these faults, 45, 52 and 53 in this order, and leaves both buffers as they were.
pub refused-iff : (torn copy spans : List ℕ)
    (number : ℕ) (copied listed : List ℕ) → (salvage_of torn copy spans ≡ salvage-outcome (salvage-Refused number) copied listed)
    ↔ (salvage-Refuses torn copy spans number × ((copied ≡ copy) × (listed ≡ spans)))
refused-iff = salvage-Statements.refused-iff

-- Computed: `salvage/Examples.salvages`.

-- What follows, for whole records, for copies, and of the room that is enough:

-- A record of whole entries is copied whole, with no span: the list stays as it was.
pub whole-copied : (s : List ℕ) (es : List (List ℕ)) (copy spans : List ℕ) → Entries s es → length s ≤ 65536 → length s ≤ length copy
    → salvage_of s copy spans ≡ salvage-outcome (Salvaged (length es) (length s) 0) (s ++ drop (length s) copy) spans
whole-copied = salvage-Statements.whole-copied

-- Where no span is listed, the record is whole entries.
pub unlisted-whole : (s copy spans : List ℕ) {n b : ℕ} {copied listed : List ℕ} → salvage_of s copy spans ≡ salvage-outcome (Salvaged n b 0) copied listed
    → (es : List (List ℕ)) × (Entries s es × (length es ≡ n))
unlisted-whole = salvage-Statements.unlisted-whole

-- Salvaging the copy keeps all of it.
pub copy-kept : (torn copy spans : List ℕ) {n b m : ℕ} {copied listed : List ℕ} → salvage_of torn copy spans ≡ salvage-outcome (Salvaged n b m) copied listed
    → (copy' spans' : List ℕ) → b ≤ length copy'
    → salvage_of (take b copied) copy' spans' ≡ salvage-outcome (Salvaged n b 0) (take b copied ++ drop b copy') spans'
copy-kept = salvage-Statements.copy-kept

-- Between two spans lies an entry of at least 27 bytes, and a span has a byte.
pub spans-most : {s : List ℕ} {ps : List Piece} → Cover s ps → 28 * span_count ps ≤ length s + 27
spans-most = salvage-Statements.spans-most

-- A copy as long as the record and 4,682 cells are always enough.
pub room-enough : (torn copy spans : List ℕ) {number : ℕ} → length torn ≤ 65536 → length torn ≤ length copy → 4682 ≤ length spans
    → (salvage_of torn copy spans).answer ≡ salvage-Refused number → ⊥
room-enough = salvage-Statements.room-enough

-- The listing of a copy prints the kept frames in order:

-- The listing of a salvaged copy, by a good schema file, prints the kept entries in order.
pub copy-listed : (schema : List ℕ) (torn copy spans : List ℕ) {n b m : ℕ} {copied listed : List ℕ} → IsGood schema → length schema ≤ 65536
    → salvage_of torn copy spans ≡ salvage-outcome (Salvaged n b m) copied listed
    → listing schema (take b copied) ≡ heading ++ lines_of schema 1 (entries_in (pieces_of torn)) fresh_calls
copy-listed = listing-Kept.copy-listed

-- The listing of a record of whole entries, by a good schema file: the heading, and then a line for each entry.
pub listing-whole : (schema : List ℕ)
    {s : List ℕ} {es : List (List ℕ)} → IsGood schema → length schema ≤ 65536 → length s ≤ 65536 → Entries s es
    → listing schema s ≡ heading ++ lines_of schema 1 es fresh_calls
listing-whole = listing-Kept.listing-whole

-- A whole frame under good tables, where no call is at the element limit: its answer uses the frame, or has the number 30.
pub used-or-rows : (s : List ℕ) (side : ℕ) (bytes sheet : List ℕ) (l : List Call) {h : Header} {place n : ℕ}
    → IsGood s → good_table (table_of s) l ≡ true → FewIn 65534 l → frame_of bytes ≡ frame-Frame h place n
    → let a = received_fresh s side bytes sheet l in (a.answer.used ≡ place + n) ⊎ (a.answer.number ≡ 30)
used-or-rows = receiver-FreshRows.used-or-rows

-- A good table stays good.
pub stays-good : (s : List ℕ) (side : ℕ) (bytes sheet : List ℕ) (l : List Call) →
    let a = received_fresh s side bytes sheet l in
    good_table (table_of s) l ≡ true → good_table (table_of s) a.answer.table.slots ≡ true
stays-good = receiver-FreshRows.stays-good

-- Whole entries by good tables are listed one line each, and the listing stops early only at 30. There are too few of them for the element limit.
pub entries-lines : (schema : List ℕ)
    {s : List ℕ} {es : List (List ℕ)} → Entries s es → (n most : ℕ) (l : List Call) → IsGood schema → good_table (table_of schema) l ≡ true
    → FewIn most l → most + length es ≤ 65535 → Lines schema n es l (lines_of schema n es l)
entries-lines = listing-Kept.entries-lines

-- So is a salvaged copy of a record of at most 65,536 bytes.
pub kept-lines : (schema : List ℕ) (torn : List ℕ) → IsGood schema → length torn ≤ 65536
    → Lines schema 1 (entries_in (pieces_of torn)) fresh_calls (lines_of schema 1 (entries_in (pieces_of torn)) fresh_calls)
kept-lines = listing-Kept.kept-lines
