-- Paper 01, worked examples: its sentences, and below each the theorems that state it, cited from the crate that proves them. What a definition or a
-- contract alone states is in docs/PROMISES.md.
use Prim.Native.Nat.{ℕ}
use mathlib.Core.List.{List}
use mathlib.Core.Path.{◌≡◌}
use mathlib.Core.Bool.{false}
use mathlib.Core.Logic.{◌↔◌, ◌⊎◌}
use Rattle.frame.specs.Frame.{frame_of}
use Rattle.frame.specs.FrameRead.{Frame as frame-Frame}
use Rattle.text.specs.Decimal.{IsDecimal, decimal}
use Rattle.calls.specs.declared.Call.{Call}
use Rattle.reader.specs.Entry.{room}
use Rattle.receiver.specs.Fresh.{received_fresh}
use Rattle.replay.specs.Run.{answer_to, stops, header_in}
use Rattle.replay.specs.Runs.{GoesOn}
use Rattle.text.proofs.Decimals as text-Decimals
use Rattle.receiver.proofs.FreshRows as receiver-FreshRows
use Rattle.replay.proofs.Turns as replay-Turns

-- "Table T: .. Method 1, 2, 3 is YYNN, input 2, output 4. Its file has 140 bytes, trailer 60, 92, 124, 1."

-- Computed: `schema/Examples.file`, `schema/Examples.T-good`, `schema/Examples.T-rows`.

-- "Payloads of type 4, proved unless said:" P1 to P10:

-- Computed: `value/Examples.p1-to_p10`.

-- Stated in another file: `Request03.p1-to_p10`.

-- "Run only: depth 16 and 17, 128 and 129 calls, payload 16,384 and 16,385."

-- Computed: `value/Examples.read-faults`.

-- "The listing program takes a schema file and a record (entries: C or S, then a frame). Record: .. Whole output: .."

-- Computed: `listing/Examples.worked`.

-- Stated in other files: `Request12.run-iff`, `Request01.crossing`.

-- "Fields are decimal: entry, side, kind, correlation, answer, place, rows, calls open afterwards."

-- The decimal text of n has digits alone, which give n, the first of them 0 only in the text of 0.
pub decimal-right : (n : ℕ) → IsDecimal n (decimal n)
decimal-right = text-Decimals.decimal-right

-- "Answers using no bytes, or 8 for a side byte not C or S, print only `stopped`, the answer, and the bytes left from that entry."

-- The run goes on exactly where the side byte is C or S and the answer uses bytes.
pub goes-on-iff : (s : List ℕ) (side : ℕ) (bytes : List ℕ) (l : List Call) →
    let a = answer_to s side bytes l in (stops side a.number a.used ≡ false) ↔ GoesOn side a
goes-on-iff = replay-Turns.goes-on-iff

-- For a side byte that is not C or S the answer uses no bytes, or is 8.
pub no-sender : (s : List ℕ) (side : ℕ) (bytes : List ℕ) (l : List Call) (client : side ≡ 67 → ⊥) (server : side ≡ 83 → ⊥)
    → ((answer_to s side bytes l).used ≡ 0) ⊎ ((answer_to s side bytes l).number ≡ 8)
no-sender = replay-Turns.no-sender

-- Where the answer uses bytes, there is a whole frame, whose header the line shows.
pub listed-frame : (s : List ℕ) (side : ℕ) (bytes : List ℕ) (l : List Call) (z : (answer_to s side bytes l).used ≡ 0 → ⊥)
    → (place : ℕ) × ((n : ℕ) × (frame_of bytes ≡ frame-Frame (header_in (frame_of bytes)) place n))
listed-frame = replay-Turns.listed-frame

-- Computed: `listing/Examples.unsiding`, `listing/Examples.cutting`.

-- Stated in another file: `Request12.run-iff`.

-- "After the heading 45 is met first, with left 0; then schema faults, with all bytes left. The sheet has 4,096 rows."

-- Of the sheet only its room counts for the answer.
pub same-room : (s : List ℕ) (side : ℕ) (bytes sheet : List ℕ) (l : List Call) →
    let a = received_fresh s side bytes sheet l in
    (sheet₂ : List ℕ) → room sheet ≡ room sheet₂ → a.answer ≡ (received_fresh s side bytes sheet₂ l).answer
same-room = receiver-FreshRows.same-room

-- Stated in another file: `Request12.sheet-rows`.
