-- Paper 01, what each entry's statement owes: its sentences, and below each the theorems that state it, cited from the crate that proves them. What a
-- definition or a contract alone states is in docs/PROMISES.md.
use mathlib.Core.List.{List}
use Prim.Native.Nat.{ℕ}
use mathlib.Core.Path.{◌≡◌}
use lib.ListN.{take, length, drop}
use mathlib.Core.Bool.{◌&&◌}
use Rattle.utf8.specs.declared.Range.{Range}
use Rattle.utf8.specs.Utf8.{run, matches, utf8}
use Rattle.calls.specs.declared.Tally.{Tally}
use Rattle.calls.specs.declared.Call.{Call}
use Rattle.calls.specs.Slots.{count_open}
use Rattle.receiver.specs.Receive.{received}
use Rattle.utf8.proofs.Utf8s as utf8-Utf8s
use Rattle.receiver.proofs.Answers as receiver-Answers

-- Fraud: "a reader refusing all (demand 2 accepts every rightful payload);"

-- Stated in another file: `Demand2.shown-iff-spelled`.

-- Fraud: "one fixed answer, or a writer that writes nothing (demand 2's read-back);"

-- Stated in another file: `Demand2.read_back`.

-- Fraud: "a call step that judges INVOKE and nods at the rest (the order rules, frame by frame);"

-- Stated in another file: `Demand2.by_order`.

-- Fraud: "invented rows, bytes used or open calls (each is defined by the value, the frame, the table)."

-- The calls open in an answer to a frame are those of the next table.
pub open_counted : (s : List ℕ) (side : ℕ) (bytes sheet : List ℕ) (ts : List Tally) (l : List Call)
    → (received s side bytes sheet ts l).answer.«open» ≡ count_open (received s side bytes sheet ts l).answer.table.slots
open_counted = receiver-Answers.open_counted

-- Stated in other files: `Demand2.shown-iff-spelled`, `Paper01Sheet.told-once`, `Paper01Sheet.value-rows_delimit`, `Paper01Numbers.used-by-number`.

-- "P1 to P10 are proved as one table of cases under one statement about the definitions;"

-- Computed: `value/Examples.p1-to_p10`.

-- "UTF-8 and integer widths share one fact over the length."

-- Bytes that follow a lead, for any number of bytes due: they match their ranges, and the rest is UTF-8.
pub run-due : (gs : List Range) (s : List ℕ) → run gs s ≡ matches gs (take (length gs) s) && utf8 (drop (length gs) s)
run-due = utf8-Utf8s.run-due

-- Stated in other files: `Request07.utf8-encoded`, `Paper01Values.little-bytes`, `Paper01Sheet.content-once`.
