-- What a salvage answers and leaves in the lent buffers: 45, 52 for the copy, 53 for the list, in this order; a refusal leaves both as they were.
use Rattle.std.specs.Prelude.{ℕ, ◌+◌, ◌*◌, ◌/◌, Bool, cond, ◌&&◌, List, ◌++◌, leb, ltb, length, drop}
use Rattle.salvage.specs.declared.Salvaged as taken
use Rattle.salvage.specs.Salvaging.{Salvaging}
use Rattle.salvage.specs.Salvaging.{Salvaged, Refused}
use Rattle.salvage.specs.Pieces.{Piece, pieces_of, entries_in, copy_of, span_count, spans_of}

-- An answer, with the copy and the list as they are left.
pub record Outcome : Type 0 where
  pub answer : Salvaging
  pub copy : List ℕ
  pub spans : List ℕ

abbrev pub outcome : Salvaging → (copy spans : List ℕ) → Outcome
outcome r copy spans = record { answer = r; copy = copy; spans = spans }

-- The buffer with the items at its start; past them it is as it was.
abbrev pub filled : (buffer items : List ℕ) → List ℕ
filled buffer items = items ++ drop (length items) buffer

-- The pieces, copied and listed.
unfoldable pub done : List Piece → (copy spans : List ℕ) → Outcome
done ps copy spans =
    outcome (Salvaged (length (entries_in ps)) (length (copy_of ps)) (span_count ps)) (filled copy (copy_of ps)) (filled spans (spans_of 0 ps))

-- The outcome for any record and any two buffers.
unfoldable pub salvage_of : (torn copy spans : List ℕ) → Outcome
salvage_of torn copy spans =
    let ps = pieces_of torn in
    cond (ltb 65536 (length torn)) (outcome (Refused 45) copy spans)
    (cond (ltb (length copy) (length (copy_of ps))) (outcome (Refused 52) copy spans)
    (cond (ltb (length spans) (length (spans_of 0 ps))) (outcome (Refused 53) copy spans)
    (done ps copy spans)))

-- ---- what the answers stand for

-- The number of an answer; entries kept, bytes copied and spans listed are 0 beside a refusal.
abbrev pub salvage_number : Salvaging → ℕ
salvage_number (Salvaged entries bytes spans) = 0
salvage_number (Refused number) = number

abbrev pub salvage_entries : Salvaging → ℕ
salvage_entries (Salvaged entries bytes spans) = entries
salvage_entries (Refused number) = 0

abbrev pub salvage_bytes : Salvaging → ℕ
salvage_bytes (Salvaged entries bytes spans) = bytes
salvage_bytes (Refused number) = 0

abbrev pub salvage_spans : Salvaging → ℕ
salvage_spans (Salvaged entries bytes spans) = spans
salvage_spans (Refused number) = 0

-- ---- for the code: the pieces counted, and the room for them

abbrev pub measure_of : List Piece → taken.Salvaged
measure_of ps = record { entries = length (entries_in ps); bytes = length (copy_of ps); spans = span_count ps }

-- The most cells that are listed of so many bytes: two for each 28, a span of one byte and an entry of 27, where the last entry may be missing.
abbrev pub most_cells : ℕ → ℕ
most_cells torn = (torn + 27) / 28 * 2

-- There is room for any record of so many bytes: a copy as long, and the most cells.
abbrev pub room_for_any : (torn copy spans : ℕ) → Bool
room_for_any torn copy spans = leb torn copy && leb (most_cells torn) spans

-- What a copy and a list of these lengths are refused for, or 0.
abbrev pub room_fault : List Piece → (copy spans : ℕ) → ℕ
room_fault ps copy spans = cond (ltb copy (length (copy_of ps))) 52 (cond (ltb spans (length (spans_of 0 ps))) 53 0)
