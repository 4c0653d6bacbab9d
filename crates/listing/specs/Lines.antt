-- The text of a listing by its entries, one line each.
use Rattle.std.specs.Prelude.{◌≡◌, cond, List, [], ◌∷◌, ◌++◌, ℕ, ◌+◌, eqb, length, get_or, drop}
use Rattle.frame.specs.Frame.{frame_of}
use Rattle.calls.specs.declared.Call.{Call}
use Rattle.listing.specs.Text.{line_text, stopped_text}
use Rattle.replay.specs.Run.{answer_to, header_in}

-- The entries' bytes, one after the other.
unfoldable pub joined : List (List ℕ) → List ℕ
joined [] = []
joined (e ∷ es) = e ++ joined es

-- A line for each entry, a side byte and its frame, in order, numbered from one on; and the last line. An answer that uses no bytes ends the listing.
unfoldable pub lines_of : (schema : List ℕ) (entry : ℕ) → List (List ℕ) → List Call → List ℕ
lines_of schema entry [] l = stopped_text 0 0
lines_of schema entry (e ∷ es) l =
    let side = get_or e 0 0 in
    let frame = drop 1 e in
    let a = answer_to schema side frame l in
    cond (eqb a.used 0) (stopped_text a.number (length (joined (e ∷ es))))
    (line_text entry side (header_in (frame_of frame)) a ++ lines_of schema (entry + 1) es a.table.slots)

-- The text of a listing of whole entries by good tables: a line for each entry, in order, and the last line. It stops early only where an entry's value
-- has more rows than the sheet (30).
pub data Lines (schema : List ℕ) : (entry : ℕ) → List (List ℕ) → List Call → (text : List ℕ) → Type 0 where
  no-entry : {entry : ℕ} {l : List Call} → Lines schema entry [] l (stopped_text 0 0)
  too_few-rows : {entry side : ℕ} {frame : List ℕ} {es : List (List ℕ)} {l : List Call} → (answer_to schema side frame l).number ≡ 30
      → Lines schema entry ((side ∷ frame) ∷ es) l (stopped_text 30 (length (joined ((side ∷ frame) ∷ es))))
  one_line : {entry side : ℕ} {frame : List ℕ} {es : List (List ℕ)} {l : List Call} {text : List ℕ}
      → Lines schema (entry + 1) es (answer_to schema side frame l).table.slots text
      → Lines schema entry ((side ∷ frame) ∷ es) l (line_text entry side (header_in (frame_of frame)) (answer_to schema side frame l) ++ text)
