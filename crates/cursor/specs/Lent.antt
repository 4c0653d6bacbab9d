-- A lent reader: what stands at its position, and the reader after a step.
use Rattle.std.specs.Prelude.{List, ℕ}
use Rattle.parse.specs.Reader.{Cursor, cursor_at}
use Rattle.cursor.specs.declared.Reader.{Reader}

-- What f says of the payload at the position.
abbrev pub on : {S : Type 0} → (List ℕ → ℕ → S) → Reader → S
on f r = f r.payload.now r.at

-- The cursor that it stands for.
abbrev pub standing : Reader → Cursor
standing r = on cursor_at r

-- The same payload at another position.
abbrev pub moved_to : Reader → ℕ → Reader
moved_to r next = record { payload = r.payload; at = next }
