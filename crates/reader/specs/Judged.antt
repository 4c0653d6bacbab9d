-- What the first walk answers.
use Rattle.std.specs.Prelude.{◌≡◌, List, ℕ, ◌≤◌, length}
use Rattle.schema.specs.Table.{row_at}
use Rattle.schema.specs.File.{table_of}
use Rattle.walks.specs.Shape.{fields_from}
use Rattle.flat.specs.Walk.{Walk, Past, Refused as Stop, Rooted}
use Rattle.reader.specs.Reading.{Refused}
use Rattle.reader.specs.Entry.{outcome, room}
use Rattle.reader.specs.Beside.{shown_outcome}

-- A refusal of the entry, whatever the sheet that has so many rows; or what was read of the root, whose rows it has, with the cells that the walk leaves.
pub data Judged (shown s : List ℕ) (ty : ℕ) (p : List ℕ) (rows : ℕ) (cells : List ℕ) : Walk → (after : List ℕ) → Type 0 where
  stops : {n q : ℕ} {after : List ℕ} → ((sheet : List ℕ) → room sheet ≡ rows → outcome (Refused n q) sheet ≡ shown_outcome shown s ty p sheet)
      → Judged shown s ty p rows cells (Stop n q) after
  goes : {due next row : ℕ} {after : List ℕ} → (row_at (table_of s) ty).kind ≡ 16 → length p ≤ 16384 → row ≤ rows
      → Rooted shown s p ty (fields_from (table_of s) (row_at (table_of s) ty).a (row_at (table_of s) ty).b) cells (Past due next row) after
      → Judged shown s ty p rows cells (Past due next row) after
