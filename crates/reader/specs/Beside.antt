-- What the entry that reads with the writer's table beside ours answers.
use Rattle.std.specs.Prelude.{◌≡◌, cond, List, ℕ, get_or}
use Rattle.schema.specs.File.{table_of}
use Rattle.schema.specs.Check.{checked}
use Rattle.schema.specs.Extend.{widened}
use Rattle.value.specs.Read.{root_of, reading_as}
use Rattle.value.specs.Beside.{shown_rows, read_beside}
use Rattle.value.specs.Narrow.{fields_in}
use Rattle.walks.specs.Shape.{shape_in}
use Rattle.reader.specs.Reading.{Refused}
use Rattle.reader.specs.Entry.{Outcome, outcome, outcome_of, after_table, room}
use Rattle.flat.specs.Walk.{first_fields}

-- The numbers of fields that ours has of each struct; 0 for any other type.
abbrev pub Knows : (shown ours : List ℕ) → Type 0
Knows shown ours = (t : ℕ) → get_or shown t 0 ≡ fields_in (shape_in ours t)

-- A payload read by a good table, of which each struct's first fields are shown, as many as are known of its type.
unfoldable pub shown_outcome : (shown schema : List ℕ) (ty : ℕ) (payload sheet : List ℕ) → Outcome
shown_outcome shown schema ty payload sheet =
    outcome_of sheet (reading_as (shown_rows (first_fields shown (shape_in schema)) ty) (shape_in schema) ty (room sheet) (root_of (shape_in schema) ty payload))

-- A payload read by their good table and shown by ours, which theirs extends but for the bitmaps' bytes.
unfoldable pub beside_payload : (ours theirs : List ℕ) (ty : ℕ) (payload sheet : List ℕ) → Outcome
beside_payload ours theirs ty payload sheet = outcome_of sheet (read_beside (table_of ours) (table_of theirs) ty payload (room sheet))

-- By any two tables: 40 to 44 for ours, then for theirs; 47 where theirs is no such extension; then the reading.
unfoldable pub beside_outcome : (ours theirs : List ℕ) (ty : ℕ) (payload sheet : List ℕ) → Outcome
beside_outcome ours theirs ty payload sheet =
    after_table (checked ours) sheet
    (after_table (checked theirs) sheet
    (cond (widened (table_of ours) (table_of theirs)) (beside_payload ours theirs ty payload sheet) (outcome (Refused 47 0) sheet)))
