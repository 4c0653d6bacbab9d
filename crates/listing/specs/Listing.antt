-- The listing of a record (entries: the byte C or S, then a frame) by a schema file, in this order (docs/FORMAT.md): the heading; 45; the schema's faults; the entries of
-- the record's run from the fresh call table.
use Rattle.std.specs.Prelude.{Bool, cond, ◌||◌, List, [], ◌∷◌, ◌++◌, ℕ, ◌+◌, ltb, length}
use Rattle.schema.specs.Checked.{Checked}
use Rattle.schema.specs.Checked.{Good, Refused as Faulty}
use Rattle.schema.specs.Check.{checked}
use Rattle.calls.specs.declared.Call.{Call}
use Rattle.replay.specs.Run.{Entry, Run, run_from, run_of}
use Rattle.listing.specs.Text.{heading, line_text, stopped_text}

-- A line for each entry of a run, in order, numbered from one on.
unfoldable pub run_lines : (entry : ℕ) → List Entry → List ℕ
run_lines entry [] = []
run_lines entry (e ∷ es) = line_text entry e.side e.header e.answer ++ run_lines (entry + 1) es

-- The lines of a run's entries, and the last line: what stopped the run and the bytes left.
unfoldable pub run_text : (entry : ℕ) → Run → List ℕ
run_text entry r = run_lines entry r.entries ++ stopped_text r.number r.left

-- The entries of what is left of a record, numbered from one on, and the last line. No place is printed, so that the run may start at any.
unfoldable pub entries_text : (schema : List ℕ) → (most entry : ℕ) → (left : List ℕ) → List Call → List ℕ
entries_text schema most entry left l = run_text entry (run_from schema most 0 left l)

-- By the verdict on the schema file: a fault leaves all bytes.
abbrev pub by_table : Checked → (schema entries : List ℕ) → List ℕ
by_table Good schema entries = run_text 1 (run_of schema entries)
by_table (Faulty number place) schema entries = stopped_text number (length entries)

-- A file has more than 65,536 bytes.
abbrev pub too_long : (schema entries : List ℕ) → Bool
too_long schema entries = ltb 65536 (length schema) || ltb 65536 (length entries)

-- The whole text.
unfoldable pub listing : (schema entries : List ℕ) → List ℕ
listing schema entries = heading ++ cond (too_long schema entries) (stopped_text 45 0) (by_table (checked schema) schema entries)
