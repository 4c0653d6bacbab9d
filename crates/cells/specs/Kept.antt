-- A record's three numbers, of a call and in cells; and cells that hold one table.
use Rattle.std.specs.Prelude.{◌≡◌, List, ℕ, ◌+◌, ◌*◌, get_or}
use Rattle.calls.specs.declared.Call.{Call}
use Rattle.cells.specs.declared.records.Record.{Record}
use Rattle.cells.specs.Records.{marks_of, calls_of, plain_from}

abbrev pub kept : Call → Record
kept c = record { correlation = c.correlation; method = c.method; marks = marks_of c }

abbrev pub record_in : List ℕ → ℕ → Record
record_in cells i = record { correlation = get_or cells (3 * i) 0; method = get_or cells (3 * i + 1) 0; marks = get_or cells (3 * i + 2) 0 }

abbrev pub SameCalls : (cells others : List ℕ) → Type 0
SameCalls cells others = (calls_of cells ≡ calls_of others) × (plain_from cells 0 128 ≡ plain_from others 0 128)
