-- What the code's answers tell, by the numbers of the refusals.
use Rattle.std.specs.Prelude.{Result, Ok, Err, Option, Some, None, ℕ}
use Rattle.constants.specs.declared.refusal.Refusal.{Refusal}
use Rattle.constants.specs.declared.refusal.Refused as error
use Rattle.constants.specs.Number.{number_of}
use Rattle.index.specs.declared.Printed as printed
use Rattle.index.specs.Indexing as make
use Rattle.index.specs.Finding as find

abbrev pub told : Result ℕ error.Refused → make.Indexing
told (Ok n) = make.Made n
told (Err e) = make.Refused (number_of e.refusal) e.place

-- The number that follows `stopped`: 0 for none.
abbrev pub stopped_of : Option Refusal → ℕ
stopped_of None = 0
stopped_of (Some r) = number_of r

abbrev pub told_find : Result printed.Printed Refusal → find.Finding
told_find (Ok p) = find.Printed (stopped_of p.stopped) p.length
told_find (Err r) = find.Refused (number_of r)

-- What is judged of an index: 0 and how many rows are looked at, or a refusal and no rows.
abbrev pub judged_number : Result ℕ Refusal → ℕ
judged_number (Ok n) = 0
judged_number (Err r) = number_of r

abbrev pub judged_rows : Result ℕ Refusal → ℕ
judged_rows (Ok n) = n
judged_rows (Err r) = 0
