-- `table::checking::bad_by_flags`: the methods before are good, and their flags are set.
use Rattle.std.proofs.Common.{◌≡◌, ℕ, ◌<◌, true}
use Rattle.schema.specs.File.{table_of}
use Rattle.schema.specs.Check.{good_method}
use Rattle.table.proofs.Flags.{MethodsFlagged}
use Rattle.table.proofs.checking.bad_by_flags.Given as goal

abbrev pub invariant-loop-i : goal.invariant-loop-i
invariant-loop-i l =
    let T = table_of l.file.bytes.now in
    ((k : ℕ) → k < l.i → good_method T k ≡ true) × MethodsFlagged T l.mixing l.marks.taken l.i × (l.marks.mixing ≡ l.mixing)
