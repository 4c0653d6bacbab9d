-- `exports::settling::open_after` meets its contract: the count before, with the new record's mark and without the old one's.
use mathlib.Core.Path.{◌≡◌}
use Prim.Native.Nat.{◌+◌}
use native.Mathlib.Omega.{arith}
use lib.ListN.{set}
use Rattle.calls.specs.Slots.{count_open}
use Rattle.cells.specs.Records.{calls_of}
use Rattle.cells.proofs.Slots.{open_set, open_same}
use Rattle.exports.proofs.settling.open_after.Goals.{After-one-then-i-lt-CALLS}
use Rattle.exports.proofs.settling.open_after.Goals as goal

-- the sum of the code, and of the definition
sum : (c : After-one-then-i-lt-CALLS) → let a = c.args in
    a.n + c.one.result ≡ count_open (set (calls_of a.cells.now) a.change.slot a.change.call) + c.one-then-i-lt-CALLS.result
sum c =
    let a = c.args in
    open_set a.cells.now a.change.slot a.n c.one.result c.one-then-i-lt-CALLS.result a.change.call c.slot_at-old.result
    c.if-i-lt-CALLS.true c.requires.0 c.one.ensures.0 c.slot_at-old.ensures c.one-then-i-lt-CALLS.ensures.0

pub returns-then-i-lt-CALLS : goal.returns-then-i-lt-CALLS
returns-then-i-lt-CALLS c = omega (arith, sum c)

pub returns : goal.returns
returns c =
    let a = c.args in
    open_same a.cells.now a.change.slot a.n a.change.call c.if-i-lt-CALLS.false c.requires.0

pub overflow_add-result : goal.overflow_add-result
overflow_add-result c = omega (arith, c.requires.1, c.one.ensures.1)

pub overflow_sub-result : goal.overflow_sub-result
overflow_sub-result c = omega (arith, sum c)
