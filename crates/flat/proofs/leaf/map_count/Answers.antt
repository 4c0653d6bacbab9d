-- `flat::leaf::map_count` meets its contract: a single byte up to 64 is a count, and any other is read as counts are.
use mathlib.Core.Path.{sym}
use Prim.Native.Nat.{◌+◌, ◌-◌, ◌*◌, ◌≤◌}
use native.Mathlib.Omega.{arith}
use lib.ListN.{length}
use Rattle.wire.proofs.Varuints.{first-number}
use Rattle.flat.proofs.Leaves.{count-is}
use Rattle.flat.proofs.leaf.map_count.Goals as goal

pub returns-then-n-p : goal.returns-then-n-p
returns-then-n-p c =
    let args = c.args in
    let byte = c.byte_at-n in
    let is = first-number args.p.now args.at byte.result c.if-at-p.true byte.ensures (omega (arith, c.if-n-le-PAIRS.true)) in
    let room : 2 * byte.result ≤ length args.p.now - (args.at + 1) = omega (arith, c.if-n-p.true) in
    record { told = count-is args.p.now args.at 2 _ _ (sym is) room; place = tt }
