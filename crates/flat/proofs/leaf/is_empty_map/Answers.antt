-- `flat::leaf::is_empty_map` meets its contract: the byte 0 is the count 0.
use mathlib.Core.Path.{sym, ◌∙◌}
use Prim.Native.Nat.{◌<◌}
use native.Mathlib.Omega.{arith}
use borrow.Author.Tests.{eqb-true}
use lib.ListN.{length}
use Rattle.wire.proofs.Varuints.{first-number}
use Rattle.flat.proofs.Leaves.{count-is}
use Rattle.flat.proofs.leaf.is_empty_map.Goals as goal

pub returns : goal.returns
returns c e =
    let args = c.args in
    let none = eqb-true _ 0 e in
    let inside : args.at < length args.p.now = omega (arith, c.if-p-at.false) in
    let is = first-number args.p.now args.at 0 inside (sym none ∙ c.byte_at.ensures) (omega arith) in
    (c.if-kind.false, count-is args.p.now args.at 2 _ _ (sym is) (omega arith))
