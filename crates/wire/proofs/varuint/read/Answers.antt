-- `wire::varuint::read` meets its contract: the first of ten groups, and the others behind it.
use mathlib.Core.Path.{sym, ◌∙◌}
use native.Mathlib.Omega.{arith}
use Rattle.wire.proofs.Varuints.{front_cut, first-number, first_more}
use Rattle.wire.proofs.varuint.read.Goals as goal

pub returns-then-s-at : goal.returns-then-s-at
returns-then-s-at c = sym (front_cut c.args.s.now c.args.at c.if-s-at.true)

pub returns-then-b-lt-CONTINUATION : goal.returns-then-b-lt-CONTINUATION
returns-then-b-lt-CONTINUATION c =
    let a = c.args in
    first-number a.s.now a.at c.wide-b.result (omega arith) c.wide-b.ensures.0 (omega arith)

pub returns : goal.returns
returns c =
    let a = c.args in
    let w = c.wide-b in
    c.read_more.ensures ∙ first_more a.s.now a.at w.result (omega arith) w.ensures.0 (omega arith)
