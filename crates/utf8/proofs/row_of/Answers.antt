-- `utf8::row_of` meets its contract: the rows passed do not have the byte, and `row` is the one at k.
use mathlib.Core.Path.{◌≡◌, refl, sym, ◌∙◌}
use mathlib.Core.Bool.{false}
use native.Mathlib.Omega.{arith}
use Rattle.utf8.specs.Utf8.{next, rows}
use Rattle.utf8.proofs.Utf8s.{lead-row, row-found, row_last, row-mem}
use Rattle.utf8.proofs.row_of.Goals as goal

pub loop-k-init : goal.loop-k-init
unfolding rows next
loop-k-init c = (refl, refl)

pub returns-then-within : goal.returns-then-within
returns-then-within c =
    let l = c.loop-k in
    let e = l.invariant in
    (row-mem l.k l.row (omega arith) e.0, row-found c.args.b l.k l.row (omega arith) e.0 e.1 (sym c.within.ensures ∙ c.if-within.true))

pub loop-k-preserved : goal.loop-k-preserved
loop-k-preserved c =
    let l = c.loop-k in
    let e = l.invariant in
    (c.row_at-row.ensures, e.1 ∙ lead-row c.args.b l.k l.row false (omega arith) e.0 (sym c.within.ensures ∙ c.if-within.false))

pub returns : goal.returns
returns c =
    let l = c.loop-k in
    let e = l.invariant in
    let last : l.k ≡ 8 = omega arith in
    (row-mem l.k l.row (omega arith) e.0, row_last c.args.b l.k l.row last e.0 e.1)
