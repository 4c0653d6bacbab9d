-- `index::print::put_rows` meets its contract: what is left of the rows gives the same end as all of them.
use native.Mathlib.Omega.{arith}
use borrow.Author.Tests.{eq-eqb, ne_eqb}
use Rattle.text.specs.Text.{shown}
use Rattle.index.proofs.Prints.{rest_first, rest_end, rest_other, rest_line}
use Rattle.index.proofs.print.put_rows.Goals.{else-same, then-same}
use Rattle.index.proofs.print.put_rows.Goals as goal

pub loop-i-init : goal.loop-i-init
loop-i-init c = (c.requires.2, rest_first c.args.index.now c.args.n c.args.correlation (shown c.args.page.now))

pub loop-i-preserved : goal.loop-i-preserved
loop-i-preserved c =
    let l = c.loop-i in
    let a = c.args in
    let s = a.index.now in
    let number = c.number in
    (elim c.if-same.branch [
      | then-same w ↦ rw w.page-is (
        omega (arith, l.invariant.0, w.put_row.ensures.upper_bound),
        rw w.put_row.ensures.added (rest_line s a.n a.correlation _ (shown l.page) l.i l.invariant.1 c.loop-i-test.true number.result number.ensures (eq-eqb _ _ w.if-same.true)),
      )
      | else-same w ↦ rw w.page-is (
        omega (arith, l.invariant.0),
        rest_other s a.n a.correlation _ (shown l.page) l.i l.invariant.1 c.loop-i-test.true number.result number.ensures (ne_eqb _ _ w.if-same.false),
      )
    ])

pub returns : goal.returns
returns c =
    let l = c.loop-i in
    let a = c.args in
    record { added = rest_end a.index.now a.n a.correlation _ (shown l.page) l.i l.invariant.1 c.loop-i-test.false; upper_bound = omega (arith, l.invariant.0, c.requires.1) }
