-- `Slots::good_count` meets its contract. The loop's invariant: the records passed fit and are good, and ids holds the correlations of the open ones.
use Rattle.std.proofs.Common.{sym, ap, ◌∙◌, arith}
use Rattle.calls.specs.Slots.{distinct}
use Rattle.connection.proofs.Scan.{gathered-bad, gathered-open, gathered-free, gathered-end, gathered-same}
use Rattle.connection.proofs.slots.Slots.good_count.Goals.{then-is_open, else-is_open}
use Rattle.connection.proofs.slots.Slots.good_count.Goals as goal

pub returns-then-not-is_good_at : goal.returns-then-not-is_good_at
returns-then-not-is_good_at g c =
    gathered-bad _ _ _ c.loop-i.ids.items c.loop-i.i c.loop-i.invariant (omega (arith, c.slot_count-i-end.ensures)) (omega (arith, c.slot_count-i-end.ensures)) (sym c.is_good_at.ensures ∙ c.if-not-is_good_at.true)

pub loop-i-preserved : goal.loop-i-preserved
loop-i-preserved g c =
    let l = c.loop-i in
    let many = c.slot_count-i-end.ensures in
    let good = sym c.is_good_at.ensures ∙ c.if-not-is_good_at.false in
    (elim c.if-is_open.branch [
      | then-is_open w ↦ rw (w.ids-is, w.push.ensures.items, w.correlation.ensures) (gathered-open _ _ _ l.ids.items l.i l.invariant (omega (arith, many)) (omega (arith, many)) good (sym c.is_open.ensures ∙ w.if-is_open.true))
      | else-is_open w ↦ rw w.ids-is (gathered-free _ _ _ l.ids.items l.i l.invariant (omega (arith, many)) (omega (arith, many)) good (sym c.is_open.ensures ∙ w.if-is_open.false))
    ])

pub returns-then-distinct : goal.returns-then-distinct
returns-then-distinct g c =
    let l = c.loop-i in
    let many = c.slot_count-i-end.ensures in
    let differ = ap distinct (sym c.deref.ensures.0) ∙ sym c.distinct.ensures ∙ c.if-distinct.true in
    rw c.len.ensures.value (gathered-end _ _ _ l.ids.items l.i l.invariant (omega (arith, many)) (omega (arith, many, c.loop-i-test.false)) differ)

pub returns-else-distinct : goal.returns-else-distinct
returns-else-distinct g c =
    let l = c.loop-i in
    let many = c.slot_count-i-end.ensures in
    let differ = ap distinct (sym c.deref.ensures.0) ∙ sym c.distinct.ensures ∙ c.if-distinct.false in
    gathered-same _ _ _ l.ids.items l.i l.invariant (omega (arith, many)) (omega (arith, many, c.loop-i-test.false)) differ
