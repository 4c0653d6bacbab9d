-- `good::distinct_by_flags` meets its contract. The loop's invariant: the numbers from place i on differ, and their flags are seen.
use Rattle.std.proofs.Common.{◌≡◌, false, ◌&&◌, ◌-◌, ◌+◌, length, get_or, take, drop, sym, ◌∙◌, subst}
use Rattle.calls.specs.Slots.{contains}
use Rattle.connection.proofs.Distinct.{DistinctFrom, distinct-here, distinct-next, distinct-all}
use Rattle.connection.proofs.good.distinct_by_flags.Goals.{After-contains_where}
use Rattle.connection.proofs.good.distinct_by_flags.Goals as goal

-- what was looked for among the later numbers, by the flags that were seen before
looked : (c : After-contains_where) →
    let l = c.args.ids.now in
    let i = c.loop-i.i in
    c.contains_where.result ≡ (get_or c.loop-i.marks.taken c.flag_of.result false && contains (get_or l (i - 1) 0) (take (length l - (i - 1 + 1)) (drop (i - 1 + 1) l)))
looked c =
    let l = c.args.ids.now in
    let i = c.loop-i.i in
    let was = c.in_ok-taken.ensures.answer.0 in
    c.contains_where.ensures ∙ (λ j. was j && contains (get_or l (i - 1) 0) (take (length l - (i - 1 + 1)) (drop (i - 1 + 1) l)))

pub returns-then-contains_where-clause-value : goal.returns-then-contains_where-clause-value
returns-then-contains_where-clause-value c =
    let l = c.loop-i in
    distinct-here c.args.ids.now _ l.marks.taken l.i l.invariant.0 c.loop-i-test.true c.flag_of.result c.flag_of.ensures.0
    (sym (looked (goal.at.returns-then-contains_where-clause-value c).After-contains_where) ∙ c.if-contains_where.true)

pub loop-i-preserved : goal.loop-i-preserved
loop-i-preserved c =
    let l = c.loop-i in
    let next = distinct-next c.args.ids.now _ l.marks.taken l.i l.invariant.0 c.loop-i-test.true c.flag_of.result c.flag_of.ensures.0
    (sym (looked (goal.at.loop-i-preserved c).After-contains_where) ∙ c.if-contains_where.false) in
    (subst (λ t. DistinctFrom c.args.ids.now c.args.mixing t (l.i - 1)) (sym c.in_ok-taken.ensures.answer.1) next, c.take.ensures.mixing ∙ l.invariant.1)

pub returns-clause-value : goal.returns-clause-value
returns-clause-value c = distinct-all c.args.ids.now _ _ c.loop-i.i c.loop-i.invariant.0 c.loop-i-test.false
