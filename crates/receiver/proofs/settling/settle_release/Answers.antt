-- `receiver::settling::settle_release` meets its contract: a plan that ends has the answer of what ended it.
use Rattle.std.proofs.Common.{sym, ap, ◌∙◌}
use Rattle.receiver.specs.Answer.{stopped}
use Rattle.receiver.specs.Release.{release_in}
use Rattle.receiver.specs.Told.{told_by, told_done_by}
use Rattle.receiver.proofs.Returns.{stopped-release, stop-released}
use Rattle.receiver.proofs.settling.settle_release.Goals as goal

pub returns-in-Err : goal.returns-in-Err
returns-in-Err g c =
    let t = c.args.tally in
    let l = c.args.table.slots in
    let h = c.in-Err.halt in
    let verdict = g.H.Verdict.Numbered.number in
    let number = g.H.Judged.Numbered.number in
    let n = g.H.Ends.number in
    let q = g.H.Ends.place in
    let placed = c.placed.ensures in
    (λ i. record { row = t; answer = c.from.ensures verdict i })
    ∙ stopped-release (n h) (q h) t l (told_by verdict c.ended.result) (c.ended.ensures ∙ (λ i. stopped l (placed.is_number i) (placed.is_place i)))
    ∙ sym (stop-released (n h) (q h) t l)
    ∙ ap (λ r. release_in (told_done_by number n q t r) l) (sym c.in-Err.is)
    ∙ c.settle_call.ensures.l_value number n q l
