-- `receiver::settling::settle` meets its contract: a plan that ends has the answer of what ended it.
use Rattle.std.proofs.Common.{sym, ap, ◌∙◌}
use Rattle.receiver.specs.Received.{Received}
use Rattle.receiver.specs.Answer.{row_effect, answer_in, stopped}
use Rattle.receiver.specs.Told.{told_done_by}
use Rattle.receiver.proofs.Returns.{stop-answer}
use Rattle.receiver.proofs.settling.settle.Goals as goal

pub returns-in-Err : goal.returns-in-Err
returns-in-Err g c =
    let t = c.args.tally in
    let l = c.args.table.slots in
    let h = c.in-Err.halt in
    let sheet = c.settle_plan.new.sheet in
    let number = g.H.Judged.Numbered.number in
    let n = g.H.Ends.number in
    let q = g.H.Ends.place in
    let placed = c.placed.ensures in
    ap (λ (x : Received). row_effect x sheet t)
    (c.ended.ensures ∙ (λ i. stopped l (placed.is_number i) (placed.is_place i)) ∙ sym (stop-answer l (n h) (q h)))
    ∙ ap (λ r. row_effect (answer_in (told_done_by number n q t r) l) sheet (told_done_by number n q t r).row) (sym c.in-Err.is)
    ∙ c.settle_plan.ensures.row_after number n q l
