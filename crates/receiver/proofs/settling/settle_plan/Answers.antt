-- `receiver::settling::settle_plan` meets its contract: what is left to do picks the case.
use Rattle.std.proofs.Common.{sym, ap, ◌∙◌, ℕ, ◌-◌, List, take, drop}
use Rattle.calls.specs.Told as calls
use Rattle.receiver.specs.Receive.{settled, frame_settled}
use Rattle.receiver.specs.Told.{told_next_by}
use Rattle.receiver.proofs.Returns.{settled-frame, stop-settled}
use Rattle.receiver.proofs.settling.settle_plan.Goals as goal

pub returns-in-Ok-clause-row_after : goal.returns-in-Ok-clause-row_after
returns-in-Ok-clause-row_after g c number n q l =
    let a = c.args in
    let s = c.in-Ok.settle in
    settled-frame a.schema.now a.bytes.now a.sheet.now l a.tally (told_next_by number n q a.plan)
    (calls.told number s.judged) s.rise s.place s.end _ (ap (told_next_by number n q) c.in-Ok.is) (c.settle_frame.ensures number (λ x. absurd x) l
    ∙ ap (λ (b : List ℕ). frame_settled b (calls.told number s.judged) s.rise (take (s.end - s.place) (drop s.place a.bytes.now)) s.end a.sheet.now a.tally l)
    (ap (λ r. r.now) c.of_good.ensures))

pub returns-in-Err-clause-row_after : goal.returns-in-Err-clause-row_after
returns-in-Err-clause-row_after g c number n q l =
    let a = c.args in
    stop-settled (n c.in-Err.halt) (q c.in-Err.halt) a.tally a.schema.now a.bytes.now a.sheet.now l
    ∙ ap (λ p. settled a.schema.now a.bytes.now a.sheet.now l a.tally (told_next_by number n q p)) (sym c.in-Err.is)
