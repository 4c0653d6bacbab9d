-- `receiver::payload::read_counted` meets its contract: where no figure in question is full, none is.
use mathlib.Core.Path.{◌≡◌, sym, ◌∙◌}
use mathlib.Core.Bool.{false, ◌||◌}
use Rattle.calls.specs.Counting.{full_at}
use Rattle.receiver.specs.Answer.{payload_read}
use Rattle.receiver.proofs.Returns.{tallied-rises}
use Rattle.receiver.proofs.payload.read_counted.Goals as goal

pub returns-then-not-is_full : goal.returns-then-not-is_full
returns-then-not-is_full c =
    let a = c.args in
    let none : (full_at a.tally a.rise.accepted || full_at a.tally a.rise.refused) ≡ false =
    sym (λ i. (c.is_full.ensures i) || (c.is_full-2.ensures i)) ∙ c.if-not-is_full.true in
    c.read.ensures ∙ tallied-rises a.tally a.rise a.sheet.now (payload_read a.schema.now.bytes.now a.due a.payload.now a.sheet.now) none
