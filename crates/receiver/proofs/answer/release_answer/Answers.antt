-- `receiver::answer::release_answer` meets its contract: a release's answer is a frame's without what the payload and the bytes say.
use Rattle.std.proofs.Common.{ap, ◌∙◌}
use Rattle.receiver.specs.SettledRelease.{SettledRelease}
use Rattle.receiver.specs.Told.{told_by, told_placed}
use Rattle.receiver.proofs.Returns.{answer-released}
use Rattle.receiver.proofs.answer.release_answer.Goals as goal

pub returns : goal.returns
returns g c =
    let number = g.V.Numbered.number in
    c.from.ensures number
    ∙ ap (λ (x : SettledRelease). x.answer)
    (answer-released (told_placed number c.args.done) c.args.table.slots (told_by number c.answer.result) c.answer.ensures)
