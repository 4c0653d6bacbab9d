-- `receiver::settling::settle_call` meets its contract: what is left to do picks the case.
use Rattle.std.proofs.Common.{sym, ap, ◌∙◌, Ok}
use Rattle.calls.specs.Told as calls
use Rattle.reader.specs.Told as reader
use Rattle.receiver.specs.Release.{release_settled}
use Rattle.receiver.specs.Told.{told_done_by, told_next_by}
use Rattle.receiver.proofs.Returns.{release-room, release-told, stop-released}
use Rattle.receiver.proofs.settling.settle_call.Goals as goal

pub raise-requires : goal.raise-requires
raise-requires g c = release-room c.args.tally c.in-Ok.settle.rise (reader.told c.read_nothing-reading.result) c.read_nothing-reading.ensures

pub returns-in-Ok-clause-l_value : goal.returns-in-Ok-clause-l_value
returns-in-Ok-clause-l_value g c number n q l =
    let s = c.in-Ok.settle in
    let t = c.args.tally in
    release-told t (calls.told number s.judged) s.rise s.place s.end (reader.told c.read_nothing-reading.result) (told_done_by number n q t (Ok c.raise.result))
    c.read_nothing-reading.ensures (ap (λ d. told_done_by number n q t (Ok d)) c.raise.ensures) l
    ∙ ap (λ p. release_settled l t (told_next_by number n q p)) (sym c.in-Ok.is)

pub returns-in-Err-clause-l_value : goal.returns-in-Err-clause-l_value
returns-in-Err-clause-l_value g c number n q l =
    let t = c.args.tally in
    stop-released (n c.in-Err.halt) (q c.in-Err.halt) t l ∙ ap (λ p. release_settled l t (told_next_by number n q p)) (sym c.in-Err.is)
