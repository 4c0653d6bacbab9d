-- `receiver::settling::settle_frame` meets its contract: read and raised, whatever the call table.
use Rattle.std.proofs.Common.{ap, Ok}
use Rattle.calls.specs.Told as calls
use Rattle.reader.specs.Told as reader
use Rattle.receiver.specs.Answer.{payload_read}
use Rattle.receiver.specs.Told.{told_done_by}
use Rattle.receiver.proofs.Returns.{reading-room, frame-settled}
use Rattle.receiver.proofs.settling.settle_frame.Goals as goal

pub raise-requires : goal.raise-requires
raise-requires g c =
    let a = c.args in
    reading-room a.tally a.settle.rise a.sheet.now (payload_read a.schema.now.bytes.now c.due_of-due.result a.payload.now a.sheet.now)
    (reader.told c.read_counted-reading.result) c.read_counted-reading.new.sheet c.read_counted-reading.ensures

pub returns : goal.returns
returns g c number none l =
    let a = c.args in
    let s = a.settle in
    frame-settled a.schema.now.bytes.now (calls.told number s.judged) s.rise a.payload.now s.end a.sheet.now a.tally l
    c.due_of-due.result (reader.told c.read_counted-reading.result) c.read_counted-reading.new.sheet (told_done_by number none none a.tally (Ok c.raise.result))
    (c.due_of-due.ensures number) c.read_counted-reading.ensures (ap (λ d. told_done_by number none none a.tally (Ok d)) c.raise.ensures)
