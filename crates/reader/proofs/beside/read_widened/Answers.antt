-- `reader::beside::read_widened` meets its contract.
use mathlib.Core.Path.{◌∙◌}
use Rattle.reader.proofs.Besides.{beside-type, beside-shown}
use Rattle.reader.proofs.beside.read_widened.Goals as goal

pub returns-then-type_row : goal.returns-then-type_row
returns-then-type_row c =
    let a = c.args in
    let t = c.type_row in
    rw c.at.ensures
    (beside-type a.ours.now.bytes.now a.theirs.now.bytes.now a.ours.now.good a.theirs.now.good a.ty a.payload.now a.sheet.now t.result t.ensures c.if-type_row.true)

pub returns : goal.returns
returns c =
    let a = c.args in
    let t = c.type_row in
    c.read_shown.ensures
    ∙ beside-shown a.ours.now.bytes.now a.theirs.now.bytes.now a.ours.now.good a.theirs.now.good a.ty a.payload.now a.sheet.now t.result t.ensures
    c.if-type_row.false c.requires _ c.known_fields-shown.ensures
