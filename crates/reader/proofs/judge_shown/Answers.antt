-- `reader::judge_shown` meets its contract: its walk is the first of `read_shown`, over no cells.
use mathlib.Core.Path.{refl, ap}
use Rattle.flat.specs.Told.{told_walk}
use Rattle.reader.specs.Entry.{number_in}
use Rattle.reader.proofs.Entries.{entry-fits, judged-as, judged-refused, judged-struct, judged-small, judged-few, judged-walked}
use Rattle.reader.proofs.judge_shown.Goals as goal

pub returns-in-Ok : goal.returns-in-Ok
returns-in-Ok c =
    let a = c.args in
    let judged = judged-as (ap told_walk c.in-Ok.is) c.judge.ensures in
    entry-fits a.shown.now a.schema.now.bytes.now a.ty a.payload.now a.sheet.now _ refl (judged-struct judged) (judged-small judged) _ _ _ _ _ (judged-walked judged)
    (judged-few judged)

pub returns-in-Err : goal.returns-in-Err
returns-in-Err c =
    let a = c.args in
    let judged = judged-as (ap told_walk c.in-Err.is) c.judge.ensures in
    ap number_in (judged-refused judged a.sheet.now refl)
