-- `exports::planning::plan_good` meets its contract: the front of the bytes picks the case, and the cells give the slot.
use Rattle.std.proofs.Common.{ap, ◌∙◌, Bool, Ok}
use Rattle.std.proofs.lemmas.Result.{err_from_is_err_and}
use Rattle.schema.specs.File.{table_of}
use Rattle.calls.specs.declared.OwnSlot.{OwnSlot}
use Rattle.calls.specs.Told.{number_of_stop}
use Rattle.receiver.specs.Planning.{front_of, slot_plan}
use Rattle.receiver.specs.Told.{told_front, told_plan}
use Rattle.receiver.proofs.Returns.{good-stop, good-whole}
use Rattle.receiver.proofs.Halts.{stop-planned}
use Rattle.cells.specs.Records.{calls_of}
use Rattle.exports.proofs.Plans.{good_cells}
use Rattle.exports.proofs.planning.plan_good.Goals as goal

pub returns-in_err-whole : goal.returns-in_err-whole
returns-in_err-whole c =
    let a = c.args in
    let s = a.schema.now.bytes.now in
    let T = table_of s in
    let cells = a.cells.now in
    let stop = c.in_err-whole.field-0.0 in
    let is = c.front.ensures ∙ ap (λ (b : Bool). front_of b a.rows T a.side a.bytes.now) c.are_good-good.ensures.value in
    let (h, e, k) = err_from_is_err_and c.from_residual.result c.from_residual.ensures.1 in
    let value = good-stop (good_cells cells s a.rows) a.rows T a.side a.bytes.now (calls_of cells) (told_front c.front.result) is (told_plan c.from_residual.result)
    (number_of_stop stop) (ap told_front c.in_err-whole.was) (stop-planned c.from_residual.result h stop e k) in
    record { value = value; counts_open = c.are_good-good.ensures.counts_open }

pub returns : goal.returns
returns c =
    let a = c.args in
    let s = a.schema.now.bytes.now in
    let T = table_of s in
    let cells = a.cells.now in
    let w = c.in_ok-whole.whole in
    let is = c.front.ensures ∙ ap (λ (b : Bool). front_of b a.rows T a.side a.bytes.now) c.are_good-good.ensures.value in
    let e = c.plan_frame.ensures ∙ ap (λ (x : OwnSlot). slot_plan T w.frame x w.place w.end) c.own_slot-slot.ensures in
    let value = good-whole (good_cells cells s a.rows) a.rows T a.side a.bytes.now (calls_of cells) (told_front c.front.result) is (told_plan (Ok c.plan_frame.result))
    w.frame w.place w.end (ap told_front c.in_ok-whole.was) e in
    record { value = value; counts_open = c.are_good-good.ensures.counts_open }
