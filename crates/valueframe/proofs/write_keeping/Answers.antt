-- `valueframe::write_keeping` meets its contract.
use mathlib.Core.Path.{sym, ap, ◌∙◌}
use Prim.Native.Nat.{◌-◌}
use native.Mathlib.Omega.{arith}
use Rattle.writer.specs.Writing as code
use Rattle.writer.specs.Writing.{Written}
use Rattle.writer.specs.Told.{told}
use Rattle.writer.specs.Entry.{payload_by}
use Rattle.writer.proofs.Steps.{handed}
use Rattle.valueframe.specs.Part.{belongs}
use Rattle.valueframe.proofs.Entries.{value-limit, part_length}
use Rattle.valueframe.proofs.Kept.{keep-refused, keep-full, keep-elsewhere, keep-there}
use Rattle.valueframe.proofs.write_keeping.Goals as goal

pub overflow_add-end : goal.overflow_add-end
overflow_add-end c =
    let args = c.args in
    let size = sym c.put_first-answer.ensures.value ∙ ap told c.in_ok-length.was in
    omega (arith, c.payload_place-place.ensures.1, value-limit args.schema.now.bytes.now args.ty args.sheet.now args.source.now size)

pub returns-then-out-end : goal.returns-then-out-end
returns-then-out-end c =
    let args = c.args in
    let part = c.part_for-start in
    let w = payload_by args.schema.now.bytes.now args.ty args.sheet.now args.source.now in
    let size = sym c.put_first-answer.ensures.value ∙ ap told c.in_ok-length.was in
    rw c.at.ensures
    (keep-full w part.result.start part.result.end args.out.now _
    part.ensures.0 part.ensures.1 c.put_first-answer.ensures.part_after args.header c.put_first-answer.auto.part _ _ size c.payload_place-place.ensures.0 c.if-out-end.true)

pub returns-in_err-length : goal.returns-in_err-length
returns-in_err-length c =
    let args = c.args in
    let part = c.part_for-start in
    let w = payload_by args.schema.now.bytes.now args.ty args.sheet.now args.source.now in
    rw (handed c.from_residual.ensures.1)
    (keep-refused w part.result.start part.result.end args.out.now _
    part.ensures.0 part.ensures.1 c.put_first-answer.ensures.part_after args.header c.put_first-answer.auto.part _ _ (sym c.put_first-answer.ensures.value ∙ ap told c.in_err-length.was))

pub returns-then-not-is_there : goal.returns-then-not-is_there
returns-then-not-is_there c =
    let args = c.args in
    let part = c.part_for-start in
    let w = payload_by args.schema.now.bytes.now args.ty args.sheet.now args.source.now in
    let size = sym c.put_first-answer.ensures.value ∙ ap told c.in_ok-length.was in
    let other = ap (λ (a : code.Writing). belongs a part.result.start (part.result.end - part.result.start)) (sym c.put_first-answer.ensures.value)
    ∙ sym c.is_there.ensures ∙ c.if-not-is_there.true in
    keep-elsewhere w part.result.start part.result.end args.out.now _
    part.ensures.0 part.ensures.1 c.put_first-answer.ensures.part_after args.header c.put_first-answer.auto.part
    _ _ size c.payload_place-place.ensures.0 c.if-out-end.false _ c.write_front.ensures other _ c.put_payload.ensures

pub returns-else-not-is_there : goal.returns-else-not-is_there
returns-else-not-is_there c =
    let args = c.args in
    let part = c.part_for-start in
    let w = payload_by args.schema.now.bytes.now args.ty args.sheet.now args.source.now in
    let size = sym c.put_first-answer.ensures.value ∙ ap told c.in_ok-length.was in
    let there = ap (λ (a : code.Writing). belongs a part.result.start (part.result.end - part.result.start)) (sym c.put_first-answer.ensures.value) ∙ sym c.is_there.ensures ∙ c.if-not-is_there.false in
    keep-there w part.result.start part.result.end args.out.now _
    part.ensures.0 part.ensures.1 c.put_first-answer.ensures.part_after args.header c.put_first-answer.auto.part
    _ _ size c.payload_place-place.ensures.0 c.if-out-end.false _ c.write_front.ensures there
