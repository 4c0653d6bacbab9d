-- `valueframe::put_first` meets its contract.
use mathlib.Core.Path.{sym, ap, ◌∙◌}
use lib.ListN.{length}
use Rattle.writer.specs.Writing as code
use Rattle.writer.specs.Entry.{payload_by}
use Rattle.valueframe.specs.Part.{belongs}
use Rattle.valueframe.proofs.Kept.{put_back, part-other, part-there}
use Rattle.valueframe.proofs.put_first.Goals as goal

pub returns-then-not-is_there : goal.returns-then-not-is_there
returns-then-not-is_there c =
    let args = c.args in
    let part = args.part.now in
    let w = payload_by args.schema.now.bytes.now args.ty args.sheet.now args.source.now in
    let other = ap (λ (a : code.Writing). belongs a args.start (length part)) (sym c.make-answer.ensures.value)
    ∙ sym c.is_there.ensures ∙ c.if-not-is_there.true in
    let back = put_back part args.kept.now _ _ _ c.requires.0 c.put_span.ensures
    c.make-answer.auto.scratch c.put_span-then-not-is_there.ensures in
    record { value = c.make-answer.ensures.value; part_after = back ∙ sym (part-other w args.start part other) }

pub returns-else-not-is_there : goal.returns-else-not-is_there
returns-else-not-is_there c =
    let args = c.args in
    let part = args.part.now in
    let w = payload_by args.schema.now.bytes.now args.ty args.sheet.now args.source.now in
    let there = ap (λ (a : code.Writing). belongs a args.start (length part)) (sym c.make-answer.ensures.value) ∙ sym c.is_there.ensures ∙ c.if-not-is_there.false in
    record { value = c.make-answer.ensures.value; part_after = part-there w args.start part there _ c.make-answer.ensures.fronts }
