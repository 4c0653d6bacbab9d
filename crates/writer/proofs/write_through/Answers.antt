-- `writer::write_through` meets its contract.
use mathlib.Core.Path.{sym, ap, ◌∙◌}
use Rattle.writer.specs.Told.{told}
use Rattle.writer.proofs.Steps.{handed}
use Rattle.writer.proofs.Entries.{entry-refused, entry-room, entry-written, entry-copied}
use Rattle.writer.proofs.write_through.Goals as goal

pub returns-then-out-length : goal.returns-then-out-length
returns-then-out-length c =
    let make = c.make in
    let args = c.args in
    rw c.at.ensures
    (entry-room args.schema.now.bytes.now args.ty args.sheet.now args.source.now args.out.now _ (sym make.ensures.value ∙ ap told c.in_ok-length.was) c.if-out-length.true)

pub returns-in_err-length : goal.returns-in_err-length
returns-in_err-length c =
    let make = c.make in
    let args = c.args in
    rw (handed c.from_residual.ensures.1)
    (entry-refused args.schema.now.bytes.now args.ty args.sheet.now args.source.now args.out.now _ _ (sym make.ensures.value ∙ ap told c.in_err-length.was))

pub returns-then-scratch-length : goal.returns-then-scratch-length
returns-then-scratch-length c =
    let make = c.make in
    let if1 = c.if-out-length in
    let args = c.args in
    let size = sym make.ensures.value ∙ ap told c.in_ok-length.was in
    entry-written args.schema.now.bytes.now args.ty args.sheet.now args.source.now args.out.now _ size if1.false _ c.put_payload.ensures

pub returns-else-scratch-length : goal.returns-else-scratch-length
returns-else-scratch-length c =
    let make = c.make in
    let if1 = c.if-out-length in
    let if2 = c.if-scratch-length in
    let args = c.args in
    let size = sym make.ensures.value ∙ ap told c.in_ok-length.was in
    entry-copied args.schema.now.bytes.now args.ty args.sheet.now args.source.now args.out.now _ size if1.false _ _ if2.false make.auto.scratch make.ensures.fronts c.put_span.ensures
