-- `writer::put::put_content` meets its contract.
use Rattle.buffer.proofs.Spans.{length-span}
use Rattle.writer.proofs.Puts.{content-put}
use Rattle.writer.proofs.put.put_content.Goals as goal

pub returns : goal.returns
returns c =
    let args = c.args in
    let asked = c.requires in
    let put-length = c.put_length-start in
    content-put _ _ args.kind _ _ _ _ _ asked.1 (rw (length-span args.source.now args.from args.n asked.2) put-length.ensures) c.put_span.ensures
