-- `buffer::copy` meets its contract.
use mathlib.Core.Path.{◌∙◌}
use Rattle.buffer.proofs.Stores.{put_all, put_written}
use Rattle.buffer.proofs.copy.Goals as goal

pub returns : goal.returns
returns c =
    let a = c in
    let d = a.args.d.now in
    let src = a.args.src.now in
    c.put_span.ensures ∙ put_all d a.args.at src ∙ put_written d a.args.at src a.requires
