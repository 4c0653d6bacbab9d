-- What a turn of `put` has taken stands right behind what the turns before have.
use Rattle.std.proofs.Common.{◌++◌, rules, take, sym, ap, ◌∙◌, subst}
use Rattle.std.specs.Io.KnownBytes.{Appends}
use Rattle.std.proofs.KnownBytes.{Appends-trans}
use Rattle.std.proofs.lemmas.List.{take_rest}
use lib.Seq.{take-add}
use Rattle.files.proofs.put.Goals as goal

pub loop-n-preserved : goal.loop-n-preserved
loop-n-preserved g c =
    let at = c.loop-n.n in
    let more = c.in_ok-more.more in
    let bytes = c.args.bytes.now in
    let joined = ap (λ l. take at bytes ++ take more l) (take_rest bytes at) ∙ sym (take-add at more bytes) in
    (search rules, subst (Appends _ _) joined (Appends-trans _ _ _ _ _ c.loop-n.invariant.1 c.in_ok-more.ensures.bytes))
