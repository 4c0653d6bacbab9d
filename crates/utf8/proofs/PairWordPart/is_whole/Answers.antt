-- `utf8::PairWordPart::is_whole` meets its contract: pairs are passed.
use mathlib.Core.Path.{ap}
use mathlib.Core.Bool.{not}
use native.Mathlib.Omega.{arith}
use Rattle.utf8.proofs.Pairs.{pairs-pass}
use Rattle.utf8.proofs.PairWordPart.is_whole.Goals as goal

pub returns : goal.returns
returns c =
    let a = c.args in
    (omega arith, λ e to h. pairs-pass a.s.now a.at to c.pair_word.result h c.pair_word.ensures (ap not e))
