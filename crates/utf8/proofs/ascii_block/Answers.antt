-- `utf8::ascii_block` meets its contract: the words passed are ASCII.
use mathlib.Core.Path.{◌≡◌, refl, sym, ◌∙◌}
use native.Mathlib.Omega.{arith}
use Rattle.utf8.specs.Utf8.{ascii}
use Rattle.utf8.proofs.Asciis.{ascii-word-more, ascii-word-bad}
use Rattle.utf8.proofs.ascii_block.Goals as goal

pub loop-k-init : goal.loop-k-init
unfolding ascii
loop-k-init c = refl

pub loop-k-preserved : goal.loop-k-preserved
loop-k-preserved c = ascii-word-more c.args.s.now c.args.at c.loop-k.k c.loop-k.invariant (sym c.ascii_word.ensures ∙ c.if-not-ascii_word.false)

pub returns-then-not-ascii_word : goal.returns-then-not-ascii_word
returns-then-not-ascii_word c = ascii-word-bad c.args.s.now c.args.at c.loop-k.k (omega arith) c.loop-k.invariant (sym c.ascii_word.ensures ∙ c.if-not-ascii_word.true)

pub returns : goal.returns
returns c =
    let last : c.loop-k.k ≡ 8 = omega arith in
    sym (rw last at c.loop-k.invariant)
