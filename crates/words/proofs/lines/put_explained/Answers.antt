-- `words::lines::put_explained` puts the meaning, where the number has one, and else that it has none.
use Rattle.std.proofs.Common.{◌≡◌, ◌≢◌, length, arith}
use Rattle.text.specs.Text.{shown}
use Rattle.text.proofs.Texts.{put_both, put_nothing, added_len}
use Rattle.words.specs.Words.{meaning_of}
use Rattle.words.proofs.Texts.{explained_unknown, explained_known}
use Rattle.words.proofs.lines.put_explained.Goals as goal

pub returns-then-page-start-clause-added : goal.returns-then-page-start-clause-added
returns-then-page-start-clause-added c =
    let n = c.args.number in
    let first = c.put_meaning.ensures.added in
    let none : length (meaning_of n) ≡ 0 = omega (arith, added_len c.args.page.now c.put_meaning.new.page (meaning_of n) first, c.if-page-start.true) in
    simp (explained_unknown n none, c.put_unknown.ensures.added, first, put_nothing (shown c.args.page.now) (meaning_of n) none)

pub returns-clause-added : goal.returns-clause-added
returns-clause-added c =
    let n = c.args.number in
    let first = c.put_meaning.ensures.added in
    let some : length (meaning_of n) ≢ 0 = λ e. c.if-page-start.false (omega (arith, added_len c.args.page.now c.put_meaning.new.page (meaning_of n) first, e)) in
    simp (explained_known n some, c.put_byte-2.ensures.added, c.put_advice.ensures.added, c.put_byte.ensures.added, first, put_both)
