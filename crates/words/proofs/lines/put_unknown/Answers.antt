-- `words::lines::put_unknown` puts a longer text than `grind` reads.
use Rattle.text.specs.Codes.{codes}
use Rattle.text.proofs.Texts.{put_both}
use Rattle.words.specs.Words.{unknown}
use Rattle.words.proofs.lines.put_unknown.Goals as goal

pub returns-clause-added : goal.returns-clause-added
unfolding codes unknown
returns-clause-added c = simp (c.put_word.ensures.added, c.put_decimal.ensures.added, put_both)
