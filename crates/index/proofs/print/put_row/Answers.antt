-- `index::print::put_row` puts the numbers that stand in the row.
use lib.Seq.{drop-drop}
use Rattle.text.proofs.Texts.{put_both}
use Rattle.index.specs.Text.{line_text}
use Rattle.index.proofs.print.put_row.Goals as goal

pub returns-clause-added : goal.returns-clause-added
unfolding line_text
returns-clause-added c =
    simp (c.put_byte.ensures.added, c.put_field.ensures.added, c.put_decimal.ensures.added, c.u32_at.ensures, c.u32_at-2.ensures, drop-drop, put_both)
