-- A plan settled up to the call table: the tally row afterwards, and what the answer comes from, the judgement, the payload's reading and the frame's size.
use Rattle.std.specs.Prelude.{ℕ}
use Rattle.calls.specs.Judged.{Judged}
use Rattle.calls.specs.declared.Tally.{Tally}
use Rattle.reader.specs.Reading.{Reading}

pub record Done : Type 0 where
  pub row : Tally
  pub judged : Judged
  pub reading : Reading
  pub size : ℕ
