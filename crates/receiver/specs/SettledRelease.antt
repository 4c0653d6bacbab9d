-- The tally row after a release, and the answer.
use Rattle.calls.specs.declared.Tally.{Tally}
use Rattle.receiver.specs.Released.{Released}

pub record SettledRelease : Type 0 where
  pub row : Tally
  pub answer : Released
