-- The tally row afterwards, and the answer.
use Rattle.calls.specs.declared.Tally.{Tally}
use Rattle.receiver.specs.Received.{Received}

pub record Settled : Type 0 where
  pub row : Tally
  pub answer : Received
