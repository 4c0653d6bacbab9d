-- The tally row that an entry asks for, and what is left to do with it.
use Rattle.std.specs.Prelude.{ℕ}
use Rattle.receiver.specs.Next.{Next}

pub record Plan : Type 0 where
  pub row : ℕ
  pub next : Next
