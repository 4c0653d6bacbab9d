-- Where a walk ends that puts what it reads into lent memory: values of a payload into a sheet, rows of a sheet into an output.
use Rattle.std.specs.Prelude.{ℕ}
use Rattle.parse.specs.Reader.{CursorOf, AnswerOf, refused, seen}

-- Past what it read, with what it left there; or at a refusal.
pub data FinalOf (E X : Type 0) : Type 0 where
  ended : CursorOf E → X → FinalOf E X
  stopped : (number place : ℕ) → FinalOf E X

-- The end of a walk that gives this answer, and puts what was read after x.
abbrev pub final_of : {E A X : Type 0} → (put : A → X → X) → AnswerOf E A → X → FinalOf E X
final_of put (seen a c) x = ended c (put a x)
final_of put (refused n q) x = stopped n q
