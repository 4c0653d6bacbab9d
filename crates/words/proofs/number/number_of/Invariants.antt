-- `words::number::number_of` reads its word: what is left of it, after the digits that gave n, gives the same number.
use Rattle.std.proofs.Common.{◌≡◌, drop}
use Rattle.words.specs.Number.{number_from, parsed_of}
use Rattle.words.proofs.number.number_of.Given as goal

abbrev pub invariant-loop-b : goal.invariant-loop-b
invariant-loop-b l = number_from l.n (drop l.b-index l.word) ≡ parsed_of l.word
