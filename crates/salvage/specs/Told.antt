-- What the code's answers tell, by the numbers of the refusals.
use Rattle.std.specs.Prelude.{Bool, true, false, Result, Ok, Err, ℕ, ⊤}
use Rattle.constants.specs.declared.refusal.Refusal.{Refusal}
use Rattle.constants.specs.Number.{number_of}
use Rattle.salvage.specs.declared.Salvaged as taken
use Rattle.salvage.specs.declared.pieces.Piece as found
use Rattle.salvage.specs.declared.pieces.Piece.TheVariants.{Entry, Span}
use Rattle.salvage.specs.Salvaging.{Salvaging, Salvaged, Refused}

abbrev pub told : Result taken.Salvaged Refusal → Salvaging
told (Ok m) = Salvaged m.entries m.bytes m.spans
told (Err r) = Refused (number_of r)

-- The number of a fault, 0 for none.
abbrev pub told_fault : Result ⊤ Refusal → ℕ
told_fault (Ok x) = 0
told_fault (Err r) = number_of r

-- A piece as the code answers it.
abbrev pub is_entry : found.Piece → Bool
is_entry (Entry n) = true
is_entry (Span n) = false

abbrev pub size_of : found.Piece → ℕ
size_of (Entry n) = n
size_of (Span n) = n
