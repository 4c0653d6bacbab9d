-- The number and the other numbers of an answer are those of what it tells.
use Rattle.std.proofs.Common.{◌≡◌, refl, ℕ, [], ◌∷◌, Result, Ok, Err}
use Rattle.std.specs.Prelude.{Bool, true, false, ⊤}
use Rattle.constants.specs.declared.refusal.Refusal.{Refusal}
use Rattle.constants.specs.declared.refusal.Refused as error
use Rattle.constants.specs.Number.{number_of}
use Rattle.table.specs.Told as table
use Rattle.reader.specs.declared.Shown as reader-shown
use Rattle.reader.specs.Told as reader
use Rattle.writer.specs.Told as writer
use Rattle.scalar.specs.declared.Scalar.{Scalar}
use Rattle.scalar.specs.Scalar.{scalar_number}
use Rattle.scalar.specs.Told as scalar
use Rattle.index.specs.Index.{index_number}
use Rattle.index.specs.Told as index
use Rattle.salvage.specs.declared.Salvaged as salvaged
use Rattle.salvage.specs.Salvage.{salvage_number}
use Rattle.salvage.specs.Told as salvage
use Rattle.frame.specs.Written as frame
use Rattle.frame.specs.Told.{told_written}
use Rattle.arf.specs.Numbers.{check_number, extend_number, write_number}
use Rattle.exports.specs.Answers.{check_cells, read_number, write_cells, index_cells}
use Rattle.exports.specs.Numbers.{number_or_0, place_or_0, length_or_0}

abbrev by_refusal : error.Refused → ℕ
by_refusal e = number_of e.refusal

pub check-number : (a : Result ⊤ error.Refused) → number_or_0 by_refusal a ≡ check_number (table.told a)
check-number (Ok x) = refl
check-number (Err e) = refl

pub check-place : (a : Result ⊤ error.Refused) → place_or_0 a ∷ [] ≡ check_cells (table.told a)
check-place (Ok x) = refl
check-place (Err e) = refl

pub extend-number : (a : Result Bool error.Refused) → number_or_0 by_refusal a ≡ extend_number (table.told_extends a)
extend-number (Ok true) = refl
extend-number (Ok false) = refl
extend-number (Err e) = refl

pub read-number : (a : Result reader-shown.Shown error.Refused) → number_or_0 by_refusal a ≡ read_number (reader.told a)
read-number (Ok x) = refl
read-number (Err e) = refl

pub write-number : (a : Result ℕ error.Refused) → number_or_0 by_refusal a ≡ write_number (writer.told a)
write-number (Ok x) = refl
write-number (Err e) = refl

pub write-cells : (a : Result ℕ error.Refused) → place_or_0 a ∷ length_or_0 a ∷ [] ≡ write_cells (writer.told a)
write-cells (Ok x) = refl
write-cells (Err e) = refl

pub index-number : (a : Result ℕ error.Refused) → number_or_0 by_refusal a ≡ index_number (index.told a)
index-number (Ok x) = refl
index-number (Err e) = refl

pub index-cells : (a : Result ℕ error.Refused) → place_or_0 a ∷ length_or_0 a ∷ [] ≡ index_cells (index.told a)
index-cells (Ok x) = refl
index-cells (Err e) = refl

pub scalar-number : (a : Result Scalar error.Refused) → number_or_0 by_refusal a ≡ scalar_number (scalar.told a)
unfolding scalar_number
scalar-number (Ok x) = refl
scalar-number (Err e) = refl

pub salvage-number : (a : Result salvaged.Salvaged Refusal) → number_or_0 number_of a ≡ salvage_number (salvage.told a)
salvage-number (Ok x) = refl
salvage-number (Err e) = refl

pub written-number : (a : Result ℕ Refusal) → number_or_0 number_of a ≡ frame.write_number (told_written a)
written-number (Ok x) = refl
written-number (Err e) = refl
