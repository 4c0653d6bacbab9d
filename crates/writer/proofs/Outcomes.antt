-- The answers of the entries, taken apart: what is written, and what is refused.
use mathlib.Core.Path.{◌≡◌, refl, ap, ◌∙◌}
use mathlib.Core.Logic.{◌⊎◌, inl, inr}
use mathlib.Core.List.{List, ◌++◌}
use Prim.Native.Nat.{ℕ}
use lib.ListN.{length, take, drop}
use lib.Seq.{take_at}
use Rattle.wire.proofs.Cases.{differ}
use Rattle.schema.specs.Checked.{Checked}
use Rattle.schema.specs.Checked.{Good, Refused as Faulty}
use Rattle.schema.specs.File.{table_of}
use Rattle.schema.specs.Check.{checked, IsGood}
use Rattle.value.specs.Sheet.{rows_of}
use Rattle.value.specs.Write.{Writing, refusal, written, write}
use Rattle.writer.specs.Writing.{Written, Refused}
use Rattle.writer.specs.Entry.{outcome, outcome_of, by_verdict, sheet_outcome, file_outcome}

-- Only by a good file is anything written. It stands at the output's front.
pub taken-apart : (c : Checked) (a : Writing) (out : List ℕ) (n : ℕ) (out' : List ℕ) → by_verdict c (outcome_of out a) out ≡ outcome (Written n) out'
    → (bs : List ℕ) × (c ≡ Good) × (a ≡ written bs) × (length bs ≡ n) × (take n out' ≡ bs) × (out' ≡ bs ++ drop n out)
taken-apart (Faulty m q) a out n out' e = differ cc
taken-apart Good (refusal m q) out n out' e = differ cc
taken-apart Good (written bs) out n out' e =
    let size : length bs ≡ n = cc in
    let after : out' ≡ bs ++ drop (length bs) out = cc in
    let o : out' ≡ bs ++ drop n out = after ∙ ap (λ (k : ℕ). bs ++ drop k out) size in
    (bs, refl, refl, size, ap (take n) o ∙ take_at bs (drop n out) n size, o)

pub refused-is : (a : Writing) (out : List ℕ) (n q : ℕ) (out' : List ℕ) → outcome_of out a ≡ outcome (Refused n q) out' → a ≡ refusal n q
refused-is (refusal m p) out n q out' e = cc
refused-is (written bs) out n q out' e = differ cc

-- A refusal is the file's own, or the writing's by a good file. The output stays as it was.
pub refused-apart : (c : Checked) (a : Writing) (out : List ℕ) (n q : ℕ) (out' : List ℕ) → by_verdict c (outcome_of out a) out ≡ outcome (Refused n q) out'
    → (out' ≡ out) × ((c ≡ Faulty n q) ⊎ ((c ≡ Good) × (a ≡ refusal n q)))
refused-apart (Faulty m p) a out n q out' e = (cc, inl cc)
refused-apart Good (refusal m p) out n q out' e = (cc, inr (refl, cc))
refused-apart Good (written bs) out n q out' e = differ cc

module _ (s : List ℕ) (ty : ℕ) (sheet B out : List ℕ) where
  abbrev answer : Writing
  answer = write (table_of s) ty (rows_of sheet) B (length out)

  pub write-by : IsGood s → file_outcome s ty sheet B out ≡ outcome_of out answer
  unfolding file_outcome sheet_outcome
  write-by good = rw good

  pub refused-from : (n q : ℕ) (out' : List ℕ) → file_outcome s ty sheet B out ≡ outcome (Refused n q) out'
      → (out' ≡ out) × ((checked s ≡ Faulty n q) ⊎ (IsGood s × (answer ≡ refusal n q)))
  unfolding file_outcome sheet_outcome
  refused-from n q out' e = refused-apart (checked s) answer out n q out' e

  module _ (n : ℕ) (out' : List ℕ) (e : file_outcome s ty sheet B out ≡ outcome (Written n) out') where
    apart : (bs : List ℕ) × IsGood s × (answer ≡ written bs) × (length bs ≡ n) × (take n out' ≡ bs) × (out' ≡ bs ++ drop n out)
    unfolding file_outcome sheet_outcome
    apart = taken-apart (checked s) answer out n out' e

    pub written-good : IsGood s
    written-good = apart.1

    pub written_is : (bs : List ℕ) × (answer ≡ written bs) × (length bs ≡ n) × (take n out' ≡ bs) × (out' ≡ bs ++ drop n out)
    written_is = let (bs, _, w, l, t, o) = apart in (bs, w, l, t, o)
