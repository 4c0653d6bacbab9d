-- The payload's reading: what a sheet shows afterwards, what a refusal leaves, and that it depends on the sheet's room alone.
use mathlib.Core.Path.{◌≡◌, refl, sym, ap, ◌∙◌}
use mathlib.Core.Logic.{◌⊎◌, ⊎_elim}
use mathlib.Core.Bool.{Bool, true, false, cond}
use mathlib.Core.List.{List, []}
use Prim.Native.Nat.{ℕ}
use lib.Dec.{eqb}
use lib.ListN.{length}
use Rattle.wire.proofs.Cases.{cond-case}
use Rattle.schema.specs.File.{table_of}
use Rattle.schema.proofs.Bools.{clash}
use Rattle.calls.specs.declared.Tally.{Tally}
use Rattle.calls.specs.declared.Rise.{Rise}
use Rattle.calls.specs.Counting.{no_rise, figure_by, full_at}
use Rattle.calls.proofs.Rises.{no_figure}
use Rattle.calls.specs.declared.Payload.{Payload}
use Rattle.calls.specs.declared.Payload.TheVariants.{Struct, Empty, Unread}
use Rattle.value.specs.declared.Row.{Row}
use Rattle.value.specs.Read as value
use Rattle.reader.specs.Reading.{Reading}
use Rattle.reader.specs.Reading.{Shown, Refused}
use Rattle.value.specs.Sheet.{cells_of}
use Rattle.flat.specs.Sheet.{shown_in}
use Rattle.reader.specs.Entry.{Outcome, outcome, reading_in, sheet_in, outcome_of, room, payload_outcome, numbers}
use Rattle.receiver.specs.Answer.{empty_read, payload_read, number_in, tallied}

-- no rows leave a sheet as it is
pub none-shown : (sheet : List ℕ) → sheet ≡ shown_in sheet []
unfolding cells_of
none-shown sheet = refl

-- a reading without rows, tail and comparisons
pub record Bare (r : Reading) : Type 0 where
  pub rows : (numbers r).rows ≡ 0
  pub tail_place_of : (numbers r).tail_place_of ≡ 0
  pub tail_length_of : (numbers r).tail_length_of ≡ 0
  pub comparisons : (numbers r).comparisons ≡ 0

refused-bare : (n q : ℕ) → Bare (Refused n q)
refused-bare n q = record { rows = refl; tail_place_of = refl; tail_length_of = refl; comparisons = refl }

pub nothing-bare : Bare (Shown 0 0 0 0)
nothing-bare = record { rows = refl; tail_place_of = refl; tail_length_of = refl; comparisons = refl }

-- ---- two sheets with as much room

-- the same reading, and both sheets show the same rows
pub record Both (sheet₁ sheet₂ : List ℕ) (o₁ o₂ : Outcome) : Type 0 where
  pub reading : reading_in o₁ ≡ reading_in o₂
  pub rows : List Row
  pub count : (numbers (reading_in o₁)).rows ≡ length rows
  pub first : sheet_in o₁ ≡ shown_in sheet₁ rows
  pub second : sheet_in o₂ ≡ shown_in sheet₂ rows

module _ (sheet₁ sheet₂ : List ℕ) where
  both_of : (r : value.Reading) → Both sheet₁ sheet₂ (outcome_of sheet₁ r) (outcome_of sheet₂ r)
  both_of (value.refusal n q) = record { reading = refl; rows = []; count = refl; first = none-shown sheet₁; second = none-shown sheet₂ }
  both_of (value.accepted rs place n comparisons) = record { reading = refl; rows = rs; count = refl; first = refl; second = refl }

  both-bare : (r : Reading) → Bare r → Both sheet₁ sheet₂ (outcome r sheet₁) (outcome r sheet₂)
  both-bare r b = record { reading = refl; rows = []; count = b.rows; first = none-shown sheet₁; second = none-shown sheet₂ }

empty-bare : (payload : List ℕ) → Bare (empty_read payload)
empty-bare payload = cond-case Bare (eqb (length payload) 0) (Shown 0 0 0 0) (Refused _ _) (λ _. nothing-bare) (λ _. refused-bare _ _)

pub both_read : (s payload sheet₁ sheet₂ : List ℕ) → room sheet₁ ≡ room sheet₂ → (d : Payload)
    → Both sheet₁ sheet₂ (payload_read s d payload sheet₁) (payload_read s d payload sheet₂)
unfolding payload_read payload_outcome
both_read s payload sheet₁ sheet₂ e (Struct t) = rw e (both_of sheet₁ sheet₂ (value.read (table_of s) t payload (room sheet₂)))
both_read s payload sheet₁ sheet₂ e Empty = both-bare sheet₁ sheet₂ (empty_read payload) (empty-bare payload)
both_read s payload sheet₁ sheet₂ e Unread = both-bare sheet₁ sheet₂ (Shown 0 0 0 0) nothing-bare

-- ---- a refusal

-- a refused payload has no rows, no tail and no comparisons, and leaves the sheet as it was
pub record Untouched (sheet : List ℕ) (o : Outcome) : Type 0 where
  pub bare : Bare (reading_in o)
  pub same : sheet_in o ≡ sheet

refused-of : (sheet : List ℕ) (r : value.Reading) → (number_in (outcome_of sheet r) ≡ 0 → ⊥) → Untouched sheet (outcome_of sheet r)
refused-of sheet (value.refusal n q) h = record { bare = refused-bare n q; same = refl }
refused-of sheet (value.accepted rs place n comparisons) h = absurd (h refl)

pub refused-read : (s payload sheet : List ℕ) (d : Payload) → (number_in (payload_read s d payload sheet) ≡ 0 → ⊥) → Untouched sheet (payload_read s d payload sheet)
unfolding payload_read payload_outcome
refused-read s payload sheet (Struct t) h = refused-of sheet (value.read (table_of s) t payload (room sheet)) h
refused-read s payload sheet Empty h = record { bare = empty-bare payload; same = refl }
refused-read s payload sheet Unread h = record { bare = nothing-bare; same = refl }

pub unread : (s payload sheet : List ℕ) → Untouched sheet (payload_read s Unread payload sheet)
unfolding payload_read
unread s payload sheet = record { bare = nothing-bare; same = refl }

-- ---- with the tally that would rise

none-rises : (t : Tally) (n : ℕ) → full_at t (figure_by no_rise n) ≡ false
none-rises t n = ap (full_at t) (no_figure n)

-- Two sheets with as much room and, where something rises, the same row.
pub both-tallied : (sheet₁ sheet₂ : List ℕ) (r : Rise) (t₁ t₂ : Tally) (o₁ o₂ : Outcome) → (r ≡ no_rise) ⊎ (t₁ ≡ t₂) → Both sheet₁ sheet₂ o₁ o₂
    → Both sheet₁ sheet₂ (tallied t₁ r sheet₁ o₁) (tallied t₂ r sheet₂ o₂)
both-tallied sheet₁ sheet₂ r t₁ t₂ o₁ o₂ w b = go (full_at t₁ (figure_by r (number_in o₁))) (full_at t₂ (figure_by r (number_in o₂))) same
  where
    number : number_in o₁ ≡ number_in o₂
    number = ap (λ (x : Reading). (numbers x).number) b.reading

    none : (t : Tally) (n : ℕ) → r ≡ no_rise → full_at t (figure_by r n) ≡ false
    none t n e = ap (λ (x : Rise). full_at t (figure_by x n)) e ∙ none-rises t n

    same : full_at t₁ (figure_by r (number_in o₁)) ≡ full_at t₂ (figure_by r (number_in o₂))
    same =
        ⊎_elim
        (λ e. none t₁ (number_in o₁) e ∙ sym (none t₂ (number_in o₂) e))
        (λ (e : t₁ ≡ t₂). λ i. full_at (e i) (figure_by r (number i)))
        w

    go : (a c : Bool) → a ≡ c → Both sheet₁ sheet₂ (cond a (outcome (Refused 18 0) sheet₁) o₁) (cond c (outcome (Refused 18 0) sheet₂) o₂)
    go true true e = both-bare sheet₁ sheet₂ (Refused 18 0) (refused-bare 18 0)
    go true false e = clash false (sym e) refl
    go false true e = clash false e refl
    go false false e = b

module _ (t : Tally) (r : Rise) (sheet : List ℕ) (o : Outcome) where
  full-untouched : Untouched sheet (outcome (Refused 18 0) sheet)
  full-untouched = record { bare = refused-bare 18 0; same = refl }

  -- a refusal leaves the sheet as it was, and 18 does
  pub tallied-untouched : (number_in (tallied t r sheet o) ≡ 0 → ⊥) → ((number_in o ≡ 0 → ⊥) → Untouched sheet o) → Untouched sheet (tallied t r sheet o)
  tallied-untouched z h =
      cond-case (λ (x : Outcome). (number_in x ≡ 0 → ⊥) → Untouched sheet x) (full_at t (figure_by r (number_in o))) (outcome (Refused 18 0) sheet) o
      (λ _ _. full-untouched) (λ _ y. h y) z

  pub tallied-same : Untouched sheet o → Untouched sheet (tallied t r sheet o)
  tallied-same w = cond-case (Untouched sheet) (full_at t (figure_by r (number_in o))) (outcome (Refused 18 0) sheet) o (λ _. full-untouched) (λ _. w)
