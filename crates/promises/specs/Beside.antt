-- What the theorems claim of the answers of the entry that reads with the writer's file beside ours, which its contract fixes by `beside_outcome`.
use Rattle.std.specs.Prelude.{◌≡◌, List, ℕ, ◌*◌, ◌≤◌, ◌<◌, length, drop}
use Rattle.schema.specs.File.{table_of}
use Rattle.schema.specs.Check.{IsGood}
use Rattle.schema.specs.Faults.{TableFault}
use Rattle.schema.specs.Extend.{Widens}
use Rattle.value.specs.Value.{Value, size}
use Rattle.value.specs.Comparisons as due
use Rattle.value.specs.Fits.{ShowsKnown}
use Rattle.value.specs.Added.{without}
use Rattle.value.specs.Beside.{BesideReason}
use Rattle.reader.specs.Reading.{Shown, Refused}
use Rattle.reader.specs.Entry.{outcome, room}
use Rattle.reader.specs.Beside.{beside_outcome}
use Rattle.promises.specs.Claims.{shapes, first_rows}

-- Both files are good, and theirs does not extend ours, bitmaps aside.
abbrev pub Unextended : (ours theirs : List ℕ) → Type 0
Unextended ours theirs = IsGood ours × IsGood theirs × (Widens (table_of ours) (table_of theirs) → ⊥)

module _ (ours theirs : List ℕ) (ty : ℕ) (payload : List ℕ) where
  -- The reader shows w, of type ty, in the first rows of the sheet, by ours and whatever further bits its structs have; the other cells are as they were.
  -- The tail is at a place, of n bytes, and so many key comparisons are due.
  abbrev pub ReadsBeside : (sheet : List ℕ) → Value → (place n comparisons : ℕ) → Type 0
  ReadsBeside sheet w place n comparisons =
      (after : List ℕ) × (beside_outcome ours theirs ty payload sheet ≡ outcome (Shown (size w) place n comparisons) after)
      × ShowsKnown (shapes ours) payload ty (first_rows (size w) after) w
      × (length after ≡ length sheet)
      × (drop (4 * size w) after ≡ drop (4 * size w) sheet)

  -- The answer to a payload that is v by theirs: v without the added fields, no tail, and the key comparisons of the whole of v; or 30 where the sheet has
  -- too few rows for that.
  abbrev pub NewBeside : (sheet : List ℕ) → Value → Type 0
  NewBeside sheet v =
      (size (without (shapes ours) v ty) ≤ room sheet
      → ReadsBeside sheet (without (shapes ours) v ty) (length payload) 0 (due.comparisons (shapes theirs) v ty))
      × (room sheet < size (without (shapes ours) v ty) → beside_outcome ours theirs ty payload sheet ≡ outcome (Refused 30 0) sheet)

  -- The list of the refusals, with so many rows lent: 40 to 44 for ours, then for theirs; 47 where theirs does not extend ours, bitmaps aside; then those
  -- of the payload.
  pub data RefusedBeside (rows : ℕ) : (number place : ℕ) → Type 0 where
    by-ours : {n q : ℕ} → TableFault ours n q → RefusedBeside rows n q
    by-theirs : {n q : ℕ} → IsGood ours → TableFault theirs n q → RefusedBeside rows n q
    no-extension : IsGood ours → IsGood theirs → (Widens (table_of ours) (table_of theirs) → ⊥) → RefusedBeside rows 47 0
    by-payload : {n q : ℕ} → IsGood ours → IsGood theirs → Widens (table_of ours) (table_of theirs)
        → BesideReason (shapes ours) (shapes theirs) ty payload rows n q → RefusedBeside rows n q
