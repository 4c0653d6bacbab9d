-- What the theorems of proofs/ claim of the answers of the entries `read`, `write` and `forward`, which their contracts fix by `read_outcome`, `file_outcome`
-- and `forward_outcome`.
use Rattle.std.specs.Prelude.{◌≡◌, ◌⊎◌, ◌↔◌, List, [], ◌++◌, false, ℕ, ◌*◌, ◌≤◌, ◌<◌, length, take, drop}
use Rattle.std.proofs.Math.Option.{Option, none, some}
use Rattle.schema.specs.declared.Field.{Field}
use Rattle.schema.specs.Table.{Shape, shape}
use Rattle.schema.specs.File.{table_of}
use Rattle.schema.specs.Check.{IsGood}
use Rattle.schema.specs.Faults.{TableFault}
use Rattle.value.specs.declared.Row.{Row}
use Rattle.value.specs.Value.{Tree, Value, value, size}
use Rattle.value.specs.Comparisons.{comparisons}
use Rattle.value.specs.Read.{root_bits, unknown_bits}
use Rattle.value.specs.Sheet.{rows_of}
use Rattle.value.specs.Spell.{AllSpell, Spells, RootSpells}
use Rattle.value.specs.Fits.{RootFits, Shows}
use Rattle.value.specs.Delimits.{RootDelimits}
use Rattle.value.specs.Reasons.{Reason}
use Rattle.value.specs.SheetReasons.{SheetReason}
use Rattle.value.specs.Added.{inner, first_added, root_carries, without, added_items, added_values}
use Rattle.reader.specs.Reading.{Shown, Refused}
use Rattle.reader.specs.Entry.{outcome, reading_in, sheet_in, room, read_outcome, numbers}
use Rattle.forward.specs.Claims.{TailReason}

-- The shapes of the types that a schema file holds.
abbrev pub shapes : List ℕ → ℕ → Shape
shapes schema = shape (table_of schema)

-- The first k rows of a sheet, given as its cells.
abbrev pub first_rows : (k : ℕ) → List ℕ → List Row
first_rows k cells = rows_of (take (4 * k) cells)

-- The reader shows v, a root of type ty with the fields fs, in the first rows of the sheet, and leaves the other cells as they were.
-- The tail is at a place, of n bytes, and the key comparisons are those of v.
abbrev pub ReadsAs : (schema : List ℕ) (ty : ℕ) (fs : List Field) (payload sheet : List ℕ) → Value → (place n : ℕ) → Type 0
ReadsAs schema ty fs payload sheet v place n =
    (after : List ℕ) × (read_outcome schema ty payload sheet ≡ outcome (Shown (size v) place n (comparisons (shapes schema) v ty)) after)
    × Shows (shapes schema) payload ty fs (first_rows (size v) after) v
    × (length after ≡ length sheet)
    × (drop (4 * size v) after ≡ drop (4 * size v) sheet)

-- The same in numbers: 0, as many rows as v has values, the tail, and the key comparisons of v.
abbrev pub AnswersAs : (schema : List ℕ) (ty : ℕ) (fs : List Field) (payload sheet : List ℕ) → Value → (place n : ℕ) → Type 0
AnswersAs schema ty fs payload sheet v place n =
    let answer = read_outcome schema ty payload sheet in
    (numbers (reading_in answer)
    ≡ record { number = 0; place = 0; rows = size v; tail_place_of = place; tail_length_of = n; comparisons = comparisons (shapes schema) v ty })
    × Shows (shapes schema) payload ty fs (first_rows (size v) (sheet_in answer)) v
    × (length (sheet_in answer) ≡ length sheet)
    × (drop (4 * size v) (sheet_in answer) ≡ drop (4 * size v) sheet)

-- ---- refusals

-- The schema file has this fault; or it is good, and the payload has this reason, with room for so many rows.
abbrev pub ReadReason : (schema : List ℕ) (ty : ℕ) (payload : List ℕ) (space number place : ℕ) → Type 0
ReadReason schema ty payload space n q = TableFault schema n q ⊎ (IsGood schema × Reason (shapes schema) ty payload space n q)

-- The same for the rows of a sheet over bytes, with room for so many bytes.
abbrev pub WriteReason : (schema : List ℕ) (ty : ℕ) → List Row → (bytes : List ℕ) (space number place : ℕ) → Type 0
WriteReason schema ty rs bytes space n q = TableFault schema n q ⊎ (IsGood schema × SheetReason (shapes schema) ty rs bytes space n q)

-- The same for such rows with a tail of m bytes at a place of those bytes.
abbrev pub ForwardReason : (schema : List ℕ) (ty : ℕ) → List Row → (bytes : List ℕ) (place m space number row : ℕ) → Type 0
ForwardReason schema ty rs bytes place m space n q = TableFault schema n q ⊎ (IsGood schema × TailReason (shapes schema) ty rs bytes place m space n q)

-- A payload of a root with the fields fs sets no bit beyond theirs.
abbrev pub NoUnknownBits : List Field → (payload : List ℕ) → Type 0
NoUnknownBits fs payload = unknown_bits fs (root_bits fs payload) ≡ 0

-- ---- an old file and a new one that extends it: a root of type ty has the fields fs in the old one and fs ++ gs in the new one

module _ (old new : List ℕ) (ty : ℕ) (fs gs : List Field) (payload sheet : List ℕ) (v : Value) where
  -- What the old reader answers where the new rules allow the payload as v: 26 at the first inner struct that carries an added field; without one v without
  -- the added fields, or 30. The tail is the bytes of the added fields that the root carries.
  abbrev pub OldAnswers : (first : Option ℕ) → Type 0
  OldAnswers (some p) = read_outcome old ty payload sheet ≡ outcome (Refused 26 p) sheet
  OldAnswers none =
      (front : List ℕ) × (added : List ℕ)
      × (payload ≡ front ++ added)
      × RootSpells (shapes old) fs (without (shapes old) v ty) payload added
      × AllSpell (Spells (shapes new) 15) (added_items fs gs v) (added_values fs v) added
      × (root_carries fs v ≡ false → added ≡ [])
      × (size (without (shapes old) v ty) ≤ room sheet → ReadsAs old ty fs payload sheet (without (shapes old) v ty) (length front) (length added))
      × (room sheet < size (without (shapes old) v ty) → read_outcome old ty payload sheet ≡ outcome (Refused 30 0) sheet)

  -- The same, with the tree of v that has the places: by the new shapes it fits the payload and delimits its bytes up to the end.
  abbrev pub NewByOld : Type 0
  NewByOld =
      (tree : Tree) × RootFits (shapes new) payload ty (fs ++ gs) tree
      × RootDelimits (shapes new) payload (fs ++ gs) tree (length payload)
      × (value tree ≡ v)
      × OldAnswers (first_added (inner (shapes old) tree ty))
      × ((p : ℕ) → (read_outcome old ty payload sheet ≡ outcome (Refused 26 p) sheet) ↔ (first_added (inner (shapes old) tree ty) ≡ some p))
