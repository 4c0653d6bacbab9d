-- The answers of the entries, taken apart and put together.
use mathlib.Core.Path.{◌≡◌, refl, sym, ap, ◌∙◌, subst}
use mathlib.Core.List.{List, [], append-nil}
use Prim.Native.Nat.{ℕ, ◌*◌, ◌≤◌}
use native.Mathlib.Omega.{arith}
use lib.ListN.{length, drop, length-append, length-drop}
use lib.Seq.{take_at, drop_at}
use Rattle.wire.proofs.Cases.{differ}
use Rattle.schema.specs.declared.Field.{Field}
use Rattle.schema.specs.Checked.{Checked}
use Rattle.schema.specs.Checked.{Good, Refused as Faulty}
use Rattle.schema.specs.Table.{struct}
use Rattle.schema.specs.File.{table_of}
use Rattle.schema.specs.Check.{checked, IsGood}
use Rattle.value.specs.declared.Row.{Row}
use Rattle.value.specs.Value.{Value, value, size}
use Rattle.value.specs.Comparisons.{comparisons}
use Rattle.value.specs.Read as value
use Rattle.value.specs.Read.{accepted}
use Rattle.value.specs.Sheet.{rows_of, cells_of}
use Rattle.value.specs.Fits.{Shows}
use Rattle.value.specs.Claims.{ReadAs}
use Rattle.value.proofs.Sheets.{length-cells, rows-cells}
use Rattle.value.proofs.Reading.{sized, accepts, root_in}
use Rattle.reader.specs.Reading.{Shown, Refused}
use Rattle.flat.specs.Sheet.{shown_in}
use Rattle.reader.specs.Entry.{outcome, outcome_of, room, payload_outcome, by_table, read_outcome}
use Rattle.promises.specs.Claims.{shapes, first_rows, ReadsAs}

-- ---- a sheet in which rows are shown

module _ (sheet : List ℕ) (rs : List Row) where
  cells-length : length (cells_of rs) ≡ 4 * length rs
  cells-length = length-cells rs

  -- its first rows are those
  pub shown-rows : first_rows (length rs) (shown_in sheet rs) ≡ rs
  unfolding rows_of
  shown-rows =
      ap rows_of (take_at (cells_of rs) (drop (4 * length rs) sheet) (4 * length rs) cells-length ∙ sym (append-nil (cells_of rs)))
      ∙ rows-cells rs []
      ∙ append-nil rs

  pub rows_back : (k : ℕ) (after : List ℕ) → length rs ≡ k → after ≡ shown_in sheet rs → first_rows k after ≡ rs
  rows_back k after l e = rw (e, ← l) shown-rows

  -- and its other cells are as they were
  pub shown_rest : drop (4 * length rs) (shown_in sheet rs) ≡ drop (4 * length rs) sheet
  shown_rest = drop_at (cells_of rs) (drop (4 * length rs) sheet) (4 * length rs) cells-length

  pub shown-length : length rs ≤ room sheet → length (shown_in sheet rs) ≡ length sheet
  shown-length h = let c = cells-length in simp (length-append, length-drop) (omega arith)

-- there are as many rows as the value that they show has values.
pub shown-size : (s : List ℕ) (payload : List ℕ) (ty : ℕ) (fs : List Field) (rs : List Row) (v : Value) → Shows (shapes s) payload ty fs rs v → length rs ≡ size v
shown-size s payload ty fs rs v (tree, r, _, u) = sym (ap length r) ∙ sized tree ∙ ap size u

-- ---- the reader

-- An accepting answer is an accepted payload with its rows.
pub accepted-from : (sheet : List ℕ) (a : value.Reading) (k place n c : ℕ) (after : List ℕ) → outcome_of sheet a ≡ outcome (Shown k place n c) after
    → (rs : List Row) × (a ≡ accepted rs place n c) × (length rs ≡ k) × (after ≡ shown_in sheet rs)
accepted-from sheet (value.refusal m q) k place n c after e = differ cc
accepted-from sheet (accepted rs p l d) k place n c after e = (rs, cc, cc, cc)

-- A refusal leaves the sheet as it was.
pub refused-from : (sheet : List ℕ) (a : value.Reading) (n q : ℕ) (after : List ℕ) → outcome_of sheet a ≡ outcome (Refused n q) after
    → (a ≡ value.refusal n q) × (after ≡ sheet)
refused-from sheet (value.refusal m p) n q after e = (cc, cc)
refused-from sheet (accepted rs p l d) n q after e = differ cc

good-read : (v : Checked) (s : List ℕ) (ty : ℕ) (payload sheet : List ℕ) (k place n c : ℕ) (after : List ℕ)
    → by_table v s ty payload sheet ≡ outcome (Shown k place n c) after → v ≡ Good
good-read Good s ty payload sheet k place n c after e = refl
good-read (Faulty m q) s ty payload sheet k place n c after e = differ cc

module _ (s : List ℕ) (ty : ℕ) (payload sheet : List ℕ) where
  pub read_by : IsGood s → read_outcome s ty payload sheet ≡ outcome_of sheet (value.read (table_of s) ty payload (room sheet))
  unfolding read_outcome payload_outcome
  read_by good = rw good

  pub read-faulty : (n q : ℕ) → checked s ≡ Faulty n q → read_outcome s ty payload sheet ≡ outcome (Refused n q) sheet
  unfolding read_outcome
  read-faulty n q e = rw e

  -- Only by a good file is anything shown.
  pub shown-good : (k place n c : ℕ) (after : List ℕ) → read_outcome s ty payload sheet ≡ outcome (Shown k place n c) after → IsGood s
  unfolding read_outcome
  shown-good k place n c after e = good-read (checked s) s ty payload sheet k place n c after e

  module _ (good : IsGood s) where
    pub shown-from : (k place n c : ℕ) (after : List ℕ) → read_outcome s ty payload sheet ≡ outcome (Shown k place n c) after
        → (rs : List Row) × (value.read (table_of s) ty payload (room sheet) ≡ accepted rs place n c) × (length rs ≡ k) × (after ≡ shown_in sheet rs)
    shown-from k place n c after e =
        accepted-from sheet (value.read (table_of s) ty payload (room sheet)) k place n c after (sym (read_by good) ∙ e)

    -- Accepted rows show a value, and have room.
    pub accepted-shows : (rs : List Row) (place n c : ℕ) → value.read (table_of s) ty payload (room sheet) ≡ accepted rs place n c
        → (fs : List Field) × (v : Value) × (shapes s ty ≡ struct fs) × Shows (shapes s) payload ty fs rs v × (length rs ≤ room sheet)
    unfolding value.read
    accepted-shows rs place n c e =
        let a = accepts (shapes s) ty payload (room sheet) rs place n c e in
        let w = root_in (shapes s) ty a.fs payload a.tree a.end a.reads in
        (a.fs, value a.tree, a.is-struct, rw a.has-rows at w.0, a.fits)

    module _ (fs : List Field) (v : Value) (place n : ℕ) where
      -- with k rows
      shown_as : (rs : List Row) (k : ℕ) → length rs ≡ k → size v ≡ k
          → value.read (table_of s) ty payload (room sheet) ≡ accepted rs place n (comparisons (shapes s) v ty)
          → Shows (shapes s) payload ty fs rs v → ReadsAs s ty fs payload sheet v place n
      shown_as rs k l z e shows =
          let (_, _, _, _, fits) = accepted-shows rs place n _ e in
          rw (z, ← l) (
            shown_in sheet rs,
            read_by good ∙ ap (outcome_of sheet) e,
            rw (shown-rows sheet rs) shows,
            shown-length sheet rs fits,
            shown_rest sheet rs,
          )

      pub reads_of : ReadAs (shapes s) ty fs payload (value.read (table_of s) ty payload (room sheet)) v place n → ReadsAs s ty fs payload sheet v place n
      reads_of (rs, e, shows) =
          let z = shown-size s payload ty fs rs v shows in
          shown_as rs (size v) z refl e shows

      pub of-reads : ReadsAs s ty fs payload sheet v place n → ReadAs (shapes s) ty fs payload (value.read (table_of s) ty payload (room sheet)) v place n
      of-reads (after, e, shows, _, _) =
          let (rs, a, k-is, after_is) = shown-from (size v) place n _ after e in
          (rs, a, subst (λ (l : List Row). Shows (shapes s) payload ty fs l v) (rows_back sheet rs (size v) after k-is after_is) shows)
