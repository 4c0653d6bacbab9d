-- Laws of the entries: what each of their returns shows.
use mathlib.Core.Path.{◌≡◌, refl, subst, ◌∙◌}
use mathlib.Core.List.{List}
use Prim.Native.Nat.{ℕ, ◌+◌, ◌-◌, ◌*◌, ◌≤◌, ◌<◌}
use native.Mathlib.Omega.{arith}
use borrow.Author.Tests.{le-leb, lt-leb}
use lib.ListN.{length, length-drop}
use lib.Seq.{paste}
use Rattle.wire.proofs.Cases.{differ}
use Rattle.parse.specs.Reader.{Answer, seen, cursor_at, Accepted}
use Rattle.schema.specs.declared.TypeRow.{TypeRow}
use Rattle.schema.specs.Checked.{Checked}
use Rattle.schema.specs.Checked.{Good, Refused as Faulty}
use Rattle.schema.specs.Table.{row_at}
use Rattle.schema.specs.File.{table_of}
use Rattle.schema.specs.Check.{checked, IsGood}
use Rattle.schema.proofs.Goods.{good-table}
use Rattle.value.specs.declared.Row.{Row}
use Rattle.value.specs.Value.{Tree}
use Rattle.value.specs.Read as value
use Rattle.value.specs.Beside.{shown_rows}
use Rattle.value.proofs.Statements.{comparisons-within}
use Rattle.walks.specs.Shape.{shape_in, fields_from}
use Rattle.walks.proofs.Tables.{shape-struct, no-struct}
use Rattle.reader.specs.Reading.{Shown, Refused}
use Rattle.flat.specs.Walk.{Walk, Past, Refused as Stop, Told, told, first_fields, done, walk_of, end_of, root_in, Walked, Rooted}
use Rattle.flat.specs.Sheet.{put_rows, shown_in}
use Rattle.reader.specs.Entry.{Outcome, outcome, reading_in, outcome_of, room, payload_outcome, by_table, read_outcome, numbers, number_in}
use Rattle.reader.specs.Beside.{shown_outcome}
use Rattle.reader.specs.Judged.{Judged, stops, goes}
use Rattle.flat.proofs.Sheets.{rows-shown, rows-copied}
use Rattle.flat.proofs.Steps.{read_of, refused-of}

-- ---- a payload, of which each struct is shown as far as its fields are known

module _ (shown s : List ℕ) (ty : ℕ) (p sheet : List ℕ) (r : TypeRow) (is : r ≡ row_at (table_of s) ty) where
  -- What is told of the root.
  abbrev tell : Tree → Told
  tell = told (first_fields shown (shape_in s)) (shape_in s) ty

  abbrev root : Answer Tree
  root = root_in s p ty (fields_from (table_of s) r.a r.b)

  abbrev answer : Answer Tree → Outcome
  answer o = outcome_of sheet (value.reading_as (shown_rows (first_fields shown (shape_in s)) ty) (shape_in s) ty (room sheet) o)

  pub entry-type : IsGood s → (r.kind ≡ 16 → ⊥) → outcome (Refused 46 0) sheet ≡ shown_outcome shown s ty p sheet
  unfolding shown_outcome
  entry-type good k = rw (no-struct s good ty r is k)

  module _ (k : r.kind ≡ 16) where
    pub entry-long : 16384 < length p → outcome (Refused 7 0) sheet ≡ shown_outcome shown s ty p sheet
    unfolding shown_outcome
    entry-long h = rw (shape-struct (table_of s) ty r is k, lt-leb (length p) 16384 h)

    module _ (small : length p ≤ 16384) where
      entry-root : answer root ≡ shown_outcome shown s ty p sheet
      unfolding shown_outcome
      entry-root = rw (shape-struct (table_of s) ty r is k, le-leb (length p) 16384 small)

      -- the first walk, over cells of its own, leaves m of them
      module _ (few m : List ℕ) where
        pub entry-refused : (n q : ℕ) → Walked p 1 tell root 0 few (Stop n q) m → outcome (Refused n q) sheet ≡ shown_outcome shown s ty p sheet
        entry-refused n q w = rw (← entry-root, refused-of w)

        module _ (comparisons next row : ℕ) (w : Walked p 1 tell root 0 few (Past comparisons next row) m) where
          read : (tree : Tree) × (root ≡ seen tree (cursor_at p next))
          read = read_of w

          abbrev told-rows : List Row
          told-rows = (tell read.0).rows

          same : done (cursor_at p next) comparisons row m ≡ walk_of tell (seen read.0 (cursor_at p next)) 0 0 few
          same = rw read.1 at w.same

          rows_are : row ≡ length told-rows
          rows_are = let e = same in let f : row ≡ 0 + length told-rows = cc in omega arith

          -- the second walk is known to accept
          pub entry-judged : Accepted root
          entry-judged = rw read.1 tt

          pub entry-full : room sheet < row → outcome (Refused 30 0) sheet ≡ shown_outcome shown s ty p sheet
          unfolding told
          entry-full h = rw (← entry-root, read.1, lt-leb (length told-rows) (room sheet) (omega (arith, rows_are)))

          -- the number alone, without the second walk
          pub entry-fits : row ≤ room sheet → 0 ≡ number_in (shown_outcome shown s ty p sheet)
          unfolding told
          entry-fits h = rw (← entry-root, read.1, le-leb (length told-rows) (room sheet) (omega (arith, rows_are)))

          -- what stands in the sheet is told by the rows that were written into it
          told_in : (after : List ℕ) → row ≤ room sheet → after ≡ shown_in sheet told-rows
              → outcome (Shown row next (length p - next) comparisons) after ≡ shown_outcome shown s ty p sheet
          unfolding told
          told_in after h after_is =
              let e = same in
              let d : comparisons ≡ 0 + (tell read.0).comparisons = cc in
              let comparisons-is : (tell read.0).comparisons ≡ comparisons = omega arith in
              rw (← entry-root, read.1, le-leb (length told-rows) (room sheet) (omega (arith, rows_are)), length-drop, after_is, ← rows_are, comparisons-is)

          -- few rows, copied from the first walk's cells
          pub entry-copied : row ≤ room sheet → row ≤ room few
              → outcome (Shown row next (length p - next) comparisons) (paste sheet 0 m (4 * row)) ≡ shown_outcome shown s ty p sheet
          entry-copied h g =
              let e = same in
              let put : m ≡ put_rows few 0 told-rows = cc in
              told_in (paste sheet 0 m (4 * row)) h ((λ i. paste sheet 0 (put i) (4 * rows_are i)) ∙ rows-copied few sheet told-rows (omega (arith, rows_are)))

          -- what the second walk has written
          pub entry-shown : (v : Walk) (after : List ℕ) → row ≤ room sheet → Walked p 1 tell root 0 sheet v after
              → outcome (Shown row next (length p - next) comparisons) after ≡ shown_outcome shown s ty p sheet
          entry-shown v after h again = told_in after h (go v (rw read.1 at again.same) ∙ rows-shown sheet told-rows (omega (arith, rows_are)))
            where
              go : (v : Walk) → end_of p v after ≡ walk_of tell (seen read.0 (cursor_at p next)) 0 0 sheet → after ≡ put_rows sheet 0 told-rows
              go (Past d a b) e = cc
              go (Stop a b) e = differ cc

-- ---- what the first walk answered

module _ {shown s : List ℕ} {ty : ℕ} {p : List ℕ} {rows : ℕ} {cells after : List ℕ} where
  pub judged-as : {r v : Walk} → r ≡ v → Judged shown s ty p rows cells r after → Judged shown s ty p rows cells v after
  judged-as e j = subst (λ (r : Walk). Judged shown s ty p rows cells r after) e j

  pub judged-refused : {n q : ℕ} → Judged shown s ty p rows cells (Stop n q) after → (sheet : List ℕ) → room sheet ≡ rows → outcome (Refused n q) sheet ≡ shown_outcome shown s ty p sheet
  judged-refused (stops f) = f

  module _ {due next row : ℕ} where
    pub judged-struct : Judged shown s ty p rows cells (Past due next row) after → (row_at (table_of s) ty).kind ≡ 16
    judged-struct (goes kind small few w) = kind

    pub judged-small : Judged shown s ty p rows cells (Past due next row) after → length p ≤ 16384
    judged-small (goes kind small few w) = small

    pub judged-few : Judged shown s ty p rows cells (Past due next row) after → row ≤ rows
    judged-few (goes kind small few w) = few

    pub judged-walked : Judged shown s ty p rows cells (Past due next row) after
        → Rooted shown s p ty (fields_from (table_of s) (row_at (table_of s) ty).a (row_at (table_of s) ty).b) cells (Past due next row) after
    judged-walked (goes kind small few w) = w

-- ---- the key comparisons due are never above 258,048

-- the number of an answer
abbrev pub comparisons_in : Outcome → ℕ
comparisons_in o = (numbers (reading_in o)).comparisons

pub payload-within : (s : List ℕ) → IsGood s → (ty : ℕ) (p sheet : List ℕ) → comparisons_in (payload_outcome s ty p sheet) ≤ 258048
unfolding payload_outcome
payload-within s good ty p sheet = go (value.read (table_of s) ty p (room sheet)) refl
  where
    go : (a : value.Reading) → value.read (table_of s) ty p (room sheet) ≡ a → comparisons_in (outcome_of sheet a) ≤ 258048
    go (value.refusal n q) e = omega arith
    go (value.accepted rs place n comparisons) e = comparisons-within (table_of s) (good-table s good) ty p (room sheet) rs place n comparisons e

pub read-within : (s : List ℕ) (ty : ℕ) (p sheet : List ℕ) → comparisons_in (read_outcome s ty p sheet) ≤ 258048
unfolding read_outcome
read-within s ty p sheet = go (checked s) refl
  where
    go : (v : Checked) → checked s ≡ v → comparisons_in (by_table v s ty p sheet) ≤ 258048
    go Good e = payload-within s e ty p sheet
    go (Faulty n q) e = omega arith
