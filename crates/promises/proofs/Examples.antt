-- The worked pair of schema files: the table T, and T with an optional uint8 added to the struct inside the answer's array, or to the answer itself;
-- P1 to P10 over the bytes of T's file; and a relay by T's file.
use mathlib.Core.Path.{◌≡◌, refl, ap, ap₂, ◌∙◌}
use mathlib.Core.List.{List, [], ◌∷◌, map}
use Prim.Native.Nat.{ℕ, ◌≤◌}
use native.Mathlib.Omega.{arith}
use lib.Count.{ones_in}
use lib.ListN.{length}
use Rattle.wire.specs.Little as little
use Rattle.wire.specs.Varuint as varuint
use Rattle.utf8.specs.Utf8 as utf8
use Rattle.parse.specs.Reader as answer
use Rattle.schema.specs.Checked.{Good}
use Rattle.schema.specs.Extended.{Yes}
use Rattle.schema.specs.Table as table
use Rattle.schema.specs.Table.{Table}
use Rattle.schema.specs.File.{cell, shaped, layout_of, tabulate, table_of}
use Rattle.schema.specs.Check.{lowest, good_row, good_field, find_among, good_method, small, bad_row, bad_field, bad_method, checked_table, checked}
use Rattle.schema.specs.Extend.{every, field_kept, row_kept_of, method_kept, widened, bitmap_kept, extended, extension}
use Rattle.schema.proofs.Examples.{T, file, longer, T-good, T-rows}
use Rattle.value.specs.declared.Row.{Row}
use Rattle.value.specs.Value as value
use Rattle.value.specs.Comparisons as comparisons
use Rattle.value.specs.Read as read
use Rattle.value.specs.Read.{Reading, refusal, accepted}
use Rattle.value.specs.Sheet.{rows_of, cells_of}
use Rattle.value.specs.Spell as spell
use Rattle.value.specs.Write as write
use Rattle.value.proofs.Reading.{accepts, accepted-of}
use Rattle.value.proofs.Examples.{inner_added, root_added}
use Rattle.reader.specs.Reading.{Shown, Refused}
use Rattle.flat.specs.Sheet.{shown_in}
use Rattle.reader.specs.Entry.{outcome, outcome_of, room, read_outcome}
use Rattle.writer.specs.Entry as writer
use Rattle.writer.proofs.Outcomes.{write-by}
use Rattle.forward.specs.Forward.{forward}
use Rattle.promises.specs.Cases.{Case, case_of, Hold, P5, P6, lent, row, worked, new_cells, old_cells, blank, RelaysP6}
use Rattle.promises.proofs.Entries.{read_by}
use Rattle.promises.proofs.Forwarding.{forward-by}

-- The rows of P5 by the new table; those of P6 by the new one, and by T.
abbrev pub inner_rows : List Row
inner_rows = row 4 0 7 1 ∷ row 3 2 5 2 ∷ row 2 2 3 2 ∷ row 0 3 1 0 ∷ row 0 4 1 0 ∷ row 2 5 2 1 ∷ row 0 6 1 0 ∷ []

abbrev pub root_rows : List Row
root_rows = row 4 0 5 2 ∷ row 3 2 2 1 ∷ row 2 2 2 1 ∷ row 0 3 1 0 ∷ row 0 4 1 0 ∷ []

abbrev pub known_rows : List Row
known_rows = row 4 0 4 1 ∷ row 3 2 2 1 ∷ row 2 2 2 1 ∷ row 0 3 1 0 ∷ []

-- T with a third field in type 4, an optional uint8.
abbrev pub wider : List ℕ
wider =
    6 ∷ 0 ∷ 0 ∷ 0 ∷ 0 ∷ 0 ∷ 0 ∷ 0 ∷ 0 ∷ 0 ∷ 0 ∷ 0 ∷
    12 ∷ 0 ∷ 0 ∷ 0 ∷ 0 ∷ 0 ∷ 0 ∷ 0 ∷ 0 ∷ 0 ∷ 0 ∷ 0 ∷
    16 ∷ 0 ∷ 0 ∷ 0 ∷ 0 ∷ 0 ∷ 0 ∷ 0 ∷ 2 ∷ 0 ∷ 0 ∷ 0 ∷
    14 ∷ 0 ∷ 0 ∷ 0 ∷ 2 ∷ 0 ∷ 0 ∷ 0 ∷ 0 ∷ 0 ∷ 0 ∷ 0 ∷
    16 ∷ 0 ∷ 0 ∷ 0 ∷ 2 ∷ 0 ∷ 0 ∷ 0 ∷ 3 ∷ 0 ∷ 0 ∷ 0 ∷
    0 ∷ 0 ∷ 0 ∷ 0 ∷ 0 ∷ 0 ∷ 0 ∷ 0 ∷ 1 ∷ 0 ∷ 0 ∷ 0 ∷
    1 ∷ 0 ∷ 0 ∷ 0 ∷ 3 ∷ 0 ∷ 0 ∷ 0 ∷ 0 ∷ 0 ∷ 0 ∷ 0 ∷
    0 ∷ 0 ∷ 0 ∷ 0 ∷ 1 ∷ 0 ∷ 0 ∷ 0 ∷ 0 ∷ 0 ∷ 0 ∷ 0 ∷
    1 ∷ 0 ∷ 0 ∷ 0 ∷ 1 ∷ 0 ∷ 0 ∷ 0 ∷ 2 ∷ 0 ∷ 0 ∷ 0 ∷
    3 ∷ 0 ∷ 0 ∷ 0 ∷ 12 ∷ 0 ∷ 0 ∷ 0 ∷ 2 ∷ 0 ∷ 0 ∷ 0 ∷
    4 ∷ 0 ∷ 0 ∷ 0 ∷ 255 ∷ 255 ∷ 255 ∷ 255 ∷ 255 ∷ 255 ∷ 255 ∷ 255 ∷
    60 ∷ 0 ∷ 0 ∷ 0 ∷ 100 ∷ 0 ∷ 0 ∷ 0 ∷ 132 ∷ 0 ∷ 0 ∷ 0 ∷
    1 ∷ 0 ∷ 0 ∷ 0 ∷ []

-- Both new files are good, and extend T's (the other one by schema's T-extended).
pub new-good : (checked longer ≡ Good) × (checked wider ≡ Good)
unfolding little.little cell shaped layout_of tabulate table_of lowest good_row good_field find_among good_method small bad_row bad_field bad_method checked_table checked
new-good = (refl, refl)

pub wider-extends : extension file wider ≡ Yes
unfolding little.little cell shaped layout_of tabulate table_of lowest good_row good_field find_among good_method small bad_row bad_field bad_method checked_table checked every field_kept row_kept_of method_kept widened bitmap_kept extended extension
wider-extends = refl

-- What they hold.
abbrev inner_table : Table
inner_table = record { types = inner_added.types; fields = inner_added.fields; methods = T.methods }

abbrev root_table : Table
root_table = record { types = root_added.types; fields = root_added.fields; methods = T.methods }

new-rows : (table_of longer ≡ inner_table) × (table_of wider ≡ root_table)
unfolding little.little cell shaped layout_of tabulate table_of inner_added root_added
new-rows = (refl, refl)

-- The answers by the tables, with just room enough.
computed : (read.read inner_table 4 P5 7 ≡ accepted inner_rows 7 0 0)
    × ((n : ℕ) → read.read T 4 P5 n ≡ refusal 26 2)
    × (read.read root_table 4 P6 5 ≡ accepted root_rows 5 0 0)
    × (read.read T 4 P6 4 ≡ accepted known_rows 4 1 0)
unfolding inner_added root_added read.read read.root_struct read.root_ending ones_in read.parse read.walk read.bitmap answer.count read.present read.required_set
    table.shape answer.and_then answer.check answer.block answer.var_u_int little.little varuint.front_var_u_int varuint.groups utf8.run utf8.next utf8.lead_of utf8.rows value.rows value.value comparisons.comparisons
computed = (refl, λ n. refl, refl, refl)

-- More room does not matter.
roomier : (T : Table) (t : ℕ) (payload : List ℕ) (n : ℕ) (rs : List Row) (p l c : ℕ) → read.read T t payload n ≡ accepted rs p l c
    → (m : ℕ) → length rs ≤ m → read.read T t payload m ≡ accepted rs p l c
unfolding read.read
roomier T t payload n rs p l c e m h =
    let a = accepts (table.shape T) t payload n rs p l c e in
    accepted-of (table.shape T) t payload m rs p l c
    (record { fs = a.fs; tree = a.tree; end = a.end; is-struct = a.is-struct; reads = a.reads; has-rows = a.has-rows; has-place = a.has-place; has-length = a.has-length; has-comparisons = a.has-comparisons; short = a.short; fits = h })

module _ (sheet : List ℕ) where
  by_rows : (s : List ℕ) (T : Table) (t : ℕ) (payload : List ℕ) (a : Reading) → checked s ≡ Good → table_of s ≡ T → read.read T t payload (room sheet) ≡ a
      → read_outcome s t payload sheet ≡ outcome_of sheet a
  by_rows s T t payload a good is e =
      read_by s t payload sheet good ∙ ap (λ (U : Table). outcome_of sheet (read.read U t payload (room sheet))) is ∙ ap (outcome_of sheet) e

  -- The added field is in an inner struct: the new reader shows P5, and the old one answers 26 at the bitmap of the first struct that carries the field.
  pub inner-by-new : 7 ≤ room sheet → read_outcome longer 4 P5 sheet ≡ outcome (Shown 7 7 0 0) (shown_in sheet inner_rows)
  inner-by-new h = by_rows longer inner_table 4 P5 _ new-good.0 new-rows.0 (roomier inner_table 4 P5 7 inner_rows 7 0 0 computed.0 (room sheet) h)

  pub inner-by-old : read_outcome file 4 P5 sheet ≡ outcome (Refused 26 2) sheet
  inner-by-old = by_rows file T 4 P5 _ T-good T-rows (computed.1 (room sheet))

  -- The added field is in the root: the new reader shows it in P6, and for the old one it is the tail.
  pub root-by-new : 5 ≤ room sheet → read_outcome wider 4 P6 sheet ≡ outcome (Shown 5 5 0 0) (shown_in sheet root_rows)
  root-by-new h = by_rows wider root_table 4 P6 _ new-good.1 new-rows.1 (roomier root_table 4 P6 5 root_rows 5 0 0 computed.2 (room sheet) h)

  pub root-by-old : 4 ≤ room sheet → read_outcome file 4 P6 sheet ≡ outcome (Shown 4 4 1 0) (shown_in sheet known_rows)
  root-by-old h = by_rows file T 4 P6 _ T-good T-rows (roomier T 4 P6 4 known_rows 4 1 0 computed.3 (room sheet) h)

-- ---- P1 to P10, over the bytes of T's file

module _ (s : List ℕ) (T : Table) (good : checked s ≡ Good) (is : table_of s ≡ T) (t : ℕ) (sheet : List ℕ) where
  -- A file's cases are those of its table.
  pub cases_by : (cases : List Case) → map (λ (c : Case). case_of c.payload (read_outcome s t c.payload sheet)) cases
      ≡ map (λ (c : Case). case_of c.payload (outcome_of sheet (read.read T t c.payload (room sheet)))) cases
  cases_by [] = refl
  cases_by (c ∷ cases) = ap₂ ◌∷◌ (ap (case_of c.payload) (by_rows sheet s T t c.payload _ good is refl)) (cases_by cases)

worked-by-T : map (λ (c : Case). case_of c.payload (outcome_of lent (read.read T 4 c.payload (room lent)))) worked ≡ worked
unfolding cells_of read.read read.root_struct read.root_ending ones_in read.parse read.walk read.bitmap answer.count read.present read.required_set
    table.shape answer.and_then answer.check answer.block answer.var_u_int little.little varuint.front_var_u_int varuint.groups utf8.run utf8.next utf8.lead_of utf8.rows value.rows value.value comparisons.comparisons
worked-by-T = refl

pub p1-to_p10 : Hold file 4 lent worked
p1-to_p10 = cases_by file T T-good T-rows 4 lent worked ∙ worked-by-T

-- ---- a relay by T's file, between a writer and a reader by the file with a third field in type 4

relay_written : (write.write root_table 4 (rows_of new_cells) P6 6 ≡ write.written P6)
    × (forward T 4 (rows_of old_cells) P6 4 1 6 ≡ write.written P6)
    × (write.write T 4 (rows_of old_cells) P6 6 ≡ write.written (0x01 ∷ 0x01 ∷ 0x01 ∷ 0x07 ∷ []))
unfolding root_added rows_of forward write.write write.show_root write.show write.row_due write.next_row write.bits_at read.walk read.present read.required_set ones_in
    table.shape answer.and_then answer.check little.little little.bytes varuint.varuint_bytes varuint.shortest utf8.run utf8.next utf8.lead_of utf8.rows value.value spell.encode
relay_written = (refl, refl, refl)

pub relays_P6 : RelaysP6 file wider
unfolding cells_of
relays_P6 = record {
  written = write-by wider 4 new_cells P6 blank new-good.1 ∙ ap (λ (U : Table). writer.outcome_of blank (write.write U 4 (rows_of new_cells) P6 6)) new-rows.1 ∙ ap (writer.outcome_of blank) relay_written.0;
  read = root-by-old lent (omega arith);
  forwarded = forward-by file 4 old_cells P6 4 1 blank T-good ∙ ap (λ (U : Table). writer.outcome_of blank (forward U 4 (rows_of old_cells) P6 4 1 6)) T-rows ∙ ap (writer.outcome_of blank) relay_written.1;
  shown-again = root-by-new lent (omega arith);
  lost = write-by file 4 old_cells P6 blank T-good ∙ ap (λ (U : Table). writer.outcome_of blank (write.write U 4 (rows_of old_cells) P6 6)) T-rows ∙ ap (writer.outcome_of blank) relay_written.2;
}
