-- The worked cases of reading with the writer's file beside ours, over files as bytes: the receipt inside a batch answer, a carrier's file that widens
-- a bitmap and adds a map, a bitmap that has grown in the root, and files that do not extend ours.
use mathlib.Core.Path.{◌≡◌, refl, sym, ap, ap₂, ◌∙◌}
use mathlib.Core.List.{List, [], ◌∷◌, map}
use mathlib.Core.Bool.{true, false, cond}
use Prim.Native.Nat.{ℕ, ◌≤◌}
use lib.Dec.{leb}
use lib.ListN.{replicate}
use borrow.Author.Tests.{le-leb}
use Rattle.wire.specs.Little as little
use Rattle.wire.proofs.Cases.{differ}
use Rattle.schema.specs.declared.TypeRow.{TypeRow}
use Rattle.schema.specs.declared.Field.{Field}
use Rattle.schema.specs.Checked.{Good}
use Rattle.schema.specs.Extended.{No}
use Rattle.schema.specs.Table as table
use Rattle.schema.specs.Table.{Table}
use Rattle.schema.specs.File.{cell, shaped, layout_of, tabulate, table_of}
use Rattle.schema.specs.Check.{lowest, good_row, good_field, find_among, good_method, small, bad_row, bad_field, bad_method, checked_table, checked}
use Rattle.schema.specs.Extend.{every, field_kept, row_kept_of, method_kept, widened, bitmap_kept, extended, extension}
use Rattle.schema.proofs.Goods.{good-table}
use Rattle.schema.proofs.Extending.{widens-iff}
use Rattle.schema.proofs.Examples.{T, file, longer, T-good, T-rows}
use Rattle.value.specs.Read.{refusal, accepted, read}
use Rattle.value.specs.Beside.{pruned, read_beside}
use Rattle.value.specs.Sheet.{cells_of}
use Rattle.value.proofs.Examples.{inner_added, answers}
use Rattle.reader.specs.Reading.{Shown, Refused}
use Rattle.flat.specs.Sheet.{shown_in}
use Rattle.reader.specs.Entry.{outcome, outcome_of, room, read_outcome}
use Rattle.reader.specs.Beside.{beside_outcome}
use Rattle.promises.specs.Cases.{Case, case_of, Hold, HoldBeside, P5, lent, receipts, carrier, beside_carrier, of_theirs, patched, other_form, struct_of, grown_alone, grown_beside}
use Rattle.promises.proofs.Beside.{beside-by, unextended}
use Rattle.promises.proofs.Examples.{new-good, inner-by-old, cases_by}

-- ---- from files to their tables

module _ (ours theirs : List ℕ) (good : checked ours ≡ Good) (good' : checked theirs ≡ Good) where
  module _ (A B : Table) (a : table_of ours ≡ A) (b : table_of theirs ≡ B) (w : widened A B ≡ true) (t : ℕ) where
    by-tables : (payload sheet : List ℕ) → beside_outcome ours theirs t payload sheet ≡ outcome_of sheet (read_beside A B t payload (room sheet))
    by-tables payload sheet =
        let widens = (widens-iff (table_of ours) (table_of theirs) (good-table ours good) (good-table theirs good')).0 (ap₂ widened a b ∙ w) in
        beside-by ours theirs t payload sheet good good' widens ∙ ap₂ (λ (X Y : Table). outcome_of sheet (read_beside X Y t payload (room sheet))) a b

    beside-by-tables : (sheet : List ℕ) (cases : List Case) → map (λ (c : Case). case_of c.payload (beside_outcome ours theirs t c.payload sheet)) cases
        ≡ map (λ (c : Case). case_of c.payload (outcome_of sheet (read_beside A B t c.payload (room sheet)))) cases
    beside-by-tables sheet [] = refl
    beside-by-tables sheet (c ∷ cases) = ap₂ ◌∷◌ (ap (case_of c.payload) (by-tables c.payload sheet)) (beside-by-tables sheet cases)

  no_widening : widened (table_of ours) (table_of theirs) ≡ false → (t : ℕ) (payload sheet : List ℕ) → beside_outcome ours theirs t payload sheet ≡ outcome (Refused 47 0) sheet
  no_widening e t payload sheet = unextended ours theirs t payload sheet good good' (λ x.
      let k : true ≡ false = sym ((widens-iff (table_of ours) (table_of theirs) (good-table ours good) (good-table theirs good')).1 x) ∙ e in
      differ cc)

-- ---- what the files hold

abbrev inner_table : Table
inner_table = record { types = inner_added.types; fields = inner_added.fields; methods = T.methods }

abbrev type : ℕ → ℕ → ℕ → TypeRow
type k a b = record { kind = k; a = a; b = b }

abbrev field : ℕ → ℕ → Field
field t o = record { ty = t; optional = o }

abbrev carrier_table : Table
carrier_table = record {
  types = type 6 0 0 ∷ type 12 0 0 ∷ type 16 0 9 ∷ type 14 2 0 ∷ type 16 9 3 ∷ type 15 0 0 ∷ type 16 0 1 ∷ [];
  fields = field 0 0 ∷ field 1 1 ∷ field 0 1 ∷ field 0 1 ∷ field 0 1 ∷ field 0 1 ∷ field 0 1 ∷ field 0 1 ∷ field 0 1 ∷ field 3 0 ∷ field 0 1 ∷ field 5 1 ∷ [];
  methods = T.methods;
}

abbrev of_optionals : ℕ → Table
of_optionals n = record { types = type 6 0 0 ∷ type 16 0 n ∷ []; fields = replicate n (field 0 1); methods = [] }

held : (table_of longer ≡ inner_table) × (table_of carrier ≡ carrier_table) × (table_of (struct_of 7) ≡ of_optionals 7) × (table_of (struct_of 9) ≡ of_optionals 9)
unfolding little.little cell shaped layout_of tabulate table_of inner_added
held = (refl, refl, refl, refl)

-- All are good; by 01 the carrier's file does not extend T's, since a bitmap has grown.
pub files_good : (checked carrier ≡ Good)
    × (checked (struct_of 7) ≡ Good)
    × (checked (struct_of 9) ≡ Good)
    × (checked (patched file 104 other_form) ≡ Good)
    × (checked (patched longer 80 (0 ∷ [])) ≡ Good)
unfolding little.little cell shaped layout_of tabulate table_of lowest good_row good_field find_among good_method small bad_row bad_field bad_method checked_table checked
files_good = (refl, refl, refl, refl, refl)

pub carrier-extends : extension file carrier ≡ No
unfolding little.little cell shaped layout_of tabulate table_of lowest good_row good_field find_among good_method small bad_row bad_field bad_method checked_table checked
    every field_kept row_kept_of method_kept widened bitmap_kept extended extension
carrier-extends = refl

tests : (widened T inner_table ≡ true) × (widened T carrier_table ≡ true) × (widened (of_optionals 7) (of_optionals 9) ≡ true)
unfolding inner_added lowest find_among every field_kept row_kept_of method_kept widened
tests = (refl, refl, refl)

fails : (widened (table_of longer) (table_of file) ≡ false)
    × (widened (table_of file) (table_of (patched file 104 other_form)) ≡ false)
    × (widened (table_of file) (table_of (patched longer 80 (0 ∷ []))) ≡ false)
unfolding little.little cell shaped layout_of tabulate table_of lowest find_among every field_kept row_kept_of method_kept widened
fails = (refl, refl, refl)

-- ---- the receipts

receipts-read : (rows : ℕ) → read_beside T inner_table 4 P5 rows ≡ cond (leb 6 rows) (accepted receipts 7 0 0) (refusal 30 0)
unfolding inner_added read_beside pruned answers
receipts-read rows = refl

-- The batch answer that began it: the carrier has added a field to the receipts inside it, and the first receipt carries it. `read` by our file refuses
-- it at that receipt. With the carrier's file beside ours both receipts are shown, and nothing of the added field is taken for a receipt or a status.
pub receipts-beside : (sheet : List ℕ) → 6 ≤ room sheet
    → (read_outcome file 4 P5 sheet ≡ outcome (Refused 26 2) sheet)
    × (beside_outcome file longer 4 P5 sheet ≡ outcome (Shown 6 7 0 0) (shown_in sheet receipts))
receipts-beside sheet h =
    let b : leb 6 (room sheet) ≡ true = le-leb 6 (room sheet) h in
    let a : read_beside T inner_table 4 P5 (room sheet) ≡ accepted receipts 7 0 0 = receipts-read (room sheet) ∙ rw b in
    (inner-by-old sheet, by-tables file longer T-good new-good.0 T inner_table T-rows held.0 tests.0 4 P5 sheet ∙ ap (outcome_of sheet) a)

-- ---- the carrier's file

computed : map (λ (c : Case). case_of c.payload (outcome_of lent (read_beside T carrier_table 4 c.payload (room lent)))) beside_carrier ≡ beside_carrier
unfolding cells_of read_beside pruned answers
computed = refl

pub carrier-beside : HoldBeside file carrier 4 lent beside_carrier
carrier-beside = beside-by-tables file carrier T-good files_good.0 T carrier_table T-rows held.1 tests.1 4 lent beside_carrier ∙ computed

-- ---- a bitmap that has grown

grown-alone : map (λ (c : Case). case_of c.payload (outcome_of lent (read (of_optionals 7) 1 c.payload (room lent)))) grown_alone ≡ grown_alone
unfolding cells_of answers
grown-alone = refl

grown-beside : map (λ (c : Case). case_of c.payload (outcome_of lent (read_beside (of_optionals 7) (of_optionals 9) 1 c.payload (room lent)))) grown_beside ≡ grown_beside
unfolding cells_of read_beside pruned answers
grown-beside = refl

-- Seven fields have become nine. What is said of both readers under an extension without grown bitmaps does not hold here. The reader by ours alone takes the second
-- bitmap byte for field 0, whose content by theirs is the byte after it; and what ours alone accepts with no added bit set may be cut by theirs.
pub grown-differs : Hold (struct_of 7) 1 lent grown_alone × HoldBeside (struct_of 7) (struct_of 9) 1 lent grown_beside
grown-differs =
    let (_, seven, nine, _, _) = files_good in (
      cases_by (struct_of 7) (of_optionals 7) seven held.2 1 lent grown_alone ∙ grown-alone,
      beside-by-tables (struct_of 7) (struct_of 9) seven nine (of_optionals 7) (of_optionals 9) held.2 held.3 tests.2 1 lent grown_beside ∙ grown-beside,
    )

-- ---- 47 and 46

-- 47 where theirs is the older file, also for a type that is no struct; where a method of ours has another form in theirs; and where a field that theirs
-- adds is required.
pub unextended-cases : (payload sheet : List ℕ)
    → (beside_outcome longer file 4 payload sheet ≡ outcome (Refused 47 0) sheet)
    × (beside_outcome longer file 0 payload sheet ≡ outcome (Refused 47 0) sheet)
    × (beside_outcome file (patched file 104 other_form) 4 payload sheet ≡ outcome (Refused 47 0) sheet)
    × (beside_outcome file (patched longer 80 (0 ∷ [])) 4 payload sheet ≡ outcome (Refused 47 0) sheet)
unextended-cases payload sheet =
    let (_, _, _, form, required) = files_good in (
      no_widening longer file new-good.0 T-good fails.0 4 payload sheet,
      no_widening longer file new-good.0 T-good fails.0 0 payload sheet,
      no_widening file (patched file 104 other_form) T-good form fails.1 4 payload sheet,
      no_widening file (patched longer 80 (0 ∷ [])) T-good required fails.2 4 payload sheet,
    )

their_struct : map (λ (c : Case). case_of c.payload (outcome_of lent (read carrier_table 6 c.payload (room lent)))) of_theirs ≡ of_theirs
unfolding cells_of answers
their_struct = refl

-- Where theirs extends ours, a type that is no struct is 46, and so is a struct that only theirs has, which `read` by theirs shows.
pub no-struct-cases : (payload sheet : List ℕ)
    → (beside_outcome file longer 0 payload sheet ≡ outcome (Refused 46 0) sheet)
    × (beside_outcome file carrier 6 payload sheet ≡ outcome (Refused 46 0) sheet)
    × Hold carrier 6 lent of_theirs
unfolding inner_added table.shape read_beside
no-struct-cases payload sheet = (
  by-tables file longer T-good new-good.0 T inner_table T-rows held.0 tests.0 0 payload sheet,
  by-tables file carrier T-good files_good.0 T carrier_table T-rows held.1 tests.1 6 payload sheet,
  cases_by carrier carrier_table files_good.0 held.1 6 lent of_theirs ∙ their_struct,
)
