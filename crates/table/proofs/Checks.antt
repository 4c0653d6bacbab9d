-- The tests of the check as code makes them, where the layout is at hand.
use Rattle.std.proofs.Common.{◌≡◌, ℕ, not, ◌&&◌, ◌||◌, leb, List, length, refl, ap, ◌∙◌, Option}
use Rattle.schema.specs.declared.TypeRow.{TypeRow}
use Rattle.schema.specs.declared.Method.{Method}
use Rattle.schema.specs.declared.Layout.{Layout}
use Rattle.schema.specs.Table.{Table, row_at}
use Rattle.schema.specs.File.{table_of, Laid}
use Rattle.schema.specs.Check.{lowest, plain_row, array_row, map_row, struct_row, good_row, method_row, formed, find_among, is_missing}
use Rattle.schema.specs.Check.{good_method, good_entry, bad_entry, small, bad_row, bad_field, bad_method}
use Rattle.table.proofs.Files.{laid_types, laid_fields, laid_methods}

module _ (s : List ℕ) (l : Layout) (h : Laid s l) where
  pub row-judged : (t : ℕ) (r k : TypeRow) → r ≡ row_at (table_of s) t → k ≡ row_at (table_of s) r.a
      → (plain_row r || (array_row l.types r || (map_row l.types k.kind r || struct_row l.fields r))) ≡ good_row (table_of s) t
  unfolding good_row
  row-judged t r k p q =
      let key : k ≡ row_at (table_of s) (row_at (table_of s) t).a = q ∙ ap (λ (x : TypeRow). row_at (table_of s) x.a) p in
      λ i. plain_row (p i) ||
      (array_row (laid_types s l h i) (p i) ||
      (map_row (laid_types s l h i) (key i).kind (p i) || struct_row (laid_fields s l h i) (p i)))

module _ (T : Table) where
  pub method-judged : (i : ℕ) (m : Method) (f : Option ℕ) → m ≡ method_row T i → f ≡ find_among T i m.«package» m.service m.method
      → (formed T m && is_missing f) ≡ good_method T i
  unfolding good_method
  method-judged i m f p q =
      let found : f ≡ find_among T i (method_row T i).«package» (method_row T i).service (method_row T i).method =
      q ∙ ap (λ (x : Method). find_among T i x.«package» x.service x.method) p in
      λ j. formed T (p j) && is_missing (found j)

-- the lowest method at fault, of n counted from i
abbrev pub first_bad : Table → ℕ → ℕ → Option ℕ
first_bad T i n = lowest (λ j. not (good_method T j)) i n

pub methods-whole : (s : List ℕ) (l : Layout) → Laid s l → first_bad (table_of s) 0 l.methods ≡ bad_method (table_of s)
unfolding bad_method
methods-whole s l h = ap (λ (n : ℕ). first_bad (table_of s) 0 n) (laid_methods s l h)

-- ---- the sections by their numbers: 0 has the types, 1 the fields, 2 the methods

module _ (T : Table) where
  pub types-found : bad_entry T 0 (length T.types) ≡ bad_row T
  unfolding bad_entry good_entry bad_row
  types-found = refl

  pub fields-found : bad_entry T 1 (length T.fields) ≡ bad_field T
  unfolding bad_entry good_entry bad_field
  fields-found = refl

  pub methods-found : bad_entry T 2 (length T.methods) ≡ bad_method T
  unfolding bad_entry good_entry bad_method
  methods-found = refl

-- ---- the counts

pub small_judged : (s : List ℕ) (l : Layout) → Laid s l → (leb l.types 256 && (leb l.fields 2048 && leb l.methods 256)) ≡ small (table_of s)
unfolding small
small_judged s l h = λ i. leb (laid_types s l h i) 256 && (leb (laid_fields s l h i) 2048 && leb (laid_methods s l h i) 256)
