-- A schema file is refused exactly for what is wrong with it, where all that comes before is good.
use Rattle.std.specs.Prelude.{None, Option, Some}
use mathlib.Core.Path.{◌≡◌, refl, sym, subst, ◌∙◌}
use mathlib.Core.Logic.{⊎_elim, ◌↔◌}
use mathlib.Core.Bool.{Bool, false, ◌&&◌}
use mathlib.Core.List.{List}
use Prim.Native.Nat.{ℕ, ◌+◌, ◌-◌, ◌%◌, ◌≤◌}
use native.Mathlib.Omega.{arith}
use lib.ListN.{length}
use lib.Dec.{leb, eqb}
use borrow.Author.Tests.{leb-true, leb-false, eqb-false}
use Rattle.wire.proofs.Cases.{cond-case}
use Rattle.schema.specs.Checked.{Checked}
use Rattle.schema.specs.Checked.{Good, Refused}
use Rattle.schema.specs.Table.{Table}
use Rattle.schema.specs.File.{cell, trailer_at, fields_at_of, methods_at_of, shaped, table_of}
use Rattle.schema.specs.Check.{good_row, good_field, good_method, small, fault, bad_row, bad_field, bad_method, checked_table, checked}
use Rattle.schema.specs.Good.{HasShape}
use Rattle.schema.specs.Faults.{Misshapen, short, layout, trailer, crossed, beyond, TooManyRows, First, FewRows, RowOk, FieldOk, MethodOk, TableFault}
use Rattle.schema.specs.Faults as why
use Rattle.schema.proofs.Bools.{and-false, is_false}
use Rattle.schema.proofs.Lowest.{first-fault}
use Rattle.schema.proofs.Checks as check
use Rattle.schema.proofs.Goods.{shape_of, of-shape, row-iff, field-iff, method-iff, few-iff, rows-iff, fields-iff}

-- ---- the shape

module _ (s : List ℕ) where
  -- the last three tests
  whole_sections : Bool
  whole_sections = eqb (fields_at_of s % 12) 0 && (eqb ((methods_at_of s - fields_at_of s) % 8) 0 && eqb ((trailer_at s - methods_at_of s) % 32) 0)

  uneven : 16 ≤ length s → whole_sections ≡ false → Misshapen s
  unfolding whole_sections
  uneven long e =
      ⊎_elim (λ h. let n = eqb-false (fields_at_of s % 12) 0 h in why.types long (λ k z. n (omega arith)))
      (λ (_, h).
      ⊎_elim (λ g. let n = eqb-false ((methods_at_of s - fields_at_of s) % 8) 0 g in why.fields long (λ k z. n (omega arith)))
      (λ (_, g). let n = eqb-false ((trailer_at s - methods_at_of s) % 32) 0 g in why.methods long (λ k z. n (omega arith)))
      (and-false (eqb ((methods_at_of s - fields_at_of s) % 8) 0) _ h))
      (and-false (eqb (fields_at_of s % 12) 0) _ e)

  misshapen-of : shaped s ≡ false → Misshapen s
  unfolding shaped whole_sections
  misshapen-of e =
      ⊎_elim (λ h. short (leb-false 16 (length s) h))
      (λ (l, e1). let long = leb-true 16 (length s) l in
      ⊎_elim (λ h. crossed long (leb-false (fields_at_of s) (methods_at_of s) h))
      (λ (_, e2). ⊎_elim (λ h. beyond long (leb-false (methods_at_of s) (trailer_at s) h))
      (λ (_, e3). ⊎_elim (λ h. layout long (eqb-false (cell s (trailer_at s + 12)) 1 h))
      (λ (_, e4). ⊎_elim (λ h. trailer long (eqb-false (cell s (trailer_at s + 8)) (trailer_at s) h)) (λ (_, e5). uneven long e5)
      (and-false (eqb (cell s (trailer_at s + 8)) (trailer_at s)) _ e4))
      (and-false (eqb (cell s (trailer_at s + 12)) 1) _ e3))
      (and-false (leb (methods_at_of s) (trailer_at s)) _ e2))
      (and-false (leb (fields_at_of s) (methods_at_of s)) _ e1))
      (and-false (leb 16 (length s)) _ e)

  -- a file that has its shape is not misshapen
  not_both : HasShape s → Misshapen s → ⊥
  not_both h (short l) = omega arith
  not_both h (layout _ n) = n h.number
  not_both h (trailer _ n) = n (omega arith)
  not_both h (crossed _ l) = omega arith
  not_both h (beyond _ l) = omega arith
  not_both h (why.types _ n) = n h.types (omega arith)
  not_both h (why.fields _ n) = n h.fields (omega arith)
  not_both h (why.methods _ n) = n h.methods (omega arith)

  of-misshapen : Misshapen s → shaped s ≡ false
  of-misshapen m = is_false (shaped s) (λ e. not_both (shape_of s e) m)

-- ---- the counts

module _ (T : Table) where
  many-of : small T ≡ false → TooManyRows T
  unfolding small
  many-of e =
      ⊎_elim (λ h. why.types (leb-false (length T.types) 256 h))
      (λ (_, f).
      ⊎_elim (λ h. why.fields (leb-false (length T.fields) 2048 h)) (λ (_, h). why.methods (leb-false (length T.methods) 256 h))
      (and-false (leb (length T.fields) 2048) _ f))
      (and-false (leb (length T.types) 256) _ e)

  not_few : FewRows T → TooManyRows T → ⊥
  not_few (a, b, c) (why.types l) = omega arith
  not_few (a, b, c) (why.fields l) = omega arith
  not_few (a, b, c) (why.methods l) = omega arith

  of-many : TooManyRows T → small T ≡ false
  of-many m = is_false (small T) (λ e. not_few ((few-iff T).0 e) m)

  -- ---- the first row at fault

  row_first : (q : ℕ) → (bad_row T ≡ Some q) ↔ First (RowOk T) (length T.types) q
  unfolding bad_row
  row_first = first-fault (good_row T) (RowOk T) (row-iff T) (length T.types)

  field-first : (q : ℕ) → (bad_field T ≡ Some q) ↔ First (FieldOk T) (length T.fields) q
  unfolding bad_field
  field-first = first-fault (good_field T) (FieldOk T) (field-iff T) (length T.fields)

  method-first : (q : ℕ) → (bad_method T ≡ Some q) ↔ First (MethodOk T) (length T.methods) q
  unfolding bad_method
  method-first = first-fault (good_method T) (MethodOk T) (method-iff T) (length T.methods)

-- ---- the whole file

module _ (s : List ℕ) where
  abbrev Told : Checked → Type 0
  Told Good = Unit {0}
  Told (Refused n q) = TableFault s n q

  fault-told : (n : ℕ) (f : Option ℕ) (next : Checked) → ((i : ℕ) → f ≡ Some i → TableFault s n i) → (f ≡ None → Told next) → Told (fault n f next)
  fault-told n (Some i) next h w = h i refl
  fault-told n None next h w = w refl

  table-told : HasShape s → Told (checked_table (table_of s))
  unfolding checked_table
  table-told shape =
      let T = table_of s in
      cond-case Told (small T) _ (Refused 41 0)
      (λ e. let few = (few-iff T).0 e in
      fault-told 42 (bad_row T) _ (λ i f. why.type_row shape few ((row_first T i).0 f))
      (λ f. let rows = (rows-iff T).0 f in
      fault-told 43 (bad_field T) _ (λ i f. why.field shape few rows ((field-first T i).0 f))
      (λ f. let fields = (fields-iff T).0 f in
      fault-told 44 (bad_method T) Good (λ i f. why.method shape few rows fields ((method-first T i).0 f)) (λ _. tt))))
      (λ e. why.too_many shape (many-of T e))

  file-told : Told (checked s)
  unfolding checked
  file-told =
      cond-case Told (shaped s) (checked_table (table_of s)) (Refused 40 0) (λ e. table-told (shape_of s e)) (λ e. why.misshapen (misshapen-of s e))

  refuses : (n q : ℕ) → TableFault s n q → checked s ≡ Refused n q
  refuses n q (why.misshapen m) = sym (check.misshapen s (of-misshapen s m))
  refuses n q (why.too_many h m) = sym (check.too_many (table_of s) (of-many (table_of s) m) ∙ check.in_shape s (of-shape s h))
  refuses n q (why.type_row h few f) =
      sym (check.row-fault (table_of s) ((few-iff (table_of s)).1 few) q ((row_first (table_of s) q).1 f) ∙ check.in_shape s (of-shape s h))
  refuses n q (why.field h few rows f) =
      sym (check.field-fault (table_of s) ((few-iff (table_of s)).1 few) ((rows-iff (table_of s)).1 rows) q ((field-first (table_of s) q).1 f) ∙ check.in_shape s (of-shape s h))
  refuses n q (why.method h few rows fields f) =
      sym (check.method-fault (table_of s) ((few-iff (table_of s)).1 few) ((rows-iff (table_of s)).1 rows) ((fields-iff (table_of s)).1 fields) q ((method-first (table_of s) q).1 f) ∙ check.in_shape s (of-shape s h))

  -- A schema file is refused with a number at a row exactly for its reason: 40 for its shape, 41 for a count above its limit, and 42, 43 and 44 name the first
  -- type row, field or method that is not good, with every section before it good.
  pub refused-iff : (n q : ℕ) → (checked s ≡ Refused n q) ↔ TableFault s n q
  refused-iff n q = (λ e. subst Told e file-told, refuses n q)
