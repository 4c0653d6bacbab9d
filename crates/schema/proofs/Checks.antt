-- What a good file's check has shown, and the verdict from what was found.
use Rattle.std.specs.Prelude.{None, Option, Some}
use mathlib.Core.Path.{◌≡◌, refl, sym}
use mathlib.Core.Bool.{Bool, true, false, cond}
use mathlib.Core.List.{List}
use Prim.Native.Nat.{ℕ}
use Rattle.wire.proofs.Cases.{chosen, differ}
use Rattle.schema.specs.declared.Layout.{Layout}
use Rattle.schema.specs.Checked.{Checked}
use Rattle.schema.specs.Checked.{Good, Refused}
use Rattle.schema.specs.Table.{Table}
use Rattle.schema.specs.File.{shaped, layout_of, table_of, Laid}
use Rattle.schema.specs.Check.{small, fault, bad_row, bad_field, bad_method, checked, checked_table, IsGood}

no-fault : (n i : ℕ) → Refused n i ≡ Good → ⊥
no-fault n i e = differ cc

-- a choice or a fault that leaves the file good
cond-good : (b : Bool) (x : Checked) (n : ℕ) → cond b x (Refused n 0) ≡ Good → (b ≡ true) × (x ≡ Good)
cond-good b x n e = chosen b x (Refused n 0) (no-fault n 0) e

fault-good : (n : ℕ) (f : Option ℕ) (next : Checked) → fault n f next ≡ Good → (f ≡ None) × (next ≡ Good)
fault-good n (Some i) next e = absurd (no-fault n i e)
fault-good n None next e = (refl, e)

module _ (s : List ℕ) where
  pub good-shaped : IsGood s → shaped s ≡ true
  unfolding checked
  good-shaped g = (cond-good (shaped s) _ 40 g).0

  pub good-checked : IsGood s → checked_table (table_of s) ≡ Good
  unfolding checked
  good-checked g = (cond-good (shaped s) _ 40 g).1

  pub good-laid : (l : Layout) → IsGood s → l ≡ layout_of s → Laid s l
  good-laid l g e = record { shape = good-shaped g; is = e }

-- what the check of a good table has found
pub record Faultless (T : Table) : Type 0 where
  pub few : small T ≡ true
  pub rows : bad_row T ≡ None
  pub fields : bad_field T ≡ None
  pub methods : bad_method T ≡ None

pub faultless : (T : Table) → checked_table T ≡ Good → Faultless T
unfolding checked_table
faultless T e =
    let few = cond-good (small T) _ 41 e in
    let row = fault-good 42 (bad_row T) _ few.1 in
    let fld = fault-good 43 (bad_field T) _ row.1 in
    let mth = fault-good 44 (bad_method T) _ fld.1 in
    record { few = few.0; rows = row.0; fields = fld.0; methods = mth.0 }

-- ---- the verdict, from what was found

module _ (T : Table) where
  pub too_many : small T ≡ false → Refused 41 0 ≡ checked_table T
  unfolding checked_table
  too_many e = sym (rw e)

  module _ (few : small T ≡ true) where
    pub row-fault : (i : ℕ) → bad_row T ≡ Some i → Refused 42 i ≡ checked_table T
    unfolding checked_table
    row-fault i r = sym (rw (few, r))

    module _ (r : bad_row T ≡ None) where
      pub field-fault : (i : ℕ) → bad_field T ≡ Some i → Refused 43 i ≡ checked_table T
      unfolding checked_table
      field-fault i f = sym (rw (few, r, f))

      module _ (f : bad_field T ≡ None) where
        pub method-fault : (i : ℕ) → bad_method T ≡ Some i → Refused 44 i ≡ checked_table T
        unfolding checked_table
        method-fault i m = sym (rw (few, r, f, m))

        pub no-faults : bad_method T ≡ None → Good ≡ checked_table T
        unfolding checked_table
        no-faults m = sym (rw (few, r, f, m))

module _ (s : List ℕ) where
  pub misshapen : shaped s ≡ false → Refused 40 0 ≡ checked s
  unfolding checked
  misshapen e = sym (rw e)

  pub in_shape : shaped s ≡ true → checked_table (table_of s) ≡ checked s
  unfolding checked
  in_shape e = sym (rw e)
