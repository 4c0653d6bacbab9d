-- Laws of a file of the right shape: its layout fills it, and its rows by number.
use mathlib.Core.Path.{◌≡◌, refl, ap, ◌∙◌}
use mathlib.Core.Bool.{true}
use mathlib.Core.List.{List}
use Prim.Native.Nat.{ℕ, zero, suc, ◌+◌, ◌-◌, ◌*◌, ◌%◌, ◌≤◌, ◌<◌}
use native.Mathlib.Nat.{not-suc-le-zero, le_of_suc-le-suc}
use native.Mathlib.Omega.{arith}
use lib.ListN.{length, get_or, get_or-eq_default}
use lib.Dec.{leb, eqb}
use borrow.Author.Tests.{leb-true, eqb-true}
use Rattle.schema.specs.Table.{Table, row_at}
use Rattle.schema.specs.File.{cell, type_at, field_at, method_at, trailer_at, fields_at_of, methods_at_of, shaped, layout_of, tabulate, sections, table_of}
use Rattle.schema.specs.Check.{field_row_of, method_row, no_row, no_field, no_method}
use Rattle.schema.proofs.Bools.{and_left, and_right}

module _ (s : List ℕ) where
  -- ---- the shape, as facts

  pub record Tests : Type 0 where
    pub trailer : 16 ≤ length s
    pub fields : fields_at_of s ≤ methods_at_of s
    pub methods : methods_at_of s ≤ trailer_at s
    pub number : cell s (trailer_at s + 12) ≡ 1
    pub own : cell s (trailer_at s + 8) ≡ trailer_at s
    pub whole_types : fields_at_of s % 12 ≡ 0
    pub whole_fields : (methods_at_of s - fields_at_of s) % 8 ≡ 0
    pub whole_methods : (trailer_at s - methods_at_of s) % 32 ≡ 0

  pub tests_of : shaped s ≡ true → Tests
  unfolding shaped
  tests_of h =
      let h1 = and_right (leb 16 (length s)) _ h in
      let h2 = and_right (leb (fields_at_of s) (methods_at_of s)) _ h1 in
      let h3 = and_right (leb (methods_at_of s) (trailer_at s)) _ h2 in
      let h4 = and_right (eqb (cell s (trailer_at s + 12)) 1) _ h3 in
      let h5 = and_right (eqb (cell s (trailer_at s + 8)) (trailer_at s)) _ h4 in
      let h6 = and_right (eqb (fields_at_of s % 12) 0) _ h5 in
      record {
        trailer = leb-true _ _ (and_left _ _ h);
        fields = leb-true _ _ (and_left _ _ h1);
        methods = leb-true _ _ (and_left _ _ h2);
        number = eqb-true _ _ (and_left _ _ h3);
        own = eqb-true _ _ (and_left _ _ h4);
        whole_types = eqb-true _ _ (and_left _ _ h5);
        whole_fields = eqb-true _ _ (and_left _ _ h6);
        whole_methods = eqb-true _ _ (and_right (eqb ((methods_at_of s - fields_at_of s) % 8) 0) _ h6);
      }

  -- the layout fills the file
  pub record Filled : Type 0 where
    pub types : 12 * (layout_of s).types ≡ (layout_of s).fields_at
    pub fields : (layout_of s).fields_at + 8 * (layout_of s).fields ≡ (layout_of s).methods_at
    pub methods : (layout_of s).methods_at + 32 * (layout_of s).methods + 16 ≡ length s

  pub filled : shaped s ≡ true → Filled
  unfolding layout_of
  filled h =
      let t = tests_of h in
      record { types = omega arith; fields = omega arith; methods = omega arith }

-- ---- rows by number

module _ {A : Type 0} where
  pub length-tabulate : (f : ℕ → A) (n : ℕ) → length (tabulate f n) ≡ n
  unfolding tabulate
  length-tabulate f zero = refl
  length-tabulate f (suc n) = ap suc (length-tabulate (λ i. f (suc i)) n)

  pub get_d_tabulate : (f : ℕ → A) (n i : ℕ) (d : A) → i < n → get_or (tabulate f n) i d ≡ f i
  unfolding tabulate
  get_d_tabulate f zero i d h = absurd (not-suc-le-zero h)
  get_d_tabulate f (suc n) zero d h = refl
  get_d_tabulate f (suc n) (suc i) d h = get_d_tabulate (λ j. f (suc j)) n i d (le_of_suc-le-suc h)

  past : (f : ℕ → A) (n i : ℕ) (d : A) → n ≤ i → get_or (tabulate f n) i d ≡ d
  past f n i d h = get_or-eq_default (tabulate f n) d (rw (length-tabulate f n) h)

module _ (s : List ℕ) (h : shaped s ≡ true) where
  pub table_is : table_of s ≡ sections s
  unfolding table_of
  table_is = rw h

  pub type-count : length (table_of s).types ≡ (layout_of s).types
  type-count = ap (λ (T : Table). length T.types) table_is ∙ length-tabulate _ (layout_of s).types

  pub field-count : length (table_of s).fields ≡ (layout_of s).fields
  field-count = ap (λ (T : Table). length T.fields) table_is ∙ length-tabulate _ (layout_of s).fields

  pub method-count : length (table_of s).methods ≡ (layout_of s).methods
  method-count = ap (λ (T : Table). length T.methods) table_is ∙ length-tabulate _ (layout_of s).methods

  module _ (i : ℕ) where
    pub row_in : i < (layout_of s).types → row_at (table_of s) i ≡ type_at s (12 * i)
    row_in k = ap (λ (T : Table). row_at T i) table_is ∙ get_d_tabulate _ (layout_of s).types i _ k

    pub row_out : (layout_of s).types ≤ i → row_at (table_of s) i ≡ no_row
    row_out k = ap (λ (T : Table). row_at T i) table_is ∙ past _ (layout_of s).types i _ k

    pub field_in : i < (layout_of s).fields → field_row_of (table_of s) i ≡ field_at s ((layout_of s).fields_at + 8 * i)
    field_in k = ap (λ (T : Table). field_row_of T i) table_is ∙ get_d_tabulate _ (layout_of s).fields i _ k

    pub field_out : (layout_of s).fields ≤ i → field_row_of (table_of s) i ≡ no_field
    field_out k = ap (λ (T : Table). field_row_of T i) table_is ∙ past _ (layout_of s).fields i _ k

    pub method_in : i < (layout_of s).methods → method_row (table_of s) i ≡ method_at s ((layout_of s).methods_at + 32 * i)
    method_in k = ap (λ (T : Table). method_row T i) table_is ∙ get_d_tabulate _ (layout_of s).methods i _ k

    pub method-out : (layout_of s).methods ≤ i → method_row (table_of s) i ≡ no_method
    method-out k = ap (λ (T : Table). method_row T i) table_is ∙ past _ (layout_of s).methods i _ k
