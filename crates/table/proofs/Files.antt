-- A file of the right shape as code reads it: rows by number where the layout is at hand.
use Rattle.std.proofs.Common.{◌≡◌, ℕ, ◌+◌, ◌*◌, ◌<◌, ◌≤◌, List, length, sym, ap, ◌∙◌, arith}
use native.Mathlib.Decide.{dec_lt}
use Rattle.schema.specs.declared.TypeRow.{TypeRow}
use Rattle.schema.specs.declared.Layout.{Layout}
use Rattle.schema.specs.Table.{row_at}
use Rattle.schema.specs.File.{type_at, field_at, method_at, table_of, Laid}
use Rattle.schema.specs.Check.{field_row_of, method_row, no_row, no_field, no_method}
use Rattle.schema.proofs.Files.{filled, type-count, field-count, method-count, row_in, row_out, field_in, field_out, method_in, method-out}

-- how far the sections reach
pub record Reach (s : List ℕ) (l : Layout) : Type 0 where
  pub types : 12 * l.types ≤ length s
  pub fields : l.fields_at + 8 * l.fields ≤ length s
  pub methods : l.methods_at + 32 * l.methods ≤ length s

module _ (s : List ℕ) (l : Layout) (h : Laid s l) where
  pub reach : Reach s l
  reach =
      let f = filled s h.shape in
      rw h.is (record { types = omega arith; fields = omega arith; methods = omega arith })

  pub laid_types : l.types ≡ length (table_of s).types
  laid_types = ap (λ (x : Layout). x.types) h.is ∙ sym (type-count s h.shape)

  pub laid_fields : l.fields ≡ length (table_of s).fields
  laid_fields = ap (λ (x : Layout). x.fields) h.is ∙ sym (field-count s h.shape)

  pub laid_methods : l.methods ≡ length (table_of s).methods
  laid_methods = ap (λ (x : Layout). x.methods) h.is ∙ sym (method-count s h.shape)

  module _ (i : ℕ) where
    pub laid_row : i < l.types → type_at s (12 * i) ≡ row_at (table_of s) i
    laid_row k = sym (row_in s h.shape i (rw h.is at k))

    pub laid_no_row : l.types ≤ i → no_row ≡ row_at (table_of s) i
    laid_no_row k = sym (row_out s h.shape i (rw h.is at k))

    pub laid_field : i < l.fields → field_at s (l.fields_at + 8 * i) ≡ field_row_of (table_of s) i
    laid_field k = rw h.is (sym (field_in s h.shape i (rw h.is at k)))

    pub laid_no_field : l.fields ≤ i → no_field ≡ field_row_of (table_of s) i
    laid_no_field k = sym (field_out s h.shape i (rw h.is at k))

    pub laid_method : i < l.methods → method_at s (l.methods_at + 32 * i) ≡ method_row (table_of s) i
    laid_method k = rw h.is (sym (method_in s h.shape i (rw h.is at k)))

    pub laid_no_method : l.methods ≤ i → no_method ≡ method_row (table_of s) i
    laid_no_method k = sym (method-out s h.shape i (rw h.is at k))

  -- a row past the last has the kind 0
  pub there : (t : ℕ) → 0 < (row_at (table_of s) t).kind → t < l.types
  there t some = elim (dec_lt t l.types) [
    | yes k ↦ k
    | no g ↦
        let none : 0 ≡ (row_at (table_of s) t).kind = ap (λ (r : TypeRow). r.kind) (laid_no_row t (omega arith)) in
        absurd (omega arith)
  ]
