-- The test of extension from its parts: a field that is kept, and the answer.
use mathlib.Core.Path.{◌≡◌, sym, ◌∙◌}
use mathlib.Core.Bool.{true, false}
use mathlib.Core.List.{List}
use Prim.Native.Nat.{ℕ, ◌+◌, ◌≤◌, ◌<◌}
use lib.Dec.{eqb}
use borrow.Author.Tests.{lt-ltb, le-ltb}
use Rattle.schema.specs.declared.TypeRow.{TypeRow}
use Rattle.schema.specs.declared.Field.{Field}
use Rattle.schema.specs.Checked.{Good, Refused as Faulty}
use Rattle.schema.specs.Extended.{Yes, No, Refused}
use Rattle.schema.specs.Table.{Table}
use Rattle.schema.specs.File.{table_of}
use Rattle.schema.specs.Check.{field_row_of, checked}
use Rattle.schema.specs.Extend.{same_field, field_kept, extended, extension}

module _ (old new : Table) (r q : TypeRow) where
  module _ (i : ℕ) (g : Field) (is : g ≡ field_row_of new (q.a + i)) where
    pub kept-old : (f : Field) → f ≡ field_row_of old (r.a + i) → i < r.b → same_field g f ≡ field_kept old new r q i
    unfolding field_kept
    kept-old f of h = (λ k. same_field (is k) (of k)) ∙ sym (rw (lt-ltb i r.b h))

    pub kept_new : r.b ≤ i → eqb g.optional 1 ≡ field_kept old new r q i
    unfolding field_kept
    kept_new h = (λ k. eqb (is k).optional 1) ∙ sym (rw (le-ltb i r.b h))

-- ---- the entry's answer, from what was found

module _ (old new : List ℕ) where
  pub old-refused : (n p : ℕ) → checked old ≡ Faulty n p → Refused n p ≡ extension old new
  unfolding extension
  old-refused n p e = sym (rw e)

  module _ (g : checked old ≡ Good) where
    pub new-refused : (n p : ℕ) → checked new ≡ Faulty n p → Refused n p ≡ extension old new
    unfolding extension
    new-refused n p e = sym (rw (g, e))

    module _ (h : checked new ≡ Good) where
      pub answer-yes : extended (table_of old) (table_of new) ≡ true → Yes ≡ extension old new
      unfolding extension
      answer-yes e = sym (rw (g, h, e))

      pub answer-no : extended (table_of old) (table_of new) ≡ false → No ≡ extension old new
      unfolding extension
      answer-no e = sym (rw (g, h, e))
