-- The tests of extension as code makes them.
use Rattle.std.proofs.Common.{◌≡◌, ℕ, sym, ap, ◌∙◌, Option, Some}
use Rattle.schema.specs.declared.Method.{Method}
use Rattle.schema.specs.Table.{Table}
use Rattle.schema.specs.Check.{method_row, find_method}
use Rattle.schema.specs.Extend.{same_method, method_kept}

module _ (new : Table) (m : Method) (f : Option ℕ) (is : f ≡ find_method new m.«package» m.service m.method) where
  pub method-there : (j : ℕ) (n : Method) → n ≡ method_row new j → f ≡ Some j → same_method n m ≡ method_kept new m
  unfolding method_kept
  method-there j n of e = ap (λ (x : Method). same_method x m) of ∙ sym (rw (sym is ∙ e))
