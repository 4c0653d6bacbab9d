-- A method found by its identifiers, and the types of a good table's methods.
use Rattle.std.specs.Prelude.{None, Option, Some}
use mathlib.Core.Path.{◌≡◌, refl, sym, ap, ◌∙◌}
use mathlib.Core.Logic.{⊎_elim}
use mathlib.Core.Bool.{true, false}
use Prim.Native.Nat.{ℕ, ◌<◌}
use native.Mathlib.Omega.{arith}
use lib.ListN.{length}
use lib.Dec.{ltb}
use borrow.Author.Tests.{ltb-true, ltb-false}
use Rattle.schema.specs.Table.{Table, row_at}
use Rattle.schema.specs.Check.{method_row, named, find_among, find_method}
use Rattle.schema.specs.Good.{Letter, SameNames, GoodSchema}
use Rattle.schema.proofs.Bools.{cases, clash}
use Rattle.schema.proofs.Lowest.{none_below, found-passes}
use Rattle.schema.proofs.Goods.{names_of, of-names, kind-within}

module _ (T : Table) (p q r : ℕ) where
  -- what is found is an entry with the identifiers
  pub found-named : (i : ℕ) → find_method T p q r ≡ Some i → (i < length T.methods) × (named p q r (method_row T i) ≡ true)
  unfolding find_among
  found-named i e = let f = found-passes _ 0 (length T.methods) i e in (omega arith, f.2)

  -- where none is found, no entry has them
  pub missing-named : find_method T p q r ≡ None → (i : ℕ) → i < length T.methods → named p q r (method_row T i) ≡ false
  unfolding find_among
  missing-named e i h = none_below _ (length T.methods) e i h

module _ (T : Table) (g : GoodSchema T) where
  -- two entries of a good table that share their identifiers are one
  pub names-differ : (i j : ℕ) → i < length T.methods → j < length T.methods → SameNames (method_row T i) (method_row T j) → i ≡ j
  names-differ i j h k s =
      ⊎_elim (λ e. absurd (g.distinct i j (ltb-true i j e) k s))
      (λ e.
      ⊎_elim (λ f. absurd (g.distinct j i (ltb-true j i f) h (record { «package» = sym s.«package»; service = sym s.service; method = sym s.method })))
      (λ f. let a = ltb-false i j e in let b = ltb-false j i f in omega arith)
      (cases (ltb j i)))
      (cases (ltb i j))

  -- each entry is found by its own identifiers
  pub finds-own : (i : ℕ) → i < length T.methods → find_method T (method_row T i).«package» (method_row T i).service (method_row T i).method ≡ Some i
  finds-own i h = go _ refl
    where
      own : named (method_row T i).«package» (method_row T i).service (method_row T i).method (method_row T i) ≡ true
      own = of-names (method_row T i) (method_row T i) (record { «package» = refl; service = refl; method = refl })

      go : (f : Option ℕ) → find_method T (method_row T i).«package» (method_row T i).service (method_row T i).method ≡ f
          → find_method T (method_row T i).«package» (method_row T i).service (method_row T i).method ≡ Some i
      go (Some j) e =
          let n = found-named T _ _ _ j e in
          e ∙ ap Some (names-differ j i n.0 h (names_of (method_row T j) (method_row T i) n.1))
      go None e = clash _ own (missing-named T _ _ _ e i h)

-- a type that a letter Y has is a struct type of the table
pub letter-struct : (T : Table) (bit t : ℕ) → Letter T bit t → bit ≡ 1 → (t < length T.types) × ((row_at T t).kind ≡ 16)
letter-struct T bit t l e = (kind-within T t (λ z. omega (arith, l.yes e)), l.yes e)
