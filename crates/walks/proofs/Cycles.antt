-- A walker of a cycle of calls: what it is asked at its measure, and what a walker that calls it is to show, at a smaller one.
use Rattle.std.proofs.Common.{ℕ, ◌<◌, List}
use borrow.Fn.Kind.{ParamKind}
use borrow.Fn.Kinds.{In}
use borrow.Fn.PlainCycle.{Measures, is, falls, and}

-- Its lifetimes and parameters, its measure, and its `requires`.
pub record Member : Type 3 where
  pub n : ℕ
  pub ps : List (ParamKind n)
  pub μ : Measures n ps ℕ
  pub Pre : In n ps

abbrev pub at-measure : (m : Member) → ℕ → In m.n m.ps
at-measure m t = and m.n m.ps (is m.n m.ps m.μ t) m.Pre

abbrev pub below-measure : (m : Member) → ℕ → In m.n m.ps
below-measure m t = and m.n m.ps (falls m.n m.ps ◌<◌ m.μ t) m.Pre
