-- The table check and the extension test in 01's numbers.
use mathlib.Core.Path.{◌≡◌, refl, sym, ap, ap₂, subst, ◌∙◌}
use mathlib.Core.Logic.{◌⊎◌, inl, inr, ⊎_elim, ◌↔◌}
use mathlib.Core.Bool.{Bool, true, false}
use mathlib.Core.List.{List}
use Prim.Native.Nat.{ℕ, ◌<◌}
use native.Mathlib.Omega.{arith}
use Rattle.schema.specs.Checked.{Checked}
use Rattle.schema.specs.Checked.{Good, Refused}
use Rattle.schema.specs.Extended.{Extended}
use Rattle.schema.specs.Extended.{Yes, No, Refused as Faulty}
use Rattle.schema.specs.File.{table_of}
use Rattle.schema.specs.Check.{checked}
use Rattle.schema.specs.Good.{GoodFile}
use Rattle.schema.specs.Faults.{TableFault}
use Rattle.schema.specs.Extend.{Extends, extended, extension}
use Rattle.schema.specs.Numbers.{check_number, check_place, extend_number, extend_place, extend_answer}
use Rattle.schema.proofs.Goods.{good-iff}
use Rattle.schema.proofs.Faults.{refused-iff}
use Rattle.schema.proofs.Numbered.{listed, listed-bounds}
use Rattle.schema.proofs.Extensions.{old-refused, new-refused, answer-yes, answer-no}
use Rattle.schema.proofs.Extending.{yes_iff, no_iff}

-- ---- the table check

module _ (s : List ℕ) where
  above : (n q : ℕ) → checked s ≡ Refused n q → 0 < n
  above n q e = omega (arith, (listed-bounds (table_of s) (listed s n q e)).0)

  -- Number 0 comes back exactly for a good file,
  pub zero-iff-good : (check_number (checked s) ≡ 0) ↔ GoodFile s
  zero-iff-good = (λ z. (good-iff s).0 (go (checked s) refl z), λ g. ap check_number ((good-iff s).1 g))
    where
      go : (c : Checked) → checked s ≡ c → check_number c ≡ 0 → checked s ≡ Good
      go Good e z = e
      go (Refused n q) e z = absurd (omega (arith, above n q e, z))

  -- and any other number with a row exactly for its reason.
  pub number-iff-fault : (n q : ℕ) → 0 < n → ((check_number (checked s) ≡ n) × (check_place (checked s) ≡ q)) ↔ TableFault s n q
  number-iff-fault n q h = (λ (e, f). (refused-iff s n q).0 (go (checked s) refl e f), λ w. let e = (refused-iff s n q).1 w in (ap check_number e, ap check_place e))
    where
      go : (c : Checked) → checked s ≡ c → check_number c ≡ n → check_place c ≡ q → checked s ≡ Refused n q
      go Good e f g = absurd (omega (arith, h, f))
      go (Refused m p) e f g = e ∙ ap₂ Refused f g

-- ---- the extension test

module _ (old new : List ℕ) where
  -- what an answer tells: the first table's refusal, old first; or yes or no for two good ones
  data Ways : Extended → Type 0 where
    old_bad : {n q : ℕ} → TableFault old n q → 0 < n → Ways (Faulty n q)
    new_bad : {n q : ℕ} → GoodFile old → TableFault new n q → 0 < n → Ways (Faulty n q)
    yes : GoodFile old → GoodFile new → Extends (table_of old) (table_of new) → Ways Yes
    no : GoodFile old → GoodFile new → (Extends (table_of old) (table_of new) → ⊥) → Ways No

  ways : Ways (extension old new)
  ways = go (checked old) (checked new) (extended (table_of old) (table_of new)) refl refl refl
    where
      go : (c d : Checked) (b : Bool) → checked old ≡ c → checked new ≡ d → extended (table_of old) (table_of new) ≡ b → Ways (extension old new)
      go (Refused m p) d b e f g = subst Ways (old-refused old new m p e) (old_bad ((refused-iff old m p).0 e) (above old m p e))
      go Good (Refused m p) b e f g = subst Ways (new-refused old new e m p f) (new_bad ((good-iff old).0 e) ((refused-iff new m p).0 f) (above new m p f))
      go Good Good true e f g =
          let is = answer-yes old new e f g in
          subst Ways is (yes ((good-iff old).0 e) ((good-iff new).0 f) ((yes_iff old new e f).0 (sym is)))
      go Good Good false e f g =
          let is = answer-no old new e f g in
          subst Ways is (no ((good-iff old).0 e) ((good-iff new).0 f) ((no_iff old new e f).0 (sym is)))

  -- 0 and 1 come back exactly for two good tables of which the new one extends the old one,
  pub one-iff-extends : ((extend_number (extension old new) ≡ 0) × (extend_answer (extension old new) ≡ 1)) ↔ (GoodFile old × GoodFile new × Extends (table_of old) (table_of new))
  one-iff-extends = (
    λ (z, w). go (extension old new) ways z w,
    λ (g, h, x). let e = (yes_iff old new ((good-iff old).1 g) ((good-iff new).1 h)).1 x in (ap extend_number e, ap extend_answer e),
  )
    where
      go : (x : Extended) → Ways x → extend_number x ≡ 0 → extend_answer x ≡ 1 → GoodFile old × GoodFile new × Extends (table_of old) (table_of new)
      go x (old_bad f h) z w = absurd (omega arith)
      go x (new_bad g f h) z w = absurd (omega arith)
      go x (yes g h e) z w = (g, h, e)
      go x (no g h e) z w = absurd (omega arith)

  -- 0 and 0 for two good tables of which it does not,
  pub zero-iff-other : ((extend_number (extension old new) ≡ 0) × (extend_answer (extension old new) ≡ 0))
      ↔ (GoodFile old × GoodFile new × (Extends (table_of old) (table_of new) → ⊥))
  zero-iff-other = (
    λ (z, w). go (extension old new) ways z w,
    λ (g, h, x). let e = (no_iff old new ((good-iff old).1 g) ((good-iff new).1 h)).1 x in (ap extend_number e, ap extend_answer e),
  )
    where
      go : (x : Extended) → Ways x → extend_number x ≡ 0 → extend_answer x ≡ 0 → GoodFile old × GoodFile new × (Extends (table_of old) (table_of new) → ⊥)
      go x (old_bad f h) z w = absurd (omega arith)
      go x (new_bad g f h) z w = absurd (omega arith)
      go x (yes g h e) z w = absurd (omega arith)
      go x (no g h e) z w = (g, h, e)

  -- and any other number with a row for the old table's reason, or for the new one's where the old one is good.
  pub number-iff-either : (n q : ℕ) → 0 < n → ((extend_number (extension old new) ≡ n) × (extend_place (extension old new) ≡ q)) ↔ (TableFault old n q ⊎ (GoodFile old × TableFault new n q))
  number-iff-either n q h = (
    λ (e, f). go (extension old new) ways e f,
    ⊎_elim
        (λ w. let e = sym (old-refused old new n q ((refused-iff old n q).1 w)) in (ap extend_number e, ap extend_place e))
        (λ (g, w). let e = sym (new-refused old new ((good-iff old).1 g) n q ((refused-iff new n q).1 w)) in (ap extend_number e, ap extend_place e)),
  )
    where
      go : (x : Extended) → Ways x → extend_number x ≡ n → extend_place x ≡ q → TableFault old n q ⊎ (GoodFile old × TableFault new n q)
      go x (old_bad {n = m} {q = p} f _) e g = inl (subst (TableFault old n) g (subst (λ (k : ℕ). TableFault old k p) e f))
      go x (new_bad {n = m} {q = p} good f _) e g = inr (good, subst (TableFault new n) g (subst (λ (k : ℕ). TableFault new k p) e f))
      go x (yes _ _ _) e g = absurd (omega arith)
      go x (no _ _ _) e g = absurd (omega arith)
