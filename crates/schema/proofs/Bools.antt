-- Laws of Boolean tests: those of std by their short names here, and what std has not.
pub use Rattle.std.proofs.lemmas.Bool.{cases_Bool as cases, and_from as and_i, or_left, or_right, or_cases, or_parts as or-false, or_from as or-neither, not_from_false as not_i, false_from_ne_true as is_false}
use Rattle.std.proofs.Common.{◌≡◌, refl, sym, ◌⊎◌, inl, inr, Bool, true, false, ◌&&◌, ◌||◌}
use mathlib.Core.Bool.{false≢true}

pub clash : {A : Type 0} (b : Bool) → b ≡ true → b ≡ false → A
clash true p q = absurd (false≢true (sym q))
clash false p q = absurd (false≢true p)

pub and_left : (a b : Bool) → (a && b) ≡ true → a ≡ true
and_left true b h = refl
and_left false b h = h

pub and_right : (a b : Bool) → (a && b) ≡ true → b ≡ true
and_right true b h = h
and_right false b h = clash false h refl

-- the first of two that fails
pub and-false : (a b : Bool) → (a && b) ≡ false → (a ≡ false) ⊎ ((a ≡ true) × (b ≡ false))
and-false true b h = inr (refl, h)
and-false false b h = inl refl

pub or-none : (a : Bool) → (a || false) ≡ a
or-none true = refl
or-none false = refl

pub or_comm : (a b : Bool) → (a || b) ≡ (b || a)
or_comm true true = refl
or_comm true false = refl
or_comm false true = refl
or_comm false false = refl
