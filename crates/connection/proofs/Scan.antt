-- One turn of a loop over a list, for every definition that recurses on it: the rest at i is the element at i before the rest at i + 1.
-- And what the loop has shown that tests whether a call table is good.
use Rattle.std.specs.Prelude.{None, Some}
use mathlib.Core.Path.{◌≡◌, refl, sym, ◌∙◌, ap}
use mathlib.Core.Bool.{Bool, true, false, cond, ◌&&◌}
use mathlib.Core.List.{List, [], ◌∷◌, ◌++◌, append_assoc, append-nil}
use Prim.Native.Nat.{ℕ, zero, suc, ◌+◌, ◌-◌, ◌<◌, ◌≤◌}
use native.Mathlib.Numerals.{add-one}
use native.Mathlib.Omega.{arith}
use lib.ListN.{length, get_or, drop, drop_of_length-le, length-append}
use lib.Seq.{drop-cons}
use Rattle.std.specs.Option.{is_some}
use Rattle.schema.specs.Table.{Table}
use Rattle.schema.proofs.Bools.{and_left, and_right}
use Rattle.calls.specs.declared.Call.{Call}
use Rattle.calls.specs.Record.{empty_call}
use Rattle.calls.specs.Slots.{slot, count_open, good_call, good_calls, open_ids, distinct, good_table}
use Rattle.connection.specs.Slots.{all_from, good_count}

module _ {A : Type 0} (d : A) (l : List A) (i : ℕ) where
  pub rest-step : i < length l → drop i l ≡ get_or l i d ∷ drop (i + 1) l
  rest-step h = rw add-one (drop-cons l i d h)

  pub rest_end : length l ≤ i → drop i l ≡ []
  rest_end h = drop_of_length-le l h

-- ---- n slots that pass, from the i-th on
all-one : (p : ℕ → Bool) (i n : ℕ) → all_from p i (suc n) ≡ (p i && all_from p (suc i) n)
unfolding all_from
all-one p i n = refl

pub all-none : (p : ℕ → Bool) (i : ℕ) → all_from p i 0 ≡ true
unfolding all_from
all-none p i = refl

pub all-pass : (i n : ℕ) → all_from (λ j. true) i n ≡ true
unfolding all_from
all-pass i zero = refl
all-pass i (suc n) = all-pass (suc i) n

-- ---- the loop of the goodness test: the records passed fit and are good, and ids holds the correlations of the open ones
pub record Gathered (fits : ℕ → Bool) (T : Table) (l : List Call) (ids : List ℕ) (i : ℕ) : Type 0 where
  pub fitting : all_from fits 0 128 ≡ all_from fits i (128 - i)
  pub good : good_calls T l ≡ good_calls T (drop i l)
  pub copied : ids ++ open_ids (drop i l) ≡ open_ids l
  pub few : length ids ≤ i

pub gathered_none : (fits : ℕ → Bool) (T : Table) (l : List Call) → Gathered fits T l [] 0
gathered_none fits T l = record { fitting = refl; good = refl; copied = refl; few = omega arith }

and-false : (b : Bool) → (b && false) ≡ false
and-false true = refl
and-false false = refl

ids_counted : (l : List Call) → length (open_ids l) ≡ count_open l
ids_counted [] = refl
ids_counted (x ∷ xs) = go x.«open» (ids_counted xs)
  where
    go : (b : Bool) → length (open_ids xs) ≡ count_open xs → length (cond b (x.correlation ∷ open_ids xs) (open_ids xs)) ≡ cond b (suc (count_open xs)) (count_open xs)
    go true e = ap suc e
    go false e = e

module _ (fits : ℕ → Bool) (T : Table) (l : List Call) (ids : List ℕ) (i : ℕ) (g : Gathered fits T l ids i) (n : 128 ≡ length l) where
  module _ (h : i < 128) where
    here : i < length l
    here = omega (arith, h, n)

    left : 128 - i ≡ suc (128 - suc i)
    left = omega (arith, h)

    fitting-here : all_from fits 0 128 ≡ (fits i && all_from fits (suc i) (128 - suc i))
    fitting-here = g.fitting ∙ rw left (all-one fits i (128 - suc i))

    pub gathered-bad : (fits i && good_call T (slot l i)) ≡ false → None ≡ good_count fits T l
    unfolding good_table
    gathered-bad t = go (fits i) refl t
      where
        go : (b : Bool) → fits i ≡ b → (b && good_call T (slot l i)) ≡ false → None ≡ good_count fits T l
        go true q e = rw (g.good, rest-step empty_call l i here, e, and-false (all_from fits 0 128))
        go false q e = rw (fitting-here, q)

    module _ (t : (fits i && good_call T (slot l i)) ≡ true) where
      one : suc i ≡ i + 1
      one = omega arith

      next-fitting : all_from fits 0 128 ≡ all_from fits (i + 1) (128 - (i + 1))
      next-fitting = fitting-here ∙ rw (and_left (fits i) (good_call T (slot l i)) t, one)

      next-good : good_calls T l ≡ good_calls T (drop (i + 1) l)
      next-good = g.good ∙ rw (rest-step empty_call l i here, and_right (fits i) (good_call T (slot l i)) t)

      next_ids : ids ++ open_ids (slot l i ∷ drop (i + 1) l) ≡ open_ids l
      next_ids = rw (rest-step empty_call l i here) at g.copied

      pub gathered-open : (slot l i).«open» ≡ true → Gathered fits T l (ids ++ ((slot l i).correlation ∷ [])) (i + 1)
      gathered-open o =
          record {
            fitting = next-fitting;
            good = next-good;
            copied = append_assoc ids ((slot l i).correlation ∷ []) (open_ids (drop (i + 1) l)) ∙ rw o at next_ids;
            few = omega (arith, g.few, length-append ids ((slot l i).correlation ∷ []));
          }

      pub gathered-free : (slot l i).«open» ≡ false → Gathered fits T l ids (i + 1)
      gathered-free o = record { fitting = next-fitting; good = next-good; copied = rw o at next_ids; few = omega (arith, g.few) }

  module _ (h : 128 ≤ i) where
    all-ids : ids ≡ open_ids l
    all-ids = sym (append-nil ids) ∙ rw (rest_end empty_call l i (omega (arith, h, n))) at g.copied

    end-good : good_calls T l ≡ true
    end-good = g.good ∙ rw (rest_end empty_call l i (omega (arith, h, n)))

    end-fits : all_from fits 0 128 ≡ true
    end-fits =
        let none : 128 - i ≡ 0 = omega (arith, h) in
        g.fitting ∙ rw none (all-none fits i)

    pub gathered-end : distinct ids ≡ true → Some (length ids) ≡ good_count fits T l
    unfolding good_table
    gathered-end t = rw (end-fits, end-good, sym all-ids, t) (ap (λ (x : ℕ). Some x) (ap length all-ids ∙ ids_counted l))

    pub gathered-same : distinct ids ≡ false → None ≡ good_count fits T l
    unfolding good_table
    gathered-same t = rw (end-fits, end-good, sym all-ids, t)

-- records that fit whatever they hold
pub good_alone : (T : Table) (l : List Call) → is_some (good_count (λ i. true) T l) ≡ good_table T l
good_alone T l = rw (all-pass 0 128) (go (good_table T l))
  where
    go : (b : Bool) → is_some (cond b (Some (count_open l)) None) ≡ b
    go true = refl
    go false = refl
