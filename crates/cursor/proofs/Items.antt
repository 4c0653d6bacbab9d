-- What the readers of items answer at a place of a payload.
use mathlib.Core.Path.{◌≡◌, refl, sym, ap, ◌∙◌}
use mathlib.Core.List.{List}
use mathlib.Core.Bool.{Bool, true, false}
use Prim.Native.Nat.{ℕ, ◌+◌, ◌-◌, ◌≤◌, ◌<◌}
use native.Mathlib.Omega.{arith}
use borrow.Author.Tests.{leb-true, leb-false}
use lib.Dec.{leb}
use lib.ListN.{length, take, drop}
use Rattle.std.proofs.Common.{Err}
use Rattle.constants.specs.Number.{number_of}
use Rattle.wire.specs.Little.{little}
use Rattle.wire.specs.declared.varuint.VarUIntError.{VarUIntError}
use Rattle.wire.specs.declared.varuint.VarUIntError.TheVariants.{Cut as CutError, Malformed as MalformedError}
use Rattle.wire.specs.Varuint.{varuint, told, refusal_of, VarUInt, Number, Cut, Malformed}
use Rattle.wire.proofs.Varuints.{varuint-inside}
use Rattle.wire.proofs.Cases.{differ}
use Rattle.parse.specs.Reader.{Answer, refused, seen, and_then, cursor_at, var_u_int, count}
use Rattle.parse.proofs.Places.{var_here, cut-here, malformed-here, block_here, block-short, count-stops, count-short, count-here}
use Rattle.cursor.specs.Number.{NumberStep}
use Rattle.cursor.specs.Number.{Is, Refused}
use Rattle.cursor.specs.Item.{fixed_number, span_item, number_step_of, varuint_at, Fair, cut, malformed, past}

module _ (p : List ℕ) (from : ℕ) where
  -- ---- VarUInts

  pub varuint-fair : Fair p from (var_u_int (cursor_at p from))
  varuint-fair = go (varuint p from) refl
    where
      go : (r : VarUInt) → varuint p from ≡ r → Fair p from (var_u_int (cursor_at p from))
      go (Number n next) e =
          let i = varuint-inside p from n next e in
          rw (var_here p from n next e) (past i.0 i.1)
      go Cut e = rw (cut-here p from e) cut
      go Malformed e = rw (malformed-here p from e) malformed

  -- No VarUInt: the refusal by its number, at the place.
  pub no-varuint : (e : VarUIntError) → varuint p from ≡ told (Err e) → record { item = Refused (number_of (refusal_of e)) from; next = from } ≡ varuint_at p from
  no-varuint CutError is = ap (number_step_of from) (sym (cut-here p from is))
  no-varuint MalformedError is = ap (number_step_of from) (sym (malformed-here p from is))

  -- ---- numbers

  number_is : (n : ℕ) → n ≤ length p - from → fixed_number n (cursor_at p from) ≡ seen (little (take n (drop from p))) (cursor_at p (from + n))
  unfolding fixed_number and_then
  number_is n h = rw (block_here p from n h)

  pub number_cut : (n : ℕ) → length p - from < n → fixed_number n (cursor_at p from) ≡ refused 20 from
  unfolding fixed_number and_then
  number_cut n h = rw (block-short p from n h)

  pub number_step : (w n v : ℕ) → n ≡ w → n ≤ length p - from → v ≡ little (take n (drop from p)) → record { item = Is v; next = from + n } ≡ number_step_of from (fixed_number w (cursor_at p from))
  number_step w n v e h k = rw (← e, number_is n h, k)

  pub number-fair : (n : ℕ) → 0 < n → Fair p from (fixed_number n (cursor_at p from))
  number-fair n z = go (leb n (length p - from)) refl
    where
      go : (b : Bool) → leb n (length p - from) ≡ b → Fair p from (fixed_number n (cursor_at p from))
      go true e =
          let l = leb-true n (length p - from) e in
          rw (number_is n l) (past {next = from + n} (omega arith) (omega arith))
      go false e = rw (number_cut n (leb-false n (length p - from) e)) cut

-- ---- lengths: a count of bytes

-- The answer to a length: as to an item, and the bytes that it counts are there.
pub data Sized (p : List ℕ) (from : ℕ) : Answer ℕ → Type 0 where
  large : Sized p from (refused 20 from)
  broken : Sized p from (refused 21 from)
  room : {n start : ℕ} → from < start → start + n ≤ length p → Sized p from (seen n (cursor_at p start))

module _ (p : List ℕ) (from : ℕ) where
  module _ (n start : ℕ) (is : var_u_int (cursor_at p from) ≡ seen n (cursor_at p start)) where
    count-either : from < start → start ≤ length p → Sized p from (count 1 (cursor_at p from))
    count-either l m = go (leb n (length p - start)) refl
      where
        go : (b : Bool) → leb n (length p - start) ≡ b → Sized p from (count 1 (cursor_at p from))
        go true e =
            let k = leb-true n (length p - start) e in
            rw (count-here p from 1 n start is (omega arith)) (room {n = n} {start = start} l (omega arith))
        go false e =
            let k = leb-false n (length p - start) e in
            rw (count-short p from 1 n start is (omega arith)) large

  pub count-sized : Sized p from (count 1 (cursor_at p from))
  count-sized = go (var_u_int (cursor_at p from)) refl (varuint-fair p from)
    where
      go : (a : Answer ℕ) → var_u_int (cursor_at p from) ≡ a → Fair p from a → Sized p from (count 1 (cursor_at p from))
      go a e cut = rw (count-stops p from 1 _ _ e) large
      go a e malformed = rw (count-stops p from 1 _ _ e) broken
      go a e (past {a = n} {next = start} l m) = count-either n start e l m

  -- ---- spans

  pub span-refused : (n q : ℕ) → count 1 (cursor_at p from) ≡ refused n q → span_item (cursor_at p from) ≡ refused n q
  unfolding span_item and_then
  span-refused n q e = rw e

  pub span-here : (n start : ℕ) → count 1 (cursor_at p from) ≡ seen n (cursor_at p start) → n ≤ length p - start → span_item (cursor_at p from) ≡ seen (record { place = start; size = n }) (cursor_at p (start + n))
  unfolding span_item and_then
  span-here n start e h = rw (e, block_here p start n h)

  pub span-fair : Fair p from (span_item (cursor_at p from))
  span-fair = go (count 1 (cursor_at p from)) refl count-sized
    where
      go : (a : Answer ℕ) → count 1 (cursor_at p from) ≡ a → Sized p from a → Fair p from (span_item (cursor_at p from))
      go a e large = rw (span-refused _ _ e) cut
      go a e broken = rw (span-refused _ _ e) malformed
      go a e (room {n} {start} l m) = rw (span-here n start e (omega arith)) (past {next = start + n} (omega arith) m)

-- ---- what a step over a number says of the answer

step-refused : (from : ℕ) (a : Answer ℕ) (n q : ℕ) → (number_step_of from a).item ≡ Refused n q → a ≡ refused n q
step-refused from (refused n q) n' q' e = cc
step-refused from (seen v c) n q e = differ cc

pub step-seen : (p : List ℕ) (from : ℕ) (a : Answer ℕ) (v : ℕ) → Fair p from a → (number_step_of from a).item ≡ Is v → a ≡ seen v (cursor_at p (number_step_of from a).next)
step-seen p from a v cut e = differ cc
step-seen p from a v malformed e = differ cc
step-seen p from a v (past {a = w} {next} l m) e = ap (λ (x : ℕ). seen x (cursor_at p next)) (let k : w ≡ v = cc in k)

-- A span, by the step over its length.
module _ (p : List ℕ) (from : ℕ) (step : NumberStep) (over : step ≡ varuint_at p from) where
  pub refused-span : (n q : ℕ) → step.item ≡ Refused n q → span_item (cursor_at p from) ≡ refused n q
  refused-span n q e = span-refused p from n q (count-stops p from 1 n q (step-refused from _ n q (ap (λ (s : NumberStep). s.item) (sym over) ∙ e)))

  module _ (v : ℕ) (is : step.item ≡ Is v) where
    length_seen : var_u_int (cursor_at p from) ≡ seen v (cursor_at p step.next)
    length_seen =
        step-seen p from _ v (varuint-fair p from) (ap (λ (s : NumberStep). s.item) (sym over) ∙ is)
        ∙ ap (λ (s : NumberStep). seen v (cursor_at p s.next)) (sym over)

    pub long-span : length p - step.next < v → span_item (cursor_at p from) ≡ refused 20 from
    long-span h = span-refused p from 20 from (count-short p from 1 v step.next length_seen (omega arith))

    pub whole-span : v ≤ length p - step.next → span_item (cursor_at p from) ≡ seen (record { place = step.next; size = v }) (cursor_at p (step.next + v))
    whole-span h = span-here p from v step.next (count-here p from 1 v step.next length_seen (omega arith)) h
