-- Laws of the leaves: what each of their returns shows of the reading in the crate `value`.
use mathlib.Core.Path.{◌≡◌, sym, ap, ◌∙◌}
use mathlib.Core.Bool.{true, false, not, ◌||◌}
use mathlib.Core.List.{List}
use Prim.Native.Nat.{ℕ, ◌+◌, ◌-◌, ◌*◌, ◌≤◌, ◌<◌}
use native.Mathlib.Nat.{mul-le-mul}
use native.Mathlib.Omega.{arith}
use borrow.Author.Tests.{eq-eqb}
use lib.Dec.{ltb, eqb}
use lib.ListN.{length, get_or, length-drop, length-take}
use Rattle.std.proofs.Common.{Err}
use Rattle.buffer.specs.Span.{span}
use Rattle.wire.specs.Little.{little}
use Rattle.constants.specs.Number.{number_of}
use Rattle.wire.specs.declared.varuint.VarUIntError.{VarUIntError}
use Rattle.wire.specs.declared.varuint.VarUIntError.TheVariants.{Cut as CutError, Malformed as MalformedError}
use Rattle.wire.specs.Varuint.{varuint, told, refusal_of, Number, Cut, Malformed}
use Rattle.utf8.specs.Utf8.{utf8}
use Rattle.wire.proofs.Varuints.{varuint-inside}
use Rattle.parse.specs.Reader.{seen, and_then, check, cursor_at, block, Accepted, count}
use Rattle.parse.proofs.Answers.{accepted-check}
use Rattle.parse.proofs.Places.{var_here, cut-here, malformed-here, block_here, block-short, count-stops, count-short, count-here}
use Rattle.schema.specs.Table.{scalar, text, width}
use Rattle.value.specs.Read.{plain, own}
use Rattle.value.proofs.Spans.{scalar_untrue}
use Rattle.flat.specs.Count.{Count, Is, Refused as CountRefused}
use Rattle.flat.specs.Span.{At, Refused as SpanRefused}
use Rattle.flat.specs.Leaf.{between, count_of, CountIn, CountRead, Spanned}

-- ---- parts of the payload

pub length-between : (p : List ℕ) (from to : ℕ) → to ≤ length p → length (between p from to) ≡ to - from
length-between p from to h = simp (length-take, length-drop) (omega arith)

module _ (p : List ℕ) (at : ℕ) where
  between_is : (n : ℕ) → between p at (at + n) ≡ span p at n
  between_is n = let e : at + n - at ≡ n = omega arith in rw e

  -- ---- counts

  module _ (least : ℕ) where
    pub count_cut : varuint p at ≡ Cut → CountRead p at least (count least (cursor_at p at)) (CountRefused 20)
    count_cut e = record { same = sym (count-stops p at least 20 at (cut-here p at e)); within = tt }

    pub count-malformed : varuint p at ≡ Malformed → CountRead p at least (count least (cursor_at p at)) (CountRefused 21)
    count-malformed e = record { same = sym (count-stops p at least 21 at (malformed-here p at e)); within = tt }

    -- why no count is read, by its number
    pub count-fault : (e : VarUIntError) → varuint p at ≡ told (Err e) → CountRead p at least (count least (cursor_at p at)) (CountRefused (number_of (refusal_of e)))
    count-fault CutError e = count_cut e
    count-fault MalformedError e = count-malformed e

    module _ (n next : ℕ) (is : varuint p at ≡ Number n next) where
      pub count-large : length p - next < least * n → CountRead p at least (count least (cursor_at p at)) (CountRefused 20)
      count-large h = record { same = sym (count-short p at least n next (var_here p at n next is) h); within = tt }

      pub count-above : 0 < least → length p - next < n → CountRead p at least (count least (cursor_at p at)) (CountRefused 20)
      count-above z h =
          let m : 1 * n ≤ least * n = mul-le-mul {n₁ = 1} {m₁ = n} (omega arith) (omega arith) in
          count-large (omega arith)

      pub count-is : least * n ≤ length p - next → CountRead p at least (count least (cursor_at p at)) (Is n next)
      count-is h =
          let i = varuint-inside p at n next is in
          record { same = sym (count-here p at least n next (var_here p at n next is) h); within = (i.0, omega arith) }

-- ---- scalars

module _ (p : List ℕ) (kind at w : ℕ) (is : w ≡ width kind) where
  pub scalar-cut : length p - at < w → Spanned p at (own (scalar kind) (cursor_at p at)) (SpanRefused at 20)
  unfolding and_then
  scalar-cut h = record { same = rw (← is, block-short p at w h); within = tt }

  module _ (room : at + w ≤ length p) where
    pub scalar-at : (not (eqb kind 1) || ltb (little (span p at w)) 2) ≡ true → 0 < w → Spanned p at (own (scalar kind) (cursor_at p at)) (At at (at + w))
    unfolding and_then check
    scalar-at t z = record { same = rw (between_is p at w, ← is, block_here p at w (omega arith), t); within = (omega arith, room, omega arith) }

    pub scalar_bad : kind ≡ 1 → 1 < get_or p at 0 → Spanned p at (own (scalar kind) (cursor_at p at)) (SpanRefused at 22)
    unfolding and_then check
    scalar_bad k h =
        record { same = rw (← is, block_here p at w (omega arith), scalar_untrue p kind at w is room k h, eq-eqb kind 1 k); within = tt }

-- ---- strings and bytes

module _ (p : List ℕ) (kind at : ℕ) (r : Count) (counted : CountRead p at 1 (count 1 (cursor_at p at)) r) where
  pub text-refused : (number : ℕ) → r ≡ CountRefused number → Spanned p at (own (text kind) (cursor_at p at)) (SpanRefused at number)
  unfolding and_then
  text-refused number e = record { same = rw (sym counted.same, e); within = tt }

  module _ (n start : ℕ) (is : r ≡ Is n start) where
    pub text_in : (at < start) × (start + n ≤ length p)
    text_in =
        let v : CountIn (length p) at 1 (Is n start) = rw is at counted.within in
        omega arith

    read_as : count 1 (cursor_at p at) ≡ seen n (cursor_at p start)
    read_as = sym counted.same ∙ ap (count_of p at) is

    content-read : block n (cursor_at p start) ≡ seen (span p start n) (cursor_at p (start + n))
    content-read = let i = text_in in block_here p start n (omega arith)

    pub text-known : kind ≡ 12 → Accepted (own (text kind) (cursor_at p at)) → utf8 (span p start n) ≡ true
    unfolding and_then
    text-known k h =
        (accepted-check (utf8 (span p start n)) 23 start (cursor_at p (start + n)) (λ _ c. seen (plain (span p start n)) c)
        (rw (read_as, content-read, eq-eqb kind 12 k) at h)).0

    pub text_bad : kind ≡ 12 → utf8 (span p start n) ≡ false → Spanned p at (own (text kind) (cursor_at p at)) (SpanRefused start 23)
    unfolding and_then check
    text_bad k e = record { same = rw (read_as, content-read, e, eq-eqb kind 12 k); within = tt }

    pub text_at : (not (eqb kind 12) || utf8 (span p start n)) ≡ true → Spanned p at (own (text kind) (cursor_at p at)) (At start (start + n))
    unfolding and_then check
    text_at t = record { same = rw (between_is p start n, read_as, content-read, t); within = (omega arith, text_in.1, omega (arith, text_in.0)) }
