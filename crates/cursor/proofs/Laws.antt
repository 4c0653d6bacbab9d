-- Laws of the lent reader, over the answers at its position (`Items.antt`'s `varuint-fair`, `number-fair`, `span-fair`).
use mathlib.Core.Path.{◌≡◌, refl, ap}
use mathlib.Core.List.{List}
use mathlib.Core.Bool.{not, ◌||◌}
use mathlib.Core.Logic.{◌⊎◌, inl, inr}
use Prim.Native.Nat.{ℕ, ◌+◌, ◌-◌, ◌≤◌}
use native.Mathlib.Omega.{arith}
use borrow.Author.Tests.{ne_eqb}
use lib.Dec.{eqb, ltb}
use lib.ListN.{length, length-drop}
use Rattle.wire.specs.Little.{little}
use Rattle.wire.proofs.Cases.{differ}
use Rattle.parse.specs.Reader.{Cursor, Answer, refused, seen, Reader, and_then, check, cursor_at, block}
use Rattle.schema.specs.Table.{scalar, width}
use Rattle.value.specs.Read.{plain, own}
use Rattle.cursor.specs.declared.Reader.{Reader as Lent}
use Rattle.cursor.specs.Number as Number
use Rattle.cursor.specs.Span as Span
use Rattle.cursor.specs.Item.{ContentSpan, content_of, fixed_number, number_step_of, span_step, varuint_at, span_at, Fair, cut, malformed, past}
use Rattle.cursor.specs.Lent.{standing}
use Rattle.cursor.proofs.Items.{step-seen, whole-span}

-- What is left and the position make up the payload.
pub left_is : (r : Lent) → length (standing r).left ≡ length r.payload.now - r.at
left_is r = length-drop r.at r.payload.now

module _ (p : List ℕ) (from : ℕ) where
  -- Reading moves neither back nor past the end.
  pub number-within : (a : Answer ℕ) → Fair p from a → from ≤ length p → (from ≤ (number_step_of from a).next) × ((number_step_of from a).next ≤ length p)
  number-within a cut h = (omega arith, h)
  number-within a malformed h = (omega arith, h)
  number-within a (past l m) h = (omega arith, m)

  pub span-within : (a : Answer ContentSpan) → Fair p from a → from ≤ length p → (from ≤ (span_step from a).next) × ((span_step from a).next ≤ length p)
  span-within a cut h = (omega arith, h)
  span-within a malformed h = (omega arith, h)
  span-within a (past l m) h = (omega arith, m)

  -- A refusal is 20 or 21 at the position, which it leaves as it is.
  pub number-refusal : (a : Answer ℕ) → Fair p from a → (n q : ℕ) → (number_step_of from a).item ≡ Number.Refused n q → ((n ≡ 20) ⊎ (n ≡ 21)) × (q ≡ from) × ((number_step_of from a).next ≡ from)
  number-refusal a cut n q e = (inl cc, cc, refl)
  number-refusal a malformed n q e = (inr cc, cc, refl)
  number-refusal a (past l m) n q e = differ cc

  pub span-refusal : (a : Answer ContentSpan) → Fair p from a → (n q : ℕ) → (span_step from a).item ≡ Span.Refused n q → ((n ≡ 20) ⊎ (n ≡ 21)) × (q ≡ from) × ((span_step from a).next ≡ from)
  span-refusal a cut n q e = (inl cc, cc, refl)
  span-refusal a malformed n q e = (inr cc, cc, refl)
  span-refusal a (past l m) n q e = differ cc

  -- Two reads in turn are the two in the definition: after an item, the second reads at the cursor that the moved reader stands for.
  pub number-turn : {B : Type 0} (a : Answer ℕ) → Fair p from a → (v : ℕ) → (number_step_of from a).item ≡ Number.Is v → (f : ℕ → Reader B) → and_then a f ≡ f v (cursor_at p (number_step_of from a).next)
  unfolding and_then
  number-turn a w v e f = ap (λ (x : Answer ℕ). and_then x f) (step-seen p from a v w e)

  pub span-turn : {B : Type 0} (a : Answer ContentSpan) → Fair p from a → (place size : ℕ) → (span_step from a).item ≡ Span.At place size → (f : ContentSpan → Reader B)
      → and_then a f ≡ f (record { place = place; size = size }) (cursor_at p (span_step from a).next)
  unfolding and_then
  span-turn a cut place size e f = differ cc
  span-turn a malformed place size e f = differ cc
  span-turn a (past {a = s} {next} l m) place size e f =
      let x : s.place ≡ place = cc in
      let y : s.size ≡ size = cc in
      λ i. f (record { place = x i; size = y i }) (cursor_at p next)

  -- A span is a VarUInt, and as many bytes.
  pub span-by-turns : (v : ℕ) → (varuint_at p from).item ≡ Number.Is v → v ≤ length p - (varuint_at p from).next
      → span_at p from ≡ record { item = Span.At (varuint_at p from).next v; next = (varuint_at p from).next + v }
  span-by-turns v e h = ap (span_step from) (whole-span p from (varuint_at p from) refl v e h)

-- The number of a scalar's width is that of the scalar's content.
pub scalar-number : (kind : ℕ) (c : Cursor) → (kind ≡ 1 → ⊥) → fixed_number (width kind) c ≡ and_then (own (scalar kind) c) (λ o c. seen (little (content_of o)) c)
unfolding fixed_number and_then check
scalar-number kind c k = go (block (width kind) c)
  where
    go : (a : Answer (List ℕ)) → and_then a (λ x c. seen (little x) c) ≡ and_then (and_then a (λ x c'. and_then (check (not (eqb kind 1) || ltb (little x) 2) 22 c.at c') (λ _ c. seen (plain x) c))) (λ o c. seen (little (content_of o)) c)
    go (refused n q) = refl
    go (seen x c') = rw (ne_eqb kind 1 k)
