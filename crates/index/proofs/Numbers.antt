-- The answers of making an index and of a look-up in their numbers.
use mathlib.Core.Path.{◌≡◌, refl, ap, subst, ◌∙◌}
use mathlib.Core.Logic.{◌↔◌}
use mathlib.Core.List.{List}
use Prim.Native.Nat.{ℕ, ◌<◌}
use native.Mathlib.Omega.{arith}
use lib.ListN.{length}
use Rattle.wire.specs.Little.{Bytes}
use Rattle.index.specs.Indexing.{Indexing}
use Rattle.index.specs.Indexing.{Made, Refused}
use Rattle.index.specs.Finding.{Finding}
use Rattle.index.specs.Finding.{Printed, Refused as Unprinted}
use Rattle.index.specs.Row.{Row}
use Rattle.index.specs.Index.{Outcome, outcome, make_index, index_number, index_place, index_length}
use Rattle.index.specs.LookUp as look
use Rattle.index.specs.Claims.{Accepted, Refuses, Judges, right, other_record, no_index, Finds, prints, no_space}
use Rattle.index.proofs.Statements.{made-iff, refused-iff, refused-above, looked-up, looked-up-iff}

-- ---- making an index

-- the whole outcome from its two parts
whole : (o : Outcome) (r : Indexing) (after : List ℕ) → o.answer ≡ r → o.out ≡ after → o ≡ outcome r after
whole o r after e f = λ i. outcome (e i) (f i)

module _ (schema entries out after : List ℕ) where
  abbrev made : Outcome
  made = make_index schema entries out

  -- 0 comes back with place 0 and a length exactly for the index of the record's rows, where the schema table is good, the record short enough and the output
  -- large enough.
  pub zero-iff-made : (n : ℕ)
      → ((index_number made.answer ≡ 0) × (index_place made.answer ≡ 0) × (index_length made.answer ≡ n) × (made.out ≡ after))
      ↔ Accepted schema entries out n after
  zero-iff-made n = (
    λ (z, q, l, o). (made-iff schema entries out n after).0 (whole made (Made n) after (go made.answer refl z l) o),
    λ a. let e = (made-iff schema entries out n after).1 a in rw e (refl, refl, refl, refl),
  )
    where
      go : (r : Indexing) → made.answer ≡ r → index_number r ≡ 0 → index_length r ≡ n → made.answer ≡ Made n
      go (Made m) e z l = e ∙ ap Made l
      go (Refused number place) e z l = absurd (omega (arith, refused-above schema entries out e, z))

  -- Any other number comes back with a place and length 0 exactly for its fault, and leaves the output as it was.
  pub number-iff-refused : (number place : ℕ) → 0 < number
      → ((index_number made.answer ≡ number) × (index_place made.answer ≡ place) × (index_length made.answer ≡ 0) × (made.out ≡ after))
      ↔ (Refuses schema entries out number place × (after ≡ out))
  number-iff-refused number place above = (
    λ (z, q, l, o). (refused-iff schema entries out number place after).0 (whole made (Refused number place) after (go made.answer refl z q) o),
    λ w. let e = (refused-iff schema entries out number place after).1 w in rw e (refl, refl, refl, refl),
  )
    where
      go : (r : Indexing) → made.answer ≡ r → index_number r ≡ number → index_place r ≡ place → made.answer ≡ Refused number place
      go (Made m) e z q = absurd (omega (arith, above, z))
      go (Refused k p) e z q = e ∙ cc (z, q)

-- ---- a look-up

-- 52 is judged of nothing
judged-other : {index : List ℕ} {size number : ℕ} {rows : List Row} → Judges index size number rows → number ≡ 52 → ⊥
judged-other (right w) e = omega (arith, e)
judged-other (other_record w h) e = omega (arith, e)
judged-other (no_index none) e = omega (arith, e)

-- and every text that does not fit has it
abbrev Known : Finding → Type 0
Known (Printed number n) = number ≡ 52 → ⊥
Known (Unprinted number) = number ≡ 52

known : {index out : List ℕ} {size c : ℕ} {o : look.Outcome} → Finds index size c out o → Known o.answer
known (prints text j e h) = judged-other j
known (no_space j h) = refl

module _ (index entries : List ℕ) (c : ℕ) (out after : List ℕ) (b : Bytes index) where
  abbrev found : look.Outcome
  found = look.look_up index entries c out

  abbrev Found : look.Outcome → Type 0
  Found = Finds index (length entries) c out

  -- A number other than 52 comes back with a length exactly where it was judged of the index, and the text, which has that length, fits and is put.
  pub number-iff-printed : (number n : ℕ) → (number ≡ 52 → ⊥)
      → ((look.find_number found.answer ≡ number) × (look.find_length found.answer ≡ n) × (found.out ≡ after)) ↔ Found (look.outcome (Printed number n) after)
  number-iff-printed number n other = (
    λ (z, l, o). go found.answer found.out (looked-up index entries c out b) z l o,
    λ w. let e = (looked-up-iff index entries c out b (look.outcome (Printed number n) after)).1 w in rw e (refl, refl, refl),
  )
    where
      go : (r : Finding) (left : List ℕ) → Found (look.outcome r left) → look.find_number r ≡ number → look.find_length r ≡ n → left ≡ after → Found (look.outcome (Printed number n) after)
      go (Printed k m) left w z l o = subst Found (λ i. look.outcome (Printed (z i) (l i)) (o i)) w
      go (Unprinted k) left w z l o = absurd (other (omega (arith, known w, z)))

  -- 52 comes back with length 0 exactly where the text does not fit, and the output is as it was.
  pub full-iff-no_space : ((look.find_number found.answer ≡ 52) × (look.find_length found.answer ≡ 0) × (found.out ≡ after)) ↔ Found (look.outcome (Unprinted 52) after)
  full-iff-no_space = (
    λ (z, l, o). go found.answer found.out (looked-up index entries c out b) z o,
    λ w. let e = (looked-up-iff index entries c out b (look.outcome (Unprinted 52) after)).1 w in rw e (refl, refl, refl),
  )
    where
      go : (r : Finding) (left : List ℕ) → Found (look.outcome r left) → look.find_number r ≡ 52 → left ≡ after → Found (look.outcome (Unprinted 52) after)
      go (Printed k m) left w z o = absurd (known w z)
      go (Unprinted k) left w z o = subst Found (λ i. look.outcome (Unprinted (z i)) (o i)) w
