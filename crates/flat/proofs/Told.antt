-- The answers of leaves and walkers by what they tell: no two tell the same (counts and bitmaps: none that are refused at one place).
use Rattle.std.proofs.Common.{◌≡◌, refl, sym, ap, ◌∙◌, ℕ, Result, Ok, Err, IfErr}
use Rattle.constants.specs.declared.refusal.Refused as error
use Rattle.constants.proofs.Number.{named, named-number_of}
use Rattle.flat.specs.declared.Past as past
use Rattle.flat.specs.declared.leaf.Counted.{Counted}
use Rattle.flat.specs.declared.leaf.Extent.{Extent}
use Rattle.flat.specs.declared.leaf.PresenceBits.{PresenceBits}
use Rattle.flat.specs.declared.elements.InnerBits.{InnerBits}
use Rattle.flat.specs.Count as count
use Rattle.flat.specs.Span as span
use Rattle.flat.specs.Head as head
use Rattle.flat.specs.InnerHead as inner
use Rattle.flat.specs.Walk as walk
use Rattle.flat.specs.Told.{told_count, told_span, told_head, told_inner, told_walk}

-- ---- counts

abbrev count-back : (at : ℕ) → count.Count → Result Counted error.Refused
count-back at (count.Is n start) = Ok (record { n = n; start = start })
count-back at (count.Refused n) = Err (record { place = at; refusal = named n })

count-back-told : (at : ℕ) (r : Result Counted error.Refused) → IfErr r (λ e. e.place ≡ at) → count-back at (told_count r) ≡ r
count-back-told at (Ok r) h = refl
count-back-told at (Err e) h = ap (λ r. Err (record { place = at; refusal = r })) (named-number_of e.refusal) ∙ ap (λ q. Err (record { place = q; refusal = e.refusal })) (sym h)

pub told_count-injective : (at : ℕ) (a b : Result Counted error.Refused) → IfErr a (λ e. e.place ≡ at) → IfErr b (λ e. e.place ≡ at) → told_count a ≡ told_count b → a ≡ b
told_count-injective at a b h k e = sym (count-back-told at a h) ∙ ap (count-back at) e ∙ count-back-told at b k

-- ---- contents

abbrev span-back : span.Span → Result Extent error.Refused
span-back (span.At from to) = Ok (record { from = from; to = to })
span-back (span.Refused q n) = Err (record { place = q; refusal = named n })

span-back-told : (r : Result Extent error.Refused) → span-back (told_span r) ≡ r
span-back-told (Ok r) = refl
span-back-told (Err e) = ap (λ r. Err (record { place = e.place; refusal = r })) (named-number_of e.refusal)

pub told_span-injective : (a b : Result Extent error.Refused) → told_span a ≡ told_span b → a ≡ b
told_span-injective a b e = sym (span-back-told a) ∙ ap span-back e ∙ span-back-told b

-- ---- bitmaps

abbrev head-back : (at : ℕ) → head.Head → Result PresenceBits error.Refused
head-back at (head.Bits word known ones unknown start) = Ok (record { word = word; known = known; ones = ones; unknown = unknown; start = start })
head-back at (head.Refused n) = Err (record { place = at; refusal = named n })

head-back-told : (at : ℕ) (r : Result PresenceBits error.Refused) → IfErr r (λ e. e.place ≡ at) → head-back at (told_head r) ≡ r
head-back-told at (Ok r) h = refl
head-back-told at (Err e) h = ap (λ r. Err (record { place = at; refusal = r })) (named-number_of e.refusal) ∙ ap (λ q. Err (record { place = q; refusal = e.refusal })) (sym h)

pub told_head-injective : (at : ℕ) (a b : Result PresenceBits error.Refused) → IfErr a (λ e. e.place ≡ at) → IfErr b (λ e. e.place ≡ at) → told_head a ≡ told_head b → a ≡ b
told_head-injective at a b h k e = sym (head-back-told at a h) ∙ ap (head-back at) e ∙ head-back-told at b k

abbrev inner-back : (at : ℕ) → inner.InnerHead → Result InnerBits error.Refused
inner-back at (inner.Bits known start) = Ok (record { known = known; start = start })
inner-back at (inner.Refused n) = Err (record { place = at; refusal = named n })

inner-back-told : (at : ℕ) (r : Result InnerBits error.Refused) → IfErr r (λ e. e.place ≡ at) → inner-back at (told_inner r) ≡ r
inner-back-told at (Ok r) h = refl
inner-back-told at (Err e) h = ap (λ r. Err (record { place = at; refusal = r })) (named-number_of e.refusal) ∙ ap (λ q. Err (record { place = q; refusal = e.refusal })) (sym h)

pub told_inner-injective : (at : ℕ) (a b : Result InnerBits error.Refused) → IfErr a (λ e. e.place ≡ at) → IfErr b (λ e. e.place ≡ at) → told_inner a ≡ told_inner b → a ≡ b
told_inner-injective at a b h k e = sym (inner-back-told at a h) ∙ ap (inner-back at) e ∙ inner-back-told at b k

-- ---- walks

abbrev walk-back : walk.Walk → Result past.Past error.Refused
walk-back (walk.Past due next row) = Ok (record { due = due; next = next; row = row })
walk-back (walk.Refused n q) = Err (record { place = q; refusal = named n })

walk-back-told : (r : Result past.Past error.Refused) → walk-back (told_walk r) ≡ r
walk-back-told (Ok r) = refl
walk-back-told (Err e) = ap (λ r. Err (record { place = e.place; refusal = r })) (named-number_of e.refusal)

pub told_walk-injective : (a b : Result past.Past error.Refused) → told_walk a ≡ told_walk b → a ≡ b
told_walk-injective a b e = sym (walk-back-told a) ∙ ap walk-back e ∙ walk-back-told b
