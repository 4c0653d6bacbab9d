-- Which fields a bitmap asks for and which it shows, by the bits of its number; and how many of its bits are unknown.
use mathlib.Core.Path.{◌≡◌, refl, sym, ap, ap₂, ◌∙◌}
use mathlib.Core.Logic.{◌⊎◌, inl, inr, ⊎_elim}
use mathlib.Core.List.{List, [], ◌∷◌, ◌++◌, map}
use mathlib.Core.Bool.{Bool, true, false, cond, ◌&&◌, ◌||◌}
use Prim.Native.Nat.{ℕ, zero, suc, ◌+◌, ◌-◌, ◌*◌, ◌/◌, ◌%◌, ◌^◌, ◌≤◌, ◌<◌}
use native.Mathlib.Omega.{arith}
use native.Mathlib.Nat.{div-one}
use native.Mathlib.Numerals.{add-one}
use lib.Count.{ones_in}
use lib.Dec.{eqb}
use lib.ListN.{length, get_or, take, length-append}
use lib.Seq.{take-suc, take-length, length-take-le}
use borrow.Author.Tests.{eqb-true, eqb-false, eq-eqb}
use Rattle.schema.specs.declared.Field.{Field}
use Rattle.schema.specs.Table.{bitmap_bytes}
use Rattle.schema.specs.Check.{no_field}
use Rattle.schema.proofs.Bools.{and_left, and_right, and_i, or_left, or_right, or_cases, or-false, clash, is_false}
use Rattle.value.specs.Read.{Item, plain_item, present, required_set, unknown_bits}
use Rattle.value.specs.Claims.{set_bits}
use Rattle.value.specs.Reasons.{Absent}
use Rattle.value.proofs.Bits.{half_pow, present-append, length-present, ones-add}

-- ---- what is required

-- Field i is optional, or its bit is set in m.
abbrev Met : List Field → (m i : ℕ) → Type 0
Met fs m i = ((get_or fs i no_field).optional ≡ 1) ⊎ (m / 2 ^ i % 2 ≡ 1)

met-later : (f : Field) (fs : List Field) (m i : ℕ) → Met fs (m / 2) i → Met (f ∷ fs) m (suc i)
met-later f fs m i w = rw (half_pow m i) w

pub complete-met : (fs : List Field) (m : ℕ) → required_set fs m ≡ true → (i : ℕ) → i < length fs → Met fs m i
unfolding required_set
complete-met [] m e i h = absurd (omega arith)
complete-met (f ∷ fs) m e zero h =
    ⊎_elim
    (λ o. inl (eqb-true f.optional 1 o))
    (λ b. inr (rw (div-one m) (eqb-true (m % 2) 1 b)))
    (or_cases (eqb f.optional 1) (eqb (m % 2) 1) (and_left _ (required_set fs (m / 2)) e))
complete-met (f ∷ fs) m e (suc i) h =
    met-later f fs m i (complete-met fs (m / 2) (and_right (eqb f.optional 1 || eqb (m % 2) 1) _ e) i (omega arith))

pub met-complete : (fs : List Field) (m : ℕ) → ((i : ℕ) → i < length fs → Met fs m i) → required_set fs m ≡ true
unfolding required_set
met-complete [] m w = refl
met-complete (f ∷ fs) m w =
    and_i _ _
    (⊎_elim
    (λ o. or_left (eqb f.optional 1) _ (eq-eqb f.optional 1 o))
    (λ b. or_right (eqb f.optional 1) _ (eq-eqb (m % 2) 1 (rw (div-one m) at b)))
    (w 0 (omega arith)))
    (met-complete fs (m / 2) (λ i h. rw (half_pow m i) at (w (suc i) (omega arith))))

zero_bit : (b : ℕ) → (b ≡ 1 → ⊥) → b < 2 → b ≡ 0
zero_bit zero n h = refl
zero_bit (suc zero) n h = absurd (n refl)
zero_bit (suc (suc b)) n h = absurd (omega arith)

-- Where the test fails, a required field is absent, and the other way round.
pub lacking : (fs : List Field) (m : ℕ) → required_set fs m ≡ false → (i : ℕ) × Absent fs m i
unfolding required_set
lacking [] m e = clash true refl e
lacking (f ∷ fs) m e = go (eqb f.optional 1 || eqb (m % 2) 1) refl e (lacking fs (m / 2))
  where
    go : (b : Bool) → (eqb f.optional 1 || eqb (m % 2) 1) ≡ b → b && required_set fs (m / 2) ≡ false
        → (required_set fs (m / 2) ≡ false → (i : ℕ) × Absent fs (m / 2) i) → (i : ℕ) × Absent (f ∷ fs) m i
    go true t e on = let (i, (l, o, bit)) = on e in (suc i, (omega arith, o, rw (half_pow m i) bit))
    go false t e on =
        let w = or-false (eqb f.optional 1) (eqb (m % 2) 1) t in
        let bit = eqb-false (m % 2) 1 w.1 in
        (0, (omega arith, eqb-false f.optional 1 w.0, rw (div-one m) (zero_bit (m % 2) bit (omega arith))))

pub lacks : (fs : List Field) (m i : ℕ) → Absent fs m i → required_set fs m ≡ false
lacks fs m i (l, o, bit) = is_false (required_set fs m) (λ e. ⊎_elim o (λ set. omega arith) (complete-met fs m e i l))

-- ---- what is present

-- The item of field i.
abbrev item_of : List Field → ℕ → Item
item_of fs i = plain_item (get_or fs i no_field).ty

map-append : (f : ℕ → Item) (xs ys : List ℕ) → map f (xs ++ ys) ≡ map f xs ++ map f ys
map-append f [] ys = refl
map-append f (x ∷ xs) ys = ap (λ (l : List Item). f x ∷ l) (map-append f xs ys)

one-present : (f : Field) (m : ℕ) (g : ℕ → Item) (i : ℕ) → g i ≡ plain_item f.ty → present (f ∷ []) m ≡ map g (cond (eqb (m % 2) 1) (i ∷ []) [])
unfolding present
one-present f m g i e = go (eqb (m % 2) 1)
  where
    go : (b : Bool) → cond b (plain_item f.ty ∷ []) [] ≡ map g (cond b (i ∷ []) [])
    go true = ap (λ (x : Item). x ∷ []) (sym e)
    go false = refl

-- Of the first k fields.
first-present : (fs : List Field) (m k : ℕ) → k ≤ length fs → present (take k fs) m ≡ map (item_of fs) (set_bits m k)
unfolding present
first-present fs m zero h = refl
first-present fs m (suc k) h =
    ap (λ (l : List Field). present l m) (take-suc fs k no_field (omega arith)) ∙
    present-append (take k fs) _ m ∙
    rw (length-take-le k fs (omega arith), first-present fs m k (omega arith), one-present (get_or fs k no_field) (m / 2 ^ k) (item_of fs) k refl)
    (sym (map-append (item_of fs) (set_bits m k) _))

pub present-is : (fs : List Field) (m : ℕ) → present fs m ≡ map (item_of fs) (set_bits m (length fs))
present-is fs m = rw (take-length fs) at (first-present fs m (length fs) (omega arith))

-- ---- how many bits are set

one_bit : (b n : ℕ) → b < 2 → length (cond (eqb b 1) (n ∷ []) []) ≡ b
one_bit zero n h = refl
one_bit (suc zero) n h = refl
one_bit (suc (suc b)) n h = absurd (omega arith)

last_one : (k m : ℕ) → ones_in (suc k) m ≡ ones_in k m + m / 2 ^ k % 2
unfolding ones_in
last_one k m = ap (λ (n : ℕ). ones_in n m) (sym (add-one k)) ∙ ones-add k 1 m ∙ ap (λ (n : ℕ). ones_in k m + n) (first (m / 2 ^ k))
  where
    first : (x : ℕ) → ones_in 1 x ≡ x % 2
    first x = omega arith

bits-counted : (m k : ℕ) → length (set_bits m k) ≡ ones_in k m
unfolding ones_in
bits-counted m zero = refl
bits-counted m (suc k) =
    length-append (set_bits m k) (cond (eqb (m / 2 ^ k % 2) 1) (k ∷ []) []) ∙
    ap₂ {C = ℕ} ◌+◌ (bits-counted m k) (one_bit (m / 2 ^ k % 2) k (omega arith)) ∙ sym (last_one k m)

-- The bits set in a bitmap's bytes are those of the fields that are present, and the unknown ones.
pub unknown-is : (fs : List Field) (m : ℕ) → length (set_bits m (8 * bitmap_bytes (length fs))) ≡ length (present fs m) + unknown_bits fs m
unknown-is fs m =
    let k : 8 * bitmap_bytes (length fs) ≡ length fs + (8 * bitmap_bytes (length fs) - length fs) = omega arith in
    bits-counted m (8 * bitmap_bytes (length fs)) ∙ ap (λ (n : ℕ). ones_in n m) k ∙ ones-add (length fs) (8 * bitmap_bytes (length fs) - length fs) m
    ∙ ap (λ (n : ℕ). n + unknown_bits fs m) (sym (length-present fs m))
