-- The two statements of UTF-8 agree: bytes are UTF-8 by the table's rows exactly when they are scalar values, encoded.
-- The characters of a row are an interval of numbers, and the rows' intervals are the scalar values: that is a test, computed over the table.
use mathlib.Core.Path.{◌≡◌, refl, sym, ap, ap₂, subst, ◌∙◌}
use mathlib.Core.Bool.{Bool, true, false, ◌&&◌, ◌||◌}
use mathlib.Core.Logic.{◌⊎◌, inl, inr, ⊎_elim, ◌↔◌}
use mathlib.Core.List.{List, [], ◌∷◌, ◌++◌, Memᴰ}
use Prim.Native.Nat.{ℕ, suc, ◌+◌, ◌-◌, ◌*◌, ◌/◌, ◌%◌, ◌^◌, ◌<◌, ◌≤◌}
use native.Mathlib.Nat.{one-le-pow, pow-suc, pow-succ', le-div_iff_mul-le, div-lt_iff_lt-mul, div-div-eq-div-mul, mul-le-mul_right, le_trans, le-add_right, le_antisymm}
use native.Mathlib.Decide.{dec_lt}
use native.Mathlib.Omega.{arith}
use borrow.Author.Tests.{leb-false, lt-leb}
use lib.Arith.{digits_lt, digits_div}
use lib.Dec.{T, leb, ltb, eqb, lit<, eqb→eq, ltb→lt, leb→le, le→leb, lt→ltb}
use lib.ListN.{length}
use Rattle.utf8.specs.declared.Range.{Range}
use Rattle.utf8.specs.declared.Row.{Row}
use Rattle.utf8.specs.Utf8.{range, rows, In, ranges, matches, is_char, Split, none, char, Utf8, utf8}
use Rattle.utf8.specs.Unicode.{is_scalar, limits_below, following, mark, sixes, encode_in, encode, Encoded, none, scalar}
use Rattle.wire.proofs.Cases.{cond-case}
use Rattle.utf8.proofs.Utf8s.{and_both, both-and, in_range, every, every-at, utf8-is}

or_case : (a b : Bool) → T (a || b) → T a ⊎ T b
or_case true b h = inl tt
or_case false b h = inr h

or_left : (a b : Bool) → T a → T (a || b)
or_left true b h = tt
or_left false b h = absurd h

or_right : (a b : Bool) → T b → T (a || b)
or_right true b h = tt
or_right false b h = h

to-range : (g : Range) (b : ℕ) → g.0 ≤ b → b ≤ g.1 → T (In g b)
to-range g b l h = both-and (leb g.0 b) (leb b g.1) (le→leb g.0 b l) (le→leb b g.1 h)

-- ---- bytes in UTF8-tail are groups of six bits

abbrev is_tail : Range → Bool
is_tail g = eqb g.0 0x80 && eqb g.1 0xBF

abbrev tails : List Range → Bool
tails [] = true
tails (g ∷ gs) = is_tail g && tails gs

tail-is : (g : Range) → T (is_tail g) → (g.0 ≡ 0x80) × (g.1 ≡ 0xBF)
tail-is g t = let both = and_both (eqb g.0 0x80) (eqb g.1 0xBF) t in (eqb→eq g.0 0x80 both.0, eqb→eq g.1 0xBF both.1)

sixes-match : (gs : List Range) (x : ℕ) → T (tails gs) → T (matches gs (sixes (length gs) x))
unfolding matches sixes
sixes-match [] x t = tt
sixes-match (g ∷ gs) x t =
    let both = and_both (is_tail g) (tails gs) t in
    let is = tail-is g both.0 in
    let b = 0x80 + x / 64 ^ length gs % 64 in
    both-and (In g b) (matches gs (sixes (length gs) x)) (to-range g b (omega (arith, is.0)) (omega (arith, is.1))) (sixes-match gs x both.1)

-- the number below 64 ^ n whose groups are c, whatever stands above them
Grouped : ℕ → List ℕ → Type 0
Grouped n c = (v : ℕ) × (v < 64 ^ n) × ((h : ℕ) → sixes n (h * 64 ^ n + v) ≡ c)

match-sixes : (gs : List Range) (c : List ℕ) → T (tails gs) → T (matches gs c) → Grouped (length gs) c
unfolding matches sixes Grouped
match-sixes [] [] k t = (0, lit< tt, λ h. refl)
match-sixes [] (d ∷ c) k t = absurd t
match-sixes (e ∷ gs) [] k t = absurd t
match-sixes (e ∷ gs) (d ∷ c) k t =
    let both = and_both (In e d) (matches gs c) t in
    let kinds = and_both (is_tail e) (tails gs) k in
    let is = tail-is e kinds.0 in
    let within = in_range e d both.0 in
    let rest = match-sixes gs c kinds.1 both.1 in
    let n = length gs in
    let v = rest.0 in
    let g = d - 0x80 in (
      g * 64 ^ n + v,
      rw (pow-succ' 64 n) (digits_lt {q = g} {m = 64} (omega (arith, is.1)) rest.1),
      λ h.
          let high = h * 64 + g in
          let whole : h * 64 ^ suc n + (g * 64 ^ n + v) ≡ high * 64 ^ n + v = rw (pow-succ' 64 n) (omega arith) in
          let digit : 0x80 + high % 64 ≡ d = omega (arith, is.0, is.1) in
          rw (whole, digits_div high rest.1, digit, rest.2 high),
    )

-- ---- the characters of a list of ranges are an interval of numbers

-- how many bytes follow the lead byte
abbrev after : List Range → ℕ
after [] = 0
after (g ∷ gs) = length gs

-- the number of the first character, and that after the last: the lead byte and the byte after it, and then n groups of six bits
abbrev least : List Range → ℕ
least [] = 0
least (g ∷ []) = g.0
least (g ∷ (d ∷ gs)) = let n = length gs in ((g.0 - mark (suc n)) * 64 + (d.0 - 0x80)) * 64 ^ n

abbrev limit : List Range → ℕ
limit [] = 0
limit (g ∷ []) = suc g.1
limit (g ∷ (d ∷ gs)) = let n = length gs in suc ((g.1 - mark (suc n)) * 64 + (d.1 - 0x80)) * 64 ^ n

-- the ranges leave no gap: there is one lead byte, or any byte may follow it; and those after are in UTF8-tail
abbrev regular : List Range → Bool
regular [] = false
regular (g ∷ []) = true
regular (g ∷ (d ∷ gs)) =
    In (range (mark (suc (length gs))) g.1) g.0 && ((leb 0x80 d.0 && In (range d.0 0xBF) d.1) && ((eqb g.0 g.1 || is_tail d) && tails gs))

record Regular (m lead last first end : ℕ) : Type 0 where
  leads : (m ≤ lead) × (lead ≤ last)
  follow : (0x80 ≤ first) × ((first ≤ end) × (end ≤ 0xBF))
  full : (lead ≡ last) ⊎ ((first ≡ 0x80) × (end ≡ 0xBF))

is-regular : (g d : Range) (gs : List Range) → T (regular (g ∷ (d ∷ gs))) → Regular (mark (suc (length gs))) g.0 g.1 d.0 d.1 × T (tails gs)
is-regular g d gs t =
    let lead = range (mark (suc (length gs))) g.1 in
    let a = and_both (In lead g.0) _ t in
    let b = and_both (leb 0x80 d.0 && In (range d.0 0xBF) d.1) _ a.1 in
    let c = and_both (leb 0x80 d.0) _ b.0 in
    let e = and_both (eqb g.0 g.1 || is_tail d) (tails gs) b.1 in (
      record {
        leads = in_range lead g.0 a.0;
        follow = (leb→le 0x80 d.0 c.0, in_range (range d.0 0xBF) d.1 c.1);
        full = ⊎_elim (λ o. inl (eqb→eq g.0 g.1 o)) (λ o. inr (tail-is d o)) (or_case (eqb g.0 g.1) (is_tail d) e.0);
      },
      e.1,
    )

module _ (m lead last first end : ℕ) (g : Regular m lead last first end) where
  -- the numbers of the two leading bytes
  heads : (y : ℕ) → (lead - m) * 64 + (first - 0x80) ≤ y → y < suc ((last - m) * 64 + (end - 0x80))
      → ((lead ≤ m + y / 64) × (m + y / 64 ≤ last)) × ((first ≤ 0x80 + y % 64) × (0x80 + y % 64 ≤ end))
  heads y l h = ⊎_elim (λ e. omega arith) (λ e. omega arith) g.full

  two : (b d : ℕ) → lead ≤ b → b ≤ last → first ≤ d → d ≤ end
      → let y = (b - m) * 64 + (d - 0x80) in
      ((lead - m) * 64 + (first - 0x80) ≤ y) × (y < suc ((last - m) * 64 + (end - 0x80))) × (m + y / 64 ≡ b) × (0x80 + y % 64 ≡ d)
  two b d l h k q = ⊎_elim (λ e. omega arith) (λ e. omega arith) g.full

-- the bytes of x, with one byte or more after the first
encode-head : (n x y : ℕ) → x / 64 ^ n ≡ y → encode_in (suc n) x ≡ (mark (suc n) + y / 64) ∷ (0x80 + y % 64) ∷ sixes n x
unfolding encode_in sixes
encode-head n x y e =
    ap₂ (λ (q d : ℕ). (mark (suc n) + q) ∷ (0x80 + d % 64) ∷ sixes n x) (ap (λ (m : ℕ). x / m) (pow-suc 64 n) ∙ sym (div-div-eq-div-mul x (64 ^ n) 64) ∙ ap (λ (q : ℕ). q / 64) e) e

power : (n : ℕ) → 0 < 64 ^ n
power n = one-le-pow n 64 (lit< tt)

-- a number of the interval is encoded by a character
ranges-encode : (gs : List Range) (x : ℕ) → T (regular gs) → least gs ≤ x → x < limit gs → T (matches gs (encode_in (after gs) x))
unfolding matches encode_in sixes
ranges-encode [] x t l h = absurd t
ranges-encode (g ∷ []) x t l h = both-and (In g (0 + x / 1)) true (to-range g (0 + x / 1) (omega arith) (omega arith)) tt
ranges-encode (g ∷ (d ∷ gs)) x t l h =
    let n = length gs in
    let m = mark (suc n) in
    let y = x / 64 ^ n in
    let shape = is-regular g d gs t in
    let is = heads m g.0 g.1 d.0 d.1 shape.0 y ((le-div_iff_mul-le (power n)).1 l) ((div-lt_iff_lt-mul (power n)).1 h) in
    subst (λ (c : List ℕ). T (matches (g ∷ d ∷ gs) c)) (sym (encode-head n x y refl))
    (both-and (In g (m + y / 64)) _ (to-range g (m + y / 64) is.0.0 is.0.1)
    (both-and (In d (0x80 + y % 64)) _ (to-range d (0x80 + y % 64) is.1.0 is.1.1) (sixes-match gs x shape.1)))

-- and a character encodes a number of the interval
ranges-decode : (gs : List Range) (c : List ℕ) → T (regular gs) → T (matches gs c) → (x : ℕ) × (least gs ≤ x) × (x < limit gs) × (encode_in (after gs) x ≡ c)
unfolding matches encode_in sixes Grouped
ranges-decode [] c t k = absurd t
ranges-decode (g ∷ gs) [] t k = absurd k
ranges-decode (g ∷ []) (b ∷ []) t k =
    let r = in_range g b (and_both (In g b) true k).0 in
    let same : 0 + b / 1 ≡ b = omega arith in
    (b, r.0, omega (arith, r.1), ap (λ (y : ℕ). y ∷ []) same)
ranges-decode (g ∷ []) (b ∷ (e ∷ c)) t k = absurd (and_both (In g b) false k).1
ranges-decode (g ∷ (d ∷ gs)) (b ∷ []) t k = absurd (and_both (In g b) false k).1
ranges-decode (g ∷ (d ∷ gs)) (b ∷ (e ∷ c)) t k =
    let one = and_both (In g b) (In d e && matches gs c) k in
    let rest = and_both (In d e) (matches gs c) one.1 in
    let leads = in_range g b one.0 in
    let second = in_range d e rest.0 in
    let shape = is-regular g d gs t in
    let low = match-sixes gs c shape.1 rest.1 in
    let n = length gs in
    let m = mark (suc n) in
    let y = (b - m) * 64 + (e - 0x80) in
    let is = two m g.0 g.1 d.0 d.1 shape.0 b e leads.0 leads.1 second.0 second.1 in
    let x = y * 64 ^ n + low.0 in (
      x,
      le_trans (mul-le-mul_right (64 ^ n) is.0) (le-add_right (y * 64 ^ n) low.0),
      digits_lt is.1 low.1,
      encode-head n x y (digits_div y low.1) ∙ ap₂ (λ (p q : ℕ). p ∷ q ∷ sixes n x) is.2 is.3 ∙ ap (λ (l : List ℕ). b ∷ e ∷ l) (low.2 y),
    )

-- ---- the rows' intervals

above-mono : (ls : List ℕ) (x y : ℕ) → x ≤ y → limits_below ls x ≤ limits_below ls y
unfolding limits_below
above-mono [] x y h = omega arith
above-mono (l ∷ ls) x y h =
    cond-case (λ (a : ℕ). a ≤ limits_below (l ∷ ls) y) (leb x l) 0 (suc (limits_below ls x)) (λ _. omega arith)
    (λ e. let o = leb-false x l e in rw (lt-leb y l (omega arith)) (omega (arith, above-mono ls x y h)))

abbrev scalars : (from to : ℕ) → Bool
scalars from to = leb to 0xD800 || (leb 0xE000 from && leb to 0x110000)

-- a row has scalar values only, each with as many bytes after the first as it needs
abbrev right : Row → Bool
right r =
    let gs = ranges r in
    regular gs && (scalars (least gs) (limit gs) && (eqb (following (least gs)) (after gs) && eqb (following (limit gs - 1)) (after gs)))

rows_right : T (every right rows)
unfolding rows limits_below
rows_right = tt

-- from p on, the rows leave out no scalar value: each begins where the one before it ends, or after the surrogates
abbrev reach : ℕ → List Row → Bool
reach p [] = leb 0x110000 p
reach p (r ∷ rs) = let from = least (ranges r) in (leb from p || (leb 0xD800 p && leb from 0xE000)) && reach (limit (ranges r)) rs

rows-reach : T (reach 0 rows)
unfolding rows
rows-reach = tt

Found : List Row → ℕ → Type 0
Found rs x = (r : Row) × Memᴰ r rs × (least (ranges r) ≤ x) × (x < limit (ranges r))

scalar_cases : (x : ℕ) → T (is_scalar x) → (x < 0xD800) ⊎ ((0xE000 ≤ x) × (x ≤ 0x10FFFF))
unfolding is_scalar
scalar_cases x h = ⊎_elim (λ a. inl (ltb→lt x 0xD800 a)) (λ b. inr (in_range (range 0xE000 0x10FFFF) x b)) (or_case (ltb x 0xD800) (In (range 0xE000 0x10FFFF) x) h)

find : (rs : List Row) (p x : ℕ) → T (reach p rs) → p ≤ x → T (is_scalar x) → Found rs x
unfolding Found
find [] p x t l h = let o = leb→le 0x110000 p t in absurd (⊎_elim (λ a. omega arith) (λ a. omega arith) (scalar_cases x h))
find (r ∷ rs) p x t l h =
    let gs = ranges r in
    let from = least gs in
    let both = and_both (leb from p || (leb 0xD800 p && leb from 0xE000)) (reach (limit gs) rs) t in
    elim (dec_lt x (limit gs)) [
      | yes s ↦ (
        r,
        Memᴰ.head refl,
        ⊎_elim
            (λ a. le_trans (leb→le from p a) l)
            (λ a. let g = and_both (leb 0xD800 p) (leb from 0xE000) a in
            let o = leb→le 0xD800 p g.0 in
            le_trans (leb→le from 0xE000 g.1) (⊎_elim (λ q. absurd (omega arith)) (λ q. q.0) (scalar_cases x h)))
            (or_case (leb from p) (leb 0xD800 p && leb from 0xE000) both.0),
        s,
      )
      | no o ↦
          let f = find rs (limit gs) x both.1 (omega arith) h in
          (f.0, Memᴰ.tail f.1, f.2, f.3)
    ]

-- the numbers from a up to b are scalar values, and need n bytes after the first, where the tests say so of the two ends
within : (a b x : ℕ) → T (scalars a b) → a ≤ x → x < b → T (is_scalar x)
unfolding is_scalar
within a b x t l h =
    let high = range 0xE000 0x10FFFF in
    ⊎_elim
    (λ e. or_left (ltb x 0xD800) (In high x) (lt→ltb x 0xD800 (omega (arith, leb→le b 0xD800 e))))
    (λ e. let both = and_both (leb 0xE000 a) (leb b 0x110000) e in
    or_right (ltb x 0xD800) (In high x) (to-range high x (omega (arith, leb→le 0xE000 a both.0)) (omega (arith, leb→le b 0x110000 both.1))))
    (or_case (leb b 0xD800) (leb 0xE000 a && leb b 0x110000) t)

between : (ls : List ℕ) (a b x n : ℕ) → limits_below ls a ≡ n → limits_below ls (b - 1) ≡ n → a ≤ x → x < b → limits_below ls x ≡ n
between ls a b x n p q l h = le_antisymm (rw q at (above-mono ls x (b - 1) (omega arith))) (rw p at (above-mono ls a x l))

-- what is tested of a row's ranges
record Tested (gs : List Range) : Type 0 where
  shape : T (regular gs)
  values : T (scalars (least gs) (limit gs))
  from : following (least gs) ≡ after gs
  to : following (limit gs - 1) ≡ after gs

tested : (r : Row) → Memᴰ r rows → Tested (ranges r)
tested r m =
    let gs = ranges r in
    let a = and_both (regular gs) _ (every-at right rows r rows_right m) in
    let b = and_both (scalars (least gs) (limit gs)) _ a.1 in
    let c = and_both (eqb (following (least gs)) (after gs)) (eqb (following (limit gs - 1)) (after gs)) b.1 in
    record {
      shape = a.0;
      values = b.0;
      from = eqb→eq (following (least gs)) (after gs) c.0;
      to = eqb→eq (following (limit gs - 1)) (after gs) c.1;
    }

-- the numbers of its interval need as many bytes as it has
needed : (gs : List Range) → Tested gs → (x : ℕ) → least gs ≤ x → x < limit gs → following x ≡ after gs
needed gs t x l h = between _ (least gs) (limit gs) x (after gs) t.from t.to l h

-- ---- the two statements

-- a scalar value is encoded by a character of a row
scalar-char : (x : ℕ) → T (is_scalar x) → (r : Row) × Memᴰ r rows × T (is_char r (encode x))
unfolding Found
scalar-char x h =
    let f = find rows 0 x rows-reach (omega arith) h in
    let gs = ranges f.0 in
    let t = tested f.0 f.1 in
    (f.0, f.1, subst (λ (n : ℕ). T (matches gs (encode_in n x))) (sym (needed gs t x f.2 f.3)) (ranges-encode gs x t.shape f.2 f.3))

-- and a row's character encodes one
char-scalar : (r : Row) (c : List ℕ) → Memᴰ r rows → T (is_char r c) → (x : ℕ) × T (is_scalar x) × (encode x ≡ c)
char-scalar r c m h =
    let gs = ranges r in
    let t = tested r m in
    let d = ranges-decode gs c t.shape h in
    let x = d.0 in
    (x, within (least gs) (limit gs) x t.values d.1 d.2, ap (λ (n : ℕ). encode_in n x) (needed gs t x d.1 d.2) ∙ d.3)

split-encoded : {cs : List (List ℕ)} {s : List ℕ} → Split cs s → (xs : List ℕ) × Encoded xs s
split-encoded none = ([], none)
split-encoded (char r c cs s m h u) =
    let x = char-scalar r c m h in
    let xs = split-encoded u in
    (x.0 ∷ xs.0, subst (λ (l : List ℕ). Encoded (x.0 ∷ xs.0) (l ++ s)) x.2 (scalar x.0 xs.0 s x.1 xs.1))

encoded-split : {xs s : List ℕ} → Encoded xs s → Utf8 s
encoded-split none = ([], none)
encoded-split (scalar x xs s h e) =
    let r = scalar-char x h in
    let cs = encoded-split e in
    (encode x ∷ cs.0, char r.0 (encode x) cs.0 s r.1 r.2 cs.1)

-- bytes are UTF-8 exactly when they are scalar values, encoded
pub utf8-encoded : (s : List ℕ) → (utf8 s ≡ true) ↔ ((xs : List ℕ) × Encoded xs s)
utf8-encoded s = (λ h. split-encoded ((utf8-is s).0 h).1, λ e. (utf8-is s).1 (encoded-split e.1))
