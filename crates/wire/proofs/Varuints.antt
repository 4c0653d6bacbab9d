-- Laws of `specs/Varuint.antt`.
use mathlib.Core.Path.{◌≡◌, refl, sym, ap, subst, ◌∙◌}
use mathlib.Core.Logic.{◌⊎◌, inl, inr, ⊎_elim, ◌↔◌}
use mathlib.Core.Bool.{true, false, cond}
use mathlib.Core.List.{List, [], ◌∷◌, ◌++◌}
use Prim.Native.Nat.{ℕ, zero, suc, ◌+◌, ◌-◌, ◌*◌, ◌/◌, ◌%◌, ◌^◌, ◌<◌, ◌≤◌}
use native.Mathlib.Nat.{mul-le-mul_left, one-le-pow}
use native.Mathlib.Numerals.{add-one}
use native.Mathlib.Decide.{dec_lt}
use native.Mathlib.Omega.{arith}
use borrow.Author.Tests.{ltb-true, ltb-false, lt-ltb, le-ltb, eqb-true, eqb-false}
use lib.Dec.{ltb, lit<}
use lib.ListN.{length, get_or, take, drop, length-append, length-drop, drop_of_length-le}
use lib.Seq.{drop-cons, drop-append_seam}
use Rattle.wire.specs.Varuint.{VarUInt, Number, Cut, Malformed, before, is_spare, last_group, groups, front_var_u_int, varuint, Groups, tenth, final, group, last_or, Ended, Spelled, Starts, Completed, Spare, TenthAbove, shortest, varuint_bytes}
use Rattle.wire.proofs.Cases.{cond-case}
use Rattle.wire.specs.Little.{Bytes}

-- ---- at a place of a slice

pub groups-cut : (k : ℕ) (s : List ℕ) (at : ℕ) → length s ≤ at → groups (suc k) (drop at s) at ≡ Cut
unfolding groups
groups-cut k s at h = rw (drop_of_length-le s {i = at} h)

pub groups-last : (s : List ℕ) (at : ℕ) → at < length s
    → groups 1 (drop at s) at ≡ cond (ltb (get_or s at 0) 2) (last_group (get_or s at 0) at) Malformed
unfolding groups
groups-last s at h = rw (drop-cons s at 0)

pub groups-more : (k : ℕ) (s : List ℕ) (at : ℕ) → at < length s
    → groups (suc (suc k)) (drop at s) at
    ≡ cond (ltb (get_or s at 0) 128) (last_group (get_or s at 0) at) (before (get_or s at 0 - 128) (groups (suc k) (drop (at + 1) s) (at + 1)))
unfolding groups
groups-more k s at h = rw (drop-cons s at 0, add-one)

pub front_cut : (s : List ℕ) (at : ℕ) → length s ≤ at → varuint s at ≡ Cut
unfolding front_var_u_int
front_cut s at h = rw (drop_of_length-le s {i = at} h)

pub front-more : (s : List ℕ) (at : ℕ) → at < length s
    → varuint s at ≡ cond (ltb (get_or s at 0) 128) (Number (get_or s at 0) (at + 1)) (before (get_or s at 0 - 128) (groups 9 (drop (at + 1) s) (at + 1)))
unfolding front_var_u_int
front-more s at h = rw (drop-cons s at 0, add-one)

-- ---- a number whose low groups make up v, and of whose other groups the first weighs w

abbrev pub with_low : ℕ → ℕ → VarUInt → VarUInt
with_low v w (Number x next) = Number (v + w * x) next
with_low v w Cut = Cut
with_low v w Malformed = Malformed

pub with-low-first : (g : ℕ) (r : VarUInt) → with_low g 128 r ≡ before g r
with-low-first g (Number x next) = refl
with-low-first g Cut = refl
with-low-first g Malformed = refl

pub with-low-more : (v w g : ℕ) (r : VarUInt) → with_low (v + w * g) (w * 128) r ≡ with_low v w (before g r)
with-low-more v w g (Number x next) = ap (λ (n : ℕ). Number n next) (omega arith)
with-low-more v w g Cut = refl
with-low-more v w g Malformed = refl

-- a group below n, of the weight w
pub full : (n v w b : ℕ) → v < w → b < n → v + w * b < w * n
full n v w b h l = omega (arith, mul-le-mul_left w l)

-- the last group of two or more, by its test
pub last_bad : (b at : ℕ) → is_spare b ≡ true → Malformed ≡ last_group b at
last_bad b at e = rw e

pub last-good : (b at : ℕ) → is_spare b ≡ false → Number b (at + 1) ≡ last_group b at
last-good b at e = rw e

-- ---- the reader's cases: the byte w stands at a place, where the first group is due, or another with left groups allowed
module _ (s : List ℕ) (at w : ℕ) (inside : at < length s) (is : w ≡ get_or s at 0) where
  pub first-number : w < 128 → Number w (at + 1) ≡ varuint s at
  first-number l = rw (front-more s at inside, ← is, lt-ltb w 128 l)

  pub first_more : 128 ≤ w → before (w - 128) (groups 9 (drop (at + 1) s) (at + 1)) ≡ varuint s at
  first_more l = rw (front-more s at inside, ← is, le-ltb w 128 l)

  module _ (left : ℕ) where
    pub tenth-group : left ≡ 1 → w < 2 → last_group w at ≡ groups left (drop at s) at
    tenth-group e l = rw (e, groups-last s at inside, ← is, lt-ltb w 2 l)

    pub tenth-above : left ≡ 1 → 2 ≤ w → Malformed ≡ groups left (drop at s) at
    tenth-above e l = rw (e, groups-last s at inside, ← is, le-ltb w 2 l)

    pub one-group : 1 < left → w < 128 → last_group w at ≡ groups left (drop at s) at
    one-group e l = let two : left ≡ suc (suc (left - 2)) = omega arith in rw (two, groups-more (left - 2) s at inside, ← is, lt-ltb w 128 l)

    pub more-groups : 1 < left → 128 ≤ w → before (w - 128) (groups (left - 1) (drop (at + 1) s) (at + 1)) ≡ groups left (drop at s) at
    more-groups e l =
        let two : left ≡ suc (suc (left - 2)) = omega arith in
        let one : left - 1 ≡ suc (left - 2) = omega arith in
        ap (λ (k : ℕ). before (w - 128) (groups k (drop (at + 1) s) (at + 1))) one
        ∙ sym (ap (λ (k : ℕ). groups k (drop at s) at) two ∙ rw (groups-more (left - 2) s at inside, ← is, le-ltb w 128 l))

-- ---- the shortest form

pub shortest-done : (k y : ℕ) → y < 128 → shortest k y ≡ y ∷ []
unfolding shortest
shortest-done zero y h = refl
shortest-done (suc k) y h = rw (lt-ltb y 128 h)

pub shortest-more : (k y : ℕ) → 128 ≤ y → shortest (suc k) y ≡ (y % 128 + 128) ∷ shortest k (y / 128)
unfolding shortest
shortest-more k y h = rw (le-ltb y 128 h)

-- a fact of the shortest form, from the fact of the last group and of one group more
pub shortest-ind : (P : ℕ → ℕ → List ℕ → Type 0)
    → ((k y : ℕ) → y < 128 → P k y (y ∷ []))
    → ((k y : ℕ) → 128 ≤ y → y / 128 < 128 ^ suc k → P k (y / 128) (shortest k (y / 128)) → P (suc k) y ((y % 128 + 128) ∷ shortest k (y / 128)))
    → (k y : ℕ) → y < 128 ^ suc k → P k y (shortest k y)
shortest-ind P one more zero y h = rw (shortest-done zero y (omega arith)) (one zero y (omega arith))
shortest-ind P one more (suc k) y h = elim (dec_lt y 128) [
  | yes l ↦ rw (shortest-done (suc k) y l) (one (suc k) y l)
  | no n ↦
      let l : 128 ≤ y = omega arith in
      let s : y / 128 < 128 ^ suc k = omega arith in
      rw (shortest-more k y l) (more k y l s (shortest-ind P one more k (y / 128) s))
]

pub shortest-pos : (k y : ℕ) → y < 128 ^ suc k → 0 < length (shortest k y)
shortest-pos k y h = shortest-ind (λ k y l. 0 < length l) (λ k y h. omega arith) (λ k y h s p. omega arith) k y h

pub shortest-le : (k y : ℕ) → y < 128 ^ suc k → length (shortest k y) ≤ suc k
shortest-le k y h = shortest-ind (λ k y l. length l ≤ suc k) (λ k y h. omega arith) (λ k y h s p. omega arith) k y h

-- ---- the writer: what is left of x's groups, after some of them, is the shortest form of y
abbrev pub Rest : (List ℕ → Type 0) → ℕ → Type 0
Rest P y = (k : ℕ) × (y < 128 ^ suc k) × P (shortest k y)

pub rest_more : (P Q : List ℕ → Type 0) (y : ℕ) → ((l : List ℕ) → P ((y % 128 + 128) ∷ l) → Q l) → 128 ≤ y → Rest P y → Rest Q (y / 128)
rest_more P Q y f h r = go r.0 r.1 r.2
  where
    go : (k : ℕ) → y < 128 ^ suc k → P (shortest k y) → Rest Q (y / 128)
    go zero l p = absurd (omega arith)
    go (suc k) l p = (k, omega arith, f (shortest k (y / 128)) (rw (shortest-more k y h) at p))

pub rest-done : (P : List ℕ → Type 0) (y : ℕ) → y < 128 → Rest P y → P (y ∷ [])
rest-done P y h r = rw (shortest-done r.0 y h) at r.2

-- ---- the relation: what the reader accepts is what spells a number

-- groups after a first one
abbrev Ends : (k n : ℕ) → List ℕ → Type 0
Ends k n bs = Groups k n bs × Ended bs

last-any : (k n : ℕ) (bs : List ℕ) → Groups k n bs → (a c : ℕ) → last_or a bs ≡ last_or c bs
last-any k n bs (tenth h) a c = refl
last-any k n bs (final h) a c = refl
last-any k n bs (group h g) a c = refl

groups-pos : (k n : ℕ) (bs : List ℕ) → Groups k n bs → 0 < length bs
groups-pos k n bs (tenth h) = omega arith
groups-pos k n bs (final h) = omega arith
groups-pos k n bs (group h g) = omega arith

pub spelled-pos : (n : ℕ) (bs : List ℕ) → Spelled n bs → 0 < length bs
unfolding Spelled
spelled-pos n bs h = groups-pos 9 n bs h.0

-- a number's bytes are one below 128, or a group and groups after it
data View : ℕ → List ℕ → Type 0 where
  alone : {b : ℕ} → b < 128 → View b (b ∷ [])
  led : {n b : ℕ} {bs : List ℕ} → 128 ≤ b → Groups 8 n bs → Ended bs → View (b - 128 + 128 * n) (b ∷ bs)

groups-view : (k n : ℕ) (bs : List ℕ) → Groups k n bs → k ≡ 9 → (1 < length bs → Ended bs) → View n bs
groups-view k n bs (tenth h) e l = absurd (omega arith)
groups-view k n bs (final h) e l = alone h
groups-view k n bs (group {k = j} {n = m} {b = b} {bs = cs} h g) e l =
    let q = l (omega (arith, groups-pos j m cs g)) in
    let eight : j ≡ 8 = omega arith in
    led h (subst (λ (i : ℕ). Groups i m cs) eight g) (omega (arith, last-any j m cs g b 0))

view : (n : ℕ) (bs : List ℕ) → Spelled n bs → View n bs
unfolding Spelled
view n bs h = groups-view 9 n bs h.0 refl h.1

ends_more : (k n b : ℕ) (bs : List ℕ) → 128 ≤ b → Ends k n bs → Ends (suc k) (b - 128 + 128 * n) (b ∷ bs)
ends_more k n b bs h e = (group h e.0, omega (arith, e.1, last-any k n bs e.0 b 0))

spelled-more : (n b : ℕ) (bs : List ℕ) → 128 ≤ b → Ends 8 n bs → Spelled (b - 128 + 128 * n) (b ∷ bs)
unfolding Spelled
spelled-more n b bs h e = let m = ends_more 8 n b bs h e in (m.0, λ _. m.1)

spelled-one : (b : ℕ) → b < 128 → Spelled b (b ∷ [])
unfolding Spelled
spelled-one b h = (final h, λ l. absurd (omega arith))

last-number : (b at : ℕ) → b < 128 → Ended (b ∷ []) → last_group b at ≡ Number b (at + 1)
last-number b at h l =
    cond-case (λ (r : VarUInt). r ≡ Number b (at + 1)) (is_spare b) Malformed (Number b (at + 1)) (λ e. absurd (omega (arith, eqb-true b _ e))) (λ _. refl)

last-spare : (b at : ℕ) → b ≡ 0 → last_group b at ≡ Malformed
last-spare b at z =
    cond-case (λ (r : VarUInt). r ≡ Malformed) (is_spare b) Malformed (Number b (at + 1)) (λ _. refl) (λ e. absurd (eqb-false b _ e z))

groups-reads : (k n : ℕ) (bs : List ℕ) → Groups k n bs → Ended bs → (t : List ℕ) (at : ℕ)
    → groups (suc k) (bs ++ t) at ≡ Number n (at + length bs)
unfolding groups
groups-reads k n bs (tenth {b = b} h) l t at = rw (lt-ltb b 2 h, last-number b at (omega arith) l)
groups-reads k n bs (final {b = b} h) l t at = rw (lt-ltb b 128 h, last-number b at h l)
groups-reads k n bs (group {k = j} {n = m} {b = b} {bs = cs} h g) l t at =
    rw (le-ltb b 128 h, groups-reads j m cs g (omega (arith, last-any j m cs g b 0)) t (at + 1)) (ap (Number (b - 128 + 128 * m)) (omega arith))

view-reads : (n : ℕ) (bs t : List ℕ) (at : ℕ) → View n bs → front_var_u_int (bs ++ t) at ≡ Number n (at + length bs)
unfolding front_var_u_int
view-reads n bs t at (alone {b = b} h) = rw (lt-ltb b 128 h)
view-reads n bs t at (led {n = m} {b = b} {bs = cs} h g l) =
    rw (le-ltb b 128 h, groups-reads 8 m cs g l t (at + 1)) (ap (Number (b - 128 + 128 * m)) (omega arith))

-- a spelled number is read whatever follows it, and the place after it is found
pub spelled-reads : (n : ℕ) (bs t : List ℕ) (at : ℕ) → Spelled n bs → front_var_u_int (bs ++ t) at ≡ Number n (at + length bs)
spelled-reads n bs t at h = view-reads n bs t at (view n bs h)

-- what an answer tells of the bytes, by the relation P for a number and B for what is malformed
Tells : (P : ℕ → List ℕ → Type 0) (B : List ℕ → Type 0) → List ℕ → ℕ → VarUInt → Type 0
Tells P B s at (Number n next) = Starts P s at n next
Tells P B s at Cut = Completed P s
Tells P B s at Malformed = B s

before-tells : (P Q : ℕ → List ℕ → Type 0) (B C : List ℕ → Type 0) (s : List ℕ) (at b : ℕ) (r : VarUInt)
    → ((n : ℕ) (bs : List ℕ) → P n bs → Q (b - 128 + 128 * n) (b ∷ bs)) → (B s → C (b ∷ s))
    → Tells P B s (at + 1) r → Tells Q C (b ∷ s) at (before (b - 128) r)
unfolding Tells
before-tells P Q B C s at b (Number n next) f g r =
    record { bytes = b ∷ r.bytes; rest = r.rest; split = ap (λ (l : List ℕ). b ∷ l) r.split; spells = f n r.bytes r.spells; place = omega (arith, r.place) }
before-tells P Q B C s at b Cut f g r = (b - 128 + 128 * r.0, r.1, r.2, f r.0 (s ++ r.1) r.3)
before-tells P Q B C s at b Malformed f g r = g r

-- why groups after a first one are malformed
SpareEnd : ℕ → List ℕ → Type 0
SpareEnd k s = (n : ℕ) × (bs : List ℕ) × (rest : List ℕ) × (s ≡ bs ++ rest) × Groups k n bs × (last_or 0 bs ≡ 0)

Above : ℕ → List ℕ → Type 0
Above k s = (k < length s) × ((i : ℕ) → i < k → 128 ≤ get_or s i 0) × (1 < get_or s k 0)

spare_more : (k b : ℕ) (s : List ℕ) → 128 ≤ b → SpareEnd k s → SpareEnd (suc k) (b ∷ s)
unfolding SpareEnd
spare_more k b s h (n, bs, rest, e, g, z) =
    (b - 128 + 128 * n, b ∷ bs, rest, ap (λ (l : List ℕ). b ∷ l) e, group h g, omega (arith, last-any k n bs g b 0))

above_more : (k b : ℕ) (s : List ℕ) → 128 ≤ b → Above k s → Above (suc k) (b ∷ s)
unfolding Above
above_more k b s h (l, m, a) = (omega arith, λ i. elim i as (λ j. j < suc k → 128 ≤ get_or (b ∷ s) j 0) [ zero ↦ λ _. h | suc i ↦ λ e. m i (omega arith) ], a)

abbrev BadEnd : ℕ → List ℕ → Type 0
BadEnd k s = SpareEnd k s ⊎ Above k s

last-tells : (k b : ℕ) (s : List ℕ) (at : ℕ) → b < 128 → Groups k b (b ∷ []) → Tells (Ends k) (BadEnd k) (b ∷ s) at (last_group b at)
unfolding Tells SpareEnd
last-tells k b s at h g =
    cond-case (Tells (Ends k) (BadEnd k) (b ∷ s) at) (is_spare b) Malformed (Number b (at + 1))
    (λ e. let z = eqb-true b _ e in inl (b, b ∷ [], s, refl, g, omega arith))
    (λ e. let p = eqb-false b _ e in record { bytes = b ∷ []; rest = s; split = refl; spells = (g, omega arith); place = refl })

groups-tell : (k : ℕ) (s : List ℕ) (at : ℕ) → Tells (Ends k) (BadEnd k) s at (groups (suc k) s at)
unfolding groups Tells Above
groups-tell zero [] at = (1, 1 ∷ [], omega arith, (tenth {b = 1} (omega arith), omega arith))
groups-tell (suc k) [] at = (1, 1 ∷ [], omega arith, (final {b = 1} (omega arith), omega arith))
groups-tell zero (b ∷ s) at =
    cond-case (Tells (Ends 0) (BadEnd 0) (b ∷ s) at) (ltb b 2) (last_group b at) Malformed
    (λ e. let h = ltb-true b 2 e in last-tells 0 b s at (omega arith) (tenth h))
    (λ e. let h = ltb-false b 2 e in inr (omega arith, λ i l. absurd (omega arith), omega arith))
groups-tell (suc k) (b ∷ s) at =
    cond-case (Tells (Ends (suc k)) (BadEnd (suc k)) (b ∷ s) at) (ltb b 128) (last_group b at) (before (b - 128) (groups (suc k) s (at + 1)))
    (λ e. let h = ltb-true b 128 e in last-tells (suc k) b s at h (final h))
    (λ e.
    let h = ltb-false b 128 e in
    before-tells (Ends k) (Ends (suc k)) (BadEnd k) (BadEnd (suc k)) s at b (groups (suc k) s (at + 1)) (λ n bs. ends_more k n b bs h)
    (⊎_elim (λ w. inl (spare_more k b s h w)) (λ w. inr (above_more k b s h w))) (groups-tell k s (at + 1)))

abbrev Bad : List ℕ → Type 0
Bad s = Spare s ⊎ TenthAbove s

bad_more : (b : ℕ) (s : List ℕ) → 128 ≤ b → BadEnd 8 s → Bad (b ∷ s)
unfolding SpareEnd Above
bad_more b s h (inl (n, bs, rest, e, g, z)) =
    inl (b - 128 + 128 * n, b ∷ bs, rest, ap (λ (l : List ℕ). b ∷ l) e, group h g, omega (arith, groups-pos 8 n bs g), omega (arith, last-any 8 n bs g b 0))
bad_more b s h (inr w) = inr (above_more 8 b s h w)

front-tell : (s : List ℕ) (at : ℕ) → Tells Spelled Bad s at (front_var_u_int s at)
unfolding front_var_u_int Tells
front-tell [] at = (1, 1 ∷ [], omega arith, spelled-one 1 (omega arith))
front-tell (b ∷ s) at =
    cond-case (Tells Spelled Bad (b ∷ s) at) (ltb b 128) (Number b (at + 1)) (before (b - 128) (groups 9 s (at + 1)))
    (λ e. record { bytes = b ∷ []; rest = s; split = refl; spells = spelled-one b (ltb-true b 128 e); place = refl })
    (λ e.
    let h = ltb-false b 128 e in
    before-tells (Ends 8) Spelled (BadEnd 8) Bad s at b (groups 9 s (at + 1)) (λ n bs. spelled-more n b bs h) (bad_more b s h) (groups-tell 8 s (at + 1)))

-- what is read is spelled by the bytes passed over
pub read-spelled : (s : List ℕ) (at n next : ℕ) → front_var_u_int s at ≡ Number n next → Starts Spelled s at n next
unfolding Tells
read-spelled s at n next e = subst (Tells Spelled Bad s at) e (front-tell s at)

-- ---- bytes are cut exactly when they are the start of a spelled number and not the whole of it

groups-cuts : (k n : ℕ) (bs : List ℕ) → Groups k n bs → (j at : ℕ) → j < length bs → groups (suc k) (take j bs) at ≡ Cut
unfolding groups
groups-cuts k n bs (tenth h) zero at l = refl
groups-cuts k n bs (tenth h) (suc j) at l = absurd (omega arith)
groups-cuts k n bs (final h) zero at l = refl
groups-cuts k n bs (final h) (suc j) at l = absurd (omega arith)
groups-cuts k n bs (group h g) zero at l = refl
groups-cuts k n bs (group {k = i} {n = m} {b = b} {bs = cs} h g) (suc j) at l = rw (le-ltb b 128 h, groups-cuts i m cs g j (at + 1) (omega arith))

view-cut : (n : ℕ) (bs : List ℕ) (j at : ℕ) → View n bs → j < length bs → front_var_u_int (take j bs) at ≡ Cut
unfolding front_var_u_int
view-cut n bs zero at v l = refl
view-cut n bs (suc j) at (alone h) l = absurd (omega arith)
view-cut n bs (suc j) at (led {n = m} {b = b} {bs = cs} h g p) l = rw (le-ltb b 128 h, groups-cuts 8 m cs g j (at + 1) (omega arith))

pub spelled-cut : (n : ℕ) (bs : List ℕ) (j at : ℕ) → Spelled n bs → j < length bs → front_var_u_int (take j bs) at ≡ Cut
spelled-cut n bs j at s l = view-cut n bs j at (view n bs s) l

pub cut_completed : (s : List ℕ) (at : ℕ) → front_var_u_int s at ≡ Cut → Completed Spelled s
unfolding Tells
cut_completed s at e = subst (Tells Spelled Bad s at) e (front-tell s at)

-- ---- bytes are malformed exactly when they start with groups of which the last is a spare one, or with a tenth byte above 1

groups-spare : (k n : ℕ) (bs : List ℕ) → Groups k n bs → last_or 0 bs ≡ 0 → (t : List ℕ) (at : ℕ) → groups (suc k) (bs ++ t) at ≡ Malformed
unfolding groups
groups-spare k n bs (tenth {b = b} h) z t at = rw (lt-ltb b 2 h, last-spare b at z)
groups-spare k n bs (final {b = b} h) z t at = rw (lt-ltb b 128 h, last-spare b at z)
groups-spare k n bs (group {k = j} {n = m} {b = b} {bs = cs} h g) z t at =
    rw (le-ltb b 128 h, groups-spare j m cs g (omega (arith, last-any j m cs g b 0)) t (at + 1))

groups-above : (k : ℕ) (s : List ℕ) (at : ℕ) → Above k s → groups (suc k) s at ≡ Malformed
unfolding groups Above
groups-above k [] at w = absurd (omega (arith, w.0))
groups-above zero (b ∷ s) at w = rw (le-ltb b 2 w.2)
groups-above (suc k) (b ∷ s) at w =
    rw (le-ltb b 128 (w.1 0 (omega arith)), groups-above k s (at + 1) (omega (arith, w.0), λ i l. w.1 (suc i) (omega arith), w.2))

spare_bad : (k n : ℕ) (bs t : List ℕ) (at : ℕ) → Groups k n bs → k ≡ 9 → 1 < length bs → last_or 0 bs ≡ 0 → front_var_u_int (bs ++ t) at ≡ Malformed
unfolding front_var_u_int
spare_bad k n bs t at (tenth h) e l z = absurd (omega arith)
spare_bad k n bs t at (final h) e l z = absurd (omega arith)
spare_bad k n bs t at (group {k = j} {n = m} {b = b} {bs = cs} h g) e l z =
    let eight : suc j ≡ 9 = omega arith in
    rw (le-ltb b 128 h, ← eight, groups-spare j m cs g (omega (arith, last-any j m cs g b 0)) t (at + 1))

bad_front : (s : List ℕ) (at : ℕ) → Bad s → front_var_u_int s at ≡ Malformed
unfolding front_var_u_int Above
bad_front s at (inl (n, bs, rest, e, g, l, z)) = rw e (spare_bad 9 n bs rest at g refl l z)
bad_front [] at (inr w) = absurd (omega (arith, w.0))
bad_front (b ∷ s) at (inr w) =
    rw (le-ltb b 128 (w.1 0 (omega arith)), groups-above 8 s (at + 1) (omega (arith, w.0), λ i l. w.1 (suc i) (omega arith), w.2))

pub malformed-iff : (s : List ℕ) (at : ℕ) → (front_var_u_int s at ≡ Malformed) ↔ (Spare s ⊎ TenthAbove s)
unfolding Tells
malformed-iff s at = (λ e. subst (Tells Spelled Bad s at) e (front-tell s at), bad_front s at)

-- ---- what follows

groups-settled : (k : ℕ) (s t : List ℕ) (at : ℕ) → (groups k s at ≡ Cut → ⊥) → groups k (s ++ t) at ≡ groups k s at
unfolding groups
groups-settled zero s t at h = refl
groups-settled (suc k) [] t at h = absurd (h refl)
groups-settled (suc zero) (b ∷ s) t at h = refl
groups-settled (suc (suc k)) (b ∷ s) t at h = elim (dec_lt b 128) [
  | yes l ↦ rw (lt-ltb b 128 l)
  | no n ↦
      let e = le-ltb b 128 (omega arith) in
      rw (e, groups-settled (suc k) s t (at + 1) (λ c. h (rw (e, c))))
]

-- bytes after a VarUInt that is not cut change nothing
pub front-settled : (s t : List ℕ) (at : ℕ) → (front_var_u_int s at ≡ Cut → ⊥) → front_var_u_int (s ++ t) at ≡ front_var_u_int s at
unfolding front_var_u_int
front-settled [] t at h = absurd (h refl)
front-settled (b ∷ s) t at h = elim (dec_lt b 128) [
  | yes l ↦ rw (lt-ltb b 128 l)
  | no n ↦
      let e = le-ltb b 128 (omega arith) in
      rw (e, groups-settled 9 s t (at + 1) (λ c. h (rw (e, c))))
]

-- ---- a number of 64 bits has one spelling, which is what the writer writes

shortest-groups : (k y : ℕ) → y < 2 * 128 ^ k → Groups k y (shortest k y)
unfolding shortest
shortest-groups zero y h = let l : y < 2 = omega arith in tenth l
shortest-groups (suc k) y h = elim (dec_lt y 128) [
  | yes l ↦ rw (lt-ltb y 128 l) (final l)
  | no n ↦
      let e : y % 128 + 128 - 128 + 128 * (y / 128) ≡ y = omega arith in
      rw (le-ltb y 128 (omega arith))
      (subst (λ (m : ℕ). Groups (suc k) m ((y % 128 + 128) ∷ shortest k (y / 128))) e (group {b = y % 128 + 128} (omega arith) (shortest-groups k (y / 128) (omega arith))))
]

-- the last byte is 0 only where it is the only one
shortest-last : (k y : ℕ) → y < 128 ^ suc k → 1 < length (shortest k y) → Ended (shortest k y)
shortest-last k y h l =
    let w =
    shortest-ind (λ k y l. ((a : ℕ) → 0 < y → 0 < last_or a l) × (1 < length l → 0 < y)) (λ k y h. (λ a p. p, λ l. absurd (omega arith)))
    (λ k y h s f. (λ a p. f.0 (y % 128 + 128) (omega arith), λ l. omega arith)) k y h in
    omega (arith, w.0 0 (w.1 l))

-- what the writer writes spells the number
pub shortest-spelled : (n : ℕ) → n < 2 ^ 64 → Spelled n (varuint_bytes n)
unfolding Spelled varuint_bytes
shortest-spelled n h = (shortest-groups 9 n h, shortest-last 9 n (omega arith))

-- k + 1 groups, of which the last is at most 1, are a number below 2 * 128 ^ k
groups-fit : (k n : ℕ) (bs : List ℕ) → Bytes bs → Groups k n bs → n < 2 * 128 ^ k
groups-fit k n bs h (tenth l) = omega arith
groups-fit k n bs h (final {k = j} l) = omega (arith, one-le-pow j 128 (lit< tt))
groups-fit k n bs h (group {k = j} {n = m} {bs = cs} l g) = omega (arith, h 0, groups-fit j m cs (λ i. h (suc i)) g)

-- a number that bytes spell has 64 bits
pub spelled-fits : (n : ℕ) (bs : List ℕ) → Bytes bs → Spelled n bs → n < 2 ^ 64
unfolding Spelled
spelled-fits n bs h s = groups-fit 9 n bs h s.0

-- groups whose last is not 0 are a number above 0
ends-pos : (k n : ℕ) (bs : List ℕ) → Groups k n bs → Ended bs → 0 < n
ends-pos k n bs (tenth h) l = omega arith
ends-pos k n bs (final h) l = omega arith
ends-pos k n bs (group {k = j} {n = m} {b = b} {bs = cs} h g) l = omega (arith, ends-pos j m cs g (omega (arith, last-any j m cs g b 0)))

-- a group in front of what is the shortest form of m
group-shortest : (k m b : ℕ) (cs : List ℕ) → 128 ≤ b → b < 256 → 0 < m → cs ≡ shortest k m → b ∷ cs ≡ shortest (suc k) (b - 128 + 128 * m)
group-shortest k m b cs h u p e =
    let x = b - 128 + 128 * m in
    let low : x % 128 + 128 ≡ b = omega arith in
    let high : x / 128 ≡ m = omega arith in
    rw (shortest-more k x (omega arith), low, high, e)

ends-shortest : (k n : ℕ) (bs : List ℕ) → Groups k n bs → Ended bs → Bytes bs → bs ≡ shortest k n
ends-shortest k n bs (tenth {b = b} h) l u = sym (shortest-done 0 b (omega arith))
ends-shortest k n bs (final {k = j} {b = b} h) l u = sym (shortest-done (suc j) b h)
ends-shortest k n bs (group {k = j} {n = m} {b = b} {bs = cs} h g) l u =
    let l' : Ended cs = omega (arith, last-any j m cs g b 0) in
    group-shortest j m b cs h (u 0) (ends-pos j m cs g l') (ends-shortest j m cs g l' (λ i. u (suc i)))

view-shortest : (n : ℕ) (bs : List ℕ) → View n bs → Bytes bs → bs ≡ shortest 9 n
view-shortest n bs (alone {b = b} h) u = sym (shortest-done 9 b h)
view-shortest n bs (led {n = m} {b = b} {bs = cs} h g l) u =
    group-shortest 8 m b cs h (u 0) (ends-pos 8 m cs g l) (ends-shortest 8 m cs g l (λ i. u (suc i)))

-- what spells a number is what the writer writes for it
pub spelled_is : (n : ℕ) (bs : List ℕ) → Bytes bs → Spelled n bs → bs ≡ varuint_bytes n
unfolding varuint_bytes
spelled_is n bs u s = view-shortest n bs (view n bs s) u

cons-bytes : (b : ℕ) (bs : List ℕ) → b < 256 → Bytes bs → Bytes (b ∷ bs)
cons-bytes b bs h u zero = h
cons-bytes b bs h u (suc i) = u i

pub shortest-bytes : (n : ℕ) → n < 2 ^ 64 → Bytes (varuint_bytes n)
unfolding varuint_bytes
shortest-bytes n h =
    shortest-ind (λ k y l. Bytes l) (λ k y h. cons-bytes y [] (omega arith) (λ i. lit< tt)) (λ k y h s u. cons-bytes (y % 128 + 128) (shortest k (y / 128)) (omega arith) u) 9 n (omega arith)

pub one_spelling : (n : ℕ) (bs : List ℕ) → (Bytes bs × Spelled n bs) ↔ ((bs ≡ varuint_bytes n) × (n < 2 ^ 64))
one_spelling n bs = (
  λ w. (spelled_is n bs w.0 w.1, spelled-fits n bs w.0 w.1),
  λ w. (subst Bytes (sym w.0) (shortest-bytes n w.1), subst (Spelled n) (sym w.0) (shortest-spelled n w.1)),
)

-- no groups of the number are fewer, spare ones or not
groups-least : (k n : ℕ) (bs : List ℕ) → Groups k n bs → Bytes bs → length (shortest k n) ≤ length bs
groups-least k n bs (tenth {b = b} l) h = rw (shortest-done 0 b (omega arith)) (omega arith)
groups-least k n bs (final {k = j} {b = b} l) h = rw (shortest-done (suc j) b l) (omega arith)
groups-least k n bs (group {k = j} {n = m} {b = b} {bs = cs} l g) h =
    let x = b - 128 + 128 * m in
    elim (dec_lt x 128) [
      | yes s ↦ rw (shortest-done (suc j) x s) (omega arith)
      | no o ↦
          let q : x / 128 ≡ m = omega (arith, h 0) in
          rw (shortest-more j x (omega arith), q) (omega (arith, groups-least j m cs g (λ i. h (suc i))))
    ]

pub none-shorter : (n : ℕ) (bs : List ℕ) → Bytes bs → Groups 9 n bs → length (varuint_bytes n) ≤ length bs
unfolding varuint_bytes
none-shorter n bs h g = groups-least 9 n bs g h

-- a number of 64 bits has at most ten bytes
pub shortest-ten : (n : ℕ) → n < 2 ^ 64 → length (varuint_bytes n) ≤ 10
unfolding varuint_bytes
shortest-ten n h = shortest-le 9 n (omega arith)

-- a number below 128 is one byte
pub one_byte : (x : ℕ) → x < 128 → varuint_bytes x ≡ x ∷ []
unfolding varuint_bytes
one_byte x h = shortest-done 9 x h

-- ---- at a place of a slice

pub read_back : (p t : List ℕ) (x : ℕ) → x < 2 ^ 64 → varuint (p ++ (varuint_bytes x ++ t)) (length p) ≡ Number x (length p + length (varuint_bytes x))
read_back p t x h = rw drop-append_seam (spelled-reads x (varuint_bytes x) t (length p) (shortest-spelled x h))

-- the place after a number is past its first byte and within the slice
pub varuint-inside : (s : List ℕ) (at v next : ℕ) → varuint s at ≡ Number v next → (at < next) × (next ≤ length s)
varuint-inside s at v next e =
    let r = read-spelled (drop at s) at v next e in
    omega (arith, r.place, spelled-pos v r.bytes r.spells, ap length r.split ∙ length-append r.bytes r.rest, length-drop at s)
