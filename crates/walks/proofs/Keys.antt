-- Laws of map keys: contents byte by byte, their digests, and the keys kept.
use Rattle.std.proofs.Common.{◌≡◌, ℕ, zero, suc, ◌+◌, ◌-◌, ◌*◌, ◌/◌, ◌%◌, ◌^◌, ◌<◌, ◌≤◌, max, Bool, true, false, ◌||◌, eqb, List, [], ◌∷◌, length, get_or, set, sym, refl, ap, ◌∙◌, subst, ⊎_elim, eq-or-lt_of_le, arith, length-set, drop-cons, get_or-set_other, get_or-set_same, pow_pos, eq-eqb, ne_eqb, eqb-true}
use native.Mathlib.Nat.{div_self}
use borrow.Author.Tests.{eqb-false}
use lib.Bits.{bit_or, or_step, or_shr}
use Rattle.buffer.specs.Span.{span}
use Rattle.buffer.proofs.Spans.{length-span}
use Rattle.wire.proofs.Numbers.{one_at}
use Rattle.schema.proofs.Bools.{or-false}
use Rattle.value.specs.Read.{same, among}
use Rattle.value.proofs.Keys.{same_not, lengths_differ}
use Rattle.walks.specs.Keys.{digest, has_digest, where_is, key_at, keys_in, flag_cell_of, Flagged, KeptAt, Kept}

-- ---- contents

module _ (B : List ℕ) where
  span-cons : (a n i : ℕ) → i < n → a + n ≤ length B → span B (a + i) (n - i) ≡ get_or B (a + i) 0 ∷ span B (a + (i + 1)) (n - (i + 1))
  span-cons a n i h l =
      let m : n - i ≡ suc (n - (i + 1)) = omega arith in
      let k : a + i < length B = omega arith in
      let q : a + (i + 1) ≡ suc (a + i) = omega arith in
      rw (drop-cons B (a + i) 0 k, m, q)

  span_none : (a n i : ℕ) → n ≤ i → span B (a + i) (n - i) ≡ []
  span_none a n i h = let m : n - i ≡ 0 = omega arith in rw m

  span-first : (a n : ℕ) → span B (a + 0) (n - 0) ≡ span B a n
  span-first a n =
      let m : n - 0 ≡ n = omega arith in
      let q : a + 0 ≡ a = omega arith in
      rw (m, q)

module _ (B : List ℕ) (a n b m : ℕ) (ends : a + n ≤ length B) (ends' : b + m ≤ length B) where
  pub same-short : (n ≡ m → ⊥) → false ≡ same (span B a n) (span B b m)
  same-short h =
      sym (lengths_differ (span B a n) (span B b m) (λ k. h (sym (length-span B a n ends) ∙ k ∙ length-span B b m ends')))

  pub same_first : same (span B (a + 0) (n - 0)) (span B (b + 0) (m - 0)) ≡ same (span B a n) (span B b m)
  same_first = rw (span-first B a n, span-first B b m)

  module _ (e : n ≡ m) (i : ℕ) (o : Bool) (inv : same (span B (a + i) (n - i)) (span B (b + i) (m - i)) ≡ o) where
    pub same-other : i < n → (get_or B (a + i) 0 ≡ get_or B (b + i) 0 → ⊥) → false ≡ o
    same-other h q =
        let k : i < m = omega arith in
        rw (span-cons B a n i h ends, span-cons B b m i k ends', ne_eqb (get_or B (a + i) 0) (get_or B (b + i) 0) q) at inv

    pub same_more : i < n → get_or B (a + i) 0 ≡ get_or B (b + i) 0 → same (span B (a + (i + 1)) (n - (i + 1))) (span B (b + (i + 1)) (m - (i + 1))) ≡ o
    same_more h q =
        let k : i < m = omega arith in
        rw (span-cons B a n i h ends, span-cons B b m i k ends', eq-eqb (get_or B (a + i) 0) (get_or B (b + i) 0) q) at inv

    pub same-all : n ≤ i → true ≡ o
    same-all h = let k : m ≤ i = omega arith in rw (span_none B a n i h, span_none B b m i k) at inv

-- ---- digests

-- contents with other digests are not the same
pub digests_differ : (x y : List ℕ) → (digest y ≡ digest x → ⊥) → false ≡ same x y
digests_differ x y h = sym (same_not x y (λ e. h (ap digest (sym e))))

pub has-digest-first : (keys : List ℕ) (d : ℕ) → false ≡ has_digest keys 0 d
unfolding has_digest
has-digest-first keys d = refl

pub has-digest-step : (keys : List ℕ) (i d : ℕ) (found : Bool) → found ≡ has_digest keys i d → (found || eqb (get_or keys i 0) d) ≡ has_digest keys (i + 1) d
unfolding has_digest
has-digest-step keys i d found e = let q : i + 1 ≡ suc i = omega arith in rw (q, e)

pub has-digest-end : (keys : List ℕ) (i n d : ℕ) → i ≤ n → n ≤ i → has_digest keys i d ≡ has_digest keys n d
has-digest-end keys i n d l h = let e : i ≡ n = omega arith in rw e

-- ---- keys kept

module _ (B keys x : List ℕ) where
  -- a content whose digest is not among theirs is not among them
  pub unheld : (n : ℕ) → Kept B keys true n → has_digest keys n (digest x) ≡ false → false ≡ among x (keys_in B keys n)
  unfolding has_digest keys_in
  unheld zero all e = refl
  unheld (suc n) all e =
      let w = or-false (has_digest keys n (digest x)) (eqb (get_or keys n 0) (digest x)) e in
      let d : false ≡ same x (key_at B keys n) = digests_differ x (key_at B keys n) (λ q. eqb-false (get_or keys n 0) (digest x) w.1 ((all n (omega arith)).1 refl ∙ q)) in
      rw (sym d) (unheld n (λ j l. all j (omega arith)) w.0)

  -- nor is one whose flag is not set
  has-digest-none : (d m : ℕ) → ((j : ℕ) → j < m → get_or keys j 0 ≡ d → ⊥) → has_digest keys m d ≡ false
  unfolding has_digest
  has-digest-none d zero other = refl
  has-digest-none d (suc m) other = rw (has-digest-none d m (λ j k. other j (omega arith)), ne_eqb (get_or keys m 0) d (other m (omega arith)))

  unheld_unflagged : (n d : ℕ) → Kept B keys true n → d ≡ digest x → (Flagged keys d → ⊥) → false ≡ among x (keys_in B keys n)
  unheld_unflagged n d all is clear = unheld n all (rw (← is) (has-digest-none d n (λ j l e. clear (subst (Flagged keys) e ((all j l).2 refl)))))

  -- where nothing is judged, it is known not to be among them
  pub unheld-either : (judging : Bool) (n d : ℕ) → Kept B keys judging n → (judging ≡ true → d ≡ digest x) → (judging ≡ false → among x (keys_in B keys n) ≡ false)
      → (Flagged keys d → ⊥) → false ≡ among x (keys_in B keys n)
  unheld-either true n d all is new clear = unheld_unflagged n d all (is refl) clear
  unheld-either false n d all is new clear = sym (new refl)

  kept_step : (j : ℕ) → 0 < j → (same x (key_at B keys (j - 1)) || among x (keys_in B keys (j - 1))) ≡ among x (keys_in B keys j)
  unfolding keys_in
  kept_step zero h = absurd (omega arith)
  kept_step (suc j) h = let m : suc j - 1 ≡ j = omega arith in rw m

  module _ (j : ℕ) (r : Bool) (is : r ≡ same x (key_at B keys (j - 1))) (h : 0 < j) where
    pub kept-found : r ≡ true → true ≡ among x (keys_in B keys j)
    kept-found t = rw (sym is ∙ t) at (kept_step j h)

    pub kept-other : r ≡ false → among x (keys_in B keys (j - 1)) ≡ among x (keys_in B keys j)
    kept-other t = rw (sym is ∙ t) at (kept_step j h)

  pub kept-none : (j : ℕ) → j ≤ 0 → false ≡ among x (keys_in B keys j)
  unfolding keys_in
  kept-none zero h = refl
  kept-none (suc j) h = absurd (omega arith)

pub keys_none : (B keys : List ℕ) → keys_in B keys 0 ≡ []
unfolding keys_in
keys_none B keys = refl

-- ---- a key more

-- a bit that is set in one of two words is set in both joined
bit-joined : (w m k : ℕ) → bit_or w m / 2 ^ k % 2 ≡ max (w / 2 ^ k % 2) (m / 2 ^ k % 2)
bit-joined w m k =
    let e = or_step (w / 2 ^ k) (m / 2 ^ k) in
    let l : max (w / 2 ^ k % 2) (m / 2 ^ k % 2) < 2 = omega arith in
    rw (or_shr w m k, e) (omega arith)

bit-stays : (w m k : ℕ) → w / 2 ^ k % 2 ≡ 1 → bit_or w m / 2 ^ k % 2 ≡ 1
bit-stays w m k e = bit-joined w m k ∙ omega arith

-- the bit k itself
bit-set : (w k : ℕ) → k < 64 → bit_or w (1 * 2 ^ k % 2 ^ 64) / 2 ^ k % 2 ≡ 1
bit-set w k h =
    let e : (1 * 2 ^ k % 2 ^ 64) / 2 ^ k % 2 ≡ 1 = ap (λ (x : ℕ). x / 2 ^ k % 2) (one_at k h) ∙ ap (λ (x : ℕ). x % 2) (div_self (pow_pos k)) in
    bit-joined w (1 * 2 ^ k % 2 ^ 64) k ∙ omega arith

-- it is kept at i, with its digest: those before stay
module _ (B keys : List ℕ) (i p n d : ℕ) (room : i + 4 < length keys / 2) (short : n < 4294967296) where
  abbrev after : List ℕ
  after = set (set keys (length keys / 2 + i) (p * 4294967296 + n)) i d

  -- with the flag of the digest set
  abbrev marked : List ℕ
  marked = set after (flag_cell_of keys d) (bit_or (get_or after (flag_cell_of keys d) 0) (1 * 2 ^ (d % 64) % 2 ^ 64))

  length-after : length after ≡ length keys
  length-after = length-set (set keys (length keys / 2 + i) (p * 4294967296 + n)) i d ∙ length-set keys (length keys / 2 + i) (p * 4294967296 + n)

  half-after : length after / 2 ≡ length keys / 2
  half-after = ap (λ (k : ℕ). k / 2) length-after

  half-marked : length marked / 2 ≡ length keys / 2
  half-marked = ap (λ (k : ℕ). k / 2) (length-set after (flag_cell_of keys d) (bit_or (get_or after (flag_cell_of keys d) 0) (1 * 2 ^ (d % 64) % 2 ^ 64))) ∙ half-after

  pub room_after : i ≤ length after / 2
  room_after = rw half-after (omega arith)

  where_before : (j : ℕ) → j < i → where_is after j ≡ where_is keys j
  where_before j l =
      ap (λ (k : ℕ). get_or after (k + j) 0) half-after
      ∙ get_or-set_other (set keys (length keys / 2 + i) (p * 4294967296 + n)) i (length keys / 2 + j) d 0 (omega arith)
      ∙ get_or-set_other keys (length keys / 2 + i) (length keys / 2 + j) (p * 4294967296 + n) 0 (omega arith)

  where_last : where_is after i ≡ p * 4294967296 + n
  where_last =
      ap (λ (k : ℕ). get_or after (k + i) 0) half-after
      ∙ get_or-set_other (set keys (length keys / 2 + i) (p * 4294967296 + n)) i (length keys / 2 + i) d 0 (omega arith)
      ∙ get_or-set_same keys (length keys / 2 + i) (p * 4294967296 + n) 0 (omega arith)

  marked_other : (j : ℕ) → (j ≡ flag_cell_of keys d → ⊥) → get_or marked j 0 ≡ get_or after j 0
  marked_other j other = get_or-set_other after (flag_cell_of keys d) j (bit_or (get_or after (flag_cell_of keys d) 0) (1 * 2 ^ (d % 64) % 2 ^ 64)) 0 other

  where_marked : (j : ℕ) → where_is marked j ≡ where_is after j
  where_marked j =
      ap (λ (k : ℕ). get_or marked (k + j) 0) half-marked
      ∙ marked_other (length keys / 2 + j) (omega arith)
      ∙ sym (ap (λ (k : ℕ). get_or after (k + j) 0) half-after)

  digest-before : (j : ℕ) → j < i → get_or after j 0 ≡ get_or keys j 0
  digest-before j l =
      get_or-set_other (set keys (length keys / 2 + i) (p * 4294967296 + n)) i j d 0 (omega arith)
      ∙ get_or-set_other keys (length keys / 2 + i) j (p * 4294967296 + n) 0 (omega arith)

  digest-marked : (j : ℕ) → j < i + 1 → get_or marked j 0 ≡ get_or after j 0
  digest-marked j l = marked_other j (omega arith)

  pub room-there : i < length (set keys (length keys / 2 + i) (p * 4294967296 + n))
  room-there = rw (length-set keys (length keys / 2 + i) (p * 4294967296 + n)) (omega arith)

  digest-last : get_or after i 0 ≡ d
  digest-last = get_or-set_same (set keys (length keys / 2 + i) (p * 4294967296 + n)) i d 0 room-there

  pub flag_cell : flag_cell_of keys d < length after
  flag_cell = rw length-after (omega arith)

  flags-at : (e : ℕ) → get_or after (flag_cell_of keys e) 0 ≡ get_or keys (flag_cell_of keys e) 0
  flags-at e =
      get_or-set_other (set keys (length keys / 2 + i) (p * 4294967296 + n)) i (flag_cell_of keys e) d 0 (omega arith)
      ∙ get_or-set_other keys (length keys / 2 + i) (flag_cell_of keys e) (p * 4294967296 + n) 0 (omega arith)

  -- the flag of the digest, as it is tested
  pub flag-clear : get_or after (flag_cell_of keys d) 0 / 2 ^ (d % 64) % 2 ≡ 0 → Flagged keys d → ⊥
  flag-clear e was = let q = ap (λ (w : ℕ). w / 2 ^ (d % 64) % 2) (flags-at d) in absurd (omega arith)

  pub flag-there : (get_or after (flag_cell_of keys d) 0 / 2 ^ (d % 64) % 2 ≡ 0 → ⊥) → Flagged keys d
  flag-there e =
      let q = ap (λ (w : ℕ). w / 2 ^ (d % 64) % 2) (flags-at d) in
      let b : get_or keys (flag_cell_of keys d) 0 / 2 ^ (d % 64) % 2 < 2 = omega arith in
      omega arith

  flags-after : (e : ℕ) → get_or after (flag_cell_of after e) 0 ≡ get_or keys (flag_cell_of keys e) 0
  flags-after e = ap (λ (k : ℕ). get_or after (k - 4 + e / 64 % 4) 0) half-after ∙ flags-at e

  flags-marked : (e : ℕ) → get_or marked (flag_cell_of marked e) 0 ≡ get_or marked (flag_cell_of keys e) 0
  flags-marked e = ap (λ (k : ℕ). get_or marked (k - 4 + e / 64 % 4) 0) half-marked

  marked-at : get_or marked (flag_cell_of keys d) 0 ≡ bit_or (get_or after (flag_cell_of keys d) 0) (1 * 2 ^ (d % 64) % 2 ^ 64)
  marked-at = get_or-set_same after (flag_cell_of keys d) (bit_or (get_or after (flag_cell_of keys d) 0) (1 * 2 ^ (d % 64) % 2 ^ 64)) 0 flag_cell

  flag-stays : (e : ℕ) → Flagged keys e → Flagged marked e
  flag-stays e was = go (eqb (flag_cell_of keys e) (flag_cell_of keys d)) refl
    where
      go : (t : Bool) → eqb (flag_cell_of keys e) (flag_cell_of keys d) ≡ t → Flagged marked e
      go true q =
          let same-cell : flag_cell_of keys e ≡ flag_cell_of keys d = eqb-true (flag_cell_of keys e) (flag_cell_of keys d) q in
          ap (λ (w : ℕ). w / 2 ^ (e % 64) % 2) (flags-marked e ∙ ap (λ (k : ℕ). get_or marked k 0) same-cell ∙ marked-at)
          ∙ bit-stays (get_or after (flag_cell_of keys d) 0) (1 * 2 ^ (d % 64) % 2 ^ 64) (e % 64)
          (ap (λ (w : ℕ). w / 2 ^ (e % 64) % 2) (ap (λ (k : ℕ). get_or after k 0) (sym same-cell) ∙ flags-at e) ∙ was)
      go false q =
          ap (λ (w : ℕ). w / 2 ^ (e % 64) % 2) (flags-marked e ∙ marked_other (flag_cell_of keys e) (eqb-false (flag_cell_of keys e) (flag_cell_of keys d) q) ∙ flags-at e) ∙ was

  flag-set : Flagged marked d
  flag-set =
      ap (λ (w : ℕ). w / 2 ^ (d % 64) % 2) (flags-marked d ∙ marked-at)
      ∙ bit-set (get_or after (flag_cell_of keys d) 0) (d % 64) (omega arith)

  place_is : (p * 4294967296 + n) / 4294967296 ≡ p
  place_is = omega arith

  length-is : (p * 4294967296 + n) % 4294967296 ≡ n
  length-is = omega arith

  pub keys-same : (m : ℕ) → m ≤ i → keys_in B after m ≡ keys_in B keys m
  unfolding keys_in
  keys-same zero h = refl
  keys-same (suc m) h = rw (where_before m (omega arith), keys-same m (omega arith))

  pub keys-more : keys_in B after (i + 1) ≡ span B p n ∷ keys_in B keys i
  unfolding keys_in
  keys-more = let e : i + 1 ≡ suc i = omega arith in rw (e, where_last, place_is, length-is, keys-same i (omega arith))

  keys-marked : (m : ℕ) → keys_in B marked m ≡ keys_in B after m
  unfolding keys_in
  keys-marked zero = refl
  keys-marked (suc m) = rw (where_marked m, keys-marked m)

  pub marked_more : keys_in B marked (i + 1) ≡ span B p n ∷ keys_in B keys i
  marked_more = keys-marked (i + 1) ∙ keys-more

  module _ (judging : Bool) (before : Kept B keys judging i) where
    pub kept_same : Kept B after judging i
    kept_same j l = rw (where_before j l, digest-before j l, flags-after (get_or keys j 0)) (before j l)

    last-either : (l : List ℕ) → KeptAt B l judging i → ((j : ℕ) → j < i → KeptAt B l judging j) → Kept B l judging (i + 1)
    last-either l last others j h =
        let m : j ≤ i = omega arith in
        ⊎_elim (λ q. rw q last) (others j) (eq-or-lt_of_le m)

    module _ (ends : p + n ≤ length B) (is : judging ≡ true → d ≡ digest (span B p n)) where
      -- where its flag is set already
      pub kept_more : Flagged keys d → Kept B after judging (i + 1)
      kept_more was = last-either after (rw (where_last, digest-last, flags-after d, place_is, length-is) (ends, is, λ _. was)) kept_same

      marked-last : KeptAt B marked judging i
      marked-last = rw (where_marked i, digest-marked i (omega arith), where_last, digest-last, place_is, length-is) (ends, is, λ _. flag-set)

      marked-before : (j : ℕ) → j < i → KeptAt B marked judging j
      marked-before j l =
          let b = before j l in
          rw (where_marked j, digest-marked j (omega arith), where_before j l, digest-before j l) (b.0, b.1, λ t. flag-stays (get_or keys j 0) (b.2 t))

      -- where it is set
      pub kept-marked : Kept B marked judging (i + 1)
      kept-marked = last-either marked marked-last marked-before
