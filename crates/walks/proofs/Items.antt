-- Laws of the items that a composite holds: read one after the other, from bytes or from rows, and put into lent memory.
use Rattle.std.proofs.Common.{◌≡◌, ℕ, suc, ◌+◌, ◌-◌, ◌<◌, ◌≤◌, true, false, not, ◌&&◌, List, [], ◌∷◌, replicate, sym, refl, ap, ◌∙◌, arith}
use borrow.Author.Tests.{not-true}
use Rattle.wire.proofs.Cases.{differ}
use Rattle.parse.specs.Reader.{CursorOf, AnswerOf, ReaderOf, Accepted, refused, seen, and_then, check}
use Rattle.parse.proofs.Answers.{accepted-first, accepted-check}
use Rattle.value.specs.declared.Row.{Row}
use Rattle.value.specs.Value.{Tree, tip, Forest, plus, value, content}
use Rattle.value.specs.Read.{Item, plain_item, pairs, among, with_key, walk}
use Rattle.walks.specs.Sink.{FinalOf, ended, stopped, final_of}

abbrev pub key_item : ℕ → Item
key_item k = record { type = k; key = true }

-- ---- the first of the elements, and of the pairs

module _ (e : ℕ) where
  pub elements-more : {n i : ℕ} → i < n → replicate (n - i) (plain_item e) ≡ plain_item e ∷ replicate (n - (i + 1)) (plain_item e)
  elements-more {n} {i} h = let q : n - i ≡ suc (n - (i + 1)) = omega arith in ap (λ (k : ℕ). replicate k (plain_item e)) q

  pub elements-none : (left : ℕ) → left ≤ 0 → replicate left (plain_item e) ≡ []
  elements-none left h = let q : left ≡ 0 = omega arith in rw q

module _ (k v : ℕ) where
  pub pairs-some : {n i : ℕ} → i < n → pairs (n - i) k v ≡ key_item k ∷ (plain_item v ∷ pairs (n - (i + 1)) k v)
  pairs-some {n} {i} h = let q : n - i ≡ suc (n - (i + 1)) = omega arith in ap (λ (j : ℕ). pairs j k v) q

  pub pairs-none : (left : ℕ) → left ≤ 0 → pairs left k v ≡ []
  pairs-none left h = let q : left ≡ 0 = omega arith in rw q

-- ---- ends

module _ {E A X : Type 0} (f : A → X → X) where
  -- a walk that ended has read, one that stopped was refused
  pub ended_is : (o : AnswerOf E A) (x : X) {c : CursorOf E} {y : X} → ended c y ≡ final_of f o x → (a : A) × (o ≡ seen a c) × (y ≡ f a x)
  ended_is (seen a c₁) x e = (a, cc, cc)
  ended_is (refused n q) x e = differ cc

  pub stopped-is : (o : AnswerOf E A) (x : X) {n q : ℕ} → stopped n q ≡ final_of f o x → o ≡ refused n q
  stopped-is (seen a c) x e = differ cc
  stopped-is (refused n' q') x e = cc

  -- where two walks have the same end, one accepts where the other does
  pub accepted-along : {B : Type 0} (g : B → X → X) (o : AnswerOf E A) (o' : AnswerOf E B) (x y : X) → final_of f o x ≡ final_of g o' y → Accepted o' → Accepted o
  accepted-along g (seen a c) o' x y e h = tt
  accepted-along g (refused n q) (seen b c) x y e h = differ cc
  accepted-along g (refused n q) (refused n' q') x y e h = h

-- ---- one item, and those after it

after : {E : Type 0} → (ℕ → ReaderOf E Tree) → (keys : List (List ℕ)) → Item → List Item → (start : ℕ) → Tree → ReaderOf E Forest
after P keys i is start t c =
    and_then (check (not (i.key && among (content (value t)) keys)) 24 start c)
    (λ _ c. and_then (walk P (with_key i.key (content (value t)) keys) is c) (λ ts c. seen (plus t ts) c))

module _ {E : Type 0} (P : ℕ → ReaderOf E Tree) (keys : List (List ℕ)) {js is : List Item} where
  module _ {i : Item} (first : js ≡ i ∷ is) (c : CursorOf E) where
    walk_first : walk P keys js c ≡ and_then (P i.type c) (after P keys i is c.at)
    unfolding walk after
    walk_first = rw first

    pub item-accepted : Accepted (walk P keys js c) → Accepted (P i.type c)
    item-accepted h = accepted-first (P i.type c) _ (rw walk_first at h)

  -- a key that is accepted is new, and the items after it are accepted
  pub key-known : {k : ℕ} → js ≡ key_item k ∷ is → (c : CursorOf E) {r : Row} {u : List ℕ} {c' : CursorOf E} → P k c ≡ seen (tip r u) c'
      → Accepted (walk P keys js c) → (among u keys ≡ false) × Accepted (walk P (u ∷ keys) is c')
  unfolding and_then after value
  key-known first c {u} {c'} read h =
      let w = accepted-check _ 24 c.at c' _ (rw (walk_first first c, read) at h) in
      (not-true (among u keys) w.0, accepted-first (walk P (u ∷ keys) is c') _ w.1)

-- What is put of a tree of type t, and of what was read by a plan: the first item's before that of the items after it, where x allows.
pub record Sink (X : Type 0) : Type 1 where
  pub one : (t : ℕ) → Tree → X → X
  pub all : List Item → Forest → X → X
  pub Fits : X → Type 0
  pub next : (i : Item) (is : List Item) (t : Tree) (ts : Forest) (x : X) → Fits x → all (i ∷ is) (plus t ts) x ≡ all is ts (one i.type t x)

module _ {E X : Type 0} (K : Sink X) (P : ℕ → ReaderOf E Tree) (keys : List (List ℕ)) where
  -- The end of a walk over the items of a plan.
  abbrev pub ahead_of : List Item → CursorOf E → X → FinalOf E X
  ahead_of is c x = final_of (K.all is) (walk P keys is c) x

module _ {E X : Type 0} (K : Sink X) (P : ℕ → ReaderOf E Tree) (keys : List (List ℕ)) {js is : List Item} where
  module _ {i : Item} (first : js ≡ i ∷ is) (c : CursorOf E) where
    pub item-stop : (x y : X) {n q : ℕ} → stopped n q ≡ final_of (K.one i.type) (P i.type c) x → stopped n q ≡ ahead_of K P keys js c y
    unfolding and_then
    item-stop x y h = rw (walk_first P keys first c, stopped-is (K.one i.type) (P i.type c) x h)

    item-next : {t : Tree} {c' : CursorOf E} → P i.type c ≡ seen t c' → (i.key && among (content (value t)) keys) ≡ false
        → (x : X) → K.Fits x → {y : X} → y ≡ K.one i.type t x
        → ahead_of K P keys js c x ≡ ahead_of K P (with_key i.key (content (value t)) keys) is c' y
    unfolding and_then check after
    item-next {t} {c'} read new x fits put =
        rw (walk_first P keys first c, read, new, first, put) (go (walk P (with_key i.key (content (value t)) keys) is c'))
      where
        go : (o : AnswerOf E Forest) → final_of (K.all (i ∷ is)) (and_then o (λ ts c. seen (plus t ts) c)) x ≡ final_of (K.all is) o (K.one i.type t x)
        go (seen ts c₁) = ap (λ (y : X). ended c₁ y) (K.next i is t ts x fits)
        go (refused n q) = refl

  pub item-past : {t : ℕ} → js ≡ plain_item t ∷ is → (c : CursorOf E) (x : X) → K.Fits x → {c' : CursorOf E} {y : X}
      → ended c' y ≡ final_of (K.one t) (P t c) x → ahead_of K P keys js c x ≡ ahead_of K P keys is c' y
  item-past {t} first c x fits h = let (_, read, put) = ended_is (K.one t) (P t c) x h in item-next first c read refl x fits put

  module _ {k : ℕ} (first : js ≡ key_item k ∷ is) (c : CursorOf E) {r : Row} {u : List ℕ} {c' : CursorOf E} (read : P k c ≡ seen (tip r u) c') (x : X) where
    pub key-again : among u keys ≡ true → stopped 24 c.at ≡ ahead_of K P keys js c x
    unfolding and_then check after value
    key-again e = rw (walk_first P keys first c, read, e)

    pub key-past : among u keys ≡ false → K.Fits x → {y : X} → y ≡ K.one k (tip r u) x → ahead_of K P keys js c x ≡ ahead_of K P (u ∷ keys) is c' y
    unfolding value
    key-past new fits put = item-next first c read new x fits put

-- ---- the value of a pair

module _ {E X : Type 0} (K : Sink X) (P : ℕ → ReaderOf E Tree) (k v : ℕ) {n i : ℕ} (keys : List (List ℕ)) (c : CursorOf E) (some : i < n)
    {r : Row} {u : List ℕ} {c' : CursorOf E} (read : P k c ≡ seen (tip r u) c') (x : X) (new : among u keys ≡ false) (fits : K.Fits x)
    {y : X} (put : y ≡ K.one k (tip r u) x) where
  pub pair-stop : (z : X) {a q : ℕ} → stopped a q ≡ final_of (K.one v) (P v c') z → stopped a q ≡ ahead_of K P keys (pairs (n - i) k v) c x
  pair-stop z e = item-stop K P (u ∷ keys) refl c' z y e ∙ sym (key-past K P keys (pairs-some k v some) c read x new fits put)

  pub pair-past : K.Fits y → {c'' : CursorOf E} {z : X} → ended c'' z ≡ final_of (K.one v) (P v c') y
      → ahead_of K P keys (pairs (n - i) k v) c x ≡ ahead_of K P (u ∷ keys) (pairs (n - (i + 1)) k v) c'' z
  pair-past f e = key-past K P keys (pairs-some k v some) c read x new fits put ∙ item-past K P (u ∷ keys) refl c' y f e
