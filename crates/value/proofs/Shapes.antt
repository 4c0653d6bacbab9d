-- What the proofs use of the shapes that good tables give their type numbers.
use mathlib.Core.Path.{◌≡◌}
use mathlib.Core.List.{List, [], ◌∷◌}
use Prim.Native.Nat.{ℕ, zero, suc, ◌≤◌, ◌<◌}
use native.Mathlib.Omega.{arith}
use lib.ListN.{length, get_or}
use Rattle.schema.specs.declared.Field.{Field}
use Rattle.schema.specs.Table.{Table, Shape, unknown, scalar, text, array, map, struct, shape, width}
use Rattle.schema.specs.Check.{no_field}
use Rattle.schema.specs.Good.{GoodSchema}
use Rattle.schema.specs.Extend.{Widens, Extends, Grows, SameBytes}
use Rattle.schema.proofs.Shapes.{Within, within}
use Rattle.schema.proofs.Extending.{grows, same_bytes}

-- A scalar has a width and a struct a field, so each value takes a byte.
abbrev pub Solid : Shape → Type 0
Solid (scalar kind) = 0 < width kind
Solid (struct fs) = 0 < length fs
Solid unknown = Unit {0}
Solid (text _) = Unit {0}
Solid (array _) = Unit {0}
Solid (map _ _) = Unit {0}

-- The types that a shape names are below n.
abbrev pub FieldsBelow : ℕ → List Field → Type 0
FieldsBelow n [] = Unit {0}
FieldsBelow n (f ∷ fs) = (f.ty < n) × FieldsBelow n fs

abbrev pub Closed : ℕ → Shape → Type 0
Closed n (array e) = e < n
Closed n (map k v) = (k < n) × (v < n)
Closed n (struct fs) = FieldsBelow n fs
Closed n unknown = Unit {0}
Closed n (scalar _) = Unit {0}
Closed n (text _) = Unit {0}

-- Each of the fields is optional.
abbrev pub Optional : List Field → Type 0
Optional gs = (i : ℕ) → i < length gs → (get_or gs i no_field).optional ≡ 1

-- The shapes S' of a new table extend the shapes S of an old one, which has n types; bitmaps may grow.
pub record Widening (S S' : ℕ → Shape) (n : ℕ) : Type 0 where
  pub closed : (t : ℕ) → t < n → Closed n (S t)
  pub grows : (t : ℕ) → t < n → Grows (S t) (S' t)
  pub solid : (t : ℕ) → Solid (S' t)

-- And here they keep their bytes.
pub record Extension (S S' : ℕ → Shape) (n : ℕ) : Type 0 where
  pub wide : Widening S S' n
  pub bytes : (t : ℕ) → t < n → SameBytes (S t) (S' t)

-- ---- of good tables

abbrev Positive : List ℕ → Type 0
Positive [] = Unit {0}
Positive (w ∷ ws) = (0 < w) × Positive ws

positive-at : (ws : List ℕ) (k : ℕ) → Positive ws → k < length ws → 0 < get_or ws k 0
positive-at [] k p h = absurd (omega arith)
positive-at (w ∷ ws) zero p h = p.0
positive-at (w ∷ ws) (suc k) p h = positive-at ws k p.1 (omega arith)

width_positive : (k : ℕ) → 1 ≤ k → k ≤ 11 → 0 < width k
width_positive zero p q = absurd (omega arith)
width_positive (suc k) p q = positive-at (1 ∷ 1 ∷ 2 ∷ 4 ∷ 8 ∷ 1 ∷ 2 ∷ 4 ∷ 8 ∷ 4 ∷ 8 ∷ []) k (omega arith) (omega arith)

within-solid : (n : ℕ) (key : ℕ → Shape) (s : Shape) → Within n key s → Solid s
within-solid n key (scalar k) w = width_positive k w.0 w.1
within-solid n key (struct fs) w = w.0
within-solid n key unknown w = tt
within-solid n key (text _) w = tt
within-solid n key (array _) w = tt
within-solid n key (map _ _) w = tt

fields-below : (n : ℕ) (fs : List Field) → ((i : ℕ) → i < length fs → (get_or fs i no_field).ty < n) → FieldsBelow n fs
fields-below n [] h = tt
fields-below n (f ∷ fs) h = (h 0 (omega arith), fields-below n fs (λ i l. h (suc i) (omega arith)))

within-closed : (n : ℕ) (key : ℕ → Shape) (s : Shape) → Within n key s → Closed n s
within-closed n key (struct fs) w = fields-below n fs (λ i l. (w.2 i l).0)
within-closed n key (array e) w = w
within-closed n key (map k v) w = (w.0, w.1)
within-closed n key unknown w = tt
within-closed n key (scalar _) w = tt
within-closed n key (text _) w = tt

pub good-solid : (T : Table) → GoodSchema T → (t : ℕ) → Solid (shape T t)
good-solid T g t = within-solid _ (shape T) (shape T t) (within T g t)

pub good-closed : (T : Table) → GoodSchema T → (t : ℕ) → Closed (length T.types) (shape T t)
good-closed T g t = within-closed _ (shape T) (shape T t) (within T g t)

pub good_widening : (old new : Table) → GoodSchema old → GoodSchema new → Widens old new → Widening (shape old) (shape new) (length old.types)
good_widening old new g g' x = record {
  closed = λ t l. good-closed old g t;
  grows = grows old new g g' x;
  solid = good-solid new g';
}

pub good-extension : (old new : Table) → GoodSchema old → GoodSchema new → Extends old new → Extension (shape old) (shape new) (length old.types)
good-extension old new g g' x = record { wide = good_widening old new g g' x.widens; bytes = same_bytes old new g g' x }
