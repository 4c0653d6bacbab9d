-- When the rows of a sheet over its bytes show a value, whatever the order of the refusals; and what of a row the writer uses.
use Rattle.std.specs.Prelude.{◌≡◌, List, [], ◌∷◌, true, ℕ, zero, suc, ◌+◌, ◌^◌, ◌≤◌, ◌<◌, length}
use Rattle.buffer.specs.Span.{span, SpanIs}
use Rattle.wire.specs.Little.{little}
use Rattle.utf8.specs.Utf8.{Utf8}
use Rattle.schema.specs.declared.Field.{Field}
use Rattle.schema.specs.Table.{Shape, unknown, scalar, text, array, map, struct, width, bitmap_bytes}
use Rattle.value.specs.declared.Row.{Row}
use Rattle.value.specs.Value.{Tree, tip, branch, Forest, stop, plus, rows, Value, value, values}
use Rattle.value.specs.Read.{Item, plan, row_count, required_set, known_bits}
use Rattle.value.specs.Spell.{keys_of, Distinct}

-- ---- a tree fits bytes: each of its rows names its own content

-- The row of a scalar, a string or bytes, by its place, length and count, shows the content x.
abbrev pub LeafFits : List ℕ → Shape → (place n count : ℕ) → List ℕ → Type 0
LeafFits B (scalar kind) p n c x = (n ≡ width kind) × (c ≡ 0) × SpanIs B p n x × (kind ≡ 1 → little x < 2)
LeafFits B (text kind) p n c x = (c ≡ 0) × SpanIs B p n x × (kind ≡ 12 → Utf8 x)
LeafFits B unknown p n c x = ⊥
LeafFits B (array _) p n c x = ⊥
LeafFits B (map _ _) p n c x = ⊥
LeafFits B (struct _) p n c x = ⊥

-- The presence bytes at a place are m, with no required field absent.
abbrev pub BitsFit : List ℕ → List Field → (place m : ℕ) → Type 0
BitsFit B fs p m =
    (p + bitmap_bytes (length fs) ≤ length B) × (m ≡ little (span B p (bitmap_bytes (length fs)))) × (required_set fs m ≡ true)

-- A composite's row, by its place and count, shows the head h.
abbrev pub HeadFits : List ℕ → Shape → (place count h : ℕ) → Type 0
HeadFits B (array _) p c n = c ≡ n
HeadFits B (map _ _) p c n = (c ≡ n) × (n ≤ 64)
HeadFits B (struct fs) p c m = BitsFit B fs p m × (m < 2 ^ length fs) × (c ≡ row_count (struct fs) m)
HeadFits B unknown p c h = ⊥
HeadFits B (scalar _) p c h = ⊥
HeadFits B (text _) p c h = ⊥

-- The trees of a plan, each by the relation P of its type.
abbrev pub AllFit : (ℕ → Tree → Type 0) → List Item → Forest → Type 0
AllFit P [] stop = Unit {0}
AllFit P [] (plus t ts) = ⊥
AllFit P (i ∷ is) stop = ⊥
AllFit P (i ∷ is) (plus t ts) = P i.type t × AllFit P is ts

abbrev pub WholeFits : (ℕ → Tree → Type 0) → List ℕ → Shape → ℕ → Tree → Type 0
WholeFits P B s t (tip r x) = (r.ty ≡ t) × LeafFits B s r.place r.length r.count x
WholeFits P B s t (branch r h ts) =
    (r.ty ≡ t) × HeadFits B s r.place r.count h × AllFit P (plan s h) ts × Distinct (keys_of (plan s h) (values ts))

-- The tree, of type t, fits the bytes, with d levels of depth allowed.
abbrev pub Fits : (ℕ → Shape) → List ℕ → (d t : ℕ) → Tree → Type 0
Fits S B zero t tree = ⊥
Fits S B (suc d) t tree = WholeFits (Fits S B d) B (S t) t tree

-- The root: only its known bits matter.
abbrev pub RootFits : (ℕ → Shape) → List ℕ → ℕ → List Field → Tree → Type 0
RootFits S B t fs (tip r x) = ⊥
RootFits S B t fs (branch r h ts) =
    (m : ℕ) × (r.ty ≡ t)
    × BitsFit B fs r.place m
    × (h ≡ known_bits fs m)
    × (r.count ≡ row_count (struct fs) h)
    × AllFit (Fits S B 15) (plan (struct fs) h) ts

-- The rows over the bytes show the value v, a root of type t with the fields fs.
abbrev pub Shows : (ℕ → Shape) → List ℕ → ℕ → List Field → List Row → Value → Type 0
Shows S B t fs rs v = (tree : Tree) × (rows tree ≡ rs) × RootFits S B t fs tree × (value tree ≡ v)

-- ---- what rows show where any struct may have bits beyond its known fields: row by row, so depth, 64 pairs and keys apart are not asked here

-- A composite's row shows the head h: of a struct's bits only the known ones matter, as at the root.
abbrev pub HeadKnown : List ℕ → Shape → (place count h : ℕ) → Type 0
HeadKnown B (array _) p c n = c ≡ n
HeadKnown B (map _ _) p c n = c ≡ n
HeadKnown B (struct fs) p c h = (m : ℕ) × BitsFit B fs p m × (h ≡ known_bits fs m) × (c ≡ row_count (struct fs) h)
HeadKnown B unknown p c h = ⊥
HeadKnown B (scalar _) p c h = ⊥
HeadKnown B (text _) p c h = ⊥

module _ (S : ℕ → Shape) (B : List ℕ) where
  -- Each row of the tree, of type t, shows by the shapes S its content, its count, and the known fields that are present.
  unfoldable mutual
    pub FitsKnown : Tree → (t : ℕ) → Type 0
    FitsKnown (tip r x) t = (r.ty ≡ t) × LeafFits B (S t) r.place r.length r.count x
    FitsKnown (branch r h ts) t = (r.ty ≡ t) × HeadKnown B (S t) r.place r.count h × AllKnown ts (plan (S t) h)

    pub AllKnown : Forest → List Item → Type 0
    AllKnown stop [] = Unit {0}
    AllKnown stop (i ∷ is) = ⊥
    AllKnown (plus x ts) [] = ⊥
    AllKnown (plus x ts) (i ∷ is) = FitsKnown x i.type × AllKnown ts is

  -- The rows over the bytes show the value v, of type t, whatever bits its structs have beyond their known fields.
  abbrev pub ShowsKnown : (t : ℕ) → List Row → Value → Type 0
  ShowsKnown t rs v = (tree : Tree) × (rows tree ≡ rs) × FitsKnown tree t × (value tree ≡ v)

-- ---- what one row tells

-- By the shapes: its type, its count, and a content or the known presence bits. Places and composite lengths are not in it.
pub record RowTold : Type 0 where
  pub ty : ℕ
  pub count : ℕ
  pub held : List ℕ

abbrev pub held_by : List ℕ → Shape → (place n : ℕ) → List ℕ
held_by B (scalar _) p n = span B p n
held_by B (text _) p n = span B p n
held_by B (struct fs) p n = known_bits fs (little (span B p (bitmap_bytes (length fs)))) ∷ []
held_by B unknown p n = []
held_by B (array _) p n = []
held_by B (map _ _) p n = []

abbrev pub told : (ℕ → Shape) → List ℕ → Row → RowTold
told S B r = record { ty = r.ty; count = r.count; held = held_by B (S r.ty) r.place r.length }

-- ---- what of a row the writer uses

abbrev pub used_place : Shape → ℕ → ℕ
used_place (array _) p = 0
used_place (map _ _) p = 0
used_place (scalar _) p = p
used_place (text _) p = p
used_place (struct _) p = p
used_place unknown p = p

abbrev pub used_length : Shape → ℕ → ℕ
used_length (array _) n = 0
used_length (map _ _) n = 0
used_length (struct _) n = 0
used_length (scalar _) n = n
used_length (text _) n = n
used_length unknown n = n

-- The row with an array's or map's place and a composite's length set to 0.
abbrev pub used : (ℕ → Shape) → Row → Row
used S r = record { ty = r.ty; place = used_place (S r.ty) r.place; length = used_length (S r.ty) r.length; count = r.count }
