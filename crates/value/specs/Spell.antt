-- What bytes spell a value, as a relation; and the encoding, which the writer writes and which is the one spelling of a value.
use Rattle.std.specs.Prelude.{◌≡◌, List, [], ◌∷◌, ◌++◌, true, ℕ, zero, suc, ◌*◌, ◌^◌, ◌≤◌, ◌<◌, length, get_or}
use Rattle.wire.specs.Varuint.{Spelled, varuint_bytes}
use Rattle.wire.specs.Little.{little, bytes}
use Rattle.utf8.specs.Utf8.{Utf8}
use Rattle.schema.specs.declared.Field.{Field}
use Rattle.schema.specs.Table.{Shape, unknown, scalar, text, array, map, struct, width, bitmap_bytes}
use Rattle.value.specs.Value.{Value, leaf, node, Values, none, some, content}
use Rattle.value.specs.Read.{Item, plan, required_set, with_key, known_bits, unknown_bits}

-- ---- the relation

-- The bytes of a scalar, a string or bytes with the content x.
abbrev pub LeafSpells : Shape → (x bs : List ℕ) → Type 0
LeafSpells (scalar kind) x bs = (bs ≡ x) × (length x ≡ width kind) × (kind ≡ 1 → little x < 2)
LeafSpells (text kind) x bs = (n : List ℕ) × (bs ≡ n ++ x) × Spelled (length x) n × (kind ≡ 12 → Utf8 x)
LeafSpells unknown x bs = ⊥
LeafSpells (array _) x bs = ⊥
LeafSpells (map _ _) x bs = ⊥
LeafSpells (struct _) x bs = ⊥

-- The bytes of a bitmap whose presence bits, unknown ones too, are m, with no required field absent.
abbrev pub BitmapSpells : List Field → ℕ → List ℕ → Type 0
BitmapSpells fs m bs = (length bs ≡ bitmap_bytes (length fs)) × (little bs ≡ m) × (required_set fs m ≡ true)

-- The bytes of a composite's head, which stand before what it holds. A map has 64 pairs at most; an inner struct has no unknown bit.
abbrev pub HeadSpells : Shape → (head : ℕ) → List ℕ → Type 0
HeadSpells (array _) n bs = Spelled n bs
HeadSpells (map _ _) n bs = Spelled n bs × (n ≤ 64)
HeadSpells (struct fs) m bs = BitmapSpells fs m bs × (m < 2 ^ length fs)
HeadSpells unknown h bs = ⊥
HeadSpells (scalar _) h bs = ⊥
HeadSpells (text _) h bs = ⊥

-- The values of a plan one after the other, each by the relation P of its type.
abbrev pub AllSpell : {E : Type 0} → (ℕ → Value → List E → Type 0) → List Item → Values → List E → Type 0
AllSpell P [] none bs = bs ≡ []
AllSpell P [] (some v vs) bs = ⊥
AllSpell P (i ∷ is) none bs = ⊥
AllSpell {E} P (i ∷ is) (some v vs) bs = (x : List E) × (y : List E) × (bs ≡ x ++ y) × P i.type v x × AllSpell P is vs y

-- The contents of the keys among the values of a plan, in wire order.
abbrev pub keys_of : List Item → Values → List (List ℕ)
keys_of [] vs = []
keys_of (i ∷ is) none = []
keys_of (i ∷ is) (some v vs) = with_key i.key (content v) (keys_of is vs)

-- No two are equal.
abbrev pub Distinct : List (List ℕ) → Type 0
Distinct keys = (i j : ℕ) → i < j → j < length keys → get_or keys i [] ≡ get_or keys j [] → ⊥

-- The bytes of a value of a shape, with the relation P for what it holds.
abbrev pub WholeSpells : (ℕ → Value → List ℕ → Type 0) → Shape → Value → List ℕ → Type 0
WholeSpells P s (leaf x) bs = LeafSpells s x bs
WholeSpells P s (node h vs) bs =
    (x : List ℕ) × (y : List ℕ) × (bs ≡ x ++ y) × HeadSpells s h x × AllSpell P (plan s h) vs y × Distinct (keys_of (plan s h) vs)

-- The bytes spell the value, of type t, with d levels of depth allowed.
abbrev pub Spells : (ℕ → Shape) → (d t : ℕ) → Value → List ℕ → Type 0
Spells S zero t v bs = ⊥
Spells S (suc d) t v bs = WholeSpells (Spells S d) (S t) v bs

-- The tail after a root with so many unknown bits set: a byte or more for each, and none without any.
abbrev pub TailFits : (unknown : ℕ) → List ℕ → Type 0
TailFits k tail = (k ≤ length tail) × (k ≡ 0 → length tail ≡ 0)

-- The payload spells the root value, a struct of the fields fs, and ends in the tail.
abbrev pub RootSpells : (ℕ → Shape) → List Field → Value → (payload tail : List ℕ) → Type 0
RootSpells S fs (leaf x) bs tail = ⊥
RootSpells S fs (node h vs) bs tail =
    (m : ℕ) × (x : List ℕ) × (y : List ℕ)
    × (bs ≡ x ++ (y ++ tail))
    × BitmapSpells fs m x
    × (h ≡ known_bits fs m)
    × AllSpell (Spells S 15) (plan (struct fs) h) vs y
    × TailFits (unknown_bits fs m) tail

-- ---- the maps of a value, apart from how they are read

-- Q holds of every map in a value of type t: of the number of its pairs, and of its keys and values by turns.
module _ (Q : (n : ℕ) → Values → Type 0) (S : ℕ → Shape) where
  unfoldable mutual
    pub EachMap : Value → (t : ℕ) → Type 0
    EachMap (leaf x) t = Unit {0}
    EachMap (node h vs) t = ((k v : ℕ) → S t ≡ map k v → Q h vs) × EachIn vs (plan (S t) h)

    pub EachIn : Values → List Item → Type 0
    EachIn none is = Unit {0}
    EachIn (some v vs) [] = Unit {0}
    EachIn (some v vs) (i ∷ is) = EachMap v i.type × EachIn vs is

-- The i-th of some values.
abbrev pub nth : Values → ℕ → Value
nth none i = leaf []
nth (some v vs) zero = v
nth (some v vs) (suc i) = nth vs i

-- No two keys of n pairs are the same value.
abbrev pub Differ : (n : ℕ) → Values → Type 0
Differ n vs = (i j : ℕ) → i < j → j < n → nth vs (2 * i) ≡ nth vs (2 * j) → ⊥

abbrev pub KeysDiffer : (ℕ → Shape) → Value → (t : ℕ) → Type 0
KeysDiffer S v t = EachMap Differ S v t

-- There are 64 pairs at most.
abbrev pub FewPairs : (n : ℕ) → Values → Type 0
FewPairs n vs = n ≤ 64

abbrev pub MapsSmall : (ℕ → Shape) → Value → (t : ℕ) → Type 0
MapsSmall S v t = EachMap FewPairs S v t

-- ---- the encoding

abbrev pub leaf_bytes : Shape → List ℕ → List ℕ
leaf_bytes (scalar _) x = x
leaf_bytes (text _) x = varuint_bytes (length x) ++ x
leaf_bytes unknown x = []
leaf_bytes (array _) x = []
leaf_bytes (map _ _) x = []
leaf_bytes (struct _) x = []

abbrev pub head_bytes : Shape → ℕ → List ℕ
head_bytes (array _) n = varuint_bytes n
head_bytes (map _ _) n = varuint_bytes n
head_bytes (struct fs) m = bytes (bitmap_bytes (length fs)) m
head_bytes unknown h = []
head_bytes (scalar _) h = []
head_bytes (text _) h = []

module _ (S : ℕ → Shape) where
  -- The bytes that the writer writes for a value of type t.
  unfoldable mutual
    pub encode : Value → ℕ → List ℕ
    encode (leaf x) t = leaf_bytes (S t) x
    encode (node h vs) t = head_bytes (S t) h ++ encode_all vs (plan (S t) h)

    pub encode_all : Values → List Item → List ℕ
    encode_all none is = []
    encode_all (some v vs) [] = []
    encode_all (some v vs) (i ∷ is) = encode v i.type ++ encode_all vs is
