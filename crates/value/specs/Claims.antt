-- What the theorems of proofs/Statements.antt claim of the reader's and the writer's answers.
use Rattle.std.specs.Prelude.{◌≡◌, List, [], ◌∷◌, ◌++◌, false, cond, ℕ, zero, suc, ◌+◌, ◌/◌, ◌%◌, ◌^◌, ◌≤◌, leb, eqb, length}
use Rattle.std.proofs.Math.Option.{Option, none, some}
use Rattle.schema.specs.declared.Field.{Field}
use Rattle.schema.specs.Table.{Shape, struct}
use Rattle.value.specs.declared.Row.{Row}
use Rattle.value.specs.Value.{Tree, rows, Value, value, size}
use Rattle.value.specs.Comparisons as due
use Rattle.value.specs.Read.{Reading, refusal, accepted}
use Rattle.value.specs.Spell.{AllSpell, Spells, RootSpells, encode}
use Rattle.value.specs.Fits.{RootFits, Shows}
use Rattle.value.specs.Delimits.{RootDelimits}
use Rattle.value.specs.Added.{root_carries, without, added_items, added_values}

-- The bits below n that are set in m, least first: bit i has the weight 2 ^ i.
abbrev pub set_bits : (m n : ℕ) → List ℕ
set_bits m zero = []
set_bits m (suc n) = set_bits m n ++ cond (eqb (m / 2 ^ n % 2) 1) (n ∷ []) []

-- A root of type t with the fields fs, by the shapes S.
module _ (S : ℕ → Shape) (t : ℕ) (fs : List Field) where
  -- The payload spells v within the limits; its tail is at a place, of n bytes.
  abbrev pub Rightful : (payload : List ℕ) (room : ℕ) → Value → (place n : ℕ) → Type 0
  Rightful payload room v place n =
      (tail : List ℕ) × RootSpells S fs v payload tail
      × (length payload ≤ 16384)
      × (size v ≤ room)
      × (length tail ≡ n)
      × (place + n ≡ length payload)

  -- The answer accepts the payload with rows that show v, and the key comparisons due are those of v.
  abbrev pub ReadAs : (payload : List ℕ) → Reading → Value → (place n : ℕ) → Type 0
  ReadAs payload answer v place n = (rs : List Row) × (answer ≡ accepted rs place n (due.comparisons S v t)) × Shows S payload t fs rs v

-- The tree, of type t, fits the payload, which is within the limit. The place and length of each row delimit the bytes of its value, the root's up to
-- a tail of n bytes at a place.
abbrev pub DelimitedTree : (ℕ → Shape) → (t : ℕ) → (payload : List ℕ) → Tree → (place n : ℕ) → Type 0
DelimitedTree S t payload tree place n =
    (fs : List Field)
    × (S t ≡ struct fs)
    × RootFits S payload t fs tree
    × RootDelimits S payload fs tree place
    × (place + n ≡ length payload)
    × (length payload ≤ 16384)

-- The rows are those of such a tree, the key comparisons due are its value's, and there is room for the rows.
abbrev pub Delimited : (ℕ → Shape) → (t : ℕ) → (payload : List ℕ) (room : ℕ) → List Row → (place n comparisons : ℕ) → Type 0
Delimited S t payload room rs place n comparisons =
    (tree : Tree) × DelimitedTree S t payload tree place n
    × (rows tree ≡ rs)
    × (due.comparisons S (value tree) t ≡ comparisons)
    × (length rs ≤ room)

-- The sheet shows a value; what is written is its encoding, and that is a payload and fits into the room.
abbrev pub Writes : (ℕ → Shape) → (t : ℕ) → List Row → List ℕ → (room : ℕ) → (out : List ℕ) → Type 0
Writes S t rs B room out =
    (fs : List Field) × (v : Value)
    × (S t ≡ struct fs)
    × Shows S B t fs rs v
    × (out ≡ encode S v t)
    × (length out ≤ 16384)
    × (length out ≤ room)

-- What a reader by the old shapes S answers where the new ones S' allow the payload as v: 26 at the first inner struct that carries an added field.
-- Without one v without the added fields, and as the tail the bytes of those that the root carries.
abbrev pub ByOld : (S S' : ℕ → Shape) (t : ℕ) (fs gs : List Field) (payload : List ℕ) (room : ℕ) → Value → Reading → (first : Option ℕ) → Type 0
ByOld S S' t fs gs payload room v answer (some p) = answer ≡ refusal 26 p
ByOld S S' t fs gs payload room v answer none =
    (rs : List Row) × (front : List ℕ) × (added : List ℕ)
    × (payload ≡ front ++ added)
    × AllSpell (Spells S' 15) (added_items fs gs v) (added_values fs v) added
    × (root_carries fs v ≡ false → added ≡ [])
    × Shows S payload t fs rs (without S v t)
    × (answer ≡ cond (leb (length rs) room) (accepted rs (length front) (length added) (due.comparisons S (without S v t) t)) (refusal 30 0))
