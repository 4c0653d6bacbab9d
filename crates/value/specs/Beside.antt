-- Reading with the writer's table beside ours: the payload is read wholly by theirs, the shapes S', and shown by ours, the shapes S.
use Rattle.std.specs.Prelude.{◌≡◌, List, [], ◌∷◌, ◌++◌, ℕ, ◌+◌, ◌≤◌, ◌<◌, length}
use Rattle.schema.specs.declared.Field.{Field}
use Rattle.schema.specs.Table.{Table, Shape, struct, shape}
use Rattle.value.specs.declared.Row.{Row}
use Rattle.value.specs.Value.{Tree, tip, branch, Forest, stop, plus, rows, Value, value, size}
use Rattle.value.specs.Comparisons as due
use Rattle.value.specs.Read.{Item, plan, row_count, on_struct_of, root_of, Reading, refusal, accepted, reading_as}
use Rattle.value.specs.Spell.{RootSpells}
use Rattle.value.specs.Fits.{ShowsKnown}
use Rattle.value.specs.Added.{kept_head, without}
use Rattle.value.specs.Reasons.{RootFault}
use Rattle.value.specs.Claims.{DelimitedTree}

module _ (S : ℕ → Shape) where
  -- A tree of type t without the added fields, at every depth. Its rows keep type, place and length; a struct's count is that of the known fields set.
  unfoldable mutual
    pub pruned : Tree → (t : ℕ) → Tree
    pruned (tip r x) t = tip r x
    pruned (branch r h ts) t =
        branch (record { ty = r.ty; place = r.place; length = r.length; count = row_count (S t) h }) (kept_head (S t) h) (pruned_all ts (plan (S t) h))

    pub pruned_all : Forest → List Item → Forest
    pruned_all stop is = stop
    pruned_all (plus x ts) [] = stop
    pruned_all (plus x ts) (i ∷ is) = plus (pruned x i.type) (pruned_all ts is)

  -- The rows that S shows of what was read as type t.
  abbrev pub shown_rows : (t : ℕ) → Tree → List Row
  shown_rows t tree = rows (pruned tree t)

-- 46 by ours; then all refusals of a payload, the tail and the key comparisons due by theirs, added fields too; 30 is by the rows shown.
abbrev pub beside_of : (S S' : ℕ → Shape) → ℕ → (room : ℕ) → List ℕ → Reading
beside_of S S' t room payload = on_struct_of (S t) (refusal 46 0) (λ _. reading_as (shown_rows S t) S' t room (root_of S' t payload))

-- A payload read as a struct of type t by a good table of theirs and shown by a good table of ours, which theirs extends but for the bitmaps' bytes.
unfoldable pub read_beside : (ours theirs : Table) → ℕ → List ℕ → (room : ℕ) → Reading
read_beside ours theirs t payload room = beside_of (shape ours) (shape theirs) t room payload

-- ---- what the theorems claim of it

-- The payload spells v by theirs, a root with the fields fs', within the limits, and there is room for what ours knows of v. The tail is at a place, of n
-- bytes; the key comparisons due are those of v, added fields too.
abbrev pub RightfulBeside : (S S' : ℕ → Shape) (t : ℕ) (fs' : List Field) (payload : List ℕ) (room : ℕ) → Value → (place n comparisons : ℕ) → Type 0
RightfulBeside S S' t fs' payload room v place n comparisons =
    (tail : List ℕ) × RootSpells S' fs' v payload tail
    × (length payload ≤ 16384)
    × (size (without S v t) ≤ room)
    × (length tail ≡ n)
    × (place + n ≡ length payload)
    × (due.comparisons S' v t ≡ comparisons)

-- The payload spells a value by theirs, within the limits, of which ours knows more than there is room for.
abbrev pub TooFewRows : (S S' : ℕ → Shape) (t : ℕ) (fs' : List Field) (payload : List ℕ) (room : ℕ) → Type 0
TooFewRows S S' t fs' payload room =
    (v : Value) × (tail : List ℕ) × RootSpells S' fs' v payload tail × (length payload ≤ 16384) × (room < size (without S v t))

-- The refusals, with room for so many rows: 46 for a type that is no struct of ours; 7 above 16,384 bytes; those of bytes that are faulty by theirs, at
-- their place; 30 where ours knows more of a right payload than there is room for.
pub data BesideReason (S S' : ℕ → Shape) (t : ℕ) (payload : List ℕ) (room : ℕ) : (number place : ℕ) → Type 0 where
  no-struct : ((fs : List Field) → S t ≡ struct fs → ⊥) → BesideReason S S' t payload room 46 0
  too_long : 16384 < length payload → BesideReason S S' t payload room 7 0
  faulty : {n : ℕ} (fs' : List Field) (u x rest : List ℕ) → S' t ≡ struct fs' → length payload ≤ 16384 → payload ≡ u ++ (x ++ rest)
      → RootFault S' fs' u x rest n → BesideReason S S' t payload room n (length u)
  too_few-rows : (fs' : List Field) → S' t ≡ struct fs' → TooFewRows S S' t fs' payload room → BesideReason S S' t payload room 30 0

-- The answer accepts the payload with rows that show w by ours.
abbrev pub ShownAs : (S : ℕ → Shape) (t : ℕ) (payload : List ℕ) → Reading → Value → (place n comparisons : ℕ) → Type 0
ShownAs S t payload answer w place n comparisons = (rs : List Row) × (answer ≡ accepted rs place n comparisons) × ShowsKnown S payload t rs w

-- The rows are those of a tree that fits and delimits the payload by theirs, without its added fields, and there is room for them. The key comparisons due
-- are those of the whole tree.
abbrev pub DelimitedBeside : (S S' : ℕ → Shape) (t : ℕ) (payload : List ℕ) (room : ℕ) → List Row → (place n comparisons : ℕ) → Type 0
DelimitedBeside S S' t payload room rs place n comparisons =
    (tree : Tree) × DelimitedTree S' t payload tree place n
    × (shown_rows S t tree ≡ rs)
    × (due.comparisons S' (value tree) t ≡ comparisons)
    × (length rs ≤ room)

-- The rows rs are some of rs' and in their order, with type, place and length as there.
pub data SomeOf : (rs rs' : List Row) → Type 0 where
  done : SomeOf [] []
  passed : {rs rs' : List Row} (r : Row) → SomeOf rs rs' → SomeOf rs (r ∷ rs')
  kept : {rs rs' : List Row} (r r' : Row) → r.ty ≡ r'.ty → r.place ≡ r'.place → r.length ≡ r'.length → SomeOf rs rs' → SomeOf (r ∷ rs) (r' ∷ rs')

-- The rows with another length in the first, the root's.
abbrev pub root_length : ℕ → List Row → List Row
root_length n [] = []
root_length n (r ∷ rs) = record { ty = r.ty; place = r.place; length = n; count = r.count } ∷ rs
