-- What an old table knows of a value that the rules of an extending table allow: which structs carry added fields, and what is left without them.
-- S are the shapes of the old table, so a field is added where its number is beyond the fields of S.
use Rattle.std.specs.Prelude.{◌≡◌, List, [], ◌∷◌, ◌++◌, Bool, false, cond, ℕ, zero, suc, ◌/◌, ◌^◌, leb, length}
use Rattle.std.proofs.Math.Option.{Option, none, some}
use Rattle.schema.specs.declared.Field.{Field}
use Rattle.schema.specs.Table.{Shape, unknown, scalar, text, array, map, struct}
use Rattle.value.specs.Value.{Value, leaf, node, Values, none as empty, some as and, Tree, tip, branch, Forest, stop, plus}
use Rattle.value.specs.Read.{Item, plan, present, root_bits, known_bits}

-- A struct carries an added field (01's words) when a bit beyond the known fields is set.
abbrev pub carries : Shape → (head : ℕ) → Bool
carries (struct fs) m = leb (2 ^ length fs) m
carries unknown h = false
carries (scalar _) h = false
carries (text _) h = false
carries (array _) h = false
carries (map _ _) h = false

-- ---- the structs reached through known fields

-- A composite: its place (a struct's is its bitmap's), and whether it carries an added field.
pub record ReachedNode : Type 0 where
  pub place : ℕ
  pub adds : Bool

module _ (S : ℕ → Shape) where
  -- The composites in a value of type t, itself first, that are reached through fields the old table knows, in wire order.
  -- The plan by the old shape and a struct's bits has the known fields that are present; what stands after them is not entered.
  unfoldable mutual
    pub reached : Tree → (t : ℕ) → List ReachedNode
    reached (tip r x) t = []
    reached (branch r h ts) t = record { place = r.place; adds = carries (S t) h } ∷ reached_all ts (plan (S t) h)

    pub reached_all : Forest → List Item → List ReachedNode
    reached_all stop is = []
    reached_all (plus x ts) [] = []
    reached_all (plus x ts) (i ∷ is) = reached x i.type ++ reached_all ts is

  -- The same without the root itself.
  abbrev pub inner : Tree → (t : ℕ) → List ReachedNode
  inner (tip r x) t = []
  inner (branch r h ts) t = reached_all ts (plan (S t) h)

-- The place of the first that carries an added field.
abbrev pub first_added : List ReachedNode → Option ℕ
first_added [] = none
first_added (x ∷ xs) = cond x.adds (some x.place) (first_added xs)

-- ---- the value without the added fields

-- A struct's known bits; any other head as it is.
abbrev pub kept_head : Shape → ℕ → ℕ
kept_head (struct fs) m = known_bits fs m
kept_head unknown h = h
kept_head (scalar _) h = h
kept_head (text _) h = h
kept_head (array _) h = h
kept_head (map _ _) h = h

module _ (S : ℕ → Shape) where
  -- A value of type t without the added fields, at every depth.
  unfoldable mutual
    pub without : Value → (t : ℕ) → Value
    without (leaf x) t = leaf x
    without (node h vs) t = node (kept_head (S t) h) (without_all vs (plan (S t) h))

    pub without_all : Values → List Item → Values
    without_all empty is = empty
    without_all (and v vs) [] = empty
    without_all (and v vs) (i ∷ is) = and (without v i.type) (without_all vs is)

-- ---- the added fields of a root, which a new table gives the fields fs ++ gs

abbrev pub root_carries : (fs : List Field) → Value → Bool
root_carries fs (leaf x) = false
root_carries fs (node h vs) = carries (struct fs) h

-- The items of the added fields, by the root's bits.
abbrev pub added_items : (fs gs : List Field) → Value → List Item
added_items fs gs (leaf x) = []
added_items fs gs (node h vs) = present gs (h / 2 ^ length fs)

abbrev pub after_first_of : ℕ → Values → Values
after_first_of zero vs = vs
after_first_of (suc k) empty = empty
after_first_of (suc k) (and v vs) = after_first_of k vs

-- The values of the added fields: those after the known fields' ones.
abbrev pub added_values : (fs : List Field) → Value → Values
added_values fs (leaf x) = empty
added_values fs (node h vs) = after_first_of (length (present fs h)) vs

-- None of the added fields' bits is set in the bitmap at the front of a payload.
abbrev pub NoneAdded : (fs gs : List Field) (payload : List ℕ) → Type 0
NoneAdded fs gs payload = present gs (root_bits fs payload / 2 ^ length fs) ≡ []
