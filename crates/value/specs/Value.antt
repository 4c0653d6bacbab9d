-- Values, and values with the places that they were read from.
use Rattle.std.specs.Prelude.{List, [], ◌∷◌, ◌++◌, ℕ, ◌+◌, max}
use Rattle.value.specs.declared.Row.{Row}

-- A scalar, a string or bytes is its content; an array or a map is its count with its elements, or its keys and values by turns.
-- A struct is its known presence bits as a number, with the known fields that are present.
mutual
  pub data Value : Type 0 where
    leaf : (content : List ℕ) → Value
    node : (head : ℕ) → Values → Value

  pub data Values : Type 0 where
    none : Values
    some : Value → Values → Values

-- A tree is a value with a row for each of its values.
mutual
  pub data Tree : Type 0 where
    tip : Row → (content : List ℕ) → Tree
    branch : Row → (head : ℕ) → Forest → Tree

  pub data Forest : Type 0 where
    stop : Forest
    plus : Tree → Forest → Forest

-- The rows of a tree in wire order, the parent's first.
unfoldable mutual
  pub rows : Tree → List Row
  rows (tip r x) = r ∷ []
  rows (branch r h ts) = r ∷ rows_all ts

  pub rows_all : Forest → List Row
  rows_all stop = []
  rows_all (plus t ts) = rows t ++ rows_all ts

-- The value of a tree.
unfoldable mutual
  pub value : Tree → Value
  value (tip r x) = leaf x
  value (branch r h ts) = node h (values ts)

  pub values : Forest → Values
  values stop = none
  values (plus t ts) = some (value t) (values ts)

-- The content by which map keys are compared: a key is a scalar, a string or bytes, and keys of one type are equal when their contents are.
abbrev pub content : Value → List ℕ
content (leaf x) = x
content (node h vs) = []

-- How many values there are in a value, itself and the inner ones: one row each.
unfoldable mutual
  pub size : Value → ℕ
  size (leaf x) = 1
  size (node h vs) = 1 + size_all vs

  pub size_all : Values → ℕ
  size_all none = 0
  size_all (some v vs) = size v + size_all vs

-- The depth of a value: 1 for a leaf and for a composite without parts, and one more than its deepest part for any other composite.
unfoldable mutual
  pub depth : Value → ℕ
  depth (leaf x) = 1
  depth (node h vs) = 1 + depth_all vs

  pub depth_all : Values → ℕ
  depth_all none = 0
  depth_all (some v vs) = max (depth v) (depth_all vs)
