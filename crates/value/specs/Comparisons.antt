-- How many key comparisons (02's term) are due in a value: each later key against each earlier key of its map, over all maps in it.
use Rattle.std.specs.Prelude.{List, [], ◌∷◌, cond, ℕ, zero, suc, ◌+◌, ltb}
use Rattle.schema.specs.Table.{Shape, unknown, scalar, text, array, map, struct}
use Rattle.value.specs.declared.Row.{Row}
use Rattle.value.specs.Value.{Value, leaf, node, Values, none, some}
use Rattle.value.specs.Plan.{Item, plan}

-- The comparisons of n keys: none for the first, one for the second, and so on.
unfoldable pub key_comparisons : ℕ → ℕ
key_comparisons zero = 0
key_comparisons (suc n) = n + key_comparisons n

-- The comparisons of a composite's own keys: a map has as many keys as pairs, no other composite has any.
abbrev pub map_comparisons : Shape → (head : ℕ) → ℕ
map_comparisons (map _ _) n = key_comparisons n
map_comparisons (array _) n = 0
map_comparisons (struct _) m = 0
map_comparisons unknown h = 0
map_comparisons (scalar _) h = 0
map_comparisons (text _) h = 0

module _ (S : ℕ → Shape) where
  -- The comparisons in a value of type t, over all the maps in it.
  unfoldable mutual
    pub comparisons : Value → (t : ℕ) → ℕ
    comparisons (leaf x) t = 0
    comparisons (node h vs) t = map_comparisons (S t) h + comparisons_all vs (plan (S t) h)

    pub comparisons_all : Values → List Item → ℕ
    comparisons_all none is = 0
    comparisons_all (some v vs) [] = 0
    comparisons_all (some v vs) (i ∷ is) = comparisons v i.type + comparisons_all vs is

  -- The same from rows: those of a map's type count its pairs.
  unfoldable pub rows_comparisons : List Row → ℕ
  rows_comparisons [] = 0
  rows_comparisons (r ∷ rs) = map_comparisons (S r.ty) r.count + rows_comparisons rs

-- ---- the same by counting

-- The sum of f over the numbers below n.
abbrev pub sum : (n : ℕ) → (ℕ → ℕ) → ℕ
sum zero f = 0
sum (suc n) f = sum n f + f n

-- How many pairs of an earlier i and a later j there are among n.
abbrev pub pairs_among : (n : ℕ) → ℕ
pairs_among n = sum n (λ j. sum n (λ i. cond (ltb i j) 1 0))
