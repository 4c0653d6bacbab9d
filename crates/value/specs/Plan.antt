-- What a composite holds: its items, in wire order.
use Rattle.std.specs.Prelude.{List, [], ◌∷◌, Bool, true, false, cond, ℕ, zero, suc, ◌/◌, ◌%◌, eqb, leb, length, replicate}
use Rattle.schema.specs.declared.Field.{Field}
use Rattle.schema.specs.Table.{Shape, unknown, scalar, text, array, map, struct}

-- A value that a composite holds: its type, and whether it is a map's key.
pub record Item : Type 0 where
  pub type : ℕ
  pub key : Bool

abbrev pub plain_item : ℕ → Item
plain_item t = record { type = t; key = false }

abbrev pub pairs : ℕ → ℕ → ℕ → List Item
pairs zero k v = []
pairs (suc n) k v = record { type = k; key = true } ∷ plain_item v ∷ pairs n k v

-- A map may have n pairs: 64 at most (31).
abbrev pub pairs_allowed : ℕ → Bool
pairs_allowed n = leb n 64

-- The fields whose bits are set in m, least bit first.
unfoldable pub present : List Field → ℕ → List Item
present [] m = []
present (f ∷ fs) m = cond (eqb (m % 2) 1) (plain_item f.ty ∷ present fs (m / 2)) (present fs (m / 2))

-- The items after a composite's head, in wire order. The head is the count, or the presence bits.
abbrev pub plan : Shape → ℕ → List Item
plan (array e) n = replicate n (plain_item e)
plan (map k v) n = pairs n k v
plan (struct fs) m = present fs m
plan unknown h = []
plan (scalar _) h = []
plan (text _) h = []

-- The count of a composite's row: of elements, of pairs, of known fields whose bit is set.
abbrev pub row_count : Shape → ℕ → ℕ
row_count (struct fs) m = length (present fs m)
row_count (array _) n = n
row_count (map _ _) n = n
row_count unknown h = 0
row_count (scalar _) h = 0
row_count (text _) h = 0
