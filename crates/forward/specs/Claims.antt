-- When a sheet is forwarded and to what bytes, apart from the function that computes them.
use Rattle.std.specs.Prelude.{◌≡◌, List, ◌∷◌, ℕ, ◌+◌, ◌≤◌, ◌<◌, length, take}
use Rattle.buffer.specs.Span.{span}
use Rattle.schema.specs.declared.Field.{Field}
use Rattle.schema.specs.Table.{Shape, struct, bitmap_bytes}
use Rattle.value.specs.declared.Row.{Row}
use Rattle.value.specs.Value.{Value}
use Rattle.value.specs.Spell.{TailFits, RootSpells, encode}
use Rattle.value.specs.Fits.{Shows}
use Rattle.value.specs.SheetReasons.{SheetReason}
use Rattle.forward.specs.Forward.{root_unknown}

-- The refusals of a sheet with a tail of n bytes at a place of B: the plain writer's where it shows no value; else, in this order and at 0,
-- 51 for a tail outside B, 50 for one that does not fit the unknown bits, 7 and 52 for the whole.
pub data TailReason (S : ℕ → Shape) (t : ℕ) (rs : List Row) (B : List ℕ) (place n room : ℕ) : (number at : ℕ) → Type 0 where
  by_rows : {k q : ℕ} → SheetReason S t rs B room k q → ((fs : List Field) (v : Value) → S t ≡ struct fs → Shows S B t fs rs v → ⊥)
      → TailReason S t rs B place n room k q
  outside : (fs : List Field) (v : Value) → S t ≡ struct fs → Shows S B t fs rs v → length B < place + n → TailReason S t rs B place n room 51 0
  unfit : (fs : List Field) (v : Value) → S t ≡ struct fs → Shows S B t fs rs v → place + n ≤ length B → (TailFits (root_unknown fs rs B) (span B place n) → ⊥)
      → TailReason S t rs B place n room 50 0
  whole_long : (fs : List Field) (v : Value) → S t ≡ struct fs → Shows S B t fs rs v → place + n ≤ length B → TailFits (root_unknown fs rs B) (span B place n)
      → 16384 < length (encode S v t) + n → TailReason S t rs B place n room 7 0
  whole_tight : (fs : List Field) (v : Value) → S t ≡ struct fs → Shows S B t fs rs v → place + n ≤ length B → TailFits (root_unknown fs rs B) (span B place n)
      → length (encode S v t) + n ≤ 16384 → room < length (encode S v t) + n → TailReason S t rs B place n room 52 0

module _ (S : ℕ → Shape) (t : ℕ) (rs : List Row) (B : List ℕ) (place n room : ℕ) where
  -- The sheet shows a value, the tail is in its bytes and fits the root's unknown bits, and the whole is a payload and fits into the room.
  abbrev pub Passes : Type 0
  Passes =
      (fs : List Field) × (v : Value)
      × (S t ≡ struct fs)
      × Shows S B t fs rs v
      × (place + n ≤ length B)
      × TailFits (root_unknown fs rs B) (span B place n)
      × (length (encode S v t) + n ≤ 16384)
      × (length (encode S v t) + n ≤ room)

  -- These bytes spell the value that the sheet shows, end in the tail, and start with the presence bytes as they stand at the place of the first row, the
  -- root's.
  abbrev pub Forwards : (out : List ℕ) → Type 0
  Forwards out =
      (fs : List Field) × (v : Value) × (r : Row) × (below : List Row)
      × (S t ≡ struct fs)
      × Shows S B t fs rs v
      × (rs ≡ r ∷ below)
      × (place + n ≤ length B)
      × RootSpells S fs v out (span B place n)
      × (take (bitmap_bytes (length fs)) out ≡ span B r.place (bitmap_bytes (length fs)))
      × (length out ≤ 16384)
      × (length out ≤ room)
