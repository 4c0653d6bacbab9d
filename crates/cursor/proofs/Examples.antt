-- Worked examples of the items, by computing.
use mathlib.Core.Path.{◌≡◌, refl}
use mathlib.Core.List.{List, [], ◌∷◌, ◌++◌}
use Prim.Native.Nat.{ℕ}
use lib.ListN.{replicate}
use Rattle.wire.specs.Little.{little}
use Rattle.wire.specs.Varuint.{groups, front_var_u_int}
use Rattle.parse.specs.Reader.{and_then, check, block, var_u_int, count}
use Rattle.cursor.specs.declared.item.Width.TheVariants.{One, Two, Four}
use Rattle.cursor.specs.Number as Number
use Rattle.cursor.specs.Span as Span
use Rattle.cursor.specs.Item.{fixed_number, span_item, varuint_at, fixed_number_at, span_at}

-- a payload of nine bytes
abbrev p1 : List ℕ
p1 = 0x01 ∷ 0x02 ∷ 0x03 ∷ 0x07 ∷ 0x02 ∷ 0x6F ∷ 0x6B ∷ 0x01 ∷ 0x00 ∷ []

pub items :
    (varuint_at p1 1 ≡ record { item = Number.Is 2; next = 2 })
    × (span_at p1 4 ≡ record { item = Span.At 5 2; next = 7 })
    × (span_at p1 3 ≡ record { item = Span.Refused 20 3; next = 3 })
    × (fixed_number_at Two p1 5 ≡ record { item = Number.Is 0x6B6F; next = 7 })
    × (fixed_number_at Four p1 6 ≡ record { item = Number.Refused 20 6; next = 6 })
    × (fixed_number_at One p1 12 ≡ record { item = Number.Refused 20 12; next = 12 })
    × (varuint_at (0x80 ∷ 0x01 ∷ []) 0 ≡ record { item = Number.Is 128; next = 2 })
    × (varuint_at (0x80 ∷ 0x00 ∷ []) 0 ≡ record { item = Number.Refused 21 0; next = 0 })
    × (varuint_at (0x80 ∷ []) 0 ≡ record { item = Number.Refused 20 0; next = 0 })
    × (span_at (replicate 9 0x80 ++ (0x02 ∷ [])) 0 ≡ record { item = Span.Refused 21 0; next = 0 })
unfolding little groups front_var_u_int and_then check block var_u_int count fixed_number span_item
items = (refl, refl, refl, refl, refl, refl, refl, refl, refl, refl)
