-- Worked examples, computed.
use mathlib.Core.Path.{◌≡◌, refl}
use mathlib.Core.List.{[], ◌∷◌}
use lib.IntN.{negsuc}
use lib.ListN.{take, drop}
use Rattle.wire.specs.Varuint.{Number, Cut, Malformed, groups, front_var_u_int, varuint, shortest, varuint_bytes}
use Rattle.wire.specs.Little.{little, twos}
use Rattle.wire.specs.Bitmap.{bits, bit_list, total}

-- int8 80 is -128, FF is -1
signed : (twos 128 0x80 ≡ negsuc 127) × (twos 128 0xFF ≡ negsuc 0)
unfolding twos
signed = (refl, refl)

wide : little (0x78 ∷ 0x56 ∷ 0x34 ∷ 0x12 ∷ []) ≡ 0x12345678
unfolding little
wide = refl

-- a spare group is malformed, after a group of 0 or of more; without it the number is read, and 0 as one byte
spare : (varuint (0x01 ∷ 0x80 ∷ 0x00 ∷ []) 1 ≡ Malformed) × (varuint (0x81 ∷ 0x80 ∷ 0x00 ∷ []) 0 ≡ Malformed)
    × (varuint (0x80 ∷ 0x01 ∷ []) 0 ≡ Number 128 2) × (varuint (0x00 ∷ []) 0 ≡ Number 0 1) × (varuint (0x80 ∷ []) 0 ≡ Cut)
unfolding groups front_var_u_int
spare = (refl, refl, refl, refl, refl)

-- the greatest number takes ten bytes, and a tenth byte of 2 is malformed
most : varuint (varuint_bytes 0xFFFFFFFFFFFFFFFF) 0 ≡ Number 0xFFFFFFFFFFFFFFFF 10
unfolding groups front_var_u_int shortest varuint_bytes
most = refl

tenth : varuint (0x80 ∷ 0x80 ∷ 0x80 ∷ 0x80 ∷ 0x80 ∷ 0x80 ∷ 0x80 ∷ 0x80 ∷ 0x80 ∷ 0x02 ∷ []) 0 ≡ Malformed
unfolding groups front_var_u_int
tenth = refl

-- so is a tenth byte of 0; of 1 it is read
tenth-spare : (varuint (0x80 ∷ 0x80 ∷ 0x80 ∷ 0x80 ∷ 0x80 ∷ 0x80 ∷ 0x80 ∷ 0x80 ∷ 0x80 ∷ 0x00 ∷ []) 0 ≡ Malformed)
    × (varuint (0x80 ∷ 0x80 ∷ 0x80 ∷ 0x80 ∷ 0x80 ∷ 0x80 ∷ 0x80 ∷ 0x80 ∷ 0x80 ∷ 0x01 ∷ []) 0 ≡ Number 0x8000000000000000 10)
unfolding groups front_var_u_int
tenth-spare = (refl, refl)

-- nine bytes with the top bit set, and then the end
nine : varuint (0x80 ∷ 0x80 ∷ 0x80 ∷ 0x80 ∷ 0x80 ∷ 0x80 ∷ 0x80 ∷ 0x80 ∷ 0x80 ∷ []) 0 ≡ Cut
unfolding groups front_var_u_int
nine = refl

-- of the bits of 05, one of the two lowest is set and one above them
unknown : (total (take 2 (bit_list (0x05 ∷ []))) ≡ 1) × (total (drop 2 (bit_list (0x05 ∷ []))) ≡ 1)
unfolding total bit_list bits
unknown = (refl, refl)
