-- The flag of a method's identifiers. The check of many methods sets it, and where it is not set no earlier method has these identifiers.
use Rattle.std.specs.Prelude.{ℕ, ◌+◌, ◌*◌, ◌/◌, ◌%◌, ◌^◌, Bool, cond, bit_xor}

-- A number below 2^64 mixed by splitmix64's two products.
unfoldable pub mixed : ℕ → ℕ
mixed x = let once = bit_xor x (x / 2 ^ 30) * 0xBF58_476D_1CE4_E5B9 % 2 ^ 64 in bit_xor once (once / 2 ^ 27) * 0x94D0_49BB_1331_11EB % 2 ^ 64

-- The flag is one of 4,096 numbers: the top bits of a sum modulo 2^64, or of the numbers mixed.
unfoldable pub flag_of : (mixing : Bool) («package» service method : ℕ) → ℕ
flag_of mixing p s m =
    let names = p + s * 4294967296 in
    cond mixing (mixed ((mixed names + m) % 2 ^ 64)) ((names * 0x369D_EA0F_31A5_3F85 % 2 ^ 64 + m * 0xD6E8_FEB8_6659_FD93 % 2 ^ 64) % 2 ^ 64) / 2 ^ 52
