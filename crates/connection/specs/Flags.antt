-- The flags by which two equal numbers are found.
use Rattle.std.specs.Prelude.{ℕ, ◌*◌, ◌/◌, ◌%◌, ◌^◌, Bool, cond}
use Rattle.table.specs.Flags.{mixed}

-- The flag of a number, one of 1,024: the top bits of a product modulo 2^64, or of the number mixed. The code looks for a number among others only if one
-- of them has its flag.
unfoldable pub flag_of_number : (mixing : Bool) → ℕ → ℕ
flag_of_number mixing n = cond mixing (mixed n) (n * 0x9E37_79B9_7F4A_7C15 % 2 ^ 64) / 2 ^ 54
