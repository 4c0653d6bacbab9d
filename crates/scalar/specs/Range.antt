-- Which whole number two's complement gives.
use Rattle.std.specs.Prelude.{◌≡◌, ℕ, ◌*◌, ℤ, pos, neg_ℤ, ◌+ℤ◌, ◌≤ℤ◌, ◌<ℤ◌}

-- The number z is in the range of the width whose sign bit has the weight half.
abbrev pub InRange : (half : ℕ) → ℤ → Type 0
InRange half z = (neg_ℤ (pos half) ≤ℤ z) × (z <ℤ pos half)

-- The numbers z and x are the same modulo n.
abbrev pub IsModulo : (n : ℕ) → ℤ → (x : ℕ) → Type 0
IsModulo n z x = (k : ℕ) × (z +ℤ pos (k * n) ≡ pos x)
