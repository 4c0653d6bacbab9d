-- Spans of bytes: a place and a length.
use Rattle.std.specs.Prelude.{◌≡◌, List, Bool, ℕ, ◌+◌, ◌≤◌, leb, length, take, drop}

-- The n bytes at a place, and whether there are so many.
abbrev pub span : List ℕ → (place n : ℕ) → List ℕ
span B p n = take n (drop p B)

abbrev pub inside : List ℕ → (place n : ℕ) → Bool
inside B p n = leb (p + n) (length B)

-- The n bytes at a place are x.
abbrev pub SpanIs : List ℕ → (place n : ℕ) → List ℕ → Type 0
SpanIs B p n x = (p + n ≤ length B) × (x ≡ span B p n)
