-- What a test of a frame's fields that was passed says.
use mathlib.Core.Path.{◌≡◌}
use mathlib.Core.Bool.{true, and-eq-true_iff}
use mathlib.Core.List.{List}
use Prim.Native.Nat.{ℕ, ◌≤◌}
use borrow.Author.Tests.{leb-true, eqb-true, le-leb}
use lib.Dec.{leb, eqb}
use lib.ListN.{get_or}
use Rattle.frame.specs.Frame.{is_magic, known_kind}

pub known-bounds : (k : ℕ) → known_kind k ≡ true → (1 ≤ k) × (k ≤ 8)
known-bounds k e = let t = (and-eq-true_iff (leb 1 k) (leb k 8)).0 e in (leb-true 1 k t.0, leb-true k 8 t.1)

pub bounds-known : (k : ℕ) → 1 ≤ k → k ≤ 8 → known_kind k ≡ true
bounds-known k l u = rw (le-leb 1 k l, le-leb k 8 u)

pub magic-bytes : (b : List ℕ) → is_magic b ≡ true → (get_or b 0 0 ≡ 0xAF) × (get_or b 1 0 ≡ 0x01)
magic-bytes b e = let t = (and-eq-true_iff (eqb (get_or b 0 0) 0xAF) (eqb (get_or b 1 0) 0x01)).0 e in (eqb-true (get_or b 0 0) 0xAF t.0, eqb-true (get_or b 1 0) 0x01 t.1)
