-- A number up to a list's length counts some of its elements: `IsPrefixLen n xs` of the toolchain's io, which std's `ReadsAtMost` says of the n of an `Ok(n)`.
use mathlib.Core.Path.{◌≡◌, sym}
use mathlib.Core.List.{List}
use Prim.Native.Nat.{ℕ, ◌≤◌}
use native.Mathlib.Omega.{arith}
use lib.ListN.{length, take}
use lib.Seq.{length-take-le}

pub counted : {n m : ℕ} (xs : List ℕ) → length xs ≡ m → n ≤ m → (n ≤ length xs) × (n ≡ length (take n xs))
counted {n} xs e h = let l : n ≤ length xs = omega arith in (l, sym (length-take-le n xs l))
