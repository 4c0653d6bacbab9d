-- Laws of a span of bytes: its length, and the bytes as code lends them.
use mathlib.Core.Path.{◌≡◌, sym}
use mathlib.Core.List.{List, [], ◌∷◌}
use Prim.Native.Nat.{ℕ, zero, suc, ◌+◌, ◌≤◌}
use native.Mathlib.Nat.{zero-add, suc-add}
use native.Mathlib.Omega.{arith}
use lib.ListN.{length, drop, length-drop}
use lib.Seq.{slice, take-nil, length-take-le}
use Rattle.buffer.specs.Span.{span}

pub length-span : (B : List ℕ) (p n : ℕ) → p + n ≤ length B → length (span B p n) ≡ n
length-span B p n h = length-take-le n (drop p B) (simp length-drop (omega arith))

pub slice-span : (B : List ℕ) (p n : ℕ) → slice p (p + n) B ≡ span B p n
slice-span B zero n = rw zero-add
slice-span [] (suc p) n = rw suc-add (sym (take-nil n))
slice-span (b ∷ B) (suc p) n = rw suc-add (slice-span B p n)
