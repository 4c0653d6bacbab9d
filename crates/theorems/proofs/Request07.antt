-- Request 2026-07, the UTF-8 rule laid out like the RFC: its sentences, and below each the theorems that state it, cited from the crate that proves
-- them.
use mathlib.Core.List.{List, Memᴰ}
use Prim.Native.Nat.{ℕ, ◌+◌, ◌≤◌, ◌*◌}
use mathlib.Core.Path.{◌≡◌}
use mathlib.Core.Bool.{true, ◌&&◌}
use mathlib.Core.Logic.{◌↔◌}
use lib.Dec.{T, eqb}
use lib.ListN.{length, take, drop}
use lib.Bits.{bit_and}
use Rattle.utf8.specs.Utf8.{utf8, Split, rows, is_char, ascii, two_byte_chars}
use Rattle.utf8.specs.declared.Row.{Row as utf8-Row}
use Rattle.utf8.specs.Unicode.{Encoded}
use Rattle.wire.specs.Little.{Bytes, little}
use Rattle.utf8.proofs.Asciis.{tops}
use Rattle.utf8.proofs.Pairs.{shapes as pair-shapes, carries}
use Rattle.utf8.proofs.Utf8s as utf8-Utf8s
use Rattle.utf8.proofs.Unicodes as utf8-Unicodes
use Rattle.utf8.proofs.Asciis as utf8-Asciis
use Rattle.utf8.proofs.Pairs as utf8-Pairs

-- "write it over a constant table of the nine rows of lead and following ranges printed there. To be shown: a string is accepted exactly when it
-- splits into characters that each match a row, and in one way only. All answers stay."
-- By the contract of `utf8::valid`, the answer is the test `utf8` over the constant table `utf8/specs/Utf8.rows`.

-- A string is accepted exactly when it splits into characters that each match a row, and in one way only.
pub accepted-once : (s : List ℕ) → (utf8 s ≡ true) ↔ ((cs : List (List ℕ)) × Split cs s × ((ds : List (List ℕ)) → Split ds s → ds ≡ cs))
accepted-once = utf8-Utf8s.accepted-once

-- Each character matches one row only.
pub row-once : (c : List ℕ) (r q : utf8-Row) → Memᴰ r rows → Memᴰ q rows → T (is_char r c) → T (is_char q c) → r ≡ q
row-once = utf8-Utf8s.row-once

-- Bytes are UTF-8 exactly when they are scalar values, encoded.
pub utf8-encoded : (s : List ℕ) → (utf8 s ≡ true) ↔ ((xs : List ℕ) × Encoded xs s)
utf8-encoded = utf8-Unicodes.utf8-encoded

-- Bytes at a place, n of them, judged as one number: no top bit is set exactly where each is a character of the row UTF8-1.
pub tops-at : (n : ℕ) (s : List ℕ) (at x : ℕ) → Bytes s → at + n ≤ length s → x ≡ little (take n (drop at s)) → eqb (bit_and x (tops n)) 0 ≡ ascii (take n (drop at s))
tops-at = utf8-Asciis.tops-at

-- Pairs of bytes, n of them, judged as one number: they pass exactly where each is a character of the row UTF8-2.
pub word-pairs : (n : ℕ) (s : List ℕ) → Bytes s → length s ≡ 2 * n → (pair-shapes n (little s) && carries n (little s)) ≡ two_byte_chars s
word-pairs = utf8-Pairs.word-pairs
