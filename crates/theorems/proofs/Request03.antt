-- Request 2026-03, shortest lengths only: its sentences, and below each the theorems that state it, cited from the crate that proves them.
use mathlib.Core.List.{List, map, ◌++◌, ◌∷◌, []}
use Prim.Native.Nat.{ℕ, ◌<◌, ◌^◌}
use mathlib.Core.Path.{◌≡◌}
use mathlib.Core.Logic.{◌↔◌, ◌⊎◌}
use lib.ListN.{take, replicate}
use Rattle.wire.specs.Varuint.{front_var_u_int, Spare, TenthAbove, Spelled, varuint_bytes, Malformed}
use Rattle.wire.specs.Little.{Bytes}
use Rattle.schema.proofs.Examples.{file}
use Rattle.frame.specs.Frame.{frame_of}
use Rattle.frame.proofs.Examples.{invoke-bytes, payload, invoke}
use Rattle.frame.specs.FrameRead.{More, Refused as frame-Refused, Frame as frame-Frame}
use Rattle.promises.specs.Cases.{Hold as promises-Hold, lent as promises-lent, worked as promises-worked}
use Rattle.wire.proofs.Varuints as wire-Varuints
use Rattle.frame.proofs.Examples as frame-Examples
use Rattle.promises.proofs.Examples as promises-Examples

-- "A VarUInt of two or more bytes whose last byte is 0 becomes malformed everywhere."

-- A VarUInt is malformed exactly where it has two or more bytes and the last is 0, or its tenth byte is above 1.
pub malformed-iff : (s : List ℕ) (at : ℕ) → (front_var_u_int s at ≡ Malformed) ↔ (Spare s ⊎ TenthAbove s)
malformed-iff = wire-Varuints.malformed-iff

-- Bytes spell a number exactly where they are those that our writer writes for it, and it is below 2^64.
pub one_spelling : (n : ℕ) (bs : List ℕ) → (Bytes bs × Spelled n bs) ↔ ((bs ≡ varuint_bytes n) × (n < 2 ^ 64))
one_spelling = wire-Varuints.one_spelling

-- "P9 becomes 21 at 1."

-- 01's payloads P1 to P10 by T's file, every number and every cell.
pub p1-to_p10 : promises-Hold file 4 promises-lent promises-worked
p1-to_p10 = promises-Examples.p1-to_p10

-- "A read value without unknown bits then writes back to the same bytes, which demand 2 says from here on."

-- Stated in other files: `Demand2.same_bytes`, `Demand2.tail-iff-unknown`, `Demand2.spelled-is_encoding`, `Demand2.payload-is_encoding`,
-- `Demand2.written-again`, `Demand2.one-frame`.

-- "Refusals: 21 in payloads and 6 in frames, at the places they already have."

-- The front of a frame with other lengths, computed: cut; with a spare group, of two bytes, of ten, and of a number above 16,384, before the payload is there; a tenth
-- byte above 1; above 16,384 in two forms, before the payload is there; the payload cut; whole.
pub lengths_judged : map (λ (l : List ℕ). frame_of (take 25 invoke-bytes ++ l))
    ((0x80 ∷ [])
    ∷ (0x80 ∷ 0x00 ∷ [])
    ∷ (0x82 ∷ 0x00 ∷ payload)
    ∷ (replicate 9 0x80 ++ (0x00 ∷ []))
    ∷ (0xFF ∷ 0xFF ∷ 0xFF ∷ 0x00 ∷ [])
    ∷ (replicate 9 0x80 ++ (0x02 ∷ []))
    ∷ (replicate 9 0x80 ++ (0x01 ∷ []))
    ∷ (0x81 ∷ 0x80 ∷ 0x01 ∷ [])
    ∷ (0x02 ∷ 0x01 ∷ [])
    ∷ (0x02 ∷ payload)
    ∷ [])
    ≡ More ∷ frame-Refused 6 ∷ frame-Refused 6 ∷ frame-Refused 6 ∷ frame-Refused 6 ∷ frame-Refused 6 ∷ frame-Refused 7 ∷ frame-Refused 7 ∷ More ∷ frame-Frame invoke 26 2 ∷ []
lengths_judged = frame-Examples.lengths_judged

-- Computed: `value/Examples.p1-to_p10`, `value/Examples.read-faults`.

-- Stated in other files: `Demand1.value-refused-iff`, `Demand1.frame-refused-iff`.
