-- Worked examples: INVOKE 9 with the payload 01 07, of method 1, 2, 3, byte by byte; the first fault of a frame's start; and faults of the length.
use mathlib.Core.Path.{◌≡◌, refl}
use mathlib.Core.List.{List, [], ◌∷◌, ◌++◌, map}
use Prim.Native.Nat.{ℕ}
use lib.Dec.{lit<, lit≤}
use lib.ListN.{take, replicate}
use Rattle.wire.specs.Little.{little, bytes}
use Rattle.wire.specs.Varuint.{groups, front_var_u_int}
use Rattle.wire.proofs.Varuints.{one_byte}
use Rattle.frame.specs.declared.Header.{Header}
use Rattle.frame.specs.FrameRead.{More, Frame, Refused}
use Rattle.frame.specs.Frame.{once_whole, frame_payload, frame_of}
use Rattle.frame.specs.Written.{front_bytes, frame_bytes}
use Rattle.frame.proofs.Theorems.{frame-read}
use Rattle.frame.proofs.ReadBack.{shortest-frame}

pub invoke : Header
invoke = record { kind = 1; «package» = 1; service = 2; method = 3; correlation = 9 }

pub payload : List ℕ
payload = 0x01 ∷ 0x07 ∷ []

pub invoke-bytes : List ℕ
invoke-bytes =
    0xAF
    ∷ 0x01
    ∷ 0x01
    ∷ 0x01
    ∷ 0x00
    ∷ 0x01
    ∷ 0x00
    ∷ 0x00
    ∷ 0x00
    ∷ 0x02
    ∷ 0x00
    ∷ 0x00
    ∷ 0x00
    ∷ 0x03
    ∷ 0x00
    ∷ 0x00
    ∷ 0x00
    ∷ 0x09
    ∷ 0x00
    ∷ 0x00
    ∷ 0x00
    ∷ 0x00
    ∷ 0x00
    ∷ 0x00
    ∷ 0x00
    ∷ 0x02
    ∷ payload

invoke-written : frame_bytes invoke payload ≡ invoke-bytes
unfolding frame_bytes front_bytes bytes invoke payload invoke-bytes
invoke-written = rw (one_byte 2 (lit< tt))

-- its payload is the two bytes from place 26 on, whatever follows
invoke-read : (r : List ℕ) → frame_of (invoke-bytes ++ r) ≡ Frame invoke 26 2
unfolding invoke payload invoke-bytes
invoke-read r =
    let is = shortest-frame invoke payload (record { «package» = lit< tt; service = lit< tt; method = lit< tt; correlation = lit< tt }) (lit≤ tt) (lit≤ tt) (lit≤ tt) in
    rw invoke-written at (frame-read r is)

-- a field is judged once it is whole: one byte of the magic is not, whatever it is
pub starts-judged : map frame_of
    ((0x00 ∷ [])
    ∷ (0xAF ∷ 0x02 ∷ [])
    ∷ (0xAF ∷ 0x01 ∷ [])
    ∷ (0xAF ∷ 0x01 ∷ 0x02 ∷ [])
    ∷ (0xAF ∷ 0x01 ∷ 0x01 ∷ 0x00 ∷ [])
    ∷ (0xAF ∷ 0x01 ∷ 0x01 ∷ 0x09 ∷ 0x01 ∷ [])
    ∷ (0xAF ∷ 0x01 ∷ 0x01 ∷ 0x08 ∷ 0x01 ∷ [])
    ∷ (0xAF ∷ 0x01 ∷ 0x01 ∷ 0x08 ∷ 0x00 ∷ [])
    ∷ [])
    ≡ More ∷ Refused 2 ∷ More ∷ Refused 3 ∷ Refused 4 ∷ Refused 4 ∷ Refused 5 ∷ More ∷ []
unfolding frame_of once_whole little
starts-judged = refl

-- the same front with other lengths: cut; with a spare group, of two bytes, of ten, and of a number above 16,384, before the payload is there; a tenth
-- byte above 1; above 16,384 in two forms, before the payload is there; the payload cut; whole
pub lengths_judged : map (λ (l : List ℕ). frame_of (take 25 invoke-bytes ++ l))
    ((0x80 ∷ [])
    ∷ (0x80 ∷ 0x00 ∷ [])
    ∷ (0x82 ∷ 0x00 ∷ payload)
    ∷ (replicate 9 0x80 ++ (0x00 ∷ []))
    ∷ (0xFF ∷ 0xFF ∷ 0xFF ∷ 0x00 ∷ [])
    ∷ (replicate 9 0x80 ++ (0x02 ∷ []))
    ∷ (replicate 9 0x80 ++ (0x01 ∷ []))
    ∷ (0x81 ∷ 0x80 ∷ 0x01 ∷ [])
    ∷ (0x02 ∷ 0x01 ∷ [])
    ∷ (0x02 ∷ payload)
    ∷ [])
    ≡ More ∷ Refused 6 ∷ Refused 6 ∷ Refused 6 ∷ Refused 6 ∷ Refused 6 ∷ Refused 7 ∷ Refused 7 ∷ More ∷ Frame invoke 26 2 ∷ []
unfolding frame_of once_whole frame_payload little front_var_u_int groups invoke payload invoke-bytes
lengths_judged = refl
