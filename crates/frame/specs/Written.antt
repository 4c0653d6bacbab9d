-- What the frame writer writes, and what its answers stand for.
use Rattle.std.specs.Prelude.{◌≡◌, ℕ, ◌-◌, ◌≤◌, ◌<◌, List, ◌∷◌, ◌++◌, leb, length, take, drop}
use Rattle.wire.specs.Little.{bytes}
use Rattle.wire.specs.Varuint.{varuint_bytes}
use Rattle.parse.specs.Test.{test, ◌>>◌}
use Rattle.frame.specs.declared.Header.{Header}
use Rattle.frame.specs.FrameRead.{Frame}
use Rattle.frame.specs.FrameWritten.{FrameWritten, Written, Refused}
use Rattle.frame.specs.Frame.{known_kind, frame_of}

-- All before a payload of n bytes.
unfoldable pub front_bytes : Header → ℕ → List ℕ
front_bytes h n =
    0xAF ∷ 0x01 ∷ 0x01 ∷ h.kind ∷ 0x00 ∷ (bytes 4 h.«package» ++ (bytes 4 h.service ++ (bytes 4 h.method ++ (bytes 8 h.correlation ++ varuint_bytes n))))

-- The whole frame.
unfoldable pub frame_bytes : Header → List ℕ → List ℕ
frame_bytes h p = front_bytes h (length p) ++ p

-- The answer, for an output of `room` bytes: 4, 7, 52 in this order.
unfoldable pub written_of : Header → List ℕ → ℕ → FrameWritten
written_of h p room = do
  test (known_kind h.kind) (Refused 4)
  test (leb (length p) 16384) (Refused 7)
  test (leb (length (frame_bytes h p)) room) (Refused 52)
  Written (length (frame_bytes h p))

-- The output afterwards: unchanged past the frame, and at a refusal.
unfoldable pub output_of : FrameWritten → Header → List ℕ → List ℕ → List ℕ
output_of (Written n) h p out = frame_bytes h p ++ drop n out
output_of (Refused number) h p out = out

-- The number that comes back for an answer (docs/FORMAT.md), and the length written.
abbrev pub write_number : FrameWritten → ℕ
write_number (Written n) = 0
write_number (Refused number) = number

abbrev pub write_length : FrameWritten → ℕ
write_length (Written n) = n
write_length (Refused number) = 0

-- ---- the same without an order of tests

-- What the writer accepts, with n bytes.
pub record Accepted (h : Header) (p : List ℕ) (room n : ℕ) : Type 0 where
  pub least : 1 ≤ h.kind
  pub most : h.kind ≤ 8
  pub small : length p ≤ 16384
  pub size : length (frame_bytes h p) ≡ n
  pub fits : n ≤ room

-- What it refuses: a kind that there is not; a payload that is too long; an output that is too small.
pub data Unwritten (h : Header) (p : List ℕ) (room : ℕ) : (number : ℕ) → Type 0 where
  kind : ((1 ≤ h.kind) × (h.kind ≤ 8) → ⊥) → Unwritten h p room 4
  long : 1 ≤ h.kind → h.kind ≤ 8 → 16384 < length p → Unwritten h p room 7
  full : 1 ≤ h.kind → h.kind ≤ 8 → length p ≤ 16384 → room < length (frame_bytes h p) → Unwritten h p room 52

-- The frame of n bytes at the front of s is read as this header, and the payload stands at its place.
pub record ReadBack (h : Header) (p s : List ℕ) (n : ℕ) : Type 0 where
  pub reads : frame_of s ≡ Frame h (n - length p) (length p)
  pub payload : take (length p) (drop (n - length p) s) ≡ p
