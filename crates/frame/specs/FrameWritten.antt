-- What writing a frame comes to: the frame's length, or a refusal's number: 4, 7 or 52.
use Rattle.std.specs.Prelude.{ℕ}

pub data FrameWritten : Type 0 where
  Written : (length : ℕ) → FrameWritten
  Refused : (number : ℕ) → FrameWritten
