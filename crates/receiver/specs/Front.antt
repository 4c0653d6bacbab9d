-- The frame at the front of the bytes, judged before its call.
use Rattle.std.specs.Prelude.{ℕ}
use Rattle.calls.specs.declared.Frame.{Frame}

-- It stops with this number; or it is whole, and its payload stands between two places.
pub data Front : Type 0 where
  Refused : (number : ℕ) → Front
  Whole : (frame : Frame) (place end : ℕ) → Front
