-- What reading a frame finds: that more bytes are needed; a whole frame, by its header and the payload's place and length; or a refusal's number, 2 to 7.
use Rattle.std.specs.Prelude.{ℕ}
use Rattle.frame.specs.declared.Header.{Header}

pub data FrameRead : Type 0 where
  More : FrameRead
  Frame : (header : Header) (place length : ℕ) → FrameRead
  Refused : (number : ℕ) → FrameRead
