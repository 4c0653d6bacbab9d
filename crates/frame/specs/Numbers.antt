-- The numbers and values that come back for each case of the frame reader's answer.
use Rattle.std.specs.Prelude.{ℕ, ◌+◌}
use Rattle.frame.specs.declared.Header.{Header}
use Rattle.frame.specs.FrameRead.{FrameRead, More, Frame, Refused}

-- No header: zeros.
abbrev pub no_header : Header
no_header = record { kind = 0; «package» = 0; service = 0; method = 0; correlation = 0 }

-- The number; of a frame its header, the payload's place and length, and the bytes used.
pub record Numbers : Type 0 where
  pub number : ℕ
  pub header : Header
  pub place : ℕ
  pub size : ℕ
  pub used : ℕ

-- Without a frame: the number, and zeros.
abbrev pub no_frame : (number : ℕ) → Numbers
no_frame number = record { number = number; header = no_header; place = 0; size = 0; used = 0 }

abbrev pub numbers : FrameRead → Numbers
numbers More = no_frame 1
numbers (Frame h place n) = record { number = 0; header = h; place = place; size = n; used = place + n }
numbers (Refused number) = no_frame number
