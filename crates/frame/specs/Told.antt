-- What the answers tell, by the numbers of the refusals.
use Rattle.std.specs.Prelude.{ℕ, Bool, true, false, Result, Ok, Err}
use Rattle.constants.specs.declared.refusal.Refusal.{Refusal}
use Rattle.constants.specs.Number.{number_of}
use Rattle.frame.specs.declared.FrameRead as reading
use Rattle.frame.specs.FrameRead.{FrameRead, More, Frame, Refused}
use Rattle.frame.specs.FrameWritten as writing

abbrev pub told : Result reading.FrameRead Refusal → FrameRead
told (Ok reading.TheVariants.More) = More
told (Ok (reading.TheVariants.Whole f)) = Frame f.header f.place f.length
told (Err e) = Refused (number_of e)

abbrev pub told_written : Result ℕ Refusal → writing.FrameWritten
told_written (Ok n) = writing.Written n
told_written (Err e) = writing.Refused (number_of e)

-- The header's judgement by its number: whole and right, cut, or refused.
abbrev pub told_header : Result Bool Refusal → ℕ
told_header (Ok true) = 0
told_header (Ok false) = 1
told_header (Err e) = number_of e
