-- What happens to the calls of a connection: a frame comes, or the owner releases a call.
use Rattle.std.specs.Prelude.{ℕ}
use Rattle.calls.specs.declared.Frame.{Frame}

pub data Event : Type 0 where
  frame : Frame → Event
  release : (correlation : ℕ) → Event

-- The identifier of the call that it is about.
abbrev pub identifier : Event → ℕ
identifier (frame f) = f.correlation
identifier (release id) = id
