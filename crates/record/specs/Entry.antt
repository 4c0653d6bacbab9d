-- An entry of a record (docs/FORMAT.md), at the front of some bytes: a side byte, C or S, and then a whole frame that passes 2 to 7. Nothing is asked of a
-- schema, nor whether the side suits the frame's kind.
use Rattle.std.specs.Prelude.{ℕ, zero, suc, Option, Some, None, ◌+◌, Bool, cond, ◌||◌, List, [], ◌∷◌, eqb}
use Rattle.frame.specs.FrameRead.{FrameRead, More, Frame, Refused}
use Rattle.frame.specs.Frame.{frame_of}

-- The byte is C (67) or S (83).
abbrev pub is_side : ℕ → Bool
is_side b = eqb b 67 || eqb b 83

-- The length of an entry with this frame; 0 where no whole frame was read.
abbrev pub size_of : FrameRead → ℕ
size_of More = 0
size_of (Frame h place n) = 1 + place + n
size_of (Refused number) = 0

-- The length of the entry that starts at the front of the bytes, or 0 where none does.
unfoldable pub entry_length : List ℕ → ℕ
entry_length [] = 0
entry_length (side ∷ bytes) = cond (is_side side) (size_of (frame_of bytes)) 0

-- A length as it is answered: none where it is 0.
abbrev pub answered : ℕ → Option ℕ
answered zero = None
answered (suc n) = Some (suc n)
