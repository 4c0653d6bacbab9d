-- The part of the output into which a payload is written first, while what stood there is kept.
use Rattle.std.specs.Prelude.{Bool, false, cond, ◌&&◌, List, ◌++◌, ℕ, ◌+◌, eqb, leb, length, drop}
use Rattle.wire.specs.Varuint.{varuint_bytes}
use Rattle.value.specs.Write as value
use Rattle.writer.specs.Writing.{Writing}
use Rattle.writer.specs.Writing.{Written, Refused}

-- A payload was written whose place in the frame is `start`, with no more than `size` bytes.
unfoldable pub belongs : Writing → (start size : ℕ) → Bool
belongs (Refused n q) start size = false
belongs (Written n) start size = eqb (25 + length (varuint_bytes n)) start && leb n size

-- The part from `start` on afterwards: the payload at its front, where it belongs there; otherwise what stood there.
unfoldable pub part_after : value.Writing → (start : ℕ) → List ℕ → List ℕ
part_after (value.refusal n q) start part = part
part_after (value.written p) start part = cond (belongs (Written (length p)) start (length part)) (p ++ drop (length p) part) part
