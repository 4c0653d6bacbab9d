-- How the root ends after its known fields.
use Rattle.std.specs.Prelude.{◌≡◌, List, ℕ}
use Rattle.parse.specs.Reader.{refused, seen, cursor_at}
use Rattle.value.specs.Read.{root_ending}
use Rattle.flat.specs.Walk.{Walk, Past, Refused}

-- The answer for a root whose known fields end at `next`, with so many unknown bits set.
pub data Ended (p : List ℕ) (comparisons next row unknown : ℕ) : Walk → Type 0 where
  whole : root_ending unknown (cursor_at p next) ≡ seen tt (cursor_at p next) → Ended p comparisons next row unknown (Past comparisons next row)
  faulty : (number : ℕ) → root_ending unknown (cursor_at p next) ≡ refused number next → Ended p comparisons next row unknown (Refused number next)
