-- `listing::entries::put_from_first` meets its contract: what is left of the entries gives the same end as all of them. A line takes at most 149 bytes
-- and its entry at least 27, so the place stays small.
use mathlib.Core.Path.{◌≡◌}
use Prim.Native.Nat.{◌+◌, ◌*◌, ◌-◌, ◌≤◌}
use lib.ListN.{length}
use Rattle.text.specs.Text.{put_on, shown}
use Rattle.replay.specs.Run.{run_of}
use Rattle.listing.specs.Listing.{run_text}
use Rattle.listing.proofs.Turns.{Rest}
use Rattle.listing.proofs.entries.put_from_first.Given as goal

abbrev pub invariant-loop-at : goal.invariant-loop-at
invariant-loop-at l =
    (length l.sheet ≡ 16384)
    × (l.at ≤ length l.entries)
    × (27 * l.page.len + 149 * (length l.entries - l.at) ≤ 9766052)
    × (l.entry ≤ l.at + 1)
    × Rest l.schema.bytes.now l.entries (put_on (shown l.initial.page) (run_text 1 (run_of l.schema.bytes.now l.entries))) (shown l.page) l.entry l.at l.table.slots

abbrev pub decreases-loop-at : goal.decreases-loop-at
decreases-loop-at l = length l.entries - l.at
