-- The proof of the cycle of walkers. An array, a map and the structs of a run are given the depth of what they hold, so the measure is six times the depth:
-- nothing more for a run of structs, one for a composite, then for each walker one more than for those that it calls with the same depth.
use mathlib.Core.Path.{◌≡◌}
use mathlib.Core.List.{[]}
use Prim.Native.Nat.{suc, ◌+◌, ◌-◌, ◌*◌, ◌≤◌}
use lib.ListN.{length, replicate}
use Rattle.writer.specs.Walk.{table_in}
use Rattle.value.specs.Read.{plain_item, pairs, present}
use Rattle.walks.specs.Shape.{fields_from}
use Rattle.walks.specs.Keys.{keys_in, Kept}
use Rattle.walks.proofs.Masks.{bits_left, Standing}
use Rattle.writer.proofs.Composites.{WritingItems}
use Rattle.writer.proofs.walk.+walk.Given as goal

abbrev pub decreases-write_array : goal.decreases-write_array
decreases-write_array l = 6 * l.depth + 3

abbrev pub decreases-write_composite : goal.decreases-write_composite
decreases-write_composite l = 6 * l.depth + 1

abbrev pub decreases-write_elements : goal.decreases-write_elements
decreases-write_elements l = 6 * l.depth + 2

abbrev pub decreases-write_value : goal.decreases-write_value
decreases-write_value l = 6 * l.depth + 2

abbrev pub decreases-write_fields : goal.decreases-write_fields
decreases-write_fields l = 6 * l.depth + 3

abbrev pub decreases-write_many_pairs : goal.decreases-write_many_pairs
decreases-write_many_pairs l = 6 * l.depth + 3

abbrev pub decreases-write_map : goal.decreases-write_map
decreases-write_map l = 6 * l.depth + 4

abbrev pub decreases-write_pairs : goal.decreases-write_pairs
decreases-write_pairs l = 6 * l.depth + 2

abbrev pub decreases-write_run : goal.decreases-write_run
decreases-write_run l = 6 * l.depth

abbrev pub decreases-write_struct : goal.decreases-write_struct
decreases-write_struct l = 6 * l.depth + 4

abbrev pub decreases-write_structs : goal.decreases-write_structs
decreases-write_structs l = 6 * l.depth + 5

abbrev pub invariant-write_elements-loop : goal.invariant-write_elements-loop
invariant-write_elements-loop l = WritingItems l.rows l.depth (replicate l.n (plain_item l.ty)) l.start l.pos l.initial.out [] (replicate (l.n - l.counter) (plain_item l.ty)) l.here l.to l.out

abbrev pub invariant-write_fields-loop-bits : goal.invariant-write_fields-loop-bits
invariant-write_fields-loop-bits l = WritingItems l.rows l.depth (present (fields_from (table_in l.rows) l.first l.n) l.known) l.start l.pos l.initial.out []
    (bits_left (table_in l.rows) l.first l.n l.i l.bits) l.here l.to l.out × Standing l.first l.n l.i l.bits

abbrev pub decreases-write_fields-loop-bits : goal.decreases-write_fields-loop-bits
decreases-write_fields-loop-bits l = l.bits

abbrev pub invariant-write_structs-loop : goal.invariant-write_structs-loop
invariant-write_structs-loop l = WritingItems l.rows (suc l.depth) (replicate l.count (plain_item l.ty)) l.start l.pos l.initial.out [] (replicate (l.count - l.counter) (plain_item l.ty)) l.here l.to l.out

abbrev pub invariant-write_pairs-loop-i : goal.invariant-write_pairs-loop-i
invariant-write_pairs-loop-i l =
    WritingItems l.rows l.depth (pairs l.n l.t.a l.t.b) l.start l.pos l.initial.out (keys_in l.rows.source.now l.keys l.i) (pairs (l.n - l.i) l.t.a l.t.b) l.at l.to l.out
    × (l.i ≤ l.n) × (length l.keys ≡ length l.initial.keys) × Kept l.rows.source.now l.keys l.rows.judging l.i
