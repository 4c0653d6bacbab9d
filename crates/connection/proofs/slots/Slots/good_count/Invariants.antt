-- `Slots::good_count` meets its contract. The loop's invariant: the records passed fit and are good, and ids holds the correlations of the open ones.
use Rattle.schema.specs.File.{table_of}
use Rattle.connection.proofs.Scan.{Gathered}
use Rattle.connection.proofs.slots.Slots.good_count.Given as goal

abbrev pub invariant-loop-i : goal.invariant-loop-i
invariant-loop-i g l = Gathered (g.Self.Slots.fits l.self) (table_of l.schema.bytes.now) (g.Self.Slots.slots l.self) l.ids.items l.i
