-- `writer::put::put_bits` meets its contract: the bytes still to be put give what all of them give.
use mathlib.Core.Path.{◌≡◌}
use Prim.Native.Nat.{◌+◌, ◌-◌, ◌≤◌}
use lib.ListN.{length}
use Rattle.buffer.specs.Store.{put}
use Rattle.wire.specs.Little.{bytes}
use Rattle.writer.proofs.put.put_bits.Given as goal

abbrev pub invariant-loop-i : goal.invariant-loop-i
invariant-loop-i l = (put l.out (l.pos + l.i) (bytes (l.n - l.i) l.y) ≡ put l.initial.out l.pos (bytes l.n l.x)) × (l.i ≤ l.n) × (length l.out ≡ length l.initial.out)
