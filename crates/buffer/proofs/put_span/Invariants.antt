-- `buffer::put_span` meets its contract: the bytes still to be put give what all of them give.
use mathlib.Core.Path.{◌≡◌}
use Prim.Native.Nat.{◌+◌, ◌-◌}
use lib.ListN.{length, take, drop}
use Rattle.buffer.specs.Store.{put}
use Rattle.buffer.proofs.put_span.Given as goal

abbrev pub invariant-loop-i : goal.invariant-loop-i
invariant-loop-i l = (put l.out (l.pos + l.i) (take (l.m - l.i) (drop (l.from + l.i) l.source)) ≡ put l.initial.out l.pos (take l.m (drop l.from l.source))) × (length l.out ≡ length l.initial.out)
