-- `wire::little::u64_at` meets its contract: eight bytes, one after the other.
use Prim.Native.Nat.{◌+◌}
use native.Mathlib.Omega.{arith}
use Rattle.wire.specs.Little.{little}
use Rattle.wire.proofs.Numbers.{little_next}
use Rattle.wire.proofs.little.u64_at.Goals as goal

pub returns : goal.returns
unfolding little
returns c =
    let s = c.args.s.now in
    let a = c.args.at in
    omega (
      arith,
      c.from_le_bytes.ensures,
      little_next s a (a + 1) 7 (omega arith) (omega arith),
      little_next s (a + 1) (a + 2) 6 (omega arith) (omega arith),
      little_next s (a + 2) (a + 3) 5 (omega arith) (omega arith),
      little_next s (a + 3) (a + 4) 4 (omega arith) (omega arith),
      little_next s (a + 4) (a + 5) 3 (omega arith) (omega arith),
      little_next s (a + 5) (a + 6) 2 (omega arith) (omega arith),
      little_next s (a + 6) (a + 7) 1 (omega arith) (omega arith),
      little_next s (a + 7) (a + 8) 0 (omega arith) (omega arith),
    )
