-- `wire::little::u32_at` meets its contract: four bytes, one after the other.
use Prim.Native.Nat.{◌+◌}
use native.Mathlib.Omega.{arith}
use Rattle.wire.specs.Little.{little}
use Rattle.wire.proofs.Numbers.{little_next}
use Rattle.wire.proofs.little.u32_at.Goals as goal

pub returns : goal.returns
unfolding little
returns c =
    let s = c.args.s.now in
    let a = c.args.at in
    omega (
      arith,
      c.from_le_bytes.ensures,
      little_next s a (a + 1) 3 (omega arith) (omega arith),
      little_next s (a + 1) (a + 2) 2 (omega arith) (omega arith),
      little_next s (a + 2) (a + 3) 1 (omega arith) (omega arith),
      little_next s (a + 3) (a + 4) 0 (omega arith) (omega arith),
    )
