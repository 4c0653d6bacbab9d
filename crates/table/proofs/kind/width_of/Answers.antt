-- `table::kind::width_of` meets its contract: four bits of the number give the table's width at each kind, by one computed test over the table.
use Rattle.std.proofs.Common.{◌≡◌, ℕ, ◌*◌, ◌/◌, ◌%◌, ◌^◌, ◌<◌, ◌≤◌, eqb, leb, arith, eqb-true, leb-true}
use lib.Ieee.Bits.{is_true}
use Rattle.wire.proofs.Table.{at}
use Rattle.schema.specs.Table.{width, widths}
use Rattle.table.proofs.kind.width_of.Goals as goal

abbrev bits : ℕ → ℕ
bits k = 0x848421842110 / 2 ^ (4 * k) % 16

-- four bits are the width, which is positive but for kind 0, and at most 8
module _ (k : ℕ) (below : k < 12) where
  is-width : bits k ≡ width k
  is-width = eqb-true (bits k) (width k) (is_true (eqb (bits k) (width k)) (at (λ (k w : ℕ). eqb (bits k) w) widths tt k below))

  is_some : k ≤ 12 * width k
  is_some = leb-true k (12 * width k) (is_true (leb k (12 * width k)) (at (λ (k w : ℕ). leb k (12 * w)) widths tt k below))

  is-small : width k ≤ 8
  is-small = leb-true (width k) 8 (is_true (leb (width k) 8) (at (λ (k w : ℕ). leb w 8) widths tt k below))

pub returns : goal.returns
returns c =
    let k = c.args.kind in
    let e = is-width k c.requires.1 in
    let some = is_some k c.requires.1 in
    let small = is-small k c.requires.1 in
    (e, omega (arith, e, some), omega (arith, e, small))
