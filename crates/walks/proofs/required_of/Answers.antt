-- `walks::required_of` meets its contract. The invariant: the bits of the fields from i on.
use Rattle.std.proofs.Common.{◌≡◌, suc, ◌+◌, ◌-◌, arith, pow_pos}
use Rattle.schema.specs.File.{table_of}
use Rattle.walks.specs.Shape.{fields_from}
use Rattle.walks.proofs.Tables.{few-fields}
use Rattle.walks.specs.Required.{Requires}
use Rattle.walks.proofs.Masks.{required-none, required-more, bit-fits}
use Rattle.walks.proofs.required_of.Goals as goal

pub loop-i-init : goal.loop-i-init
loop-i-init c =
    let args = c.args in
    (omega arith, pow_pos (args.n - args.n), required-none (table_of args.s.now) (args.first + args.n) (args.n - args.n) (omega arith))

pub overflow_add-first : goal.overflow_add-first
overflow_add-first c = let pre = c.requires in omega (arith, few-fields _ pre.0, pre.3, c.loop-i.invariant.0)

pub loop-i-preserved : goal.loop-i-preserved
loop-i-preserved c =
    let args = c.args in
    let pre = c.requires in
    let loop = c.loop-i in
    let some = c.loop-i-test.true in
    let T = table_of args.s.now in
    let i = loop.i - 1 in
    let up : args.first + loop.i ≡ args.first + i + 1 = omega arith in
    let down : args.n - loop.i ≡ args.n - i - 1 = omega (arith, loop.invariant.0) in
    let long : args.n - i ≡ suc (args.n - loop.i) = omega (arith, loop.invariant.0) in
    let rest : Requires loop.required (fields_from T (args.first + i + 1) (args.n - i - 1)) = rw (up, down) at loop.invariant.2 in
    let bit = c.bit_of.ensures in (
      omega (arith, loop.invariant.0),
      rw long (bit-fits loop.required c.bit_of.result (args.n - loop.i) loop.invariant.1 bit.1),
      rw bit.0 (required-more T (args.first + i) (args.n - i) loop.required (omega (arith, loop.invariant.0)) (omega (arith, pre.3, loop.invariant.0)) _ c.field_row-f.ensures rest),
    )
