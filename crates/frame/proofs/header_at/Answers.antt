-- `frame::header_at` meets its contract: each field is what was read at its place.
use mathlib.Core.Path.{sym, ◌∙◌}
use native.Mathlib.Omega.{arith}
use Rattle.wire.proofs.Numbers.{little-one}
use Rattle.frame.proofs.header_at.Goals as goal

pub returns : goal.returns
returns c = λ i. record {
  kind = (c.from.ensures ∙ sym (little-one c.args.s.now 3 (omega arith))) i;
  «package» = c.u32_at.ensures i;
  service = c.u32_at-2.ensures i;
  method = c.u32_at-3.ensures i;
  correlation = c.u64_at.ensures i;
}
